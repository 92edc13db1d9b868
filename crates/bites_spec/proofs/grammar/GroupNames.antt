-- Names of groups: the reader agrees with the grammar's relations.
use Rattle.std.proofs.lemmas.Grind.{common_steps}
use Rattle.std.proofs.Common.{◌≡◌, ℕ, ◌<◌, ◌≤◌, Bool, true, false, ◌==◌, List, [], ◌∷◌, ◌++◌, length, refl, sym, ap, ◌∙◌, subst, arith, eqb-true, true≢false, append_assoc, append-nil, length-append, ◌≢◌}
use Rattle.std.specs.List.{list_all}
use Rattle.std.proofs.lemmas.Bool.{eq-eqb, and_parts}
use Rattle.std.proofs.lemmas.List.Folds.{list_all-append}
use Rattle.bites_spec.specs.Message as message
use Rattle.bites_spec.specs.Message.{Message}
use Rattle.bites_spec.specs.Pattern.{Text, right_angle}
use Rattle.bites_spec.specs.Group as group
use Rattle.bites_spec.specs.Group.{ReadsName, is_name_start, is_name_part, is_name_front, is_used}
use Rattle.bites_spec.specs.GroupFault as stuck
use Rattle.bites_spec.specs.GroupFault.{StuckName}
use Rattle.bites_spec.specs.Reader.{ReadResult, answer, stop, name_from, name_end, name_unclosed}
use Rattle.bites_spec.proofs.characters.EscapeLemmas.{Means, either_side}

-- an element moves from the end of a list to the beginning of the rest
pub one_behind : (front rest : Text) (c : ℕ) → (front ++ c ∷ []) ++ rest ≡ front ++ c ∷ rest
one_behind front rest c = append_assoc front (c ∷ []) rest

-- what a result for a name claims of the relations, from after the angle bracket
abbrev pub NameMeans : List Text → Text → ReadResult Text → Type 0
NameMeans names t = Means (ReadsName names t) (StuckName names t)

end_means : (names : List Text) (t name rest : Text) → t ≡ name ++ right_angle ∷ rest → is_name_front name ≡ true →
    NameMeans names t (name_end names name (right_angle ∷ rest) rest)
end_means names t [] rest is fits = stuck.empty t rest _ _ is (sym is) refl
end_means names t (c ∷ name) rest is fits =
    either_side (NameMeans names t) (is_used names (c ∷ name)) _ _ (λ u. stuck.used t (c ∷ name) rest _ is fits (omega arith) u refl)
    (λ u. group.name c t name (c ∷ name) rest is refl fits u)

unclosed_means : (names : List Text) (t name : Text) → t ≡ name → is_name_front name ≡ true → StuckName names t (name_unclosed name) []
unclosed_means names t [] is fits = stuck.StuckName.ends_at_once t [] _ is refl refl
unclosed_means names t (c ∷ name) is fits = stuck.StuckName.ends t (c ∷ name) [] _ is fits (omega arith) refl refl

differs : (c d : ℕ) → (c == d) ≡ false → c ≢ d
differs c d e is = true≢false (sym (eq-eqb c d is) ∙ e)

name_from_means : (names : List Text) (t name rest : Text) → t ≡ name ++ rest → is_name_front name ≡ true → NameMeans names t (name_from names name rest)
name_from_means names t name [] is fits = unclosed_means names t name (is ∙ append-nil name) fits
name_from_means names t name (c ∷ rest) is fits =
    either_side (NameMeans names t) (c == right_angle) _ _
    (λ b.
    let closes = eqb-true c right_angle b in
    subst (λ x. NameMeans names t (name_end names name (x ∷ rest) rest)) (sym closes)
    (end_means names t name rest (is ∙ ap (λ x. name ++ x ∷ rest) closes) fits))
    (λ b. either_side (NameMeans names t) (is_name_front (name ++ c ∷ [])) _ _
    (λ f. name_from_means names t (name ++ c ∷ []) rest (is ∙ sym (one_behind name rest c)) f)
    (λ f. stuck.StuckName.strange c t name rest (c ∷ rest) _ is fits refl (differs c right_angle b) f refl))

-- what the function returns for a name, the relations read
pub name_means : (names : List Text) (t : Text) → NameMeans names t (name_from names [] t)
name_means names t = name_from_means names t [] t refl refl

no_part : is_name_part right_angle ≡ true → ⊥
no_part e = true≢false (sym e)

no_start : is_name_start right_angle ≡ true → ⊥
no_start e = true≢false (sym e)

is_other : (set : ℕ → Bool) (c : ℕ) → (set right_angle ≡ true → ⊥) → set c ≡ true → (c == right_angle) ≡ false
is_other set c none e = grind (arith, common_steps)

-- the beginning of a name may go on with c, which does not end it
record GoesOn (front : Text) (c : ℕ) : Type 0 where
  fits : is_name_front (front ++ c ∷ []) ≡ true
  other : (c == right_angle) ≡ false

goes_on : (front more : Text) (c : ℕ) → is_name_front (front ++ c ∷ more) ≡ true → GoesOn front c
goes_on [] more c e =
    let both = and_parts (is_name_start c) (list_all is_name_part more) e in
    record { fits = rw both.0 refl; other = is_other is_name_start c no_start both.0 }
goes_on (d ∷ front) more c e =
    let both = and_parts (is_name_start d) (list_all is_name_part (front ++ c ∷ more)) e in
    let parts = and_parts (list_all is_name_part front) (list_all is_name_part (c ∷ more)) (sym (list_all-append is_name_part front (c ∷ more)) ∙ both.1) in
    let part = and_parts (is_name_part c) (list_all is_name_part more) parts.1 in
    record { fits = rw both.0 (list_all-append is_name_part front (c ∷ []) ∙ rw (parts.0, part.0) refl); other = is_other is_name_part c no_part part.0 }

-- the function passes over the beginning of a name
pub name_passes : (names : List Text) (front more t : Text) → is_name_front (front ++ more) ≡ true →
    name_from names front (more ++ t) ≡ name_from names (front ++ more) t
name_passes names front [] t e = ap (λ x. name_from names x t) (sym (append-nil front))
name_passes names front (c ∷ more) t e =
    let g = goes_on front more c e in
    rw (g.other, g.fits)
    (name_passes names (front ++ c ∷ []) more t (ap is_name_front (one_behind front more c) ∙ e) ∙ ap (λ x. name_from names x t) (one_behind front more c))

-- the function reads each name that the relation reads
pub name_leads : {names : List Text} {t name rest : Text} → ReadsName names t name rest → name_from names [] t ≡ answer name rest
name_leads {names} (group.name c t others name rest is begins fits new) = grind (arith, common_steps, name_passes)

unclosed_of : (name : Text) → 0 < length name → name_unclosed name ≡ message.unclosed_name
unclosed_of [] some = absurd (omega arith)
unclosed_of (c ∷ name) some = refl

used_of : (names : List Text) (name at t : Text) → 0 < length name → is_used names name ≡ true → name_end names name at t ≡ stop message.duplicate_name t
used_of names [] at t some used = absurd (omega arith)
used_of names (c ∷ name) at t some used = rw used refl

-- where the relation stops at a name, the function stops
pub name_stops : {names : List Text} {t place : Text} {m : Message} → StuckName names t m place → name_from names [] t ≡ stop m place
name_stops {names} (stuck.StuckName.ends_at_once t place m is at says) = rw (is, at, says) refl
name_stops {names} (stuck.StuckName.strange c t front rest place m is fits at other ends says) = grind (arith, common_steps, name_passes)
name_stops {names} (stuck.StuckName.ends t front place m is fits some at says) =
    ap (name_from names []) (is ∙ sym (append-nil front)) ∙ name_passes names [] front [] fits ∙ rw (at, says) (ap (λ x. stop x []) (unclosed_of front some))
name_stops {names} (stuck.empty t rest place m is at says) = ap (name_from names []) is ∙ rw (says, at, is) refl
name_stops {names} (stuck.used t name place m is fits some used says) =
    ap (name_from names []) is ∙ name_passes names [] name (right_angle ∷ place) fits ∙ rw says (used_of names name _ place some used)

-- a name takes at least a character
pub name_shorter : {names : List Text} {t name rest : Text} → ReadsName names t name rest → length rest < length t
name_shorter (group.name c t others name rest is begins fits new) = omega (arith, ap length is, length-append name (right_angle ∷ rest))

-- a fault of a name stands no earlier than the name
pub stuck_name_shorter : {names : List Text} {t place : Text} {m : Message} → StuckName names t m place → length place ≤ length t
stuck_name_shorter (stuck.StuckName.ends_at_once t place m is at says) = omega (arith, ap length at)
stuck_name_shorter (stuck.StuckName.strange c t front rest place m is fits at other ends says) = omega (arith, ap length is, length-append front place)
stuck_name_shorter (stuck.StuckName.ends t front place m is fits some at says) = omega (arith, ap length at)
stuck_name_shorter (stuck.empty t rest place m is at says) = omega (arith, ap length at)
stuck_name_shorter (stuck.used t name place m is fits some used says) = omega (arith, ap length is, length-append name (right_angle ∷ place))
