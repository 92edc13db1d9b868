-- Members of classes in brackets.
use Rattle.std.proofs.Common.{◌≡◌, ◌≤◌, ◌⊎◌, ℕ, zero, suc, Bool, true, false, ◌||◌, ◌==◌, [], ◌∷◌, List, length, drop, Option, Some, None, Result, Ok, Err, inl, inr, refl, sym, ap, ◌∙◌, subst, arith, ⊎_elim, eq-eqb, ne_eqb}
use Rattle.std.specs.Prelude.{codes, MatchResult}
use Rattle.std.proofs.lemmas.Bool.{false≢true}
use Rattle.bites_spec.specs.Bracket.{is_set_operator}
use Rattle.bites_spec.specs.Class.{Set, named_classes, single}
use Rattle.bites_spec.specs.Escape.{Meaning}
use Rattle.bites_spec.specs.Pattern.{Text, Flags, next_is, one_of, skip, dash}
use Rattle.bites_spec.specs.Range.{Range}
use Rattle.bites_spec.specs.Reader.{ReadResult, Members, Stop, after_dash, after_dashes, after_first, alone, and_then, class_end, class_members, dashes, member, named, range}
use Rattle.bites_spec.proofs.characters.EachLemmas.{skip_shorter}
use Rattle.bites_text.specs.declared.error.Error.{Error}
use Rattle.bites_syntax.specs.declared.refusal.Refusal.{Refusal}
use Rattle.bites_text.specs.declared.error.Error.TheVariants.{UnclosedAfterDash, UnclosedAfterBracket}
use Rattle.bites_syntax.specs.Members.{Adds, AnswersLeading, IsOperatorError}
use Rattle.bites_syntax.specs.Parts.{IsFaultOf, fault_at, fault_in}
use Rattle.bites_syntax.specs.Steps.{each_of}
use Rattle.bites_syntax.proofs.CursorLemmas.{each_by, each_more, each_ends}
use Rattle.bites_spec.proofs.brackets.BracketFirst.{nothing}

-- another way to write what the reader does
pub Adds_by : (old new : List Range) (r : Result (Unit {0}) Refusal) (rest : Text) (f g : Members → Set → ReadResult Set) → ((go : Members) (set : Set) → g go set ≡ f go set) →
    Adds old new r rest f → Adds old new r rest g
Adds_by old new (Ok u) rest f g same adds = λ go set has. (let a = adds go set has in (a.0, same go set ∙ a.1, a.2))
Adds_by old new (Err e) rest f g same adds = λ go set has. rw (same go set) (adds go set has)

-- a first part's refusal is that of the whole
pub refuses_first : {A B : Type 0} (e : Refusal) (a : ReadResult A) (f : A → Text → Result B Stop) → IsFaultOf e a → IsFaultOf e (and_then a f)
refuses_first e (Ok x) f (inl memory) = inl memory
refuses_first e (Ok x) f (inr fault) = absurd (let wrong : None ≡ Some e = fault in cc)
refuses_first e (Err s) f refuses = refuses

-- an opening bracket begins a named class
pub member_named : (go : Members) (n : ℕ) (flags : Flags) (set : Set) (t u : Text) (c : ℕ) → t ≡ c ∷ u → c ≡ 91 → member go n flags set t ≡ named go set t named_classes
member_named go n flags set t u c at is = rw (at, is) refl

not_bracket : (c : ℕ) → one_of (codes "[]") c ≡ false → ((c == 91) ≡ false) × ((c == 93) ≡ false)
not_bracket c none = both (c == 91) (c == 93) none
  where
    both : (x y : Bool) → (x || (y || false)) ≡ false → (x ≡ false) × (y ≡ false)
    both true y e = absurd (false≢true (sym e))
    both false true e = absurd (false≢true (sym e))
    both false false e = (refl, refl)

-- another member begins with an end of a range
unnamed_by : (go : Members) (n : ℕ) (flags : Flags) (set : Set) (t : Text) (c : ℕ) → next_is (one_of (codes "[]")) (c ∷ t) ≡ false → is_set_operator (c ∷ t) ≡ false →
    member go n flags set (c ∷ t) ≡ and_then (class_end n flags (c ∷ t)) (λ first rest. after_first go n flags set first (skip flags rest))
unnamed_by go n flags set t c none no_operator = rw ((not_bracket c none).1, (not_bracket c none).0, no_operator) refl

pub unnamed_leads : (go : Members) (n : ℕ) (flags : Flags) (set : Set) (t rest behind : Text) (m : Meaning) → next_is (one_of (codes "[]")) t ≡ false → IsOperatorError None t →
    class_end n flags t ≡ Ok (m, rest) → behind ≡ skip flags rest → member go n flags set t ≡ after_first go n flags set m behind
unnamed_leads go n flags set [] rest behind m none no_operator first gap = absurd (let wrong = first in cc)
unnamed_leads go n flags set (c ∷ t) rest behind m none no_operator first gap =
    unnamed_by go n flags set t c none no_operator ∙ rw (first, gap) refl

-- a refusal there is that of the member
pub unnamed_fault : (go : Members) (n : ℕ) (flags : Flags) (set : Set) (t : Text) (e : Refusal) → next_is (one_of (codes "[]")) t ≡ false → IsOperatorError None t →
    IsFaultOf e (class_end n flags t) → IsFaultOf e (member go n flags set t)
unnamed_fault go n flags set [] e none no_operator refuses = refuses
unnamed_fault go n flags set (c ∷ t) e none no_operator refuses =
    rw (unnamed_by go n flags set t c none no_operator) (refuses_first e (class_end n flags (c ∷ t)) _ refuses)

-- a dash after the first
pub first_and_dash : (go : Members) (n : ℕ) (flags : Flags) (set : Set) (m : Meaning) (t u : Text) → t ≡ 45 ∷ u →
    after_first go n flags set m t ≡ after_dash go n flags set m t (skip flags u)
first_and_dash go n flags set m t u at = rw at refl

-- another character
pub first_alone : (go : Members) (n : ℕ) (flags : Flags) (set : Set) (m : Meaning) (t u : Text) (c : ℕ) → t ≡ c ∷ u → (c ≡ 45 → ⊥) →
    after_first go n flags set m t ≡ alone go set m t
first_alone go n flags set m t u c at other = rw at (rw (ne_eqb c 45 other) refl)

-- no second after the dash
pub dash_alone : (go : Members) (n : ℕ) (flags : Flags) (set : Set) (m : Meaning) (at t u v : Text) (c : ℕ) → u ≡ skip flags t → u ≡ c ∷ v → (c ≡ 45) ⊎ (c ≡ 93) →
    after_dash go n flags set m at (skip flags t) ≡ alone go set m at
dash_alone go n flags set m at t u v c gap begins is =
    rw (sym gap ∙ begins) (⊎_elim (λ e. rw e refl) (λ e. rw e refl) is)

no_second : (c : ℕ) → ((c ≡ 45) ⊎ (c ≡ 93) → ⊥) → one_of (codes "]-") c ≡ false
no_second c other = rw (ne_eqb c 93 (λ e. other (inr e)), ne_eqb c 45 (λ e. other (inl e))) refl

-- a second after it
pub dash_range : (go : Members) (n : ℕ) (flags : Flags) (set : Set) (m k : Meaning) (at t u v rest : Text) (c : ℕ) → u ≡ skip flags t → u ≡ c ∷ v →
    ((c ≡ 45) ⊎ (c ≡ 93) → ⊥) → class_end n flags u ≡ Ok (k, rest) → after_dash go n flags set m at (skip flags t) ≡ range go set m k rest
dash_range go n flags set m k at t u v rest c gap begins other second =
    let read : class_end n flags (c ∷ v) ≡ Ok (k, rest) = ap (class_end n flags) (sym begins) ∙ second in
    rw (sym gap ∙ begins) (rw (no_second c other) (rw read refl))

-- a refusal there
pub dash_fault : (go : Members) (n : ℕ) (flags : Flags) (set : Set) (m : Meaning) (at t u v : Text) (c : ℕ) (e : Refusal) → u ≡ skip flags t → u ≡ c ∷ v →
    ((c ≡ 45) ⊎ (c ≡ 93) → ⊥) → IsFaultOf e (class_end n flags u) → IsFaultOf e (after_dash go n flags set m at (skip flags t))
dash_fault go n flags set m at t u v c e gap begins other refuses =
    let read : IsFaultOf e (class_end n flags (c ∷ v)) = subst (λ (x : Text). IsFaultOf e (class_end n flags x)) begins refuses in
    rw (sym gap ∙ begins) (rw (no_second c other) (refuses_first e (class_end n flags (c ∷ v)) (range go set m) read))

-- what stands at the end, or not
abbrev pub AtEnd : ℕ → Error → Result (Option ℕ) Refusal → Text → Type 0
AtEnd c error r t = MatchResult r (λ lead. (lead ≡ Some c) × (d : ℕ) × (u : Text) × (t ≡ d ∷ u)) (λ e. (e ≡ fault_at error t) × (t ≡ []))

dashes_by : (n : ℕ) (flags : Flags) (negated : Bool) (t : Text) → length t ≤ n →
    dashes n flags negated t ≡ after_dashes n flags negated (each_of flags (single dash) t).0 (each_of flags (single dash) t).1
dashes_by n flags negated t room = ap (λ d. after_dashes n flags negated d.0 d.1) (each_by n flags (single dash) t room)

some_dashes : (n : ℕ) (flags : Flags) (negated : Bool) (t u rest : Text) (c : ℕ) → length t ≤ n → t ≡ c ∷ u → c ≡ 45 → rest ≡ (each_of flags (single dash) t).1 →
    dashes n flags negated t ≡ after_dashes n flags negated (c ∷ (each_of flags (single dash) (skip flags u)).0) rest
some_dashes n flags negated t u rest c room at is behind =
    dashes_by n flags negated t room ∙ rw (← behind) (ap (λ d. after_dashes n flags negated d rest) (ap (λ r. r.0) (each_more flags (single dash) t u c at (eq-eqb c 45 is))))

no_dashes : (n : ℕ) (flags : Flags) (negated : Bool) (t u : Text) (c : ℕ) → length t ≤ n → t ≡ c ∷ u → c ≡ 93 →
    dashes n flags negated t ≡ after_dashes n flags negated [] t
no_dashes n flags negated t u c room at is =
    let none : next_is (single dash) t ≡ false = rw (at, is) refl in
    dashes_by n flags negated t room ∙ ap (λ d. after_dashes n flags negated d.0 d.1) (each_ends flags (single dash) t none)

-- dashes before the members
pub leading_dashes : (n : ℕ) (flags : Flags) (negated : Bool) (t u rest : Text) (c : ℕ) (r : Result (Option ℕ) Refusal) → length t ≤ n → t ≡ c ∷ u → c ≡ 45 →
    rest ≡ (each_of flags (single dash) t).1 → AtEnd 45 UnclosedAfterDash r rest → AnswersLeading r rest n flags negated t
leading_dashes n flags negated t u rest c (Ok lead) room at is behind end =
    rw end.0 (some_dashes n flags negated t u rest c room at is behind ∙ rw end.3 refl)
leading_dashes n flags negated t u rest c (Err e) room at is behind end =
    ap fault_in (some_dashes n flags negated t u rest c room at is behind) ∙ rw (end.0, end.1) refl

-- a closing bracket before the members
pub leading_bracket : (n : ℕ) (flags : Flags) (negated : Bool) (t u rest : Text) (c : ℕ) (r : Result (Option ℕ) Refusal) → length t ≤ n → t ≡ c ∷ u → c ≡ 93 →
    rest ≡ skip flags u → AtEnd 93 UnclosedAfterBracket r rest → AnswersLeading r rest n flags negated t
leading_bracket n flags negated t u rest c (Ok lead) room at is gap end =
    rw end.0 (no_dashes n flags negated t u c room at is ∙ rw (at, is, ← gap, end.3) refl)
leading_bracket n flags negated t u rest c (Err e) room at is gap end =
    ap fault_in (no_dashes n flags negated t u c room at is) ∙ rw (at, is, ← gap, end.0, end.1) refl

-- the members after a gap
pub enter : (n : ℕ) (flags : Flags) (t u : Text) → length t ≤ n → u ≡ skip flags t →
    (m : ℕ) × (length u ≤ suc m) × ((set : Set) → class_members n flags set t ≡ member (class_members m flags) m flags set u)
enter zero flags t u room gap =
    let none : u ≡ [] = nothing u (omega (arith, room, skip_shorter flags t, ap length gap)) in
    (zero, omega (arith, ap length none), λ set. rw none refl)
enter (suc n) flags t u room gap = (n, omega (arith, room, skip_shorter flags t, ap length gap), λ set. rw gap refl)

-- the closing bracket ends the members
pub closes : (go : Members) (n : ℕ) (flags : Flags) (set : Set) (t rest : Text) → next_is (single 93) t ≡ true → rest ≡ drop 1 t →
    member go n flags set t ≡ Ok (set, rest)
closes go n flags set [] rest is behind = absurd (false≢true is)
closes go n flags set (c ∷ t) rest is behind = rw (is, behind) refl

-- a refusal of what is the same
pub refuses_by : {A : Type 0} (e : Refusal) (a b : ReadResult A) → a ≡ b → IsFaultOf e b → IsFaultOf e a
refuses_by e a b same refuses = rw same refuses
