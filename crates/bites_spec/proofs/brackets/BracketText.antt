-- Gaps, escapes and range ends in brackets: what they begin with, and that reading goes forward.
use Rattle.std.proofs.Common.{◌≡◌, ℕ, ◌<◌, ◌≤◌, Bool, true, false, ◌||◌, ◌==◌, [], ◌∷◌, ◌++◌, length, drop, refl, sym, ap, ap₂, subst, ⊎_elim, arith, Ok, Err, eqb-true, true≢false}
use Rattle.std.specs.Prelude.{not}
use Rattle.std.specs.Char.{is_whitespace}
use Rattle.std.proofs.Math.Path.{fun_ext}
use Rattle.std.proofs.lemmas.Bool.{cases_Bool, and_parts}
use Rattle.bites_spec.specs.Message.{Message}
use Rattle.bites_spec.specs.Class.{Set, union}
use Rattle.bites_spec.specs.Pattern.{Text, Flags, skip, skip_blank, hash, line_feed, begins, backslash, ReadsExactly}
use Rattle.bites_spec.specs.Escape.{Meaning, character, ReadsHexadecimal, ReadsEscape}
use Rattle.bites_spec.specs.EscapeFault.{StuckExactly, StuckHexadecimal, StuckEscape}
use Rattle.bites_spec.specs.Bracket.{ReadsEnd}
use Rattle.bites_spec.specs.Reader as reading
use Rattle.bites_spec.specs.Reader.{ReadResult}
use Rattle.bites_spec.proofs.characters.EachLemmas.{skip_shorter, each_shorter}
use Rattle.bites_spec.proofs.characters.EscapeLemmas.{Means, either_side, escape_means}

skip_blank_again : (inside : Bool) (t : Text) → skip_blank false (skip_blank inside t) ≡ skip_blank inside t
unfolding skip_blank
skip_blank_again inside [] = refl
skip_blank_again true (c ∷ t) = skip_blank_again (not (c == line_feed)) t
skip_blank_again false (c ∷ t) =
    ⊎_elim (λ b. rw b (skip_blank_again (c == hash) t)) (λ (b : (is_whitespace c || (c == hash)) ≡ false). rw b (rw b refl)) (cases_Bool (is_whitespace c || (c == hash)))

-- after a gap there is no other gap
pub skip_again : (flags : Flags) (t : Text) → skip flags (skip flags t) ≡ skip flags t
skip_again flags t = ⊎_elim (λ b. rw b (skip_blank_again false t)) (λ b. rw b refl) (cases_Bool flags.ignore_whitespace)

skip_blank_nil : (inside : Bool) → skip_blank inside [] ≡ []
unfolding skip_blank
skip_blank_nil inside = refl

-- there is no gap at the end
pub skip_nil : (flags : Flags) → skip flags [] ≡ []
skip_nil flags = ⊎_elim (λ b. rw b (skip_blank_nil false)) (λ b. rw b refl) (cases_Bool flags.ignore_whitespace)

or_assoc : (a b c : Bool) → ((a || b) || c) ≡ (a || (b || c))
or_assoc true b c = refl
or_assoc false b c = refl

pub union_assoc : (a b c : Set) → union (union a b) c ≡ union a (union b c)
union_assoc a b c = fun_ext (λ x. or_assoc (a x) (b x) (c x))

-- a text that begins with these characters is they and what follows them
pub begins_append : (chars t : Text) → begins chars t ≡ true → t ≡ chars ++ drop (length chars) t
begins_append [] t e = refl
begins_append (c ∷ chars) [] e = absurd (true≢false (sym e))
begins_append (c ∷ chars) (d ∷ t) e =
    let both = and_parts (c == d) (begins chars t) e in
    ap₂ (λ x y. x ∷ y) (sym (eqb-true c d both.0)) (begins_append chars t both.1)

exactly_shorter : {flags : Flags} {set : Set} {n : ℕ} {t chars rest : Text} → ReadsExactly flags set n t chars rest → length rest < length t
exactly_shorter (ReadsExactly.last c n t chars rest one is pass same) = omega (arith, ap length is)
exactly_shorter {flags} (ReadsExactly.more c n m t next chars others rest is some from pass r same) =
    omega (arith, ap length from, exactly_shorter r, skip_shorter flags next)

hexadecimal_shorter : {flags : Flags} {n value : ℕ} {t rest : Text} → ReadsHexadecimal flags n t value rest → length rest < length t
hexadecimal_shorter {flags} (ReadsHexadecimal.in_braces n value t next digits rest is r some same) = omega (arith, ap length is, each_shorter r, skip_shorter flags next)
hexadecimal_shorter (ReadsHexadecimal.fixed n value t digits rest r same) = exactly_shorter r

-- an escape takes at least a character
pub escape_shorter : {flags : Flags} {t rest : Text} {meaning : Meaning} → ReadsEscape flags t meaning rest → length rest < length t
escape_shorter (ReadsEscape.control c d t rest meaning is means same) = omega (arith, ap length is)
escape_shorter (ReadsEscape.itself c t rest meaning is means same) = omega (arith, ap length is)
escape_shorter (ReadsEscape.anchor c l t rest meaning is means same) = omega (arith, ap length is)
escape_shorter (ReadsEscape.word_boundary t rest meaning is from same) = omega (arith, ap length is)
escape_shorter {flags} (ReadsEscape.named_boundary l t next name rest meaning is r means same) =
    omega (arith, ap length is, each_shorter r, skip_shorter flags next)
escape_shorter (ReadsEscape.class c set t rest meaning is means same) = omega (arith, ap length is)
escape_shorter {flags} (ReadsEscape.hexadecimal c n value t next rest meaning is digits r scalar same) =
    omega (arith, ap length is, hexadecimal_shorter r, skip_shorter flags next)

-- an end of a range takes at least a character
pub end_shorter : {flags : Flags} {t rest : Text} {meaning : Meaning} → ReadsEnd flags t meaning rest → length rest < length t
end_shorter (ReadsEnd.plain c t rest meaning is other same) = omega (arith, ap length is)
end_shorter (ReadsEnd.escape t rest meaning r) = escape_shorter r

stuck_exactly_shorter : {flags : Flags} {n : ℕ} {t place : Text} {m : Message} → StuckExactly flags n t m place → length place ≤ length t
stuck_exactly_shorter (StuckExactly.strange c n t rest place m from pass is names) = omega (arith, ap length is)
stuck_exactly_shorter (StuckExactly.ends c n t next place m from pass some gap is names) = omega (arith, ap length is)
stuck_exactly_shorter {flags} (StuckExactly.later c n k t next place m from pass is some r) =
    omega (arith, ap length from, stuck_exactly_shorter r, skip_shorter flags next)

stuck_hexadecimal_shorter : {flags : Flags} {n : ℕ} {t place : Text} {m : Message} → StuckHexadecimal flags n t m place → length place ≤ length t
stuck_hexadecimal_shorter (StuckHexadecimal.ends_at_once t place m from is names) = omega (arith, ap length is)
stuck_hexadecimal_shorter (StuckHexadecimal.fixed t place m other r) = stuck_exactly_shorter r
stuck_hexadecimal_shorter (StuckHexadecimal.fixed_no_scalar t digits place m r without names) = omega (arith, exactly_shorter r)
stuck_hexadecimal_shorter (StuckHexadecimal.ends_in_braces t next digits place m from r is names) = omega (arith, ap length is)
stuck_hexadecimal_shorter {flags} (StuckHexadecimal.strange_in_braces c t next digits rest place m from r is without names) =
    omega (arith, ap length from, each_shorter r, skip_shorter flags next)
stuck_hexadecimal_shorter {flags} (StuckHexadecimal.empty_braces t next rest place m from gap is names) =
    omega (arith, ap length from, ap length is, ap length gap, skip_shorter flags next)
stuck_hexadecimal_shorter {flags} (StuckHexadecimal.no_scalar t next digits place m from r some without names) =
    omega (arith, ap length from, each_shorter r, skip_shorter flags next)

-- a fault of an escape stands after its backslash
pub stuck_escape_shorter : {flags : Flags} {t place : Text} {m : Message} → StuckEscape flags t m place → length place < length t
stuck_escape_shorter (StuckEscape.ends t place m from is names) = omega (arith, ap length from, ap length is)
stuck_escape_shorter (StuckEscape.digit c t rest place m from pass is names) = omega (arith, ap length from, ap length is)
stuck_escape_shorter (StuckEscape.property c t rest place m from pass is names) = omega (arith, ap length from, ap length is)
stuck_escape_shorter (StuckEscape.strange c t rest place m from digit property without is names) = omega (arith, ap length from, ap length is)
stuck_escape_shorter {flags} (StuckEscape.hexadecimal c n t next place m from digits r) =
    omega (arith, ap length from, stuck_hexadecimal_shorter r, skip_shorter flags next)
stuck_escape_shorter (StuckEscape.boundary_begins t next place m from gap is names) = omega (arith, ap length from, ap length is)
stuck_escape_shorter {flags} (StuckEscape.boundary_ends t next name place m from r some without names) =
    omega (arith, ap length from, each_shorter r, skip_shorter flags next)
stuck_escape_shorter {flags} (StuckEscape.boundary_unknown t next name rest place m from r some is without names) =
    omega (arith, ap length from, each_shorter r, skip_shorter flags next)

-- an escape begins with its backslash
pub escape_begins : {flags : Flags} {t rest : Text} {meaning : Meaning} → ReadsEscape flags t meaning rest → (next : Text) × (t ≡ backslash ∷ next)
escape_begins (ReadsEscape.control c d t rest meaning is means same) = (c ∷ rest, is)
escape_begins (ReadsEscape.itself c t rest meaning is means same) = (c ∷ rest, is)
escape_begins (ReadsEscape.anchor c l t rest meaning is means same) = (c ∷ rest, is)
escape_begins (ReadsEscape.word_boundary t rest meaning is begins same) = (_, is)
escape_begins (ReadsEscape.named_boundary l t next name rest meaning is r means same) = (_, is)
escape_begins (ReadsEscape.class c set t rest meaning is means same) = (c ∷ rest, is)
escape_begins (ReadsEscape.hexadecimal c n value t next rest meaning is digits r scalar same) = (c ∷ next, is)

-- an escape with a fault begins with its backslash, too
pub stuck_escape_begins : {flags : Flags} {t place : Text} {m : Message} → StuckEscape flags t m place → (next : Text) × (t ≡ backslash ∷ next)
stuck_escape_begins (StuckEscape.ends t place m from is names) = ([], from)
stuck_escape_begins (StuckEscape.digit c t rest place m from pass is names) = (c ∷ rest, from)
stuck_escape_begins (StuckEscape.property c t rest place m from pass is names) = (c ∷ rest, from)
stuck_escape_begins (StuckEscape.strange c t rest place m from digit property without is names) = (c ∷ rest, from)
stuck_escape_begins (StuckEscape.hexadecimal c n t next place m from digits r) = (c ∷ next, from)
stuck_escape_begins (StuckEscape.boundary_begins t next place m from gap is names) = (_, from)
stuck_escape_begins (StuckEscape.boundary_ends t next name place m from r some without names) = (_, from)
stuck_escape_begins (StuckEscape.boundary_unknown t next name rest place m from r some is without names) = (_, from)

as_end : (flags : Flags) (t u : Text) (a : ReadResult Meaning) → t ≡ u → Means (ReadsEscape flags t) (StuckEscape flags t) a → Means (ReadsEnd flags u) (StuckEscape flags u) a
as_end flags t u (Ok x) is means = ReadsEnd.escape u x.1 x.0 (subst (λ y. ReadsEscape flags y x.0 x.1) is means)
as_end flags t u (Err e) is means = subst (λ y. StuckEscape flags y e.message e.place) is means

-- what the function returns for an end of a range, the relations read
pub end_means : (n : ℕ) (flags : Flags) (c : ℕ) (t : Text) → length t ≤ n →
    Means (ReadsEnd flags (c ∷ t)) (StuckEscape flags (c ∷ t)) (reading.class_end n flags (c ∷ t))
end_means n flags c t room =
    either_side (Means (ReadsEnd flags (c ∷ t)) (StuckEscape flags (c ∷ t))) (c == backslash) _ _
    (λ b. as_end flags (backslash ∷ t) (c ∷ t) (reading.escape n flags t) (ap (λ x. x ∷ t) (sym (eqb-true c backslash b))) (escape_means n flags t room))
    (λ b. ReadsEnd.plain c _ t (character c) refl b refl)
