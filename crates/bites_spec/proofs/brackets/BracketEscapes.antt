-- Escapes: the reader reads what the grammar's relations read, and stops where they stop.
use Rattle.std.proofs.lemmas.Grind.{common_steps}
use Rattle.std.proofs.Common.{◌≡◌, ℕ, zero, suc, ◌<◌, ◌≤◌, Bool, true, false, ◌&&◌, ◌==◌, [], ◌∷◌, length, refl, sym, ap, ap₂, ◌∙◌, subst, ⊎_elim, arith, Option, Some, None, eqb-true, true≢false}
use Rattle.std.specs.Prelude.{codes, if◌then◌else◌}
use Rattle.std.proofs.lemmas.Option.{none-some}
use Rattle.std.specs.Char.{is_ascii_digit}
use Rattle.std.proofs.lemmas.Bool.{cases_Bool, or_parts}
use Rattle.bites_spec.specs.Message as message
use Rattle.bites_spec.specs.Message.{Message}
use Rattle.bites_spec.specs.Look.{Look, word}
use Rattle.bites_spec.specs.Class.{Set, single, is_scalar}
use Rattle.bites_spec.specs.Pattern.{Text, Flags, skip, next_is, one_of, number, backslash, left_brace, right_brace, ReadsEach, ReadsExactly}
use Rattle.bites_spec.specs.Escape.{Meaning, character, assertion, is_hex_digit, is_boundary_letter, boundary_of, begins_boundary, may_name_boundary, digits_of, control_of, assertion_of, class_of, escapes_itself, ReadsHexadecimal, ReadsEscape}
use Rattle.bites_spec.specs.EscapeFault.{begins_escape, StuckExactly, StuckHexadecimal, StuckEscape}
use Rattle.bites_spec.specs.Reader as reading
use Rattle.bites_spec.specs.Reader.{answer, stop, and_then, exactly, scalar, hexadecimal, boundary, escape}
use Rattle.bites_spec.proofs.characters.EachLemmas.{skip_shorter, each_complete}

-- what holds of each character that a row of tests names holds of a character that passes one of them
one_named : {A : Type 0} {y : A} (P : ℕ → Type 0) (c k : ℕ) (x : A) (rest : Option A) → P k → (rest ≡ Some y → P c) → (if c == k then Some x else rest) ≡ Some y → P c
one_named P c k x rest here later e =
    ⊎_elim (λ (b : (c == k) ≡ true). subst P (sym (eqb-true c k b)) here) (λ (b : (c == k) ≡ false). later (rw b at e)) (cases_Bool (c == k))

-- a character after the backslash that begins no digit, no property and no boundary
abbrev IsSimple : ℕ → Type 0
IsSimple c = (is_ascii_digit c ≡ false) × (one_of (codes "pP") c ≡ false) × ((c == 98) ≡ false)

abbrev IsAnchor : ℕ → Type 0
IsAnchor c = IsSimple c × (escapes_itself c ≡ false) × (control_of c ≡ None)

anchor_is : (c : ℕ) {l : Look} → assertion_of c ≡ Some l → IsAnchor c
anchor_is c {l} e = grind (arith, common_steps, one_named)

abbrev IsClass : ℕ → Type 0
IsClass c = IsSimple c × (escapes_itself c ≡ false) × (control_of c ≡ None) × (assertion_of c ≡ None)

class_is : (c : ℕ) {set : Set} → class_of c ≡ Some set → IsClass c
class_is c {set} e = grind (arith, common_steps, one_named)

abbrev IsHexadecimal : ℕ → Type 0
IsHexadecimal c = IsSimple c × (reading.meaning_of c ≡ None)

hexadecimal_is : (c : ℕ) {k : ℕ} → digits_of c ≡ Some k → IsHexadecimal c
hexadecimal_is c {k} e = grind (arith, common_steps, one_named)

not_itself : (c k : ℕ) → escapes_itself c ≡ true → escapes_itself k ≡ false → (c == k) ≡ false
not_itself c k is other =
    ⊎_elim (λ (b : (c == k) ≡ true). absurd (true≢false (sym is ∙ ap escapes_itself (eqb-true c k b) ∙ other))) (λ (b : (c == k) ≡ false). b) (cases_Bool (c == k))

itself_is : (c : ℕ) → escapes_itself c ≡ true → IsSimple c
itself_is c is = grind (arith, common_steps, not_itself)

-- the function reads a simple character by its meaning
simple_leads : (n : ℕ) (flags : Flags) (c : ℕ) (t : Text) → IsSimple c → escape n flags (c ∷ t) ≡ reading.simple n flags c t
simple_leads n flags c t simple = grind arith

meaning_leads : (n : ℕ) (flags : Flags) (c : ℕ) (t : Text) (meaning : Meaning) → IsSimple c → reading.meaning_of c ≡ Some meaning → escape n flags (c ∷ t) ≡ answer meaning t
meaning_leads n flags c t meaning simple means = simple_leads n flags c t simple ∙ ap (λ o. reading.simple_by n flags c t o (digits_of c)) means

number_leads : (n : ℕ) (flags : Flags) (c k : ℕ) (t : Text) → digits_of c ≡ Some k →
    escape n flags (c ∷ t) ≡ and_then (hexadecimal n flags k (skip flags t)) (λ value rest. answer (character value) rest)
number_leads n flags c k t digits = grind (arith, common_steps, hexadecimal_is)

-- the function reads the k digits that the relation reads
exactly_leads : {flags : Flags} {k : ℕ} {t digits rest : Text} → ReadsExactly flags is_hex_digit k t digits rest → exactly k flags t ≡ answer digits rest
exactly_leads {flags} (ReadsExactly.last c k t digits rest one is hex same) = ap₂ (λ j u. exactly j flags u) one is ∙ rw (hex, same) refl
exactly_leads {flags} (ReadsExactly.more c k zero t next digits others rest is some from hex r same) = absurd (omega arith)
exactly_leads {flags} (ReadsExactly.more c k (suc j) t next digits others rest is some from hex r same) =
    let count : k ≡ suc (suc j) = omega arith in
    let others_lead : exactly (suc j) flags (skip flags next) ≡ answer others rest = exactly_leads r in
    ap₂ (λ i u. exactly i flags u) count from ∙ rw (hex, others_lead, same) refl

no_brace : (c : ℕ) → is_hex_digit c ≡ true → (c == left_brace) ≡ false
no_brace c hex = grind (arith, common_steps, true≢false, eqb-true)

-- k digits begin with one that is no opening brace
exactly_begins : {flags : Flags} {k : ℕ} {t digits rest : Text} → ReadsExactly flags is_hex_digit k t digits rest →
    (c : ℕ) × (next : Text) × (t ≡ c ∷ next) × ((c == left_brace) ≡ false)
exactly_begins (ReadsExactly.last c k t digits rest one is hex same) = (c, rest, is, no_brace c hex)
exactly_begins (ReadsExactly.more c k j t next digits others rest is some from hex r same) = (c, next, from, no_brace c hex)

fixed_leads : (n : ℕ) (flags : Flags) (k c : ℕ) (t : Text) → (c == left_brace) ≡ false →
    hexadecimal n flags k (c ∷ t) ≡ and_then (exactly k flags (c ∷ t)) (scalar message.fixed_hex_invalid)
fixed_leads n flags k c t other = rw other refl

fixed_digits : {flags : Flags} {k : ℕ} {t digits rest : Text} → ReadsExactly flags is_hex_digit k t digits rest → (n : ℕ) →
    hexadecimal n flags k t ≡ scalar message.fixed_hex_invalid digits rest
fixed_digits {flags} {k} r n = grind (arith, common_steps, exactly_begins, fixed_leads, exactly_leads)

in_braces_lead : {flags : Flags} {t next digits behind : Text} → t ≡ left_brace ∷ next → ReadsEach flags is_hex_digit (skip flags next) digits behind →
    (n k : ℕ) → length t ≤ n → hexadecimal n flags k t ≡ reading.in_braces digits behind
in_braces_lead {flags} {t} {next} {digits} {behind} is r n k room =
    ap (hexadecimal n flags k) is ∙ ap (λ d. reading.in_braces d.0 d.1) (each_complete r n (omega (arith, ap length is, skip_shorter flags next)))

closed_leads : (digits at rest : Text) → 0 < length digits → reading.closed_hexadecimal digits at rest ≡ scalar message.brace_hex_invalid digits rest
closed_leads [] at rest some = absurd (omega arith)
closed_leads (d ∷ digits) at rest some = refl

-- the function reads each hexadecimal number that the relation reads
hexadecimal_leads : {flags : Flags} {k value : ℕ} {t rest : Text} → ReadsHexadecimal flags k t value rest → is_scalar value ≡ true → (n : ℕ) → length t ≤ n →
    hexadecimal n flags k t ≡ answer value rest
hexadecimal_leads {flags} (ReadsHexadecimal.in_braces k value t next digits rest is r some same) scalars n room =
    let passes : is_scalar (number 16 digits) ≡ true = ap is_scalar (sym same) ∙ scalars in
    in_braces_lead is r n k room ∙ closed_leads digits (right_brace ∷ rest) rest some ∙ rw (passes, same) refl
hexadecimal_leads {flags} (ReadsHexadecimal.fixed k value t digits rest r same) scalars n room =
    let passes : is_scalar (number 16 digits) ≡ true = ap is_scalar (sym same) ∙ scalars in
    fixed_digits r n ∙ rw (passes, same) refl

no_letter : (b c : Bool) → (b && c) ≡ false → b ≡ true → c ≡ false
no_letter true c e is = e
no_letter false c e is = absurd (true≢false (sym is))

word_braced : (n : ℕ) (flags : Flags) (at u : Text) → may_name_boundary u ≡ false → reading.braced n flags at u ≡ answer (assertion word) at
word_braced n flags at [] none = absurd (true≢false none)
word_braced n flags at (c ∷ u) none = rw none refl

word_leads : (n : ℕ) (flags : Flags) (t : Text) → begins_boundary flags t ≡ false → boundary n flags t ≡ answer (assertion word) t
word_leads n flags [] none = refl
word_leads n flags (c ∷ t) none = grind (arith, common_steps, word_braced, no_letter)

each_front : {flags : Flags} {set : Set} {t chars rest : Text} → ReadsEach flags set t chars rest → 0 < length chars →
    (c : ℕ) × (next : Text) × (t ≡ c ∷ next) × (set c ≡ true)
each_front (ReadsEach.none t chars rest ends is same) some = absurd (omega (arith, ap length is))
each_front (ReadsEach.more c t next chars others rest is pass r same) some = (c, next, is, pass)

braced_leads : (n : ℕ) (flags : Flags) (at : Text) (c : ℕ) (u : Text) → is_boundary_letter c ≡ true →
    reading.braced n flags at (c ∷ u)
    ≡ reading.boundary_name (reading.each n flags is_boundary_letter (c ∷ u)).0 (reading.each n flags is_boundary_letter (c ∷ u)).1
braced_leads n flags at c u letter = rw letter refl

-- the function reads the name of a boundary
named_leads : {flags : Flags} {name behind : Text} (next : Text) → ReadsEach flags is_boundary_letter (skip flags next) name behind → 0 < length name →
    (n : ℕ) → length next ≤ n → boundary n flags (left_brace ∷ next) ≡ reading.boundary_name name behind
named_leads {flags} {name} {behind} next r some n room =
    let front = each_front r some in
    let chars : reading.each n flags is_boundary_letter (skip flags next) ≡ (name, behind) = each_complete r n (omega (arith, skip_shorter flags next)) in
    ap (reading.braced n flags (left_brace ∷ next)) front.2 ∙ braced_leads n flags (left_brace ∷ next) front.0 front.1 front.3
    ∙ ap (λ u. (let d = reading.each n flags is_boundary_letter u in reading.boundary_name d.0 d.1)) (sym front.2)
    ∙ ap (λ d. reading.boundary_name d.0 d.1) chars

some_name : (name : Text) (l : Look) → boundary_of name ≡ Some l → 0 < length name
some_name [] l is = absurd (none-some l is)
some_name (c ∷ name) l is = omega arith

pub same_behind : (c : ℕ) (t u : Text) → c ∷ t ≡ c ∷ u → t ≡ u
same_behind c t u is = cc

-- the function reads each escape that the relation reads
pub escape_leads : {flags : Flags} {t rest : Text} {meaning : Meaning} → ReadsEscape flags t meaning rest → (n : ℕ) (next : Text) → t ≡ backslash ∷ next →
    length next ≤ n → escape n flags next ≡ answer meaning rest
escape_leads {flags} (ReadsEscape.control c d t rest meaning is means same) n next begins room = grind (arith, common_steps, same_behind, meaning_leads)
escape_leads {flags} (ReadsEscape.itself c t rest meaning is means same) n next begins room = grind (arith, common_steps, same_behind, meaning_leads, itself_is)
escape_leads {flags} (ReadsEscape.anchor c l t rest meaning is means same) n next begins room = grind (arith, common_steps, anchor_is, same_behind)
escape_leads {flags} (ReadsEscape.word_boundary t rest meaning is none same) n next begins room =
    ap (escape n flags) (same_behind backslash next (98 ∷ rest) (sym begins ∙ is)) ∙ word_leads n flags rest none ∙ ap (λ x. answer x rest) (sym same)
escape_leads {flags} (ReadsEscape.named_boundary l t behind name rest meaning is r means same) n next begins room =
    let at : next ≡ 98 ∷ left_brace ∷ behind = same_behind backslash next (98 ∷ left_brace ∷ behind) (sym begins ∙ is) in
    ap (escape n flags) at
    ∙ named_leads behind r (some_name name l means) n (omega (arith, ap length at)) ∙ rw (means, same) refl
escape_leads {flags} (ReadsEscape.class c set t rest meaning is means same) n next begins room = grind (arith, common_steps, class_is, same_behind)
escape_leads {flags} (ReadsEscape.hexadecimal c k value t behind rest meaning is digits r scalars same) n next begins room =
    let at : next ≡ c ∷ behind = same_behind backslash next (c ∷ behind) (sym begins ∙ is) in
    let value_is : hexadecimal n flags k (skip flags behind) ≡ answer value rest = hexadecimal_leads r scalars n (omega (arith, ap length at, skip_shorter flags behind)) in
    ap (escape n flags) at ∙ number_leads n flags c k behind digits
    ∙ ap (λ a. and_then a (λ v u. answer (character v) u)) value_is ∙ ap (λ x. answer x rest) (sym same)

-- where the relation stops among k digits, the function stops
exactly_stops : {flags : Flags} {k : ℕ} {t place : Text} {m : Message} → StuckExactly flags k t m place → 0 < k → exactly k flags t ≡ stop m place
exactly_stops {flags} (StuckExactly.strange c zero t rest place m is hex at names) some = absurd (omega arith)
exactly_stops {flags} (StuckExactly.strange c (suc k) t rest place m is hex at names) some =
    ap (exactly (suc k) flags) is ∙ rw hex (ap₂ stop (sym names) (sym is ∙ sym at))
exactly_stops {flags} (StuckExactly.ends c zero t next place m is hex more gap at names) some = absurd (omega arith)
exactly_stops {flags} (StuckExactly.ends c (suc zero) t next place m is hex more gap at names) some = absurd (omega arith)
exactly_stops {flags} (StuckExactly.ends c (suc (suc k)) t next place m is hex more gap at names) some =
    ap (exactly (suc (suc k)) flags) is ∙ rw (hex, gap) (ap₂ stop (sym names) (sym at))
exactly_stops {flags} (StuckExactly.later c k zero t next place m is hex count more r) some = absurd (omega arith)
exactly_stops {flags} (StuckExactly.later c k (suc j) t next place m is hex count more r) some =
    let counted : k ≡ suc (suc j) = omega arith in
    let stops : exactly (suc j) flags (skip flags next) ≡ stop m place = exactly_stops r (omega arith) in
    ap₂ (λ i u. exactly i flags u) counted is ∙ rw (hex, stops) refl

stuck_exactly_begins : {flags : Flags} {k : ℕ} {t place : Text} {m : Message} → StuckExactly flags k t m place → (c : ℕ) × (next : Text) × (t ≡ c ∷ next)
stuck_exactly_begins (StuckExactly.strange c k t rest place m is hex at names) = (c, rest, is)
stuck_exactly_begins (StuckExactly.ends c k t next place m is hex more gap at names) = (c, next, is)
stuck_exactly_begins (StuckExactly.later c k j t next place m is hex count more r) = (c, next, is)

-- where the relation stops at a hexadecimal number, the function stops
hexadecimal_stops : {flags : Flags} {k : ℕ} {t place : Text} {m : Message} → StuckHexadecimal flags k t m place → 0 < k → (n : ℕ) → length t ≤ n →
    hexadecimal n flags k t ≡ stop m place
hexadecimal_stops {flags} {k} (StuckHexadecimal.ends_at_once t place m is at names) some n room =
    ap (hexadecimal n flags k) is ∙ ap₂ stop (sym names) (sym at)
hexadecimal_stops {flags} {k} (StuckHexadecimal.fixed t place m other r) some n room = grind (arith, common_steps, stuck_exactly_begins, fixed_leads, exactly_stops)
hexadecimal_stops {flags} {k} (StuckHexadecimal.fixed_no_scalar t digits place m r none names) some n room =
    fixed_digits r n ∙ rw (none, names) refl
hexadecimal_stops {flags} {k} (StuckHexadecimal.ends_in_braces t next digits place m is r at names) some n room =
    in_braces_lead is r n k room ∙ ap (reading.in_braces digits) at ∙ ap₂ stop (sym names) (sym at)
hexadecimal_stops {flags} {k} (StuckHexadecimal.strange_in_braces c t next digits rest place m is r at other names) some n room =
    in_braces_lead is r n k room ∙ ap (reading.in_braces digits) at ∙ rw other (ap₂ stop (sym names) (sym at))
hexadecimal_stops {flags} {k} (StuckHexadecimal.empty_braces t next rest place m is gap at names) some n room =
    let nothing : ReadsEach flags is_hex_digit (skip flags next) [] (right_brace ∷ rest) =
    ReadsEach.none (skip flags next) [] (right_brace ∷ rest) (ap (next_is is_hex_digit) gap) refl (sym gap) in
    in_braces_lead is nothing n k room ∙ ap₂ stop (sym names) (sym at)
hexadecimal_stops {flags} {k} (StuckHexadecimal.no_scalar t next digits place m is r others none names) some n room =
    in_braces_lead is r n k room ∙ closed_leads digits (right_brace ∷ place) place others ∙ rw (none, names) refl

same_some : (a b : ℕ) → Some a ≡ Some b → a ≡ b
same_some a b e = cc

-- a character that begins no escape
begins_none : (c : ℕ) → begins_escape c ≡ false → ((c == 98) ≡ false) × (reading.meaning_of c ≡ None) × (digits_of c ≡ None)
begins_none c none = grind (arith, common_steps, or_parts)

some_digits : (c : ℕ) {k : ℕ} → digits_of c ≡ Some k → 0 < k
some_digits c {k} e = grind (arith, common_steps, same_some, none-some)

no_digit : (c : ℕ) → one_of (codes "pP") c ≡ true → is_ascii_digit c ≡ false
no_digit c property = grind (arith, common_steps, eqb-true, true≢false)

unclosed_leads : (name place : Text) → next_is (single right_brace) place ≡ false → reading.boundary_name name place ≡ stop message.unclosed_boundary place
unclosed_leads name [] other = refl
unclosed_leads name (c ∷ t) other = rw other refl

-- where the relation stops at an escape, the function stops
pub escape_stops : {flags : Flags} {t place : Text} {m : Message} → StuckEscape flags t m place → (n : ℕ) (next : Text) → t ≡ backslash ∷ next → length next ≤ n →
    escape n flags next ≡ stop m place
escape_stops {flags} (StuckEscape.ends t place m is at names) n next begins room =
    ap (escape n flags) (same_behind backslash next [] (sym begins ∙ is)) ∙ ap₂ stop (sym names) (sym at)
escape_stops {flags} (StuckEscape.digit c t rest place m is digit at names) n next begins room =
    ap (escape n flags) (same_behind backslash next (c ∷ rest) (sym begins ∙ is)) ∙ rw digit (ap₂ stop (sym names) (sym at))
escape_stops {flags} (StuckEscape.property c t rest place m is property at names) n next begins room = grind (arith, common_steps, no_digit)
escape_stops {flags} (StuckEscape.strange c t rest place m is digit property none at names) n next begins room = grind (arith, common_steps, begins_none, same_behind)
escape_stops {flags} (StuckEscape.hexadecimal c k t behind place m is digits r) n next begins room = grind (arith, common_steps, same_behind, hexadecimal_stops, some_digits, skip_shorter)
escape_stops {flags} (StuckEscape.boundary_begins t behind place m is gap at names) n next begins room = grind (arith, common_steps)
escape_stops {flags} (StuckEscape.boundary_ends t behind name place m is r some other names) n next begins room =
    let at : next ≡ 98 ∷ left_brace ∷ behind = same_behind backslash next (98 ∷ left_brace ∷ behind) (sym begins ∙ is) in
    ap (escape n flags) at ∙ named_leads behind r some n (omega (arith, ap length at)) ∙ unclosed_leads name place other ∙ ap (λ x. stop x place) (sym names)
escape_stops {flags} (StuckEscape.boundary_unknown t behind name rest place m is r some closes unknown names) n next begins room =
    let at : next ≡ 98 ∷ left_brace ∷ behind = same_behind backslash next (98 ∷ left_brace ∷ behind) (sym begins ∙ is) in
    ap (escape n flags) at ∙ named_leads behind r some n (omega (arith, ap length at)) ∙ ap (reading.boundary_name name) closes
    ∙ rw unknown (ap₂ stop (sym names) (sym closes))
