-- Operators, atoms, openings and directives are each read in at most one way.
use Rattle.std.proofs.lemmas.Grind.{common_steps}
use Rattle.std.proofs.Common.{◌≡◌, ℕ, ◌+◌, ◌-◌, ◌<◌, ◌≤◌, Bool, true, false, ◌==◌, [], ◌∷◌, length, refl, sym, ap, ◌∙◌, ⊎_elim, arith, Option, Some, None, Ok, Err, true≢false}
use Rattle.std.specs.Prelude.{if◌then◌else◌}
use Rattle.bites_spec.specs.Class.{Set}
use Rattle.bites_spec.specs.Message as message
use Rattle.bites_spec.specs.Tree.{Tree}
use Rattle.bites_spec.specs.Pattern.{Text, Flags, Front, skip, question, star, plus, left_brace, right_brace, comma, left_parenthesis, ReadsEach, ReadsDecimal, ReadsLazy}
use Rattle.bites_spec.specs.Pattern as pattern
use Rattle.bites_spec.specs.Operator as operator
use Rattle.bites_spec.specs.Operator.{ReadsOperator, is_greedy}
use Rattle.bites_spec.specs.OperatorFault.{greatest_number}
use Rattle.bites_spec.specs.Group as group
use Rattle.bites_spec.specs.Group.{Opening, unnumbered, ReadsOpening, changed}
use Rattle.bites_spec.specs.Grammar.{ReadsAtom, at_front}
use Rattle.bites_spec.specs.RangesOf.{ranges_of}
use Rattle.bites_spec.specs.Reader as reading
use Rattle.bites_spec.specs.Reader.{ReadResult, Reader, Opened, answer, stop, each, lazy, found, opened, at_item}
use Rattle.bites_spec.proofs.characters.EachLemmas.{each_complete}
use Rattle.bites_spec.proofs.grammar.GroupLemmas.{opened_leads, directive_leads}
use Rattle.bites_spec.proofs.classes.ClassLemmas.{ranges_of_list}
use Rattle.bites_spec.proofs.characters.ChoiceParts.{ReadsDirective}
use Rattle.bites_spec.proofs.grammar.ChoiceBegins.{opening_begins, opening_groups}
use Rattle.bites_spec.proofs.grammar.ChoiceLeads.{atom_leads}
use Rattle.bites_spec.proofs.grammar.ItemCounts.{first_of, tail_of, decimal_some}

each_once : {flags : Flags} {set : Set} {t chars others rest end : Text} → ReadsEach flags set t chars rest → ReadsEach flags set t others end → (chars ≡ others) × (rest ≡ end)
each_once {flags} {set} {t} r s =
    let same = sym (each_complete r (length t) (omega arith)) ∙ each_complete s (length t) (omega arith) in
    (ap (λ p. p.0) same, ap (λ p. p.1) same)

decimal_once : {flags : Flags} {t u rest end : Text} {v w : ℕ} → ReadsDecimal flags t v rest → ReadsDecimal flags u w end → t ≡ u → (v ≡ w) × (rest ≡ end)
decimal_once {flags} (pattern.decimal v t behind digits white rest r some s value) (pattern.decimal w u last others blank end q more b number_is) same = grind (arith, common_steps, each_once)

lazy_once : {t u rest end : Text} {mark other : Bool} → ReadsLazy t mark rest → ReadsLazy u other end → t ≡ u → (mark ≡ other) × (rest ≡ end)
lazy_once r s same = grind (arith, common_steps)

-- the bounds of an operator that is a single mark
abbrev bounds_of : ℕ → ℕ × Option ℕ
bounds_of c = if c == question then (0, Some 1) else if c == star then (0, None) else (1, None)

-- what follows the first number in braces
data Tail (flags : Flags) (v : ℕ) (mid : Text) (min : ℕ) (most : Option ℕ) (behind : Text) : Type 0 where
  closes : mid ≡ right_brace ∷ behind → min ≡ v → most ≡ Some v → Tail flags v mid min most behind
  opens : (more : Text) → mid ≡ comma ∷ more → skip flags more ≡ right_brace ∷ behind → min ≡ v → most ≡ None → Tail flags v mid min most behind
  ranges : (w : ℕ) (more : Text) → mid ≡ comma ∷ more → ReadsDecimal flags (skip flags more) w (right_brace ∷ behind) → min ≡ v → most ≡ Some w →
      Tail flags v mid min most behind

-- an operator is a mark, or numbers in braces
data Form (flags : Flags) (t : Text) (min : ℕ) (most : Option ℕ) (greedy : Bool) (rest : Text) : Type 0 where
  marked : (c : ℕ) (next : Text) (mark : Bool) → t ≡ c ∷ next → (c == left_brace) ≡ false → ReadsLazy next mark rest → min ≡ (bounds_of c).0 → most ≡ (bounds_of c).1 →
      greedy ≡ is_greedy flags mark → Form flags t min most greedy rest
  braced : (v : ℕ) (next mid behind : Text) (mark : Bool) → t ≡ left_brace ∷ next → ReadsDecimal flags (skip flags next) v mid → Tail flags v mid min most behind →
      ReadsLazy (skip flags behind) mark rest → greedy ≡ is_greedy flags mark → Form flags t min most greedy rest

form_of : {flags : Flags} {t rest : Text} {min : ℕ} {most : Option ℕ} {greedy : Bool} → ReadsOperator flags t min most greedy rest → Form flags t min most greedy rest
form_of (operator.optional t next rest min most mark greedy is l a b g) = marked question next mark is refl l a b g
form_of (operator.any_number t next rest min most mark greedy is l a b g) = marked star next mark is refl l a b g
form_of (operator.at_least_once t next rest min most mark greedy is l a b g) = marked plus next mark is refl l a b g
form_of (operator.exactly t next behind rest min most mark greedy is d l a g) = braced min next (right_brace ∷ behind) behind mark is d (closes refl refl a) l g
form_of (operator.at_least t next more behind rest min most mark greedy is d e l a g) =
    braced min next (comma ∷ more) behind mark is d (opens more refl e refl a) l g
form_of (operator.between t next more behind rest min top most mark greedy is d f le l a g) =
    braced min next (comma ∷ more) behind mark is d (ranges top more refl f refl a) l g

brace_no_decimal : {flags : Flags} {t rest behind : Text} {v : ℕ} → ReadsDecimal flags t v rest → t ≡ right_brace ∷ behind → ⊥
brace_no_decimal d is = grind (arith, common_steps, decimal_some, first_of)

-- the bounds and the rest are the same
abbrev SameTail : ℕ → ℕ → Option ℕ → Option ℕ → Text → Text → Type 0
SameTail min least most greatest behind last = (min ≡ least) × (most ≡ greatest) × (behind ≡ last)

tail_once : {flags : Flags} {v w min least : ℕ} {mid other behind last : Text} {most greatest : Option ℕ} → Tail flags v mid min most behind → Tail flags w other least greatest last →
    v ≡ w → mid ≡ other → SameTail min least most greatest behind last
tail_once (closes at a b) (closes in_other c d) same one = (a ∙ same ∙ sym c, b ∙ ap Some same ∙ sym d, tail_of (sym at ∙ one ∙ in_other))
tail_once (closes at a b) (opens more in_other e c d) same one = absurd (omega (arith, first_of (sym at ∙ one ∙ in_other)))
tail_once (closes at a b) (ranges x more in_other f c d) same one = absurd (omega (arith, first_of (sym at ∙ one ∙ in_other)))
tail_once (opens more at e a b) (closes in_other c d) same one = absurd (omega (arith, first_of (sym at ∙ one ∙ in_other)))
tail_once {flags} (opens more at e a b) (opens others in_other f c d) same one = grind (arith, common_steps)
tail_once {flags} (opens more at e a b) (ranges x others in_other f c d) same one =
    let gap = ap (skip flags) (tail_of (sym at ∙ one ∙ in_other)) in
    absurd (brace_no_decimal f (sym gap ∙ e))
tail_once (ranges x more at f a b) (closes in_other c d) same one = absurd (omega (arith, first_of (sym at ∙ one ∙ in_other)))
tail_once {flags} (ranges x more at f a b) (opens others in_other e c d) same one =
    let gap = ap (skip flags) (tail_of (sym at ∙ one ∙ in_other)) in
    absurd (brace_no_decimal f (gap ∙ e))
tail_once {flags} (ranges x more at f a b) (ranges y others in_other g c d) same one = grind (arith, common_steps, tail_of, decimal_once)

-- the bounds, the greed and the rest are the same
abbrev pub SameOperator : ℕ → ℕ → Option ℕ → Option ℕ → Bool → Bool → Text → Text → Type 0
SameOperator min least most greatest greedy other rest end = (min ≡ least) × (most ≡ greatest) × (greedy ≡ other) × (rest ≡ end)

form_once : {flags : Flags} {t u rest end : Text} {min least : ℕ} {most greatest : Option ℕ} {greedy other : Bool} → Form flags t min most greedy rest →
    Form flags u least greatest other end → t ≡ u → SameOperator min least most greatest greedy other rest end
form_once {flags} (marked c next mark is plain l a b g) (marked d more sign at bare k x y z) same = grind (arith, common_steps, first_of, lazy_once)
form_once (marked c next mark is plain l a b g) (braced v more mid behind sign at d tail k z) same =
    absurd (true≢false (sym (ap (λ e. e == left_brace) (first_of (sym is ∙ same ∙ at))) ∙ plain))
form_once (braced v next mid behind mark is d tail l g) (marked c more sign at bare k x y z) same =
    absurd (true≢false (ap (λ e. e == left_brace) (first_of (sym is ∙ same ∙ at)) ∙ bare))
form_once {flags} (braced v next mid behind mark is d tail l g) (braced w more other last sign at f rest_tail k z) same =
    let gap = ap (skip flags) (tail_of (sym is ∙ same ∙ at)) in
    let first = decimal_once d f gap in
    let second = tail_once tail rest_tail first.0 first.1 in
    let lazies = lazy_once l k (ap (skip flags) second.2) in
    (second.0, second.1, g ∙ ap (is_greedy flags) lazies.0 ∙ sym z, lazies.1)

-- an operator has one reading
pub operator_once : {flags : Flags} {t u rest end : Text} {min least : ℕ} {most greatest : Option ℕ} {greedy other : Bool} → ReadsOperator flags t min most greedy rest →
    ReadsOperator flags u least greatest other end → t ≡ u → SameOperator min least most greatest greedy other rest end
operator_once r s same = form_once (form_of r) (form_of s) same

-- a reader that returns at once, with the nodes so far
abbrev stands : Reader
stands depth front branches nodes t = found nodes front t

atom_answer : {flags : Flags} {t rest : Text} {node : Tree} → ReadsAtom flags t node rest →
    at_item ranges_of 0 stands (length t) 0 (at_front flags) [] [] t ≡ found (node ∷ []) (at_front flags) rest
atom_answer {flags} {t} r = atom_leads ranges_of ranges_of_list 0 stands (length t) 0 (at_front flags) [] [] r (omega arith)

-- an atom has one reading
pub atom_once : {flags : Flags} {t u rest end : Text} {node other : Tree} → ReadsAtom flags t node rest → ReadsAtom flags u other end → t ≡ u →
    (node ≡ other) × (rest ≡ end)
atom_once {flags} r s same = grind (arith, common_steps, atom_answer)

-- the same front, with no group counted
abbrev bare : Front → Front
bare front = record front { groups = 0 }

-- an inner front, with its groups counted from those of an outer one
abbrev beyond : ℕ → Front → Front
beyond groups inner = record inner { groups = inner.groups - groups }

opening_few : {front inner : Front} {t inside : Text} {opening : Opening} → ReadsOpening front t opening inner inside → inner.groups ≤ front.groups + 1
opening_few (group.number_only t next inside opening inner is at e o i) = omega (arith, ap (λ f. f.groups) i)
opening_few (group.named t next begun name inside opening inner is l b r o i) = omega (arith, ap (λ f. f.groups) i)
opening_few (group.with_flags t next marks run inside opening inner is e r o i) = omega (arith, ap (λ f. f.groups) i)

from_bare : {front inner : Front} {t inside : Text} {opening : Opening} → ReadsOpening front t opening inner inside →
    ReadsOpening (bare front) t opening (beyond front.groups inner) inside
from_bare {front} (group.number_only t next inside opening inner is at e o i) =
    let one : (front.groups + 1) - front.groups ≡ 0 + 1 = omega arith in
    group.number_only t next inside opening (beyond front.groups inner) is at e o (ap (beyond front.groups) i ∙ ap (λ g. record front { groups = g; names = None ∷ front.names }) one)
from_bare {front} (group.named t next begun name inside opening inner is l b r o i) =
    let one : (front.groups + 1) - front.groups ≡ 0 + 1 = omega arith in
    group.named t next begun name inside opening (beyond front.groups inner) is l b r o
    (ap (beyond front.groups) i ∙ ap (λ g. record front { groups = g; names = Some name ∷ front.names }) one)
from_bare {front} (group.with_flags t next marks run inside opening inner is e r o i) =
    let none : front.groups - front.groups ≡ 0 = omega arith in
    group.with_flags t next marks run inside opening (beyond front.groups inner) is e r o
    (ap (beyond front.groups) i ∙ ap (λ g. record front { groups = g; flags = changed true run front.flags }) none)

opening_answer : {front inner : Front} {t inside : Text} {opening : Opening} → ReadsOpening front t opening inner inside → (next : Text) → t ≡ left_parenthesis ∷ next →
    opened (bare front) (skip front.flags next) ≡ answer (reading.group opening (beyond front.groups inner)) inside
opening_answer {front} {inner} {t} {inside} {opening} r next is =
    ⊎_elim (λ (e : opened (bare front) (skip front.flags next) ≡ answer (reading.group opening (beyond front.groups inner)) inside). e)
    (λ (over : (place : Text) × (opened (bare front) (skip front.flags next) ≡ stop message.too_many_groups place) × (length inside ≤ length place) × (greatest_number < inner.groups - front.groups)).
    absurd (omega (arith, over.3, opening_few r)))
    (opened_leads (from_bare r) next is)

abbrev opening_in : ReadResult Opened → Opening
opening_in (Ok (reading.group opening inner, rest)) = opening
opening_in a = unnumbered

abbrev front_in : Front → ReadResult Opened → Front
front_in front (Ok (reading.group opening inner, rest)) = inner
front_in front a = front

abbrev flags_in : Flags → ReadResult Opened → Flags
flags_in flags (Ok (reading.directive changes, rest)) = changes
flags_in flags a = flags

abbrev behind_in : ReadResult Opened → Text
behind_in (Ok x) = x.1
behind_in (Err e) = []

inner_back : (groups : ℕ) (inner : Front) → groups ≤ inner.groups → record (beyond groups inner) { groups = (beyond groups inner).groups + groups } ≡ inner
inner_back groups inner more = let same : (inner.groups - groups) + groups ≡ inner.groups = omega arith in ap (λ g. record inner { groups = g }) same

-- an opening has one reading
pub opening_once : {front inner other : Front} {t u inside end : Text} {opening closing : Opening} → ReadsOpening front t opening inner inside →
    ReadsOpening front u closing other end → t ≡ u → (opening ≡ closing) × (inner ≡ other) × (inside ≡ end)
opening_once {front} {inner} {other} r s same =
    let b = opening_begins r in
    let one = sym (opening_answer r b.0 b.1) ∙ opening_answer s b.0 (sym same ∙ b.1) in (
      ap opening_in one,
      sym (inner_back front.groups inner (opening_groups r)) ∙ ap (λ a. record (front_in front a) { groups = (front_in front a).groups + front.groups }) one
          ∙ inner_back front.groups other (opening_groups s),
      ap behind_in one,
    )

directive_answer : {front : Front} {t rest : Text} {flags : Flags} → ReadsDirective front t flags rest → (next : Text) → t ≡ left_parenthesis ∷ next →
    opened (bare front) (skip front.flags next) ≡ answer (reading.directive flags) rest
directive_answer {front} d next is =
    directive_leads {front = bare front}
    (record { next = d.next; marks = d.marks; run = d.run; c = d.c; letters = d.letters; opens = d.opens; asks = d.asks; reads = d.reads; some = d.some; are = d.are }) next is

-- a directive has one reading
pub directive_once : {front : Front} {t u rest end : Text} {flags other : Flags} → ReadsDirective front t flags rest → ReadsDirective front u other end → t ≡ u →
    (flags ≡ other) × (rest ≡ end)
directive_once {flags = flags} d e same =
    let one = sym (directive_answer d d.next d.opens) ∙ directive_answer e d.next (sym same ∙ d.opens) in
    (ap (flags_in flags) one, ap behind_in one)

abbrev is_directive : ReadResult Opened → Bool
is_directive (Ok (reading.directive changes, rest)) = true
is_directive a = false

-- no text is read both as a directive and as an opening
pub directive_or_opening : {front inner : Front} {t u rest inside : Text} {flags : Flags} {opening : Opening} → ReadsDirective front t flags rest →
    ReadsOpening front u opening inner inside → t ≡ u → ⊥
directive_or_opening d r same =
    let one = sym (directive_answer d d.next d.opens) ∙ opening_answer r d.next (sym same ∙ d.opens) in
    true≢false (ap is_directive one)
