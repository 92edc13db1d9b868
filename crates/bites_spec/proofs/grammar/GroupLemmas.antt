-- What a parenthesis opens: the reader agrees with the grammar's relations, up to the limit on the number of groups.
use Rattle.std.proofs.lemmas.Grind.{common_steps}
use Rattle.std.proofs.Common.{◌≡◌, ℕ, ◌+◌, ◌<◌, ◌≤◌, Bool, true, false, ◌||◌, ◌==◌, [], ◌∷◌, ◌++◌, length, drop, Some, None, refl, sym, ap, ◌∙◌, subst, inl, inr, ⊎_elim, arith, Ok, Err, eqb-true, ltb-true, ltb-false, lt-ltb, true≢false}
use Rattle.std.specs.Prelude.{codes, nat_lt}
use Rattle.std.proofs.lemmas.Bool.{and_parts}
use Rattle.bites_spec.specs.Message as message
use Rattle.bites_spec.specs.Message.{Message, rank, too_many_groups}
use Rattle.bites_spec.specs.Class.{single}
use Rattle.bites_spec.specs.Pattern.{Text, Flags, Front, given, skip, next_is, one_of, begins, question, left_parenthesis, right_parenthesis}
use Rattle.bites_spec.specs.Group as relation
use Rattle.bites_spec.specs.Group.{Opening, numbered, ReadsOpening, ReadsFlags, BeginsName, begins_name, begins_look_around, changed, with_group, is_flag_mark, is_flag_run}
use Rattle.bites_spec.specs.OperatorFault.{greatest_number}
use Rattle.bites_spec.specs.GroupFault as stuck
use Rattle.bites_spec.specs.GroupFault.{StuckOpening}
use Rattle.bites_spec.specs.Fault.{ComesFirst}
use Rattle.bites_spec.specs.Reader.{ReadResult, Opened, directive, group, answer, stop, choose, and_then, opened, no_name, named_group, with_number, name_from, flags_from}
use Rattle.bites_spec.proofs.characters.EscapeLemmas.{Means, either_side}
use Rattle.bites_spec.proofs.characters.EachLemmas.{skip_shorter}
use Rattle.bites_spec.proofs.characters.ChoiceParts.{ReadsDirective, Opens, LeadsToGroup, StopsBy}
use Rattle.bites_spec.proofs.grammar.GroupNames.{NameMeans, name_means, name_leads, name_stops, name_shorter, stuck_name_shorter}
use Rattle.bites_spec.proofs.grammar.GroupFlags.{eqb_turned, FlagsMean, flags_mean, flags_lead, closing_flags_lead, flags_stop, flags_shorter, stuck_flags_shorter}
use Rattle.bites_spec.proofs.brackets.BracketText.{begins_append}

-- what a result after the parenthesis and its gap claims of the relations
abbrev pub OpenedMeans : Front → Text → ReadResult Opened → Type 0
OpenedMeans front next = Means (Opens front (left_parenthesis ∷ next)) (StuckOpening front (left_parenthesis ∷ next))

number_means : (front : Front) (next t : Text) → t ≡ skip front.flags next → next_is (single question) t ≡ false →
    OpenedMeans front next (with_number front t (answer (group (numbered None) (with_group None front)) t))
number_means front next t is plain =
    either_side (OpenedMeans front next) (nat_lt greatest_number (front.groups + 1)) _ _
    (λ b. stuck.too_many _ next t _ refl is plain (ltb-true greatest_number (front.groups + 1) b) refl)
    (λ b. (relation.number_only _ next t _ _ refl is plain refl refl, λ few. ltb-false greatest_number (front.groups + 1) b))

name_answer : (front : Front) (next begun : Text) (a : ReadResult Text) → begins_look_around (skip front.flags next) ≡ false → BeginsName (skip front.flags next) begun →
    nat_lt greatest_number (front.groups + 1) ≡ false → NameMeans (given front.names) begun a →
    OpenedMeans front next (and_then a (λ name rest. answer (group (numbered (Some name)) (with_group (Some name) front)) rest))
name_answer front next begun (Ok x) plain begin few means =
    (relation.named _ next begun x.0 x.1 _ _ refl plain begin means refl refl, λ before. ltb-false greatest_number (front.groups + 1) few)
name_answer front next begun (Err e) plain begin few means = stuck.in_name _ next begun _ _ refl begin means

named_means : (front : Front) (next begun : Text) → begins_look_around (skip front.flags next) ≡ false → BeginsName (skip front.flags next) begun →
    OpenedMeans front next (named_group front begun)
named_means front next begun plain begin =
    either_side (OpenedMeans front next) (nat_lt greatest_number (front.groups + 1)) _ _
    (λ b. stuck.too_many_named _ next begun _ refl begin (ltb-true greatest_number (front.groups + 1) b) refl)
    (λ b. name_answer front next begun (name_from (given front.names) [] begun) plain begin b (name_means (given front.names) begun))

directive_means : (front : Front) (next marks run rest : Text) (flags : Flags) → skip front.flags next ≡ question ∷ marks → 0 < length run →
    ReadsFlags marks run (right_parenthesis ∷ rest) → flags ≡ changed true run front.flags → ReadsDirective front (left_parenthesis ∷ next) flags rest
directive_means front next marks [] rest flags asks some reads are = absurd (omega arith)
directive_means front next marks (c ∷ letters) rest flags asks some reads are =
    record { next = next; marks = marks; run = c ∷ letters; c = c; letters = letters; opens = refl; asks = asks; reads = reads; some = refl; are = are }

flags_answer : (front : Front) (next marks : Text) (a : ReadResult Opened) → skip front.flags next ≡ question ∷ marks → begins_name (question ∷ marks) ≡ false →
    FlagsMean front marks a → OpenedMeans front next a
flags_answer front next marks (Ok (directive flags, rest)) asks plain means = directive_means front next marks means.0 rest flags asks means.1 means.2 means.3
flags_answer front next marks (Ok (group opening inner, rest)) asks plain means =
    (relation.with_flags _ next marks means.0 rest opening inner refl asks means.1 means.2 means.3, λ few. rw means.3 few)
flags_answer front next marks (Err e) asks plain means = stuck.in_flags _ next marks _ _ refl asks plain means

no_name_means : (front : Front) (next t : Text) → t ≡ skip front.flags next → begins_name t ≡ false → OpenedMeans front next (no_name front t)
no_name_means front next [] is plain = number_means front next [] is refl
no_name_means front next (c ∷ t) is plain =
    either_side (OpenedMeans front next) (c == question) _ _
    (λ b.
    let asks = ap (λ x. x ∷ t) (eqb-true c question b) in
    flags_answer front next t (flags_from front [] t) (sym is ∙ asks) (ap begins_name (sym asks) ∙ plain) (flags_mean front t))
    (λ b. number_means front next (c ∷ t) is b)

opened_means : (front : Front) (next t : Text) → t ≡ skip front.flags next → OpenedMeans front next (opened front t)
opened_means front next t is =
    either_side (OpenedMeans front next) (begins_look_around t) _ _ (λ l. stuck.looks_around _ next t _ refl is l refl)
    (λ l. either_side (OpenedMeans front next) (begins (codes "?P<") t) _ _
    (λ p. named_means front next (drop 3 t) (ap begins_look_around (sym is) ∙ l) (inl (sym is ∙ begins_append (codes "?P<") t p)))
    (λ p. either_side (OpenedMeans front next) (begins (codes "?<") t) _ _
    (λ n. named_means front next (drop 2 t) (ap begins_look_around (sym is) ∙ l) (inr (sym is ∙ begins_append (codes "?<") t n)))
    (λ n. no_name_means front next t is (rw (p, n) refl))))

-- what the function returns for what a parenthesis opens, the relations read
pub opened_sound : (front : Front) (next : Text) → OpenedMeans front next (opened front (skip front.flags next))
opened_sound front next = opened_means front next (skip front.flags next) refl

-- a choice by a false test takes the second side; below it, a choice by a true test takes the first
second_taken : {A : Type 0} (b : Bool) (f g : Unit {0} → A) → b ≡ false → choose b f g ≡ g tt
second_taken true f g e = absurd (true≢false e)
second_taken false f g e = refl

first_taken : {A : Type 0} (b : Bool) (f g : Unit {0} → A) → b ≡ true → choose b f g ≡ f tt
first_taken true f g e = refl
first_taken false f g e = absurd (true≢false (sym e))

same_next : {a b : Text} → left_parenthesis ∷ a ≡ left_parenthesis ∷ b → a ≡ b
same_next e = ap (drop 1) e

-- where no question mark stands
unasked : (front : Front) (t : Text) → next_is (single question) t ≡ false →
    opened front t ≡ with_number front t (answer (group (numbered None) (with_group None front)) t)
unasked front [] plain = refl
unasked front (c ∷ t) plain = grind (arith, common_steps, eqb_turned)

-- where a name begins
named : (front : Front) (t begun : Text) → begins_look_around t ≡ false → BeginsName t begun → opened front t ≡ named_group front begun
named front t begun plain begin = grind (arith, common_steps)

-- where the limit on numbers is reached, the function stops
above : (front : Front) (t : Text) (a : ReadResult Opened) → greatest_number < front.groups + 1 → with_number front t a ≡ stop too_many_groups t
above front t a more = first_taken (nat_lt greatest_number (front.groups + 1)) _ _ (lt-ltb greatest_number (front.groups + 1) more)

number_leads : (front inner : Front) (opening : Opening) (t inside : Text) (a : ReadResult Opened) → length inside ≤ length t → inner.groups ≡ front.groups + 1 →
    a ≡ answer (group opening inner) inside → LeadsToGroup inner opening inside (with_number front t a)
number_leads front inner opening t inside a within one_more leads = grind (arith, common_steps, first_taken, ltb-true, second_taken)

-- a mark of flags, or a character that ends them
abbrev is_in_flags : ℕ → Bool
is_in_flags c = one_of (codes ":)") c || is_flag_mark c

-- neither look-around nor a name begins here
abbrev BeginsNothing : Text → Type 0
BeginsNothing t = (begins_look_around t ≡ false) × (begins_name t ≡ false)

begins_nothing : (c : ℕ) (t : Text) → is_in_flags c ≡ true → BeginsNothing (question ∷ c ∷ t)
begins_nothing c t within = grind (arith, common_steps)

run_begins_nothing : (run : Text) (c : ℕ) (rest : Text) → is_flag_run run ≡ true → one_of (codes ":)") c ≡ true → BeginsNothing (question ∷ run ++ c ∷ rest)
run_begins_nothing [] c rest fits ends = begins_nothing c rest (rw ends refl)
run_begins_nothing (d ∷ run) c rest fits ends = grind (arith, common_steps, and_parts, begins_nothing)

-- where flags follow the question mark, the function reads flags
with_marks : (front : Front) (marks run rest : Text) (c : ℕ) → ReadsFlags marks run (c ∷ rest) → one_of (codes ":)") c ≡ true →
    opened front (question ∷ marks) ≡ flags_from front [] marks
with_marks front marks run rest c (relation.flags _ _ behind is fits whole) ends = grind (arith, common_steps, run_begins_nothing)

-- the function reads each opening that the relation reads, or stops within it at too many groups
pub opened_leads : {front inner : Front} {t inside : Text} {opening : Opening} → ReadsOpening front t opening inner inside →
    (next : Text) → t ≡ left_parenthesis ∷ next → LeadsToGroup inner opening inside (opened front (skip front.flags next))
opened_leads {front} (relation.number_only t behind inside opening inner is at plain opens fronts) next same = grind (arith, common_steps, same_next, unasked)
opened_leads {front} (relation.named t behind begun name inside opening inner is plain begin reads opens fronts) next same = grind (arith, common_steps, same_next, named, number_leads, name_shorter, name_leads)
opened_leads {front} (relation.with_flags t behind marks run inside opening inner is asks reads opens fronts) next same = grind (arith, common_steps, same_next, with_marks, flags_lead)

-- the function reads each directive that the relation reads
pub directive_leads : {front : Front} {t rest : Text} {flags : Flags} → ReadsDirective front t flags rest →
    (next : Text) → t ≡ left_parenthesis ∷ next → opened front (skip front.flags next) ≡ answer (directive flags) rest
directive_leads {front} {rest = rest} d next same = grind (arith, common_steps, same_next, with_marks, closing_flags_lead)

-- too many groups is the message of least rank
pub least_rank : (m : Message) → rank too_many_groups ≤ rank m
least_rank message.too_many_groups = omega arith
least_rank m = omega arith

-- a result that is this very stop
stops_here : {a : ReadResult Opened} (m : Message) (place : Text) → a ≡ stop m place → StopsBy m place a
stops_here m place e = subst (λ x. StopsBy m place x) (sym e) (inr (refl, omega arith))

-- a result that is an earlier stop
stops_before : {a : ReadResult Opened} (m k : Message) (place at : Text) → a ≡ stop k at → length place < length at → StopsBy m place a
stops_before m k place at e before = subst (λ x. StopsBy m place x) (sym e) (inl before)

limit_first : (m : Message) (place at : Text) → length place ≤ length at → ComesFirst too_many_groups at m place
limit_first m place at within = grind (arith, common_steps, ltb-true, ltb-false, least_rank)

-- where look-around stands, the function stops before all other faults
around_stops : (front : Front) (t place : Text) (m : Message) → begins_look_around t ≡ true → length place < length t → StopsBy m place (opened front t)
around_stops front t place m around before =
    stops_before m message.look_around place t (first_taken (begins_look_around t) _ _ around) before

begun_shorter : (t begun : Text) → BeginsName t begun → length begun < length t
begun_shorter t begun begin =
    ⊎_elim (λ (e : t ≡ codes "?P<" ++ begun). omega (arith, ap length e)) (λ (e : t ≡ codes "?<" ++ begun). omega (arith, ap length e)) begin

in_name_first : (front : Front) (t begun place : Text) (m : Message) → begins_look_around t ≡ false → BeginsName t begun → length place ≤ length begun →
    name_from (given front.names) [] begun ≡ stop m place → StopsBy m place (opened front t)
in_name_first front t begun place m plain begin within stops = grind (arith, common_steps, named, above, ltb-true, limit_first, stops_here, second_taken)

-- where the relation stops at a group's opening, the function stops, no later, and at the same place with no greater rank
pub opened_first : {front : Front} {t place : Text} {m : Message} → StuckOpening front t m place → (next : Text) → t ≡ left_parenthesis ∷ next →
    StopsBy m place (opened front (skip front.flags next))
opened_first {front} (stuck.looks_around t behind place m is at around says) next same = grind (arith, common_steps, same_next, stops_here)
opened_first {front} (stuck.too_many t behind place m is at plain more says) next same = grind (arith, common_steps, same_next, stops_here, unasked)
opened_first {front} (stuck.too_many_named t behind place m is begin more says) next same = grind (arith, common_steps, same_next, around_stops, begun_shorter, stops_here, named, above)
opened_first {front} (stuck.in_name t behind begun place m is begin stops) next same = grind (arith, common_steps, same_next, around_stops, begun_shorter, stuck_name_shorter, in_name_first, name_stops)
opened_first {front} (stuck.in_flags t behind marks place m is asks plain stops) next same = grind (arith, common_steps, same_next, around_stops, stuck_flags_shorter, stops_here, flags_stop)

-- a group's opening takes at least a character
pub opening_shorter : {front inner : Front} {t inside : Text} {opening : Opening} → ReadsOpening front t opening inner inside → length inside < length t
opening_shorter {front} (relation.number_only t next inside opening inner is at plain opens fronts) =
    omega (arith, ap length is, ap length at, skip_shorter front.flags next)
opening_shorter {front} (relation.named t next begun name inside opening inner is plain begin reads opens fronts) =
    omega (arith, ap length is, begun_shorter _ begun begin, name_shorter reads, skip_shorter front.flags next)
opening_shorter {front} (relation.with_flags t next marks run inside opening inner is asks reads opens fronts) =
    omega (arith, ap length is, ap length asks, flags_shorter reads, skip_shorter front.flags next)

-- a directive takes at least a character
pub directive_shorter : {front : Front} {t rest : Text} {flags : Flags} → ReadsDirective front t flags rest → length rest < length t
directive_shorter {front} d = omega (arith, ap length d.opens, ap length d.asks, flags_shorter d.reads, skip_shorter front.flags d.next)

-- a fault of a group's opening stands after its parenthesis
pub stuck_opening_shorter : {front : Front} {t place : Text} {m : Message} → StuckOpening front t m place → length place < length t
stuck_opening_shorter {front} (stuck.looks_around t next place m is at around says) = omega (arith, ap length is, ap length at, skip_shorter front.flags next)
stuck_opening_shorter {front} (stuck.too_many t next place m is at plain more says) = omega (arith, ap length is, ap length at, skip_shorter front.flags next)
stuck_opening_shorter {front} (stuck.too_many_named t next place m is begin more says) =
    omega (arith, ap length is, begun_shorter _ place begin, skip_shorter front.flags next)
stuck_opening_shorter {front} (stuck.in_name t next begun place m is begin stops) =
    omega (arith, ap length is, begun_shorter _ begun begin, stuck_name_shorter stops, skip_shorter front.flags next)
stuck_opening_shorter {front} (stuck.in_flags t next marks place m is asks plain stops) =
    omega (arith, ap length is, ap length asks, stuck_flags_shorter stops, skip_shorter front.flags next)
