-- Where the grammar's relations stop in a class in brackets, the reader stops, no later.
use Rattle.std.proofs.lemmas.Grind.{common_steps}
use Rattle.std.proofs.Common.{◌≡◌, ℕ, zero, suc, ◌<◌, ◌≤◌, Bool, true, false, ◌&&◌, ◌||◌, List, [], ◌∷◌, length, refl, sym, ap, ap₂, ◌∙◌, subst, inl, inr, arith, Ok, Err, true≢false}
use Rattle.std.proofs.lemmas.Bool.{lt-leb, or_parts}
use Rattle.std.specs.Prelude.{nat_le}
use Rattle.std.specs.List.{list_any}
use Rattle.bites_spec.specs.Message as message
use Rattle.bites_spec.specs.Message.{Message, rank}
use Rattle.bites_spec.specs.Look.{Look}
use Rattle.bites_spec.specs.Class.{Set, NamedClass, named_classes, single}
use Rattle.bites_spec.specs.Pattern.{Text, Flags, skip, next_is, begins, dash, backslash, left_bracket, ReadsEach}
use Rattle.bites_spec.specs.Escape.{Meaning, character, characters, assertion}
use Rattle.bites_spec.specs.EscapeFault.{StuckEscape}
use Rattle.bites_spec.specs.Bracket.{ReadsCaret, ReadsLeading, ReadsBracketFront, ReadsEnd, may_be_first, may_be_second, leads_to_second, is_twice}
use Rattle.bites_spec.specs.BracketFault.{begins_named_class, is_single, StuckMembers, StuckBracket}
use Rattle.bites_spec.specs.Reader as reading
use Rattle.bites_spec.specs.Reader.{ReadResult, Members, stop, and_then, class_members, class_end, after_first, after_dash}
use Rattle.bites_spec.proofs.characters.EachLemmas.{skip_shorter}
use Rattle.bites_spec.proofs.characters.ChoiceParts.{StopsBy}
use Rattle.bites_spec.proofs.brackets.BracketText.{escape_begins, stuck_escape_begins, skip_nil, end_shorter, stuck_escape_shorter}
use Rattle.bites_spec.proofs.brackets.BracketEscapes.{escape_stops, same_behind}
use Rattle.bites_spec.proofs.brackets.BracketMeans.{name_front, not_name_front, members_gap}
use Rattle.bites_spec.proofs.brackets.BracketLeads.{end_leads, member_shorter, member_leads, at_first, at_second, at_alone, caret_shorter, caret_leads, dashes_lead, front_leads, front_shorter}

-- a stop at this place, with a message of no greater rank
stops_there : {A : Type 0} (k m : Message) (at place : Text) (a : ReadResult A) → a ≡ stop k at → at ≡ place → rank k ≤ rank m → StopsBy m place a
stops_there k m at place a is same order = subst (StopsBy m place) (sym is) (inr (sym (ap length same), order))

stops_so : {A : Type 0} (k m : Message) (at place : Text) (a : ReadResult A) → a ≡ stop k at → at ≡ place → k ≡ m → StopsBy m place a
stops_so k m at place a is same names = stops_there k m at place a is same (omega (arith, ap rank names))

stops_before : {A : Type 0} (k m : Message) (at place : Text) (a : ReadResult A) → a ≡ stop k at → length place < length at → StopsBy m place a
stops_before k m at place a is before = subst (StopsBy m place) (sym is) (inl before)

and_stops : {A B : Type 0} (m : Message) (place : Text) (a : ReadResult A) (f : A → Text → ReadResult B) → StopsBy m place a → StopsBy m place (and_then a f)
and_stops m place (Ok x) f first = absurd first
and_stops m place (Err e) f first = first

-- where the relation stops at an end of a range, the function stops
end_first : {flags : Flags} {t place : Text} {m : Message} → StuckEscape flags t m place → (n : ℕ) → length t ≤ suc n →
    StopsBy m place (class_end n flags t)
end_first {flags} {t} {place} {m} r n room = grind (arith, common_steps, stuck_escape_begins, stops_so, escape_stops)

-- where the relation stops at an escape, the function stops
pub escape_first : {flags : Flags} {t place : Text} {m : Message} → StuckEscape flags t m place → (n : ℕ) (next : Text) → t ≡ backslash ∷ next → length next ≤ n →
    StopsBy m place (reading.escape n flags next)
escape_first {place = place} {m} r n next begins room = stops_so m m place place _ (escape_stops r n next begins room) refl refl

twice_some : (d : ℕ) (u : Text) → is_twice d u ≡ true → u ≡ [] → ⊥
twice_some d u e is = true≢false (sym e ∙ ap (is_twice d) is)

-- at the end of the pattern, the only fault is the missing closing bracket
stuck_at_end : {flags : Flags} {t place : Text} {m : Message} → StuckMembers flags t m place → skip flags t ≡ [] → (place ≡ []) × (m ≡ message.unclosed_class)
stuck_at_end (StuckMembers.later t next place set m plain member r) ends = absurd (omega (arith, member_shorter member, ap length ends))
stuck_at_end (StuckMembers.ends t place m gap is names) ends = (is, names)
stuck_at_end (StuckMembers.nested t rest place m at is none names) ends = absurd (omega (arith, ap length at, ap length is, ap length ends))
stuck_at_end (StuckMembers.intersection t place m at twice names) ends = absurd (twice_some _ _ twice (at ∙ ends))
stuck_at_end (StuckMembers.difference t place m at twice names) ends = absurd (twice_some _ _ twice (at ∙ ends))
stuck_at_end (StuckMembers.symmetric_difference t place m at twice names) ends = absurd (twice_some _ _ twice (at ∙ ends))
stuck_at_end (StuckMembers.in_first t place m r) ends = absurd (omega (arith, stuck_escape_shorter r, ap length ends))
stuck_at_end (StuckMembers.ends_after_first t behind place first m may r gap is names) ends = absurd (omega (arith, end_shorter r, ap length ends))
stuck_at_end (StuckMembers.assertion_alone t behind place first l m r means at leads names) ends = absurd (omega (arith, end_shorter r, ap length ends))
stuck_at_end (StuckMembers.ends_after_dash t behind next place first m may r dashed gap is names) ends =
    absurd (omega (arith, end_shorter r, ap length ends))
stuck_at_end (StuckMembers.in_second t behind next place first m may r dashed second) ends = absurd (omega (arith, end_shorter r, ap length ends))
stuck_at_end (StuckMembers.no_character t behind next place first second m may r dashed second_may last single names) ends =
    absurd (omega (arith, end_shorter r, ap length ends))
stuck_at_end (StuckMembers.crossed low high t behind next place m may r dashed second_may last order names) ends =
    absurd (omega (arith, end_shorter r, ap length ends))

-- where a first end may stand, the function stops at an operator or goes on
front_stops : (go : Members) (n : ℕ) (flags : Flags) (sofar : Set) (u place : Text) (m : Message) → length place < length u → may_be_first u ≡ true →
    StopsBy m place (and_then (class_end n flags u) (λ first rest. after_first go n flags sofar first (skip flags rest))) →
    StopsBy m place (reading.member go n flags sofar u)
front_stops go n flags sofar u place m before may stops = grind (arith, common_steps, stops_before, at_first)

-- a stop after a first end is a stop of the item
stops_after_first : (go : Members) (n : ℕ) (flags : Flags) (sofar : Set) (u behind place : Text) (m : Message) (first : Meaning) → length u ≤ suc n →
    length place < length u → may_be_first u ≡ true → ReadsEnd flags u first behind →
    StopsBy m place (after_first go n flags sofar first (skip flags behind)) → StopsBy m place (reading.member go n flags sofar u)
stops_after_first go n flags sofar u behind place m first room before may reads stops =
    front_stops go n flags sofar u place m before may
    (subst (λ a. StopsBy m place (and_then a (λ x rest. after_first go n flags sofar x (skip flags rest)))) (sym (end_leads reads n room)) stops)

-- a stop after a first end and a dash is a stop of the item
behind_dash : (go : Members) (n : ℕ) (flags : Flags) (sofar : Set) (u behind next place : Text) (m : Message) (first : Meaning) → length u ≤ suc n →
    length place < length u → may_be_first u ≡ true → ReadsEnd flags u first behind → skip flags behind ≡ dash ∷ next →
    StopsBy m place (after_dash go n flags sofar first (dash ∷ next) (skip flags next)) → StopsBy m place (reading.member go n flags sofar u)
behind_dash go n flags sofar u behind next place m first room before may reads dashed stops =
    stops_after_first go n flags sofar u behind place m first room before may reads
    (subst (λ y. StopsBy m place (after_first go n flags sofar first y)) (sym dashed) stops)

-- a stop after both ends of a range is a stop of the item
behind_second : (go : Members) (n : ℕ) (flags : Flags) (sofar : Set) (u behind next place : Text) (m : Message) (first second : Meaning) →
    length u ≤ suc n → may_be_first u ≡ true → ReadsEnd flags u first behind → skip flags behind ≡ dash ∷ next →
    may_be_second (skip flags next) ≡ true → ReadsEnd flags (skip flags next) second place →
    StopsBy m place (reading.range go sofar first second place) → StopsBy m place (reading.member go n flags sofar u)
behind_second go n flags sofar u behind next place m first second room may reads dashed second_may last stops =
    let short : length (skip flags next) < length u = omega (arith, end_shorter reads, ap length dashed, skip_shorter flags behind, skip_shorter flags next) in
    behind_dash go n flags sofar u behind next place m first room (omega (arith, end_shorter last)) may reads dashed
    (subst (StopsBy m place) (sym (at_second go n flags sofar first (dash ∷ next) (skip flags next) (omega (arith, end_shorter last)) second_may))
    (subst (λ a. StopsBy m place (and_then a (reading.range go sofar first))) (sym (end_leads last n (omega arith))) stops))

no_range : (go : Members) (sofar : Set) (first second : Meaning) (rest : Text) → (is_single first && is_single second) ≡ false →
    reading.range go sofar first second rest ≡ stop message.range_of_no_character rest
no_range go sofar (character low) (character high) rest none = absurd (true≢false none)
no_range go sofar (character low) (characters set) rest none = refl
no_range go sofar (character low) (assertion l) rest none = refl
no_range go sofar (characters set) second rest none = refl
no_range go sofar (assertion l) second rest none = refl

-- where no named class stands, the function finds none
no_name : (go : Members) (sofar : Set) (at : Text) (classes : List NamedClass) →
    list_any (λ name. begins (name_front name) at || begins (not_name_front name) at) classes ≡ false →
    reading.named go sofar at classes ≡ stop message.nested_class at
no_name go sofar at [] none = refl
no_name go sofar at (k ∷ classes) none =
    let parts = or_parts (begins (name_front k) at || begins (not_name_front k) at) _ none in
    let both = or_parts (begins (name_front k) at) (begins (not_name_front k) at) parts.0 in
    rw (both.0, both.1) (no_name go sofar at classes parts.1)

no_assertion : (c : ℕ) (l : Look) → character c ≡ assertion l → ⊥
no_assertion c l e = cc

assertion_may : {flags : Flags} {t rest : Text} {meaning : Meaning} (l : Look) → ReadsEnd flags t meaning rest → meaning ≡ assertion l → may_be_first t ≡ true
assertion_may l (ReadsEnd.plain c t rest meaning is other same) means = absurd (no_assertion c l (sym same ∙ means))
assertion_may l (ReadsEnd.escape t rest meaning r) means = ap may_be_first (escape_begins r).1

-- an assertion that stands alone stops the function
at_assertion : (go : Members) (n : ℕ) (flags : Flags) (sofar : Set) (l : Look) (place : Text) (m : Message) → leads_to_second flags place ≡ false →
    m ≡ message.invalid_class_escape → StopsBy m place (after_first go n flags sofar (assertion l) place)
at_assertion go n flags sofar l [] m leads names = inr (refl, omega (arith, ap rank names))
at_assertion go n flags sofar l (c ∷ place) m leads names =
    stops_so message.invalid_class_escape m (c ∷ place) (c ∷ place) _ (at_alone go n flags sofar (assertion l) (c ∷ place) (omega arith) leads) refl (sym names)

-- where the relation stops from an item on, the function stops, if it stops no later on what follows
item_first : {flags : Flags} {t place : Text} {m : Message} → StuckMembers flags t m place → (n : ℕ) (go : Members) (sofar : Set) →
    length t ≤ suc n → ((more : Set) (u : Text) → go more (skip flags u) ≡ go more u) →
    ((more : Set) (u : Text) → length u ≤ n → StuckMembers flags u m place → StopsBy m place (go more u)) →
    StopsBy m place (reading.member go n flags sofar (skip flags t))
item_first {flags} (StuckMembers.later t next place set m plain member r) n go sofar room minds on = grind (arith, common_steps, member_shorter, skip_shorter, member_leads, stuck_at_end)
item_first {flags} (StuckMembers.ends t place m gap is names) n go sofar room minds on =
    stops_so message.unclosed_class m [] place _ (ap (reading.member go n flags sofar) gap) (sym is) (sym names)
item_first {flags} (StuckMembers.nested t rest place m at is none names) n go sofar room minds on =
    let stops : reading.member go n flags sofar place ≡ stop message.nested_class place =
    ap (reading.member go n flags sofar) is ∙ no_name go sofar (left_bracket ∷ rest) named_classes (ap begins_named_class (sym is) ∙ none)
    ∙ ap (stop message.nested_class) (sym is) in
    stops_so message.nested_class m place place _ (ap (reading.member go n flags sofar) (sym at) ∙ stops) refl (sym names)
item_first {flags} (StuckMembers.intersection t place m at twice names) n go sofar room minds on = grind (arith, common_steps, stops_so)
item_first {flags} (StuckMembers.difference t place m at twice names) n go sofar room minds on = grind (arith, common_steps, stops_so)
item_first {flags} (StuckMembers.symmetric_difference t place m at twice names) n go sofar room minds on = grind (arith, common_steps, stops_so)
item_first {flags} (StuckMembers.in_first t place m r) n go sofar room minds on =
    front_stops go n flags sofar (skip flags t) place m (stuck_escape_shorter r) (ap may_be_first (stuck_escape_begins r).1)
    (and_stops m place (class_end n flags (skip flags t)) _ (end_first r n (omega (arith, skip_shorter flags t))))
item_first {flags} (StuckMembers.ends_after_first t behind place first m may r gap is names) n go sofar room minds on =
    stops_after_first go n flags sofar (skip flags t) behind place m first (omega (arith, skip_shorter flags t)) (omega (arith, end_shorter r, ap length is)) may r
    (stops_so message.unclosed_after_member m [] place _ (ap (after_first go n flags sofar first) gap) (sym is) (sym names))
item_first {flags} (StuckMembers.assertion_alone t behind place first l m r means at leads names) n go sofar room minds on =
    let stops : StopsBy m place (after_first go n flags sofar first (skip flags behind)) =
    subst (λ y. StopsBy m place (after_first go n flags sofar first y)) at
    (subst (λ x. StopsBy m place (after_first go n flags sofar x place)) (sym means) (at_assertion go n flags sofar l place m leads names)) in
    stops_after_first go n flags sofar (skip flags t) behind place m first (omega (arith, skip_shorter flags t))
    (omega (arith, end_shorter r, ap length at, skip_shorter flags behind)) (assertion_may l r means) r stops
item_first {flags} (StuckMembers.ends_after_dash t behind next place first m may r dashed gap is names) n go sofar room minds on =
    behind_dash go n flags sofar (skip flags t) behind next place m first (omega (arith, skip_shorter flags t)) (omega (arith, end_shorter r, ap length is)) may r
    dashed
    (stops_so message.unclosed_after_dash m [] place _ (ap (after_dash go n flags sofar first (dash ∷ next)) gap) (sym is) (sym names))
item_first {flags} (StuckMembers.in_second t behind next place first m may r dashed second) n go sofar room minds on =
    let short : length (skip flags next) < length (skip flags t) = omega (arith, end_shorter r, ap length dashed, skip_shorter flags behind, skip_shorter flags next) in
    let reads : after_dash go n flags sofar first (dash ∷ next) (skip flags next) ≡ and_then (class_end n flags (skip flags next)) (reading.range go sofar first) =
    at_second go n flags sofar first (dash ∷ next) (skip flags next) (omega (arith, stuck_escape_shorter second)) (ap may_be_second (stuck_escape_begins second).1) in
    behind_dash go n flags sofar (skip flags t) behind next place m first (omega (arith, skip_shorter flags t)) (omega (arith, stuck_escape_shorter second))
    may r dashed
    (subst (StopsBy m place) (sym reads)
    (and_stops m place (class_end n flags (skip flags next)) (reading.range go sofar first) (end_first second n (omega (arith, skip_shorter flags t)))))
item_first {flags} (StuckMembers.no_character t behind next place first second m may r dashed second_may last single names) n go sofar room minds on =
    behind_second go n flags sofar (skip flags t) behind next place m first second (omega (arith, skip_shorter flags t)) may r dashed second_may last
    (stops_so message.range_of_no_character m place place _ (no_range go sofar first second place single) refl (sym names))
item_first {flags} (StuckMembers.crossed low high t behind next place m may r dashed second_may last order names) n go sofar room minds on =
    let crossed : nat_le low high ≡ false = lt-leb low high order in
    behind_second go n flags sofar (skip flags t) behind next place m (character low) (character high) (omega (arith, skip_shorter flags t)) may r dashed
    second_may last
    (stops_so message.invalid_range m place place _ (rw crossed refl) refl (sym names))

pub nothing : (t : Text) → length t ≤ 0 → t ≡ []
nothing [] short = refl
nothing (c ∷ t) short = absurd (omega arith)

-- where the relation stops among the members of a class, the function stops, no later
pub members_first : (n : ℕ) {flags : Flags} {t place : Text} {m : Message} (sofar : Set) → length t ≤ n →
    StuckMembers flags t m place → StopsBy m place (class_members n flags sofar t)
members_first zero {flags} {t} {place} {m} sofar room r =
    let end = stuck_at_end r (nothing (skip flags t) (omega (arith, skip_shorter flags t))) in
    stops_so {A = Set} message.unclosed_class m [] place (stop message.unclosed_class []) refl (sym end.0) (sym end.1)
members_first (suc n) {flags} {t} {place} {m} sofar room r =
    item_first r n (class_members n flags) sofar room (members_gap n flags)
    (λ more u short stuck. members_first n more short stuck)

caret_ends : {flags : Flags} {t rest : Text} {negated : Bool} → ReadsCaret flags t negated rest → rest ≡ [] → (n : ℕ) →
    StopsBy message.unclosed_class [] (reading.bracket n flags t)
caret_ends {flags} (ReadsCaret.caret t next rest negated is gap same) ends n = grind (arith, common_steps)
caret_ends {flags} (ReadsCaret.none t rest negated other is same) ends n =
    stops_so message.unclosed_class message.unclosed_class [] [] _ (ap (reading.bracket n flags) (sym is ∙ ends)) refl refl

negation_ends : {flags : Flags} {t rest : Text} {negated : Bool} → ReadsCaret flags t negated rest → negated ≡ true → rest ≡ [] → (n : ℕ) →
    reading.bracket n flags t ≡ stop message.unclosed_after_caret []
negation_ends {flags} (ReadsCaret.caret t next rest negated is gap same) negates ends n =
    ap (reading.bracket n flags) is ∙ ap (reading.after_caret n flags) (sym gap ∙ ends)
negation_ends (ReadsCaret.none t rest negated other is same) negates ends n = absurd (true≢false (sym negates ∙ same))

each_some : {flags : Flags} {set : Set} {t chars rest : Text} → ReadsEach flags set t chars rest → 0 < length chars → 0 < length t
each_some (ReadsEach.none t chars rest ends is same) some = absurd (omega (arith, ap length is))
each_some (ReadsEach.more c t next chars others rest is pass r same) some = omega (arith, ap length is)

dashes_end : (n : ℕ) (flags : Flags) (negated : Bool) (dashes : Text) → 0 < length dashes →
    reading.after_dashes n flags negated dashes [] ≡ stop message.unclosed_after_dash []
dashes_end n flags negated [] some = absurd (omega arith)
dashes_end n flags negated (d ∷ dashes) some = refl

leading_ends : {flags : Flags} {dashes behind items : Text} {leading : Set} → ReadsLeading flags dashes behind leading items → items ≡ [] → (n : ℕ) (negated : Bool) →
    StopsBy message.unclosed_class [] (reading.after_dashes n flags negated dashes behind)
leading_ends {flags} {dashes} (ReadsLeading.some_dashes t rest set some same is) ends n negated = grind (arith, common_steps, stops_there)
leading_ends {flags} (ReadsLeading.bracket t next rest set empty begins same is) ends n negated = grind (arith, common_steps)
leading_ends {flags} (ReadsLeading.neither t rest set empty other same is) ends n negated =
    stops_so message.unclosed_class message.unclosed_class [] [] _ (ap₂ (reading.after_dashes n flags negated) empty (sym is ∙ ends)) refl refl

-- where the pattern ends before the first item of a class, the function stops
front_ends : {flags : Flags} {t items : Text} {negated : Bool} {leading : Set} → ReadsBracketFront flags t negated leading items → items ≡ [] →
    (n : ℕ) (next : Text) → t ≡ left_bracket ∷ next → length next ≤ n →
    StopsBy message.unclosed_class [] (reading.bracket n flags (skip flags next))
front_ends {flags} (ReadsBracketFront.front t other behind_caret behind_dashes dashes items negated leading from marked dashed leads) ends n next is room =
    let same : other ≡ next = same_behind left_bracket other next (sym from ∙ is) in
    let short : length behind_caret ≤ n = omega (arith, caret_shorter marked, skip_shorter flags other, ap length same) in
    subst (λ y. StopsBy message.unclosed_class [] (reading.bracket n flags (skip flags y))) same
    (by_length behind_caret short marked dashed)
  where
    by_length : (u : Text) → length u ≤ n → ReadsCaret flags (skip flags other) negated u → ReadsEach flags (single dash) u dashes behind_dashes →
        StopsBy message.unclosed_class [] (reading.bracket n flags (skip flags other))
    by_length [] short marked dashed = caret_ends marked refl n
    by_length (c ∷ u) short marked dashed =
        subst (StopsBy message.unclosed_class []) (sym (caret_leads marked (omega arith) n ∙ dashes_lead dashed n negated short)) (leading_ends leads ends n negated)

finished_first : (m : Message) (place : Text) (flags : Flags) (negated : Bool) (a : ReadResult Set) → StopsBy m place a → StopsBy m place (reading.finished flags negated a)
finished_first m place flags negated a first = and_stops m place a _ first

-- where the relation stops in a class in brackets, the function stops, no later
pub bracket_first : {flags : Flags} {t place : Text} {m : Message} → StuckBracket flags t m place →
    (n : ℕ) (next : Text) → t ≡ left_bracket ∷ next → length next ≤ n → StopsBy m place (reading.bracket n flags (skip flags next))
bracket_first {flags} (StuckBracket.ends_at_once t other place m from gap is names) n next begins room = grind (arith, common_steps, same_behind)
bracket_first {flags} (StuckBracket.ends_after_caret t other place m from marked is names) n next begins room = grind (arith, common_steps, same_behind, stops_so, negation_ends)
bracket_first {flags} (StuckBracket.ends_after_dashes t other behind_caret dashes place negated m from marked dashed some is names) n next begins room =
    let same : next ≡ other = same_behind left_bracket next other (sym begins ∙ from) in
    let short : length behind_caret ≤ n = omega (arith, caret_shorter marked, skip_shorter flags other, ap length same) in
    stops_so message.unclosed_after_dash m [] place _
    (ap (λ y. reading.bracket n flags (skip flags y)) same ∙ caret_leads marked (each_some dashed some) n ∙ dashes_lead dashed n negated short
    ∙ ap (reading.after_dashes n flags negated dashes) is ∙ dashes_end n flags negated dashes some) (sym is) (sym names)
bracket_first {flags} (StuckBracket.ends_after_bracket t other behind_caret more place negated m from marked bracketed gap is names) n next begins room =
    let same : next ≡ other = same_behind left_bracket next other (sym begins ∙ from) in
    let short : length behind_caret ≤ n = omega (arith, caret_shorter marked, skip_shorter flags other, ap length same) in
    let no_dash : ReadsEach flags (single dash) behind_caret [] behind_caret =
    ReadsEach.none behind_caret [] behind_caret (ap (next_is (single dash)) bracketed) refl refl in
    stops_so message.unclosed_after_bracket m [] place _
    (ap (λ y. reading.bracket n flags (skip flags y)) same ∙ caret_leads marked (omega (arith, ap length bracketed)) n ∙ dashes_lead no_dash n negated short
    ∙ ap (reading.after_dashes n flags negated []) bracketed ∙ ap (reading.after_bracket n flags negated) gap) (sym is) (sym names)
bracket_first {flags} (StuckBracket.in_members t items place negated leading m before r) n next begins room =
    by_items items before r
  where
    by_items : (u : Text) → ReadsBracketFront flags t negated leading u → StuckMembers flags u m place → StopsBy m place (reading.bracket n flags (skip flags next))
    by_items [] before r =
        let end = stuck_at_end r (skip_nil flags) in
        subst (λ x. StopsBy x place (reading.bracket n flags (skip flags next))) (sym end.1)
        (subst (λ y. StopsBy message.unclosed_class y (reading.bracket n flags (skip flags next))) (sym end.0) (front_ends before refl n next begins room))
    by_items (c ∷ u) before r =
        subst (StopsBy m place) (sym (front_leads before (omega arith) n next begins room))
        (finished_first m place flags negated (class_members n flags leading (c ∷ u))
        (members_first n leading (omega (arith, front_shorter before, ap length begins)) r))
