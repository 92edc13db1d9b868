-- Where the grammar's relations stop in a choice, the reader stops, no later.
use Rattle.std.proofs.lemmas.Grind.{common_steps}
use Rattle.std.proofs.Common.{◌≡◌, ℕ, zero, suc, ◌+◌, ◌<◌, ◌≤◌, ◌⊎◌, true, List, [], ◌∷◌, ◌++◌, length, refl, sym, ap, ◌∙◌, subst, inl, inr, ⊎_elim, arith, Ok, Err, Result, add-one, ltb-false, eqb-true, true≢false}
use Rattle.std.specs.Prelude.{codes, nat_lt}
use Rattle.std.proofs.lemmas.Bool.{cases_lt}
use Rattle.bites_spec.specs.Message as message
use Rattle.bites_spec.specs.Message.{Message, rank}
use Rattle.bites_spec.specs.Range.{Range}
use Rattle.bites_spec.specs.Class.{Set, Lists, single}
use Rattle.bites_spec.specs.Tree.{Tree, sequence_of}
use Rattle.bites_spec.specs.Pattern.{Text, Front, skip, next_is, one_of, question, star, plus, right_parenthesis, left_brace}
use Rattle.bites_spec.specs.OperatorFault.{StuckCount, greatest_number}
use Rattle.bites_spec.specs.EscapeFault.{StuckEscape}
use Rattle.bites_spec.specs.BracketFault.{StuckBracket}
use Rattle.bites_spec.specs.Group.{Opening, ReadsOpening}
use Rattle.bites_spec.specs.GroupFault.{StuckOpening}
use Rattle.bites_spec.specs.Fault as fault
use Rattle.bites_spec.specs.Fault.{StuckItem, StuckSequence, StuckChoice, ComesFirst}
use Rattle.bites_spec.specs.Reader as reading
use Rattle.bites_spec.specs.Reader.{Stop, ReadChoice, ReadResult, Reader, answer, stop, and_then, and_found, counted, at_operator, at_opened, behind_group, at_item, inner}
use Rattle.bites_spec.proofs.characters.EachLemmas.{skip_shorter}
use Rattle.bites_spec.proofs.characters.EscapeLemmas.{either_side}
use Rattle.bites_spec.proofs.grammar.ItemCounts as counts
use Rattle.bites_spec.proofs.grammar.ItemCounts.{stuck_count_shorter}
use Rattle.bites_spec.proofs.brackets.BracketLemmas as brackets
use Rattle.bites_spec.proofs.brackets.BracketLemmas.{stuck_escape_begins, stuck_bracket_begins, stuck_escape_shorter, stuck_bracket_shorter}
use Rattle.bites_spec.proofs.grammar.GroupLemmas as groups
use Rattle.bites_spec.proofs.grammar.GroupLemmas.{least_rank, opening_shorter, stuck_opening_shorter}
use Rattle.bites_spec.proofs.characters.ChoiceParts.{StopsBy}
use Rattle.bites_spec.proofs.grammar.ChoiceShorter.{item_shorter, sequence_shorter}
use Rattle.bites_spec.proofs.grammar.ChoiceBegins.{stuck_count_begins, stuck_opening_begins, opening_begins}
use Rattle.bites_spec.proofs.grammar.ChoiceSteps.{operator_stop, inner_step}
use Rattle.bites_spec.proofs.grammar.ChoiceLeads.{GoesOn, sequence_leads, item_leads}

-- the result is a stop that comes no later than this message at this place
pub record StopsFirst {A : Type 0} (m : Message) (place : Text) (a : Result A Stop) : Type 0 where
  pub at : Stop
  pub is : a ≡ Err at
  pub first : ComesFirst at.message at.place m place

stops_first : {A : Type 0} (m : Message) (place : Text) (a : ReadResult A) → StopsBy m place a → StopsFirst m place a
stops_first m place (Ok x) never = absurd never
stops_first m place (Err e) first = record { at = e; is = refl; first = first }

first_along : {A : Type 0} {m : Message} {place : Text} (a b : Result A Stop) → a ≡ b → StopsFirst m place b → StopsFirst m place a
first_along a b same s = record { at = s.at; is = same ∙ s.is; first = s.first }

-- a stop at this very place
stops_at : {A : Type 0} (m k : Message) (place at : Text) (a : Result A Stop) → a ≡ stop k at → k ≡ m → place ≡ at → StopsFirst m place a
stops_at m k place at a is names same = record { at = record { message = k; place = at }; is = is; first = inr (ap length same, omega (arith, ap rank names)) }

-- a stop comes first if the other fault stands after it, or at the same place with a message of no smaller rank
of_least_rank : (k m : Message) (place at : Text) → length place ≤ length at → (length place ≡ length at → rank k ≤ rank m) → ComesFirst k at m place
of_least_rank k m place at within ranks =
    ⊎_elim (λ (less : length place < length at). inl less) (λ (more : length at ≤ length place). inr (omega arith, ranks (omega arith))) (cases_lt (length place) (length at))

-- the fault stands after t, or no earlier than t with a message of rank at least 4
pub data Reaches (t : Text) (m : Message) (place : Text) : Type 0 where
  behind : length place < length t → Reaches t m place
  here : length place ≤ length t → 4 ≤ rank m → Reaches t m place

reaches_more : {t u place : Text} {m : Message} → Reaches t m place → length t ≤ length u → Reaches u m place
reaches_more (behind less) more = behind (omega arith)
reaches_more (here within high) more = here (omega arith) high

reaches_within : {t place : Text} {m : Message} → Reaches t m place → length place ≤ length t
reaches_within (behind less) = omega arith
reaches_within (here within high) = within

at_itself : {t place : Text} {m : Message} (k : Message) → place ≡ t → m ≡ k → 4 ≤ rank k → Reaches t m place
at_itself k same names high = here (omega (arith, ap length same)) (omega (arith, ap rank names))

mutual
  choice_reaches : {nest_limit depth : ℕ} {front : Front} {t place : Text} {m : Message} → StuckChoice nest_limit depth front t m place → Reaches t m place
  choice_reaches (fault.in_first depth front t place m s) = sequence_reaches s
  choice_reaches (fault.in_later depth front middle t more place nodes m r c) =
      behind (omega (arith, sequence_shorter r, reaches_within (choice_reaches c)))

  sequence_reaches : {nest_limit depth : ℕ} {front : Front} {t place : Text} {nodes : List Tree} {m : Message} → StuckSequence nest_limit depth front t nodes m place →
      Reaches t m place
  sequence_reaches (fault.later depth front middle t next place nodes more m i s) =
      behind (omega (arith, item_shorter i, reaches_within (sequence_reaches s), skip_shorter front.flags t))
  sequence_reaches (fault.here depth front t place nodes m i) = reaches_more (item_reaches i) (skip_shorter front.flags t)

  item_reaches : {nest_limit depth : ℕ} {front : Front} {t place : Text} {nodes : List Tree} {m : Message} → StuckItem nest_limit depth front t nodes m place → Reaches t m place
  item_reaches (fault.unclosed depth front t place nodes m is opened at names) = at_itself message.unclosed_group (at ∙ sym is) names (omega arith)
  item_reaches (fault.unopened depth front t rest place nodes m is opened at names) = at_itself message.unopened_group at names (omega arith)
  item_reaches (fault.no_node depth front t place nodes m is none at names) = at_itself message.nothing_to_repeat at names (omega arith)
  item_reaches (fault.no_node_to_count depth front t place nodes m is none at names) = at_itself message.nothing_to_count at names (omega arith)
  item_reaches (fault.in_count depth front t place nodes m some s) = behind (stuck_count_shorter s)
  item_reaches (fault.in_escape depth front t place nodes m s) = behind (stuck_escape_shorter s)
  item_reaches (fault.in_bracket depth front t place nodes m s) = behind (stuck_bracket_shorter s)
  item_reaches (fault.in_opening depth front t place nodes m s) = behind (stuck_opening_shorter s)
  item_reaches (fault.too_deep depth front inner t place nodes opening m r deep names) = behind (opening_shorter r)
  item_reaches (fault.in_group depth front inner t inside place nodes opening m r c) =
      behind (omega (arith, opening_shorter r, reaches_within (choice_reaches c)))

-- a stop remains a stop whatever was to follow
through : {A B : Type 0} {m : Message} {place : Text} (a : ReadResult A) (next : A → Text → Result B Stop) → StopsFirst m place a → StopsFirst m place (and_then a next)
through a next s = record { at = s.at; is = ap (λ x. and_then x next) s.is; first = s.first }

-- the reader stops where it stops after what leads there, or at a limit before
first_then : {nest_limit depth opens counts groups : ℕ} {rest place : Text} {m : Message} (a b : Result ReadChoice Stop) → GoesOn nest_limit depth opens counts groups rest a b →
    StopsFirst m place b → length place ≤ length rest → StopsFirst m place a
first_then a b (inl on) s within = first_along a b on s
first_then a b (inr limit) s within = record { at = limit.at; is = limit.is; first = inl (omega (arith, limit.before)) }

too_deep_first : {t place : Text} {m : Message} → Reaches t m place → ComesFirst message.too_much_nesting t m place
too_deep_first (behind less) = inl less
too_deep_first (here within high) = of_least_rank message.too_much_nesting _ _ _ within (λ _. high)

too_many_first : (m : Message) (place at : Text) → length place ≤ length at → ComesFirst message.too_many_groups at m place
too_many_first m place at within = of_least_rank message.too_many_groups m place at within (λ _. least_rank m)

module _ (list_of : Set → List Range) (lists : (set : Set) → Lists (list_of set) set) (nest_limit : ℕ) where
  module _ (go : Reader) (n depth : ℕ) (front : Front) (branches nodes : List Tree) where
    abbrev item : Text → Result ReadChoice Stop
    item t = at_item list_of nest_limit go n depth front branches nodes t

    end_first : (t : Text) (m : Message) (place : Text) → t ≡ [] → 0 < depth → place ≡ [] → m ≡ message.unclosed_group → StopsFirst m place (item t)
    end_first t m place is opened at names = grind (arith, common_steps)

    closing_first : (t rest : Text) (m : Message) (place : Text) → t ≡ right_parenthesis ∷ rest → depth ≡ 0 → place ≡ t → m ≡ message.unopened_group → StopsFirst m place (item t)
    closing_first t rest m place is closed at names = grind (arith, common_steps)

    mark_first : (m : Message) (place : Text) (c : ℕ) (u : Text) → (c ≡ question) ⊎ ((c ≡ star) ⊎ (c ≡ plus)) → nodes ≡ [] → place ≡ c ∷ u → m ≡ message.nothing_to_repeat →
        StopsFirst m place (item (c ∷ u))
    mark_first m place c u which none at names =
        stops_at m message.nothing_to_repeat place (c ∷ u) _
        (⊎_elim (λ (is : c ≡ question). ap (λ x. item (x ∷ u)) is ∙ empty question _ ∙ ap (λ x. stop message.nothing_to_repeat (x ∷ u)) (sym is))
        (λ others. ⊎_elim (λ (is : c ≡ star). ap (λ x. item (x ∷ u)) is ∙ empty star _ ∙ ap (λ x. stop message.nothing_to_repeat (x ∷ u)) (sym is))
        (λ (is : c ≡ plus). ap (λ x. item (x ∷ u)) is ∙ empty plus _ ∙ ap (λ x. stop message.nothing_to_repeat (x ∷ u)) (sym is)) others)
        which)
        (sym names) at
      where
        empty : (x : ℕ) (a : ReadResult reading.Bounds) →
            at_operator list_of nest_limit go depth front branches nodes message.nothing_to_repeat (x ∷ u) a ≡ stop message.nothing_to_repeat (x ∷ u)
        empty x a = ap (λ l. at_operator list_of nest_limit go depth front branches l message.nothing_to_repeat (x ∷ u) a) none

    no_node_first : (t : Text) (m : Message) (place : Text) → next_is (one_of (codes "?*+")) t ≡ true → nodes ≡ [] → place ≡ t → m ≡ message.nothing_to_repeat →
        StopsFirst m place (item t)
    no_node_first [] m place is none at names = absurd (true≢false (sym is))
    no_node_first (c ∷ u) m place is none at names = grind (arith, common_steps, mark_first, eqb-true, true≢false)

    brace_first : (t : Text) (m : Message) (place : Text) → next_is (single left_brace) t ≡ true → nodes ≡ [] → place ≡ t → m ≡ message.nothing_to_count →
        StopsFirst m place (item t)
    brace_first [] m place is none at names = absurd (true≢false (sym is))
    brace_first (c ∷ u) m place is none at names = grind (arith, common_steps, eqb-true)

    count_first : (t : Text) (m : Message) (place : Text) → 0 < length nodes → StuckCount front.flags t m place → length t ≤ n → StopsFirst m place (item t)
    count_first t m place some s fits =
        let b = stuck_count_begins s in
        let answers = counted n front.flags (skip front.flags b.0) in
        let f = stops_first m place answers (counts.count_first s n b.0 b.1 (omega (arith, ap length b.1))) in
        let operates = at_operator list_of nest_limit go depth front branches nodes message.nothing_to_count (left_brace ∷ b.0) in
        record {
          at = f.at;
          is = ap item b.1 ∙ ap operates f.is ∙ operator_stop list_of nest_limit go depth front branches nodes message.nothing_to_count (left_brace ∷ b.0) f.at some;
          first = f.first;
        }

    escape_first : (t : Text) (m : Message) (place : Text) → StuckEscape front.flags t m place → length t ≤ n → StopsFirst m place (item t)
    escape_first t m place s fits =
        let b = stuck_escape_begins s in
        let f = stops_first m place (reading.escape n front.flags b.0) (brackets.escape_first s n b.0 b.1 (omega (arith, ap length b.1))) in
        first_along (item t) _ (ap item b.1) (through (reading.escape n front.flags b.0) _ f)

    bracket_first : (t : Text) (m : Message) (place : Text) → StuckBracket front.flags t m place → length t ≤ n → StopsFirst m place (item t)
    bracket_first t m place s fits =
        let b = stuck_bracket_begins s in
        let f = stops_first m place (reading.bracket n front.flags (skip front.flags b.0)) (brackets.bracket_first s n b.0 b.1 (omega (arith, ap length b.1))) in
        first_along (item t) _ (ap item b.1) (through (reading.bracket n front.flags (skip front.flags b.0)) _ f)

    opening_first : (t : Text) (m : Message) (place : Text) → StuckOpening front t m place → StopsFirst m place (item t)
    opening_first t m place s =
        let b = stuck_opening_begins s in
        let f = stops_first m place (reading.opened front (skip front.flags b.0)) (groups.opened_first s b.0 b.1) in
        first_along (item t) _ (ap item b.1) (through (reading.opened front (skip front.flags b.0)) _ f)

    -- in a group: too many groups, too much nesting, or a fault inside
    group_first : {t inside : Text} {inner_front : Front} {opening : Opening} (m : Message) (place : Text) → ReadsOpening front t opening inner_front inside →
        Reaches inside m place → (depth + 1 ≤ nest_limit → StopsFirst m place (go (suc depth) inner_front [] [] inside)) → StopsFirst m place (item t)
    group_first {t} {inside} {inner_front} {opening} m place r reaches deeper =
        let b = opening_begins r in
        let goes_behind = at_opened list_of nest_limit go depth front branches nodes in
        ⊎_elim
        (λ (e : reading.opened front (skip front.flags b.0) ≡ answer (reading.group opening inner_front) inside).
        first_along (item t) (goes_behind (reading.group opening inner_front) inside) (ap item b.1 ∙ ap (λ a. and_then a goes_behind) e)
        (either_side (λ a. StopsFirst m place a) (nat_lt nest_limit (depth + 1)) _ _
        (λ deep. record { at = record { message = message.too_much_nesting; place = inside }; is = refl; first = too_deep_first reaches })
        (λ room. (let s = deeper (ltb-false nest_limit (depth + 1) room) in
        record { at = s.at; is = ap (λ a. and_found a (behind_group list_of nest_limit go depth front branches nodes opening)) s.is; first = s.first }))))
        (λ (over : (at : Text) × (reading.opened front (skip front.flags b.0) ≡ stop message.too_many_groups at) × (length inside ≤ length at) × (greatest_number < inner_front.groups)).
        record {
          at = record { message = message.too_many_groups; place = over.0 };
          is = ap item b.1 ∙ ap (λ a. and_then a goes_behind) over.1;
          first = too_many_first m place over.0 (omega (arith, over.2, reaches_within reaches));
        })
        (groups.opened_leads r b.0 b.1)

  mutual
    -- where a choice has a fault, the reader stops, no later
    pub choice_first : {depth : ℕ} {front : Front} {t place : Text} {m : Message} → StuckChoice nest_limit depth front t m place → (n : ℕ) (branches : List Tree) →
        length t < n → StopsFirst m place (inner list_of nest_limit n depth front branches [] t)
    choice_first (fault.in_first depth front t place m s) n branches fits = sequence_first s n branches fits
    choice_first (fault.in_later depth front middle t more place nodes m r c) n branches fits =
        let led = sequence_leads list_of lists nest_limit r n depth branches fits in
        first_then _ (inner list_of nest_limit led.0 depth middle (branches ++ sequence_of nodes ∷ []) [] more) led.2
        (choice_first c led.0 (branches ++ sequence_of nodes ∷ []) (omega (arith, led.1))) (omega (arith, reaches_within (choice_reaches c)))

    sequence_first : {depth : ℕ} {front : Front} {t place : Text} {nodes : List Tree} {m : Message} → StuckSequence nest_limit depth front t nodes m place →
        (n : ℕ) (branches : List Tree) → length t < n → StopsFirst m place (inner list_of nest_limit n depth front branches nodes t)
    sequence_first (fault.later depth front middle t next place nodes more m i s) zero branches fits = absurd (omega arith)
    sequence_first (fault.here depth front t place nodes m i) zero branches fits = absurd (omega arith)
    sequence_first (fault.later depth front middle t next place nodes more m i s) (suc n) branches fits =
        let led = item_leads list_of lists nest_limit i n depth branches (omega (arith, skip_shorter front.flags t)) in
        first_along _ _ (inner_step list_of nest_limit n depth front branches nodes t)
        (first_then _ (inner list_of nest_limit n depth middle branches more next) led
        (sequence_first s n branches (omega (arith, item_shorter i, skip_shorter front.flags t))) (reaches_within (sequence_reaches s)))
    sequence_first (fault.here depth front t place nodes m i) (suc n) branches fits =
        first_along _ _ (inner_step list_of nest_limit n depth front branches nodes t) (item_first i n branches (omega (arith, skip_shorter front.flags t)))

    item_first : {depth : ℕ} {front : Front} {t place : Text} {nodes : List Tree} {m : Message} → StuckItem nest_limit depth front t nodes m place →
        (n : ℕ) (branches : List Tree) → length t ≤ n → StopsFirst m place (at_item list_of nest_limit (inner list_of nest_limit n) n depth front branches nodes t)
    item_first (fault.unclosed depth front t place nodes m is opened at names) n branches fits =
        end_first (inner list_of nest_limit n) n depth front branches nodes t m place is opened at names
    item_first (fault.unopened depth front t rest place nodes m is closed at names) n branches fits =
        closing_first (inner list_of nest_limit n) n depth front branches nodes t rest m place is closed at names
    item_first (fault.no_node depth front t place nodes m is none at names) n branches fits =
        no_node_first (inner list_of nest_limit n) n depth front branches nodes t m place is none at names
    item_first (fault.no_node_to_count depth front t place nodes m is none at names) n branches fits =
        brace_first (inner list_of nest_limit n) n depth front branches nodes t m place is none at names
    item_first (fault.in_count depth front t place nodes m some s) n branches fits =
        count_first (inner list_of nest_limit n) n depth front branches nodes t m place some s fits
    item_first (fault.in_escape depth front t place nodes m s) n branches fits = escape_first (inner list_of nest_limit n) n depth front branches nodes t m place s fits
    item_first (fault.in_bracket depth front t place nodes m s) n branches fits = bracket_first (inner list_of nest_limit n) n depth front branches nodes t m place s fits
    item_first (fault.in_opening depth front t place nodes m s) n branches fits = opening_first (inner list_of nest_limit n) n depth front branches nodes t m place s
    item_first (fault.too_deep depth front inner_front t place nodes opening m r deep names) n branches fits =
        group_first (inner list_of nest_limit n) n depth front branches nodes m place r (at_itself message.too_much_nesting refl names (omega arith))
        (λ room. absurd (omega arith))
    item_first (fault.in_group depth front inner_front t inside place nodes opening m r c) n branches fits =
        group_first (inner list_of nest_limit n) n depth front branches nodes m place r (choice_reaches c)
        (λ room.
        subst (λ (d : ℕ). StopsFirst m place (inner list_of nest_limit n d inner_front [] [] inside)) (add-one depth)
        (choice_first c n [] (omega (arith, opening_shorter r))))
