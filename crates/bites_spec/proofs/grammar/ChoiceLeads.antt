-- The reader reads each choice that the grammar's relations read, or it stops at a limit.
use Rattle.std.proofs.Common.{◌≡◌, ℕ, zero, suc, ◌+◌, ◌<◌, ◌≤◌, ◌⊎◌, Bool, List, [], ◌∷◌, ◌++◌, length, max, refl, sym, ap, ap₂, ◌∙◌, inl, inr, ⊎_elim, arith, Option, Some, None, Err, Result, append_assoc, ltb-true, length-append}
use Rattle.std.specs.Prelude.{nat_lt}
use Rattle.bites_spec.specs.Message as message
use Rattle.bites_spec.specs.Message.{Message}
use Rattle.bites_spec.specs.Range.{Range}
use Rattle.bites_spec.specs.Class.{Set, Lists}
use Rattle.bites_spec.specs.Tree as tree
use Rattle.bites_spec.specs.Tree.{Tree, sequence_of, repetition_of}
use Rattle.bites_spec.specs.Pattern.{Text, Flags, Front, skip, ReadsLazy, question, star, plus, backslash, right_parenthesis, left_bracket, left_brace}
use Rattle.bites_spec.specs.Operator as operator
use Rattle.bites_spec.specs.Operator.{ReadsOperator, is_greedy}
use Rattle.bites_spec.specs.OperatorFault.{greatest_number}
use Rattle.bites_spec.specs.Escape.{Meaning, ReadsEscape}
use Rattle.bites_spec.specs.Bracket.{ReadsBracket}
use Rattle.bites_spec.specs.Group.{Opening, ReadsOpening}
use Rattle.bites_spec.specs.Grammar as grammar
use Rattle.bites_spec.specs.Grammar.{ReadsAtom, ReadsItem, ReadsSequence, ReadsChoice, group_of}
use Rattle.bites_spec.specs.Measure.{open_in_choice, open_in_sequence, open_in_item, count_in_choice, count_in_sequence, count_in_item}
use Rattle.bites_spec.specs.Reader as reading
use Rattle.bites_spec.specs.Reader.{Stop, ReadChoice, Reader, answer, stop, found, and_then, and_found, lazy, counted, plain_operator, at_operator, at_opened, behind_group, at_item, inner}
use Rattle.bites_spec.proofs.characters.EachLemmas.{skip_shorter}
use Rattle.bites_spec.proofs.characters.EscapeLemmas.{either_side}
use Rattle.bites_spec.proofs.classes.RangeLemmas.{lists_once}
use Rattle.bites_spec.proofs.characters.ChoiceParts.{ReadsDirective, most_of}
use Rattle.bites_spec.proofs.grammar.ItemCounts as counts
use Rattle.bites_spec.proofs.brackets.BracketLemmas as brackets
use Rattle.bites_spec.proofs.brackets.BracketLemmas.{escape_begins, bracket_begins}
use Rattle.bites_spec.proofs.grammar.GroupLemmas as groups
use Rattle.bites_spec.proofs.grammar.GroupLemmas.{opening_shorter}
use Rattle.bites_spec.proofs.grammar.ChoiceShorter.{item_shorter, sequence_shorter, choice_shorter}
use Rattle.bites_spec.proofs.grammar.ChoiceBegins.{opening_begins, choice_groups, sequence_groups}
use Rattle.bites_spec.proofs.grammar.ChoiceSound.{EndsChoice}
use Rattle.bites_spec.proofs.grammar.ChoiceSteps.{lazy_complete, operator_step, operator_stop, literal_step, inner_step}

-- the limit that the message names is passed
pub data Passes (nest_limit depth opens counts groups : ℕ) (m : Message) : Type 0 where
  by_nesting : m ≡ message.too_much_nesting → nest_limit < depth + opens → Passes nest_limit depth opens counts groups m
  by_count : m ≡ message.invalid_decimal → greatest_number < counts → Passes nest_limit depth opens counts groups m
  by_number : m ≡ message.too_many_groups → greatest_number < groups → Passes nest_limit depth opens counts groups m

passes_more : {nest_limit depth opens counts groups o c g : ℕ} {m : Message} → opens ≤ o → counts ≤ c → groups ≤ g →
    Passes nest_limit depth opens counts groups m → Passes nest_limit depth o c g m
passes_more a b d (by_nesting is more) = by_nesting is (omega arith)
passes_more a b d (by_count is more) = by_count is (omega arith)
passes_more a b d (by_number is more) = by_number is (omega arith)

passes_outside : {nest_limit depth opens counts groups : ℕ} {m : Message} → Passes nest_limit (suc depth) opens counts groups m →
    Passes nest_limit depth (suc opens) counts groups m
passes_outside (by_nesting is more) = by_nesting is (omega arith)
passes_outside (by_count is more) = by_count is more
passes_outside (by_number is more) = by_number is more

-- the result is a stop before this place, at a limit that is passed
pub record StopsAtLimit (nest_limit depth opens counts groups : ℕ) (rest : Text) (a : Result ReadChoice Stop) : Type 0 where
  pub at : Stop
  pub is : a ≡ Err at
  pub before : length rest < length at.place
  pub passes : Passes nest_limit depth opens counts groups at.message

-- a stop within some reading is one within a longer reading
limit_more : {nest_limit depth opens counts groups o c g : ℕ} {rest end : Text} {a b : Result ReadChoice Stop} → StopsAtLimit nest_limit depth opens counts groups rest b →
    a ≡ b → opens ≤ o → counts ≤ c → groups ≤ g → length end ≤ length rest → StopsAtLimit nest_limit depth o c g end a
limit_more s same x y z shorter =
    record { at = s.at; is = same ∙ s.is; before = omega (arith, s.before); passes = passes_more x y z s.passes }

-- the result is what the reader returns from here on, or a stop at a limit
abbrev pub GoesOn : ℕ → ℕ → ℕ → ℕ → ℕ → Text → Result ReadChoice Stop → Result ReadChoice Stop → Type 0
GoesOn nest_limit depth opens counts groups rest a b = (a ≡ b) ⊎ StopsAtLimit nest_limit depth opens counts groups rest a

goes_along : {nest_limit depth opens counts groups : ℕ} {rest : Text} (a b c : Result ReadChoice Stop) → a ≡ b → GoesOn nest_limit depth opens counts groups rest b c →
    GoesOn nest_limit depth opens counts groups rest a c
goes_along a b c same (inl on) = inl (same ∙ on)
goes_along a b c same (inr s) = inr (limit_more s same (omega arith) (omega arith) (omega arith) (omega arith))

-- a result within some reading is one within a longer reading
goes_more : {nest_limit depth opens counts groups o c g : ℕ} {rest end : Text} (a b d : Result ReadChoice Stop) → GoesOn nest_limit depth opens counts groups rest a b → b ≡ d →
    opens ≤ o → counts ≤ c → groups ≤ g → length end ≤ length rest → GoesOn nest_limit depth o c g end a d
goes_more a b d (inl on) same x y z shorter = inl (on ∙ same)
goes_more a b d (inr s) same x y z shorter = inr (limit_more s refl x y z shorter)

-- two readings, one after the other
goes_then : {nest_limit depth opens counts groups o c g : ℕ} {rest end : Text} (a b d : Result ReadChoice Stop) → GoesOn nest_limit depth opens counts groups rest a b →
    GoesOn nest_limit depth o c g end b d → groups ≤ g → length end ≤ length rest → GoesOn nest_limit depth (max opens o) (max counts c) g end a d
goes_then {depth = depth} a b d (inl on) second grow shorter =
    goes_along a b d on (goes_more b d d second refl (omega arith) (omega arith) (omega arith) (omega arith))
goes_then a b d (inr s) second grow shorter = inr (limit_more s refl (omega arith) (omega arith) grow shorter)

some_nodes : (nodes before : List Tree) (last : Tree) → nodes ≡ before ++ last ∷ [] → 0 < length nodes
some_nodes nodes before last is = omega (arith, ap length is, length-append before (last ∷ []))

module _ (list_of : Set → List Range) (lists : (set : Set) → Lists (list_of set) set) (nest_limit : ℕ) where
  module _ (go : Reader) (n depth : ℕ) (front : Front) (branches nodes : List Tree) where
    -- the node that the reader makes of a set
    same_node : (set : Set) (ranges : List Range) (node : Tree) (rest : Text) → Lists ranges set → node ≡ tree.class ranges →
        go depth front branches (nodes ++ tree.class (list_of set) ∷ []) rest ≡ go depth front branches (nodes ++ node ∷ []) rest
    same_node set ranges node rest l is =
        ap (λ x. go depth front branches (nodes ++ x ∷ []) rest) (ap tree.class (lists_once set (list_of set) ranges (lists set) l) ∙ sym is)

    with_node : (a b : Tree) (rest : Text) → b ≡ a → go depth front branches (nodes ++ a ∷ []) rest ≡ go depth front branches (nodes ++ b ∷ []) rest
    with_node a b rest is = ap (λ x. go depth front branches (nodes ++ x ∷ []) rest) (sym is)

    abbrev item : Text → Result ReadChoice Stop
    item t = at_item list_of nest_limit go n depth front branches nodes t

    escape_leads : (meaning : Meaning) (t next rest : Text) → ReadsEscape front.flags t meaning rest → t ≡ backslash ∷ next → length t ≤ n →
        item t ≡ go depth front branches (nodes ++ reading.node_of list_of nest_limit front.flags meaning ∷ []) rest
    escape_leads meaning t next rest r is fits =
        ap item is
        ∙ ap (λ a. and_then a (λ x u. go depth front branches (nodes ++ reading.node_of list_of nest_limit front.flags x ∷ []) u))
        (brackets.escape_leads r n next is (omega (arith, ap length is)))

    bracket_leads : (ranges : List Range) (node : Tree) (t next rest : Text) → ReadsBracket front.flags t ranges rest → t ≡ left_bracket ∷ next → length t ≤ n →
        node ≡ tree.class ranges → item t ≡ go depth front branches (nodes ++ node ∷ []) rest
    bracket_leads ranges node t next rest r is fits same =
        let led = brackets.bracket_leads r n next is (omega (arith, ap length is)) in
        ap item is
        ∙ ap (λ a. and_then a (λ set u. go depth front branches (nodes ++ tree.class (list_of set) ∷ []) u)) led.1
        ∙ same_node led.0 ranges node rest led.2 same

    -- the reader makes the same node of each atom
    pub atom_leads : {t rest : Text} {node : Tree} → ReadsAtom front.flags t node rest → length t ≤ n → item t ≡ go depth front branches (nodes ++ node ∷ []) rest
    atom_leads (grammar.literal c t rest node is plain same) fits =
        ap item is ∙ literal_step list_of nest_limit go n depth front branches nodes c rest plain ∙ with_node _ node rest same
    atom_leads (grammar.any t rest node ranges is l same) fits = ap item is ∙ same_node _ ranges node rest l same
    atom_leads (grammar.line_start t rest node is same) fits = ap item is ∙ with_node _ node rest same
    atom_leads (grammar.line_end t rest node is same) fits = ap item is ∙ with_node _ node rest same
    atom_leads (grammar.bracket t rest node ranges r same) fits = let b = bracket_begins r in bracket_leads ranges node t b.0 rest r b.1 fits same
    atom_leads (grammar.escaped_character c t rest node r same) fits = let b = escape_begins r in escape_leads _ t b.0 rest r b.1 fits ∙ with_node _ node rest same
    atom_leads (grammar.escaped_class set t rest node ranges r l same) fits =
        let b = escape_begins r in escape_leads _ t b.0 rest r b.1 fits ∙ same_node set ranges node rest l same
    atom_leads (grammar.escaped_assertion l t rest node r same) fits = let b = escape_begins r in escape_leads _ t b.0 rest r b.1 fits ∙ with_node _ node rest same

    -- an operator after a node
    plain_leads : (t : Text) {next rest : Text} {min : ℕ} {most : Option ℕ} {greedy mark : Bool} (before : List Tree) (last : Tree) (m : Message) (u : Text) (least : ℕ) (greatest : Option ℕ) →
        nodes ≡ before ++ last ∷ [] → item t ≡ at_operator list_of nest_limit go depth front branches nodes m u (plain_operator front.flags least greatest (lazy next)) →
        ReadsLazy next mark rest → min ≡ least → most ≡ greatest → greedy ≡ is_greedy front.flags mark →
        item t ≡ go depth front branches (before ++ repetition_of min most greedy last ∷ []) rest
    plain_leads t {rest = rest} {min} {most} {greedy} {mark} before last m u least greatest is here l a b g =
        let answers : plain_operator front.flags least greatest (mark, rest) ≡ answer (min, most, greedy) rest = rw (a, b, g) refl in
        here ∙ ap (λ x. at_operator list_of nest_limit go depth front branches nodes m u (plain_operator front.flags least greatest x)) (lazy_complete l)
        ∙ ap (at_operator list_of nest_limit go depth front branches nodes m u) answers
        ∙ operator_step list_of nest_limit go depth front branches nodes before last m u (min, most, greedy) rest is

    braces_lead : {t rest : Text} {min : ℕ} {most : Option ℕ} {greedy : Bool} (next : Text) → ReadsOperator front.flags t min most greedy rest → t ≡ left_brace ∷ next →
        length t ≤ n → (before : List Tree) (last : Tree) → nodes ≡ before ++ last ∷ [] →
        GoesOn nest_limit depth 0 (most_of min most) front.groups rest (item t) (go depth front branches (before ++ repetition_of min most greedy last ∷ []) rest)
    braces_lead {t} {rest} {min} {most} {greedy} next r is fits before last nodes_are =
        let go_at = at_operator list_of nest_limit go depth front branches nodes message.nothing_to_count (left_brace ∷ next) in
        ⊎_elim
        (λ (led : (counted n front.flags (skip front.flags next) ≡ answer (min, most, greedy) rest) × (most_of min most ≤ greatest_number)).
        inl (ap item is ∙ ap go_at led.0
        ∙ operator_step list_of nest_limit go depth front branches nodes before last message.nothing_to_count (left_brace ∷ next) (min, most, greedy) rest nodes_are))
        (λ (over : (place : Text) × (counted n front.flags (skip front.flags next) ≡ stop message.invalid_decimal place) × (length rest < length place) × (greatest_number < most_of min most)).
        inr (record {
          at = record { message = message.invalid_decimal; place = over.0 };
          is = ap item is ∙ ap go_at over.1
              ∙ operator_stop list_of nest_limit go depth front branches nodes message.nothing_to_count (left_brace ∷ next) _ (some_nodes nodes before last nodes_are);
          before = over.2;
          passes = by_count refl over.3;
        }))
        (counts.count_leads r n next is (omega (arith, ap length is)))

    operator_leads : {t rest : Text} {min : ℕ} {most : Option ℕ} {greedy : Bool} → ReadsOperator front.flags t min most greedy rest →
        length t ≤ n → (before : List Tree) (last : Tree) → nodes ≡ before ++ last ∷ [] →
        GoesOn nest_limit depth 0 (most_of min most) front.groups rest (item t) (go depth front branches (before ++ repetition_of min most greedy last ∷ []) rest)
    operator_leads (operator.optional t next rest min most mark greedy is l a b g) fits before last nodes_are =
        inl (plain_leads t before last message.nothing_to_repeat (question ∷ next) 0 (Some 1) nodes_are (ap item is) l a b g)
    operator_leads (operator.any_number t next rest min most mark greedy is l a b g) fits before last nodes_are =
        inl (plain_leads t before last message.nothing_to_repeat (star ∷ next) 0 None nodes_are (ap item is) l a b g)
    operator_leads (operator.at_least_once t next rest min most mark greedy is l a b g) fits before last nodes_are =
        inl (plain_leads t before last message.nothing_to_repeat (plus ∷ next) 1 None nodes_are (ap item is) l a b g)
    operator_leads (operator.exactly t next behind rest min most mark greedy is d l a g) fits before last nodes_are =
        braces_lead next (operator.exactly t next behind rest min most mark greedy is d l a g) is fits before last nodes_are
    operator_leads (operator.at_least t next more behind rest min most mark greedy is d e l a g) fits before last nodes_are =
        braces_lead next (operator.at_least t next more behind rest min most mark greedy is d e l a g) is fits before last nodes_are
    operator_leads (operator.between t next more behind rest min top most mark greedy is d e l a b g) fits before last nodes_are =
        braces_lead next (operator.between t next more behind rest min top most mark greedy is d e l a b g) is fits before last nodes_are

    -- a directive changes the flags for what follows
    directive_leads : {t rest : Text} {flags : Flags} → ReadsDirective front t flags rest → item t ≡ go depth (record front { flags = flags }) branches nodes rest
    directive_leads {t} {rest} {flags} d =
        ap item d.opens ∙ ap (λ a. and_then a (at_opened list_of nest_limit go depth front branches nodes)) (groups.directive_leads d d.next d.opens)

    group_leads : {t inside : Text} {inner_front : Front} {opening : Opening} (middle : Front) (rest : Text) (all : List Tree) (opens counts : ℕ) →
        ReadsOpening front t opening inner_front inside → length (right_parenthesis ∷ rest) ≤ length inside → inner_front.groups ≤ middle.groups →
        GoesOn nest_limit (suc depth) opens counts middle.groups (right_parenthesis ∷ rest) (go (suc depth) inner_front [] [] inside)
        (found all middle (right_parenthesis ∷ rest)) →
        GoesOn nest_limit depth (suc opens) counts middle.groups rest (item t)
        (go depth (record middle { flags = front.flags }) branches (nodes ++ group_of opening front.groups all ∷ []) rest)
    group_leads {t} {inside} {inner_front} {opening} middle rest all opens counts r shorter grow led =
        let b = opening_begins r in
        let behind = at_opened list_of nest_limit go depth front branches nodes in
        let last = go depth (record middle { flags = front.flags }) branches (nodes ++ group_of opening front.groups all ∷ []) rest in
        ⊎_elim
        (λ (e : reading.opened front (skip front.flags b.0) ≡ answer (reading.group opening inner_front) inside).
        goes_along (item t) (behind (reading.group opening inner_front) inside) last (ap item b.1 ∙ ap (λ a. and_then a behind) e)
        (either_side (λ a. GoesOn nest_limit depth (suc opens) counts middle.groups rest a last) (nat_lt nest_limit (depth + 1)) _ _
        (λ deep. inr (record { at = record { message = message.too_much_nesting; place = inside }; is = refl; before = omega (arith, shorter); passes = by_nesting refl (omega (arith, ltb-true nest_limit (depth + 1) deep)) }))
        (λ room. ⊎_elim
        (λ (on : go (suc depth) inner_front [] [] inside ≡ found all middle (right_parenthesis ∷ rest)).
        inl (ap (λ a. and_found a (behind_group list_of nest_limit go depth front branches nodes opening)) on))
        (λ (s : StopsAtLimit nest_limit (suc depth) opens counts middle.groups (right_parenthesis ∷ rest) (go (suc depth) inner_front [] [] inside)).
        inr (record { at = s.at; is = ap (λ a. and_found a (behind_group list_of nest_limit go depth front branches nodes opening)) s.is; before = omega (arith, s.before); passes = passes_outside s.passes }))
        led)))
        (λ (over : (place : Text) × (reading.opened front (skip front.flags b.0) ≡ stop message.too_many_groups place) × (length inside ≤ length place) × (greatest_number < inner_front.groups)).
        inr (record {
          at = record { message = message.too_many_groups; place = over.0 };
          is = ap item b.1 ∙ ap (λ a. and_then a behind) over.1;
          before = omega (arith, over.2, shorter);
          passes = by_number refl (omega (arith, over.3, grow));
        }))
        (groups.opened_leads r b.0 b.1)

  same_end : (n depth : ℕ) (branches : List Tree) (front behind : Front) (nodes all : List Tree) (rest : Text) → all ≡ nodes → behind ≡ front →
      inner list_of nest_limit n depth front branches nodes rest ≡ inner list_of nest_limit n depth behind branches all rest
  same_end n depth branches front behind nodes all rest same is = ap₂ (λ f l. inner list_of nest_limit n depth f branches l rest) (sym is) (sym same)

  -- where a choice ends, the reader finds it
  end_found : (go : Reader) (k depth : ℕ) (front : Front) (branches nodes : List Tree) (rest : Text) → EndsChoice depth rest →
      at_item list_of nest_limit go k depth front branches nodes rest ≡ found (branches ++ sequence_of nodes ∷ []) front rest
  end_found go k zero front branches nodes rest ends =
      ap (at_item list_of nest_limit go k 0 front branches nodes) ends ∙ ap (found (branches ++ sequence_of nodes ∷ []) front) (sym ends)
  end_found go k (suc depth) front branches nodes rest ends =
      ap (at_item list_of nest_limit go k (suc depth) front branches nodes) ends.1 ∙ ap (found (branches ++ sequence_of nodes ∷ []) front) (sym ends.1)

  mutual
    -- the reader reads each choice that the relations read, or stops at a limit
    pub choice_leads : {front behind : Front} {t rest : Text} {all : List Tree} (c : ReadsChoice front t all behind rest) (n depth : ℕ) (branches : List Tree) →
        length t < n → EndsChoice depth rest →
        GoesOn nest_limit depth (open_in_choice c) (count_in_choice c) behind.groups rest (inner list_of nest_limit n depth front branches [] t)
        (found (branches ++ all) behind rest)
    choice_leads (grammar.one front behind t rest nodes all s is) n depth branches fits ends =
        let led = sequence_leads s n depth branches fits in
        goes_more _ (at_item list_of nest_limit (inner list_of nest_limit led.0) led.0 depth behind branches nodes rest) (found (branches ++ all) behind rest) led.2
        (end_found (inner list_of nest_limit led.0) led.0 depth behind branches nodes rest ends ∙ ap (λ l. found (branches ++ l) behind rest) (sym is))
        (omega arith) (omega arith) (omega arith) (omega arith)
    choice_leads (grammar.several front middle behind t more rest nodes others all s c is) n depth branches fits ends =
        let led = sequence_leads s n depth branches fits in
        let later = choice_leads c led.0 depth (branches ++ sequence_of nodes ∷ []) (omega (arith, led.1)) ends in
        goes_then _ (inner list_of nest_limit led.0 depth middle (branches ++ sequence_of nodes ∷ []) [] more) (found (branches ++ all) behind rest) led.2
        (goes_more _ (found ((branches ++ sequence_of nodes ∷ []) ++ others) behind rest) (found (branches ++ all) behind rest) later
        (ap (λ l. found l behind rest) (append_assoc branches (sequence_of nodes ∷ []) others) ∙ ap (λ l. found (branches ++ l) behind rest) (sym is))
        (omega arith) (omega arith) (omega arith) (omega arith))
        (choice_groups c) (omega (arith, choice_shorter c))

    -- the reader reads each sequence and arrives at its end, or stops at a limit
    pub sequence_leads : {front behind : Front} {t rest : Text} {nodes all : List Tree} (s : ReadsSequence front t nodes all behind rest) (n depth : ℕ) (branches : List Tree) →
        length t < n →
        (k : ℕ) × (length rest ≤ k)
        × GoesOn nest_limit depth (open_in_sequence s) (count_in_sequence s) behind.groups rest (inner list_of nest_limit n depth front branches nodes t)
        (at_item list_of nest_limit (inner list_of nest_limit k) k depth behind branches all rest)
    sequence_leads (grammar.ends front behind t rest nodes all at ends same is) zero depth branches fits = absurd (omega arith)
    sequence_leads (grammar.goes_on front middle behind t next rest nodes more all i s) zero depth branches fits = absurd (omega arith)
    sequence_leads (grammar.ends front behind t rest nodes all at ends same is) (suc n) depth branches fits = (
      n,
      omega (arith, ap length at, skip_shorter front.flags t),
      inl (inner_step list_of nest_limit n depth front branches nodes t
          ∙ ap (λ x. at_item list_of nest_limit (inner list_of nest_limit n) n depth front branches nodes x) (sym at)
          ∙ ap (λ x. at_item list_of nest_limit (inner list_of nest_limit n) n depth front branches x rest) (sym same)
          ∙ ap (λ x. at_item list_of nest_limit (inner list_of nest_limit n) n depth x branches all rest) (sym is)),
    )
    sequence_leads (grammar.goes_on front middle behind t next rest nodes more all i s) (suc n) depth branches fits =
        let led = item_leads i n depth branches (omega (arith, skip_shorter front.flags t)) in
        let later = sequence_leads s n depth branches (omega (arith, item_shorter i, skip_shorter front.flags t)) in (
          later.0,
          later.1,
          goes_then _ (inner list_of nest_limit n depth middle branches more next) _
              (goes_along (inner list_of nest_limit (suc n) depth front branches nodes t) (at_item list_of nest_limit (inner list_of nest_limit n) n depth front branches nodes (skip front.flags t)) _
              (inner_step list_of nest_limit n depth front branches nodes t) led)
              later.2 (sequence_groups s) (sequence_shorter s),
        )

    -- the reader reads each item and goes on after it, or stops at a limit
    pub item_leads : {front behind : Front} {t rest : Text} {nodes all : List Tree} (i : ReadsItem front t nodes all behind rest) (n depth : ℕ) (branches : List Tree) →
        length t ≤ n →
        GoesOn nest_limit depth (open_in_item i) (count_in_item i) behind.groups rest
        (at_item list_of nest_limit (inner list_of nest_limit n) n depth front branches nodes t) (inner list_of nest_limit n depth behind branches all rest)
    item_leads (grammar.atom front behind t rest nodes all node r is same) n depth branches fits =
        inl (atom_leads (inner list_of nest_limit n) n depth front branches nodes r fits ∙ same_end n depth branches _ _ _ _ rest is same)
    item_leads (grammar.operator front behind t rest nodes all before last min most greedy r is same unchanged) n depth branches fits =
        goes_more _ (inner list_of nest_limit n depth front branches (before ++ repetition_of min most greedy last ∷ []) rest) _
        (operator_leads (inner list_of nest_limit n) n depth front branches nodes r fits before last is) (same_end n depth branches _ _ _ _ rest same unchanged)
        (omega arith) (omega arith) (omega (arith, ap (λ f. f.groups) unchanged)) (omega arith)
    item_leads (grammar.directive front behind t next marks run rest c letters nodes all is asks r some same changes) n depth branches fits =
        inl (directive_leads (inner list_of nest_limit n) n depth front branches nodes
        (record { next = next; marks = marks; run = run; c = c; letters = letters; opens = is; asks = asks; reads = r; some = some; are = refl })
        ∙ same_end n depth branches _ _ _ _ rest same changes)
    item_leads (grammar.group front inner_front middle behind t inside rest nodes all bs opening o c is same) n depth branches fits =
        goes_more _ (inner list_of nest_limit n depth (record middle { flags = front.flags }) branches (nodes ++ group_of opening front.groups bs ∷ []) rest) _
        (group_leads (inner list_of nest_limit n) n depth front branches nodes middle rest bs (open_in_choice c) (count_in_choice c) o (choice_shorter c) (choice_groups c)
        (choice_leads c n (suc depth) [] (omega (arith, opening_shorter o)) (rest, refl)))
        (same_end n depth branches _ _ _ _ rest is same) (omega arith) (omega arith) (omega (arith, ap (λ f. f.groups) same)) (omega arith)
