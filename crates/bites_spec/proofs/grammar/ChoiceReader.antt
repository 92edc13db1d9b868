-- What the reader returns for a choice, the grammar's relations read.
use Rattle.std.proofs.lemmas.Grind.{common_steps}
use Rattle.std.proofs.Common.{◌≡◌, ℕ, zero, suc, ◌+◌, ◌<◌, ◌≤◌, Bool, true, ◌==◌, List, [], ◌∷◌, ◌++◌, length, drop, refl, sym, ap, ◌∙◌, subst, arith, Option, Some, None, Ok, Err, Result, eqb-true, ltb-true, ltb-false, add-one}
use Rattle.std.specs.Prelude.{codes, nat_lt}
use Rattle.bites_spec.specs.Message as message
use Rattle.bites_spec.specs.Message.{Message}
use Rattle.bites_spec.specs.Range.{Range}
use Rattle.bites_spec.specs.Class
use Rattle.bites_spec.specs.Class.{Set, Lists}
use Rattle.bites_spec.specs.Tree as tree
use Rattle.bites_spec.specs.Tree.{Tree, sequence_of}
use Rattle.bites_spec.specs.Pattern as pattern
use Rattle.bites_spec.specs.Pattern.{Text, Flags, Front, skip, bar, question, star, plus, dot, caret, dollar, backslash, left_parenthesis, right_parenthesis, left_bracket, left_brace, ReadsLazy}
use Rattle.bites_spec.specs.Operator as operator
use Rattle.bites_spec.specs.Operator.{ReadsOperator, is_greedy}
use Rattle.bites_spec.specs.OperatorFault.{StuckCount, greatest_number}
use Rattle.bites_spec.specs.Escape.{Meaning, character, characters, assertion, ReadsEscape}
use Rattle.bites_spec.specs.EscapeFault.{StuckEscape}
use Rattle.bites_spec.specs.Bracket.{ReadsBracket}
use Rattle.bites_spec.specs.BracketFault.{StuckBracket}
use Rattle.bites_spec.specs.Group.{Opening, ReadsOpening}
use Rattle.bites_spec.specs.GroupFault.{StuckOpening}
use Rattle.bites_spec.specs.Grammar as grammar
use Rattle.bites_spec.specs.Grammar.{ReadsAtom, ReadsItem, group_of, dot_set}
use Rattle.bites_spec.specs.Fault as fault
use Rattle.bites_spec.specs.Fault.{StuckItem, StuckChoice}
use Rattle.bites_spec.specs.Reader as reading
use Rattle.bites_spec.specs.Reader.{Stop, ReadChoice, ReadResult, Bounds, Opened, Reader, and_then, and_found, lazy, counted, plain_operator, at_end, at_closing, at_operator, at_opened, behind_group, at_item, inner}
use Rattle.bites_spec.proofs.characters.EachLemmas.{skip_shorter}
use Rattle.bites_spec.proofs.characters.EscapeLemmas.{Means, either_side, escape_means}
use Rattle.bites_spec.proofs.grammar.CountLemmas.{lazy_reads, count_means}
use Rattle.bites_spec.proofs.characters.ChoiceParts.{Opens, most_of}
use Rattle.bites_spec.proofs.grammar.ItemCounts.{operator_shorter}
use Rattle.bites_spec.proofs.brackets.BracketLemmas.{bracket_means}
use Rattle.bites_spec.proofs.grammar.GroupLemmas.{opened_sound, opening_shorter}
use Rattle.bites_spec.proofs.grammar.ChoiceShorter.{atom_shorter, item_shorter}
use Rattle.bites_spec.proofs.grammar.ChoiceSound.{Stops, in_branch, in_later_branch, Says, Choice, adds_choice, says_item, says_bar, says_end, says_atom, says_operator}

-- a fault of the first branch, or of a later one, is a fault of the choice
pub stops_choice : {nest_limit depth : ℕ} {front : Front} {t place : Text} {m : Message} → Stops nest_limit depth front t [] m place →
    StuckChoice nest_limit depth front t m place
stops_choice {depth = depth} {front = front} {t = t} {place = place} {m = m} (in_branch s) = fault.in_first depth front t place m s
stops_choice {depth = depth} {front = front} {t = t} {place = place} {m = m} (in_later_branch all middle more s c) =
    fault.in_later depth front middle t more place all m s c

-- a fault of an item is a fault of its branch
stops_here : {nest_limit depth : ℕ} {front : Front} {t place : Text} {nodes : List Tree} {m : Message} →
    StuckItem nest_limit depth front (skip front.flags t) nodes m place → Stops nest_limit depth front t nodes m place
stops_here {depth = depth} {front = front} {t = t} {place = place} {nodes = nodes} {m = m} s = in_branch (fault.here depth front t place nodes m s)

abbrev CountSays : Flags → Text → ReadResult Bounds → Type 0
CountSays flags t = Means (λ b rest. ReadsOperator flags t b.0 b.1 b.2 rest × (most_of b.0 b.1 ≤ greatest_number)) (StuckCount flags t)

-- at the end of the pattern: the end of the choice, or an unclosed group
end_says : (list_of : Set → List Range) (nest_limit depth : ℕ) (front : Front) (branches nodes : List Tree) (t : Text) → [] ≡ skip front.flags t →
    depth ≤ nest_limit → front.groups ≤ greatest_number → Says nest_limit depth front branches nodes t (at_end list_of nest_limit depth front branches nodes)
end_says list_of nest_limit zero front branches nodes t at room groups = says_end at refl refl room groups
end_says list_of nest_limit (suc depth) front branches nodes t at room groups =
    stops_here (fault.unclosed (suc depth) front (skip front.flags t) [] nodes _ (sym at) (omega arith) refl refl)

closing_says : (list_of : Set → List Range) (nest_limit depth : ℕ) (front : Front) (branches nodes : List Tree) (t more : Text) →
    right_parenthesis ∷ more ≡ skip front.flags t → depth ≤ nest_limit → front.groups ≤ greatest_number →
    Says nest_limit depth front branches nodes t (at_closing list_of nest_limit depth front branches nodes (right_parenthesis ∷ more))
closing_says list_of nest_limit zero front branches nodes t more at room groups =
    stops_here (fault.unopened 0 front (skip front.flags t) more (right_parenthesis ∷ more) nodes _ (sym at) refl at refl)
closing_says list_of nest_limit (suc depth) front branches nodes t more at room groups = says_end at refl (more, refl) room groups

-- the recursive calls of the reader, on at least one character less
abbrev GoSays : ℕ → ℕ → Reader → Type 0
GoSays nest_limit n go =
    (depth : ℕ) (front : Front) (branches nodes : List Tree) (t : Text) → length t < n → depth ≤ nest_limit → front.groups ≤ greatest_number →
    Says nest_limit depth front branches nodes t (go depth front branches nodes t)

-- a text after its first character, written with `drop`
drop_one : (t more : Text) (c : ℕ) → t ≡ c ∷ more → t ≡ c ∷ drop 1 t
drop_one t more c is = is ∙ ap (λ u. c ∷ drop 1 u) (sym is)

abbrev BracketSays : Flags → Text → ReadResult Set → Type 0
BracketSays flags t = Means (λ set rest. ((ranges : List Range) → Lists ranges set → ReadsBracket flags t ranges rest)) (StuckBracket flags t)

is_plain : {c d : ℕ} → c ≡ d → pattern.one_of (codes "?*+") d ≡ true → pattern.one_of (codes "?*+") c ≡ true
is_plain is e = subst (λ x. pattern.one_of (codes "?*+") x ≡ true) (sym is) e

module _ (list_of : Set → List Range) (lists : (set : Set) → Lists (list_of set) set) (nest_limit : ℕ) where
  module _ (go : Reader) (n depth : ℕ) (front : Front) (branches : List Tree) (t : Text) (goes : GoSays nest_limit n go) (fits : length (skip front.flags t) ≤ n)
      (room : depth ≤ nest_limit) (groups : front.groups ≤ greatest_number) where
    atom_says : (nodes : List Tree) (node : Tree) (rest : Text) → ReadsAtom front.flags (skip front.flags t) node rest →
        Says nest_limit depth front branches nodes t (go depth front branches (nodes ++ node ∷ []) rest)
    atom_says nodes node rest r = grind (arith, common_steps, says_atom, atom_shorter)

    bar_says : (nodes : List Tree) (more : Text) → bar ∷ more ≡ skip front.flags t →
        Says nest_limit depth front branches nodes t (go depth front (branches ++ sequence_of nodes ∷ []) [] more)
    bar_says nodes more at = grind (arith, common_steps, says_bar)

    operator_says : (nodes : List Tree) (m : Message) (u : Text) (a : ReadResult Bounds) →
        (nodes ≡ [] → StuckItem nest_limit depth front (skip front.flags t) nodes m u) → CountSays front.flags (skip front.flags t) a →
        Says nest_limit depth front branches nodes t (at_operator list_of nest_limit go depth front branches nodes m u a)
    operator_says [] m u a nothing says = stops_here (nothing refl)
    operator_says (node ∷ nodes) m u (Ok x) nothing says = grind (arith, common_steps, says_operator, operator_shorter)
    operator_says (node ∷ nodes) m u (Err e) nothing says =
        stops_here (fault.in_count depth front (skip front.flags t) e.place (node ∷ nodes) e.message (omega arith) says)

    bracket_says : (nodes : List Tree) (a : ReadResult Set) → BracketSays front.flags (skip front.flags t) a →
        Says nest_limit depth front branches nodes t (and_then a (λ set rest. go depth front branches (nodes ++ tree.class (list_of set) ∷ []) rest))
    bracket_says nodes (Ok x) says = atom_says nodes _ x.1 (grammar.bracket _ x.1 _ (list_of x.0) (says (list_of x.0) (lists x.0)) refl)
    bracket_says nodes (Err e) says = stops_here (fault.in_bracket depth front (skip front.flags t) e.place nodes e.message says)

    meaning_says : (nodes : List Tree) (meaning : Meaning) (rest : Text) → ReadsEscape front.flags (skip front.flags t) meaning rest →
        Says nest_limit depth front branches nodes t (go depth front branches (nodes ++ reading.node_of list_of nest_limit front.flags meaning ∷ []) rest)
    meaning_says nodes (character c) rest r = atom_says nodes _ rest (grammar.escaped_character c _ rest _ r refl)
    meaning_says nodes (characters set) rest r = atom_says nodes _ rest (grammar.escaped_class set _ rest _ (list_of set) r (lists set) refl)
    meaning_says nodes (assertion l) rest r = atom_says nodes _ rest (grammar.escaped_assertion l _ rest _ r refl)

    escape_says : (nodes : List Tree) (a : ReadResult Meaning) → Means (ReadsEscape front.flags (skip front.flags t)) (StuckEscape front.flags (skip front.flags t)) a →
        Says nest_limit depth front branches nodes t
        (and_then a (λ meaning rest. go depth front branches (nodes ++ reading.node_of list_of nest_limit front.flags meaning ∷ []) rest))
    escape_says nodes (Ok x) says = meaning_says nodes x.0 x.1 says
    escape_says nodes (Err e) says = stops_here (fault.in_escape depth front (skip front.flags t) e.place nodes e.message says)

    -- after the group that is open
    group_says : (nodes : List Tree) (opening : Opening) (inner_front : Front) (inside : Text) (a : Result ReadChoice Stop) →
        ReadsOpening front (skip front.flags t) opening inner_front inside → suc depth ≤ nest_limit → Says nest_limit (suc depth) inner_front [] [] inside a →
        Says nest_limit depth front branches nodes t (and_found a (behind_group list_of nest_limit go depth front branches nodes opening))
    group_says nodes opening inner_front inside (Ok f) r deep found =
        let ends : f.rest ≡ right_parenthesis ∷ drop 1 f.rest = drop_one f.rest found.ends.0 right_parenthesis found.ends.1 in
        let first : Choice nest_limit (suc depth) inner_front f.behind inside f.rest found.added = adds_choice found.adds in
        let second : Choice nest_limit (suc depth) inner_front f.behind inside f.rest f.branches =
        subst (λ all. Choice nest_limit (suc depth) inner_front f.behind inside f.rest all) (sym found.same) first in
        let c : Choice nest_limit (suc depth) inner_front f.behind inside (right_parenthesis ∷ drop 1 f.rest) f.branches =
        subst (λ rest. Choice nest_limit (suc depth) inner_front f.behind inside rest f.branches) ends second in
        let i : ReadsItem front (skip front.flags t) nodes (nodes ++ group_of opening front.groups f.branches ∷ []) (record (f.behind) { flags = front.flags }) (drop 1 f.rest) =
        grammar.group front inner_front f.behind (record (f.behind) { flags = front.flags }) (skip front.flags t) inside (drop 1 f.rest) nodes
        (nodes ++ group_of opening front.groups f.branches ∷ []) f.branches opening r c.reads refl refl in
        says_item nest_limit depth front (record (f.behind) { flags = front.flags }) t (drop 1 f.rest) branches nodes (nodes ++ group_of opening front.groups f.branches ∷ []) _
        i (omega (arith, c.opens)) c.counts
        (goes depth (record (f.behind) { flags = front.flags }) branches (nodes ++ group_of opening front.groups f.branches ∷ []) (drop 1 f.rest)
        (omega (arith, item_shorter i)) room found.groups)
    group_says nodes opening inner_front inside (Err e) r deep stops =
        let P : ℕ → Type 0 = λ d. StuckChoice nest_limit d inner_front inside e.message e.place in
        stops_here (fault.in_group depth front inner_front (skip front.flags t) inside e.place nodes opening e.message r (subst P (sym (add-one depth)) (stops_choice stops)))

    opened_says : (nodes : List Tree) (o : Opened) (rest : Text) → Opens front (skip front.flags t) o rest →
        Says nest_limit depth front branches nodes t (at_opened list_of nest_limit go depth front branches nodes o rest)
    opened_says nodes (reading.directive flags) rest d =
        let i : ReadsItem front (skip front.flags t) nodes nodes (record front { flags = flags }) rest =
        grammar.directive front (record front { flags = flags }) (skip front.flags t) d.next d.marks d.run rest d.c d.letters nodes nodes d.opens d.asks d.reads d.some refl
        (ap (λ f. record front { flags = f }) d.are) in
        says_item nest_limit depth front (record front { flags = flags }) t rest branches nodes nodes _
        i (omega arith) (omega arith)
        (goes depth (record front { flags = flags }) branches nodes rest (omega (arith, item_shorter i)) room groups)
    opened_says nodes (reading.group opening inner_front) rest (r, small) =
        either_side (Says nest_limit depth front branches nodes t) (nat_lt nest_limit (depth + 1)) _ _
        (λ b. stops_here (fault.too_deep depth front inner_front (skip front.flags t) rest nodes opening _ r (ltb-true nest_limit (depth + 1) b) refl))
        (λ b.
        let deep : suc depth ≤ nest_limit = omega (arith, ltb-false nest_limit (depth + 1) b) in
        group_says nodes opening inner_front rest (go (suc depth) inner_front [] [] rest) r deep
        (goes (suc depth) inner_front [] [] rest (omega (arith, opening_shorter r)) deep (small groups)))

    parenthesis_says : (nodes : List Tree) (a : ReadResult Opened) → Means (Opens front (skip front.flags t)) (StuckOpening front (skip front.flags t)) a →
        Says nest_limit depth front branches nodes t (and_then a (at_opened list_of nest_limit go depth front branches nodes))
    parenthesis_says nodes (Ok x) says = opened_says nodes x.0 x.1 says
    parenthesis_says nodes (Err e) says = stops_here (fault.in_opening depth front (skip front.flags t) e.place nodes e.message says)

    plain_says : (nodes : List Tree) (u : Text) (min : ℕ) (most : Option ℕ) (c : ℕ) → c ∷ u ≡ skip front.flags t →
        ((mark : Bool × Text) → ReadsLazy u mark.0 mark.1 → ReadsOperator front.flags (c ∷ u) min most (is_greedy front.flags mark.0) mark.1) →
        pattern.one_of (codes "?*+") c ≡ true → most_of min most ≤ greatest_number →
        Says nest_limit depth front branches nodes t
        (at_operator list_of nest_limit go depth front branches nodes message.nothing_to_repeat (c ∷ u) (plain_operator front.flags min most (lazy u)))
    plain_says nodes u min most c at reads plain small =
        operator_says nodes message.nothing_to_repeat (c ∷ u) (plain_operator front.flags min most (lazy u))
        (λ none. fault.no_node depth front (skip front.flags t) (c ∷ u) nodes _ (subst (λ x. pattern.next_is (pattern.one_of (codes "?*+")) x ≡ true) at plain) none at refl)
        (subst (λ x. ReadsOperator front.flags x min most (is_greedy front.flags (lazy u).0) (lazy u).1) at (reads (lazy u) (lazy_reads u)), small)

    bounded : (u : Text) (a : ReadResult Bounds) → length u ≤ n → counted n front.flags (skip front.flags u) ≡ a →
        Means (λ b rest. ReadsOperator front.flags (left_brace ∷ u) b.0 b.1 b.2 rest) (StuckCount front.flags (left_brace ∷ u)) a →
        CountSays front.flags (left_brace ∷ u) a
    bounded u (Ok x) here is r = grind (arith, common_steps)
    bounded u (Err e) here is stuck = stuck

    brace_says : (nodes : List Tree) (u : Text) → left_brace ∷ u ≡ skip front.flags t →
        Says nest_limit depth front branches nodes t
        (at_operator list_of nest_limit go depth front branches nodes message.nothing_to_count (left_brace ∷ u) (counted n front.flags (skip front.flags u)))
    brace_says nodes u at =
        let here : length u ≤ n = omega (arith, ap length at) in
        operator_says nodes message.nothing_to_count (left_brace ∷ u) (counted n front.flags (skip front.flags u))
        (λ none. fault.no_node_to_count depth front (skip front.flags t) (left_brace ∷ u) nodes _
        (subst (λ x. pattern.next_is (Class.single left_brace) x ≡ true) at refl) none at refl)
        (subst (λ x. CountSays front.flags x (counted n front.flags (skip front.flags u))) at
        (bounded u _ here refl (count_means n front.flags u here)))

    item_says : (nodes : List Tree) (u : Text) → u ≡ skip front.flags t →
        Says nest_limit depth front branches nodes t (at_item list_of nest_limit go n depth front branches nodes u)
    item_says nodes [] at = end_says list_of nest_limit depth front branches nodes t at room groups
    item_says nodes (c ∷ u) at =
        let here : length u ≤ n = omega (arith, ap length at) in
        let P = Says nest_limit depth front branches nodes t in
        either_side P (c == right_parenthesis) _ _ (λ b. (let is = eqb-true c right_parenthesis b in
        subst (λ x. P (at_closing list_of nest_limit depth front branches nodes (x ∷ u))) (sym is)
        (closing_says list_of nest_limit depth front branches nodes t u (sym (ap (λ x. x ∷ u) is) ∙ at) room groups)))
        (λ b1. either_side P (c == bar) _ _ (λ b. bar_says nodes u (sym (ap (λ x. x ∷ u) (eqb-true c bar b)) ∙ at))
        (λ b2. either_side P (c == left_parenthesis) _ _ (λ b.
        parenthesis_says nodes _ (subst (λ x. Means (Opens front x) (StuckOpening front x) (reading.opened front (skip front.flags u)))
        (sym (ap (λ x. x ∷ u) (eqb-true c left_parenthesis b)) ∙ at) (opened_sound front u)))
        (λ b3. either_side P (c == question) _ _ (λ b. (let is = eqb-true c question b in
        plain_says nodes u 0 (Some 1) c at (λ mark r. operator.optional (c ∷ u) u mark.1 0 (Some 1) mark.0 _ (ap (λ x. x ∷ u) is) r refl refl refl)
        (is_plain is refl) (omega arith)))
        (λ b4. either_side P (c == star) _ _ (λ b. (let is = eqb-true c star b in
        plain_says nodes u 0 None c at (λ mark r. operator.any_number (c ∷ u) u mark.1 0 None mark.0 _ (ap (λ x. x ∷ u) is) r refl refl refl)
        (is_plain is refl) (omega arith)))
        (λ b5. either_side P (c == plus) _ _ (λ b. (let is = eqb-true c plus b in
        plain_says nodes u 1 None c at (λ mark r. operator.at_least_once (c ∷ u) u mark.1 1 None mark.0 _ (ap (λ x. x ∷ u) is) r refl refl refl)
        (is_plain is refl) (omega arith)))
        (λ b6. either_side P (c == left_brace) _ _ (λ b. (let is = eqb-true c left_brace b in
        subst (λ x. P (at_operator list_of nest_limit go depth front branches nodes message.nothing_to_count (x ∷ u) (counted n front.flags (skip front.flags u)))) (sym is)
        (brace_says nodes u (sym (ap (λ x. x ∷ u) is) ∙ at))))
        (λ b7. either_side P (c == left_bracket) _ _ (λ b.
        bracket_says nodes _
        (subst (λ x. BracketSays front.flags x (reading.bracket n front.flags (skip front.flags u)))
        (sym (ap (λ x. x ∷ u) (eqb-true c left_bracket b)) ∙ at) (bracket_means n front.flags u here)))
        (λ b8. either_side P (c == backslash) _ _ (λ b.
        escape_says nodes _
        (subst (λ x. Means (ReadsEscape front.flags x) (StuckEscape front.flags x) (reading.escape n front.flags u))
        (sym (ap (λ x. x ∷ u) (eqb-true c backslash b)) ∙ at) (escape_means n front.flags u here)))
        (λ b9. either_side P (c == dot) _ _ (λ b.
        atom_says nodes _ u (grammar.any _ u _ (list_of (dot_set front.flags)) (sym at ∙ ap (λ x. x ∷ u) (eqb-true c dot b)) (lists (dot_set front.flags)) refl))
        (λ b10. either_side P (c == caret) _ _ (λ b. atom_says nodes _ u (grammar.line_start _ u _ (sym at ∙ ap (λ x. x ∷ u) (eqb-true c caret b)) refl))
        (λ b11. either_side P (c == dollar) _ _ (λ b. atom_says nodes _ u (grammar.line_end _ u _ (sym at ∙ ap (λ x. x ∷ u) (eqb-true c dollar b)) refl))
        (λ b12. atom_says nodes _ u (grammar.literal c _ u _ (sym at) (rw (b1, b2, b3, b4, b5, b6, b7, b8, b9, b10, b11, b12) refl) refl)))))))))))))

  -- what the reader returns, the relations read
  pub inner_says : (n : ℕ) → GoSays nest_limit n (inner list_of nest_limit n)
  unfolding inner
  inner_says zero depth front branches nodes t fits room groups = absurd (omega arith)
  inner_says (suc n) depth front branches nodes t fits room groups =
      item_says (inner list_of nest_limit n) n depth front branches t (inner_says n) (omega (arith, skip_shorter front.flags t)) room groups nodes (skip front.flags t) refl
