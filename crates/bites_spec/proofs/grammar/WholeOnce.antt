-- A pattern has at most one tree, and opens its groups in one way.
use Rattle.std.proofs.lemmas.Grind.{common_steps}
use Rattle.std.proofs.Common.{◌≡◌, ℕ, ◌<◌, Bool, true, false, ◌==◌, List, [], ◌∷◌, ◌++◌, refl, sym, ap, ap₂, ◌∙◌, subst, arith, Option, true≢false}
use Rattle.std.specs.Prelude.{codes, if◌then◌else◌}
use Rattle.bites_spec.specs.Class.{single}
use Rattle.bites_spec.specs.Tree.{Tree, sequence_of, alternation_of, repetition_of}
use Rattle.bites_spec.specs.Pattern.{Text, Flags, Front, skip, next_is, one_of, bar, left_parenthesis}
use Rattle.bites_spec.specs.Operator as operator
use Rattle.bites_spec.specs.Operator.{ReadsOperator}
use Rattle.bites_spec.specs.Group.{ReadsOpening, changed}
use Rattle.bites_spec.specs.Grammar as grammar
use Rattle.bites_spec.specs.Grammar.{ReadsAtom, ReadsItem, ReadsSequence, ReadsChoice, is_special, ends_sequence, group_of}
use Rattle.bites_spec.specs.GrammarLaws.{ReadsOnce}
use Rattle.bites_spec.specs.GroupLaws.{OpenedOnce}
use Rattle.bites_spec.specs.Measure.{opened_by}
use Rattle.bites_spec.proofs.brackets.BracketLemmas.{escape_begins, bracket_begins}
use Rattle.bites_spec.proofs.characters.ChoiceParts.{ReadsDirective}
use Rattle.bites_spec.proofs.grammar.ChoiceBegins.{opening_begins}
use Rattle.bites_spec.proofs.grammar.ItemCounts.{tail_of}
use Rattle.bites_spec.proofs.grammar.ItemOnce.{atom_once, operator_once, opening_once, directive_once, directive_or_opening}

-- the kind of what begins here: the end of a sequence, an opening parenthesis, an operator, or an atom
abbrev kind_of : Text → ℕ
kind_of [] = 0
kind_of (c ∷ t) = if one_of (codes "|)") c then 0 else if c == left_parenthesis then 1 else if one_of (codes "?*+{") c then 2 else 3

literal_kind : (c : ℕ) (t : Text) → is_special c ≡ false → kind_of (c ∷ t) ≡ 3
literal_kind c t plain = grind (arith, common_steps)

atom_kind : {flags : Flags} {t rest : Text} {node : Tree} → ReadsAtom flags t node rest → kind_of t ≡ 3
atom_kind (grammar.literal c t rest node is plain same) = ap kind_of is ∙ literal_kind c rest plain
atom_kind (grammar.any t rest node ranges is lists same) = ap kind_of is
atom_kind (grammar.line_start t rest node is same) = ap kind_of is
atom_kind (grammar.line_end t rest node is same) = ap kind_of is
atom_kind (grammar.bracket t rest node ranges r same) = ap kind_of (bracket_begins r).1
atom_kind (grammar.escaped_character c t rest node r same) = ap kind_of (escape_begins r).1
atom_kind (grammar.escaped_class set t rest node ranges r lists same) = ap kind_of (escape_begins r).1
atom_kind (grammar.escaped_assertion l t rest node r same) = ap kind_of (escape_begins r).1

operator_kind : {flags : Flags} {t rest : Text} {min : ℕ} {most : Option ℕ} {greedy : Bool} → ReadsOperator flags t min most greedy rest → kind_of t ≡ 2
operator_kind (operator.optional t next rest min most mark greedy is l a b g) = ap kind_of is
operator_kind (operator.any_number t next rest min most mark greedy is l a b g) = ap kind_of is
operator_kind (operator.at_least_once t next rest min most mark greedy is l a b g) = ap kind_of is
operator_kind (operator.exactly t next behind rest min most mark greedy is d l a g) = ap kind_of is
operator_kind (operator.at_least t next more behind rest min most mark greedy is d e l a g) = ap kind_of is
operator_kind (operator.between t next more behind rest min top most mark greedy is d f le l a g) = ap kind_of is

item_kind : {front behind : Front} {t rest : Text} {nodes all : List Tree} → ReadsItem front t nodes all behind rest → 0 < kind_of t
item_kind (grammar.atom front behind t rest nodes all node r is same) = omega (arith, atom_kind r)
item_kind (grammar.operator front behind t rest nodes all before node min most greedy r is same unchanged) = omega (arith, operator_kind r)
item_kind (grammar.directive front behind t next marks run rest c letters nodes all is asks r some same changes) = omega (arith, ap kind_of is)
item_kind (grammar.group front inner middle behind t inside rest nodes all bs opening r c is same) = omega (arith, ap kind_of (opening_begins r).1)

end_kind : (t : Text) → ends_sequence t ≡ true → kind_of t ≡ 0
end_kind [] ends = refl
end_kind (c ∷ t) ends = grind (arith, common_steps, true≢false)

-- equal lists have the same last element and the same elements before it
snoc_once : (before early : List Tree) (node leaf : Tree) → before ++ node ∷ [] ≡ early ++ leaf ∷ [] → (before ≡ early) × (node ≡ leaf)
snoc_once [] [] node leaf e = (refl, let same : node ≡ leaf = cc in same)
snoc_once [] (x ∷ []) node leaf e = absurd (let no_more : [] ≡ leaf ∷ [] = cc in cc)
snoc_once [] (x ∷ y ∷ early) node leaf e = absurd (let no_more : [] ≡ y ∷ early ++ leaf ∷ [] = cc in cc)
snoc_once (x ∷ []) [] node leaf e = absurd (let no_more : node ∷ [] ≡ [] = cc in cc)
snoc_once (x ∷ y ∷ before) [] node leaf e = absurd (let no_more : y ∷ before ++ node ∷ [] ≡ [] = cc in cc)
snoc_once (x ∷ before) (y ∷ early) node leaf e = grind (arith, common_steps)

-- the nodes, the front and the rest are the same
abbrev Same : List Tree → List Tree → Front → Front → Text → Text → Type 0
Same all whole behind last rest end = (all ≡ whole) × (behind ≡ last) × (rest ≡ end)

-- no branch follows
abbrev IsClosed : Text → Type 0
IsClosed rest = next_is (single bar) rest ≡ false

mutual
  choice_once : {front other behind last : Front} {t u rest end : Text} {all whole : List Tree} → ReadsChoice front t all behind rest → ReadsChoice other u whole last end →
      front ≡ other → t ≡ u → IsClosed rest → IsClosed end → Same all whole behind last rest end
  choice_once (grammar.one front behind t rest nodes all r is) (grammar.one other last u end parts whole q at) fronts texts closed shut =
      let one = sequence_once r q fronts texts refl in
      (is ∙ ap (λ l. sequence_of l ∷ []) one.0 ∙ sym at, one.1, one.2)
  choice_once (grammar.one front behind t rest nodes all r is) (grammar.several other amid last u more end parts others whole q d at) fronts texts closed shut =
      let one = sequence_once r q fronts texts refl in
      absurd (true≢false (sym (ap (next_is (single bar)) one.2) ∙ closed))
  choice_once (grammar.several front middle behind t more rest nodes others all r c is) (grammar.one other last u end parts whole q at) fronts texts closed shut =
      let one = sequence_once r q fronts texts refl in
      absurd (true≢false (ap (next_is (single bar)) one.2 ∙ shut))
  choice_once (grammar.several front middle behind t more rest nodes others all r c is) (grammar.several other amid last u beyond end parts branches whole q d at) fronts texts closed shut =
      let one = sequence_once r q fronts texts refl in
      let later = choice_once c d one.1 (tail_of one.2) closed shut in
      (is ∙ ap₂ (λ l m. sequence_of l ∷ m) one.0 later.0 ∙ sym at, later.1, later.2)

  sequence_once : {front other behind last : Front} {t u rest end : Text} {nodes parts all whole : List Tree} → ReadsSequence front t nodes all behind rest →
      ReadsSequence other u parts whole last end → front ≡ other → t ≡ u → nodes ≡ parts → Same all whole behind last rest end
  sequence_once (grammar.ends front behind t rest nodes all at ends same is) (grammar.ends other last u end parts whole there stops alike kept) fronts texts lists =
      (same ∙ lists ∙ sym alike, is ∙ fronts ∙ sym kept, at ∙ ap₂ (λ f x. skip f.flags x) fronts texts ∙ sym there)
  sequence_once (grammar.ends front behind t rest nodes all at ends same is) (grammar.goes_on other amid last u beyond end parts others whole j q) fronts texts lists =
      let gap = at ∙ ap₂ (λ f x. skip f.flags x) fronts texts in
      absurd (omega (arith, end_kind rest ends, item_kind j, ap kind_of gap))
  sequence_once (grammar.goes_on front middle behind t next rest nodes more all i r) (grammar.ends other last u end parts whole there stops alike kept) fronts texts lists =
      let gap = there ∙ sym (ap₂ (λ f x. skip f.flags x) fronts texts) in
      absurd (omega (arith, end_kind end stops, item_kind i, ap kind_of gap))
  sequence_once (grammar.goes_on front middle behind t next rest nodes more all i r) (grammar.goes_on other amid last u beyond end parts others whole j q) fronts texts lists =
      let one = item_once i j fronts (ap₂ (λ f x. skip f.flags x) fronts texts) lists in
      sequence_once r q one.1 one.2 one.0

  item_once : {front other behind last : Front} {t u rest end : Text} {nodes parts all whole : List Tree} → ReadsItem front t nodes all behind rest →
      ReadsItem other u parts whole last end → front ≡ other → t ≡ u → nodes ≡ parts → Same all whole behind last rest end
  item_once (grammar.atom front behind t rest nodes all node r is same) (grammar.atom other last u end parts whole leaf q at alike) fronts texts lists =
      let one = atom_once r (subst (λ (f : Front). ReadsAtom f.flags u leaf end) (sym fronts) q) texts in
      (is ∙ ap₂ (λ l x. l ++ x ∷ []) lists one.0 ∙ sym at, same ∙ fronts ∙ sym alike, one.1)
  item_once (grammar.operator front behind t rest nodes all before node min most greedy r is same unchanged) (grammar.operator other last u end parts whole early leaf least greatest lazy q at alike kept) fronts texts lists =
      let one = operator_once r (subst (λ (f : Front). ReadsOperator f.flags u least greatest lazy end) (sym fronts) q) texts in
      let nodes_once = snoc_once before early node leaf (sym is ∙ lists ∙ at) in
      let tree = ap₂ (λ a b. repetition_of a b greedy node) one.0 one.1 ∙ ap₂ (λ g x. repetition_of least greatest g x) one.2 nodes_once.1 in
      (same ∙ ap₂ (λ l x. l ++ x ∷ []) nodes_once.0 tree ∙ sym alike, unchanged ∙ fronts ∙ sym kept, one.3)
  item_once (grammar.directive front behind t next marks run rest c letters nodes all is asks r some same changes) (grammar.directive other last u beyond signs flagged end d marked parts whole at asked q there alike altered) fronts texts lists =
      let first : ReadsDirective front t (changed true run front.flags) rest =
      record { next = next; marks = marks; run = run; c = c; letters = letters; opens = is; asks = asks; reads = r; some = some; are = refl } in
      let second : ReadsDirective other u (changed true flagged other.flags) end =
      record { next = beyond; marks = signs; run = flagged; c = d; letters = marked; opens = at; asks = asked; reads = q; some = there; are = refl } in
      let one = directive_once first (subst (λ (f : Front). ReadsDirective f u (changed true flagged f.flags) end) (sym fronts) second) texts in
      let set = λ (x : Flags). record front { flags = x } in
      let behind_front = λ (f : Front). record f { flags = changed true flagged f.flags } in
      (same ∙ lists ∙ sym alike, changes ∙ ap set one.0 ∙ ap behind_front fronts ∙ sym altered, one.1)
  item_once (grammar.directive front behind t next marks run rest c letters nodes all is asks r some same changes) (grammar.group other within amid last u deep end parts whole branches closing q d at alike) fronts texts lists =
      let first : ReadsDirective front t (changed true run front.flags) rest =
      record { next = next; marks = marks; run = run; c = c; letters = letters; opens = is; asks = asks; reads = r; some = some; are = refl } in
      absurd (directive_or_opening first (subst (λ (f : Front). ReadsOpening f u closing within deep) (sym fronts) q) texts)
  item_once (grammar.group front inner middle behind t inside rest nodes all bs opening r c is same) (grammar.directive other last u beyond signs flagged end d marked parts whole at asked q there alike altered) fronts texts lists =
      let second : ReadsDirective other u (changed true flagged other.flags) end =
      record { next = beyond; marks = signs; run = flagged; c = d; letters = marked; opens = at; asks = asked; reads = q; some = there; are = refl } in
      absurd (directive_or_opening second (subst (λ (f : Front). ReadsOpening f t opening inner inside) fronts r) (sym texts))
  item_once (grammar.group front inner middle behind t inside rest nodes all bs opening r c is same) (grammar.group other within amid last u deep end parts whole branches closing q d at alike) fronts texts lists =
      let one = opening_once r (subst (λ (f : Front). ReadsOpening f u closing within deep) (sym fronts) q) texts in
      let inside_once = choice_once c d one.1 one.2 refl refl in
      let tree = ap₂ (λ o b. group_of o front.groups b) one.0 inside_once.0 ∙ ap (λ f. group_of closing f.groups branches) fronts in
      (is ∙ ap₂ (λ l x. l ++ x ∷ []) lists tree ∙ sym at, same ∙ ap₂ (λ (m : Front) (f : Front). record m { flags = f.flags }) inside_once.1 fronts ∙ sym alike, tail_of inside_once.2)
  item_once (grammar.atom front behind t rest nodes all node r is same) (grammar.operator other last u end parts whole early leaf least greatest lazy q at alike kept) fronts texts lists = absurd (omega (arith, ap kind_of texts, atom_kind r, operator_kind q))
  item_once (grammar.atom front behind t rest nodes all node r is same) (grammar.directive other last u beyond signs flagged end d marked parts whole at asked q there alike altered) fronts texts lists = absurd (omega (arith, ap kind_of texts, atom_kind r, ap kind_of at))
  item_once (grammar.atom front behind t rest nodes all node r is same) (grammar.group other within amid last u deep end parts whole branches closing q d at alike) fronts texts lists = absurd (omega (arith, ap kind_of texts, atom_kind r, ap kind_of (opening_begins q).1))
  item_once (grammar.operator front behind t rest nodes all before node min most greedy r is same unchanged) (grammar.atom other last u end parts whole leaf q at alike) fronts texts lists = absurd (omega (arith, ap kind_of texts, operator_kind r, atom_kind q))
  item_once (grammar.operator front behind t rest nodes all before node min most greedy r is same unchanged) (grammar.directive other last u beyond signs flagged end d marked parts whole at asked q there alike altered) fronts texts lists = absurd (omega (arith, ap kind_of texts, operator_kind r, ap kind_of at))
  item_once (grammar.operator front behind t rest nodes all before node min most greedy r is same unchanged) (grammar.group other within amid last u deep end parts whole branches closing q d at alike) fronts texts lists = absurd (omega (arith, ap kind_of texts, operator_kind r, ap kind_of (opening_begins q).1))
  item_once (grammar.directive front behind t next marks run rest c letters nodes all is asks r some same changes) (grammar.atom other last u end parts whole leaf q at alike) fronts texts lists = absurd (omega (arith, ap kind_of texts, ap kind_of is, atom_kind q))
  item_once (grammar.directive front behind t next marks run rest c letters nodes all is asks r some same changes) (grammar.operator other last u end parts whole early leaf least greatest lazy q at alike kept) fronts texts lists = absurd (omega (arith, ap kind_of texts, ap kind_of is, operator_kind q))
  item_once (grammar.group front inner middle behind t inside rest nodes all bs opening r c is same) (grammar.atom other last u end parts whole leaf q at alike) fronts texts lists = absurd (omega (arith, ap kind_of texts, ap kind_of (opening_begins r).1, atom_kind q))
  item_once (grammar.group front inner middle behind t inside rest nodes all bs opening r c is same) (grammar.operator other last u end parts whole early leaf least greatest lazy q at alike kept) fronts texts lists = absurd (omega (arith, ap kind_of texts, ap kind_of (opening_begins r).1, operator_kind q))

-- a pattern has at most one tree
pub reads_once : ReadsOnce
reads_once pattern flags t u r s = r.is_choice ∙ ap alternation_of (choice_once r.reads s.reads refl refl refl refl).0 ∙ sym s.is_choice

-- a pattern opens its groups in one way
pub opened_once : OpenedOnce
opened_once pattern flags t u r s =
    ap opened_by (choice_once r.reads s.reads refl refl refl refl).1
