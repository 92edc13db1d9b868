-- Operators in braces begin with a brace, groups with a parenthesis, and the count of groups never falls.
use Rattle.std.proofs.Common.{◌≡◌, ℕ, ◌≤◌, List, ◌∷◌, ap, arith}
use Rattle.bites_spec.specs.Message.{Message}
use Rattle.bites_spec.specs.Tree.{Tree}
use Rattle.bites_spec.specs.Pattern.{Text, Flags, Front, left_parenthesis, left_brace}
use Rattle.bites_spec.specs.OperatorFault as count_fault
use Rattle.bites_spec.specs.OperatorFault.{StuckCount}
use Rattle.bites_spec.specs.Group as group
use Rattle.bites_spec.specs.Group.{Opening, ReadsOpening}
use Rattle.bites_spec.specs.GroupFault as group_fault
use Rattle.bites_spec.specs.GroupFault.{StuckOpening}
use Rattle.bites_spec.specs.Grammar as grammar
use Rattle.bites_spec.specs.Grammar.{ReadsItem, ReadsSequence, ReadsChoice}

-- a text that begins with this character
abbrev pub Begins : ℕ → Text → Type 0
Begins c t = (next : Text) × (t ≡ c ∷ next)

-- an operator in braces with a fault begins with its brace
pub stuck_count_begins : {flags : Flags} {t place : Text} {m : Message} → StuckCount flags t m place → Begins left_brace t
stuck_count_begins (count_fault.ends_at_once t next place m is e at names) = (next, is)
stuck_count_begins (count_fault.in_min t next place m is s) = (next, is)
stuck_count_begins (count_fault.ends_after_min n t next place m is r at names) = (next, is)
stuck_count_begins (count_fault.strange_after_min n c t next more place m is r at e names) = (next, is)
stuck_count_begins (count_fault.ends_after_comma n t next more place m is r e at names) = (next, is)
stuck_count_begins (count_fault.in_max n t next more place m is r e s) = (next, is)
stuck_count_begins (count_fault.ends_after_max n most t next more place m is r q at names) = (next, is)
stuck_count_begins (count_fault.strange_after_max n most c t next more others place m is r q at e names) = (next, is)
stuck_count_begins (count_fault.crossed n most t next more behind place is_lazy m is r q l less names) = (next, is)

-- an opening begins with its parenthesis
pub opening_begins : {front inner : Front} {t inside : Text} {opening : Opening} → ReadsOpening front t opening inner inside → Begins left_parenthesis t
opening_begins (group.number_only t next inside opening inner is at e o i) = (next, is)
opening_begins (group.named t next begun name inside opening inner is l b r o i) = (next, is)
opening_begins (group.with_flags t next marks run inside opening inner is e r o i) = (next, is)

-- as does an opening with a fault
pub stuck_opening_begins : {front : Front} {t place : Text} {m : Message} → StuckOpening front t m place → Begins left_parenthesis t
stuck_opening_begins (group_fault.looks_around t next place m is at e names) = (next, is)
stuck_opening_begins (group_fault.too_many t next place m is at e more names) = (next, is)
stuck_opening_begins (group_fault.too_many_named t next place m is b more names) = (next, is)
stuck_opening_begins (group_fault.in_name t next begun place m is b s) = (next, is)
stuck_opening_begins (group_fault.in_flags t next marks place m is e n s) = (next, is)

-- an opening adds one group to the count, or none
pub opening_groups : {front inner : Front} {t inside : Text} {opening : Opening} → ReadsOpening front t opening inner inside → front.groups ≤ inner.groups
opening_groups (group.number_only t next inside opening inner is at e o i) = omega (arith, ap (λ f. f.groups) i)
opening_groups (group.named t next begun name inside opening inner is l b r o i) = omega (arith, ap (λ f. f.groups) i)
opening_groups (group.with_flags t next marks run inside opening inner is e r o i) = omega (arith, ap (λ f. f.groups) i)

mutual
  -- the count of groups never falls
  pub choice_groups : {front behind : Front} {t rest : Text} {branches : List Tree} → ReadsChoice front t branches behind rest → front.groups ≤ behind.groups
  choice_groups (grammar.one front behind t rest nodes branches s is) = sequence_groups s
  choice_groups (grammar.several front middle behind t more rest nodes others branches s c is) = omega (arith, sequence_groups s, choice_groups c)

  pub sequence_groups : {front behind : Front} {t rest : Text} {nodes all : List Tree} → ReadsSequence front t nodes all behind rest → front.groups ≤ behind.groups
  sequence_groups (grammar.ends front behind t rest nodes all at ends same is) = omega (arith, ap (λ f. f.groups) is)
  sequence_groups (grammar.goes_on front middle behind t next rest nodes more all i s) = omega (arith, item_groups i, sequence_groups s)

  pub item_groups : {front behind : Front} {t rest : Text} {nodes all : List Tree} → ReadsItem front t nodes all behind rest → front.groups ≤ behind.groups
  item_groups (grammar.atom front behind t rest nodes all node r is same) = omega (arith, ap (λ f. f.groups) same)
  item_groups (grammar.operator front behind t rest nodes all before last min most greedy r is same unchanged) = omega (arith, ap (λ f. f.groups) unchanged)
  item_groups (grammar.directive front behind t next marks run rest c letters nodes all is asks r some same changes) = omega (arith, ap (λ f. f.groups) changes)
  item_groups (grammar.group front inner middle behind t inside rest nodes all branches opening o c is same) =
      omega (arith, opening_groups o, choice_groups c, ap (λ f. f.groups) same)
