-- Reading goes forward: an atom and an item take at least a character, a choice and a sequence never go back.
use Rattle.std.proofs.Common.{◌<◌, ◌≤◌, List, length, refl, ap, arith}
use Rattle.bites_spec.specs.Tree.{Tree}
use Rattle.bites_spec.specs.Pattern.{Text, Flags, Front}
use Rattle.bites_spec.specs.Grammar as grammar
use Rattle.bites_spec.specs.Grammar.{ReadsAtom, ReadsItem, ReadsSequence, ReadsChoice}
use Rattle.bites_spec.proofs.characters.EachLemmas.{skip_shorter}
use Rattle.bites_spec.proofs.grammar.ItemCounts.{operator_shorter}
use Rattle.bites_spec.proofs.brackets.BracketLemmas.{escape_shorter, bracket_shorter}
use Rattle.bites_spec.proofs.grammar.GroupLemmas.{opening_shorter, directive_shorter}

-- an atom takes at least a character
pub atom_shorter : {flags : Flags} {t rest : Text} {node : Tree} → ReadsAtom flags t node rest → length rest < length t
atom_shorter (grammar.literal c t rest node is plain same) = omega (arith, ap length is)
atom_shorter (grammar.any t rest node ranges is lists same) = omega (arith, ap length is)
atom_shorter (grammar.line_start t rest node is same) = omega (arith, ap length is)
atom_shorter (grammar.line_end t rest node is same) = omega (arith, ap length is)
atom_shorter {flags} (grammar.bracket t rest node ranges r same) = bracket_shorter r
atom_shorter {flags} (grammar.escaped_character c t rest node r same) = escape_shorter r
atom_shorter {flags} (grammar.escaped_class set t rest node ranges r lists same) = escape_shorter r
atom_shorter {flags} (grammar.escaped_assertion l t rest node r same) = escape_shorter r

mutual
  -- reading a choice never goes back
  pub choice_shorter : {front behind : Front} {t rest : Text} {branches : List Tree} → ReadsChoice front t branches behind rest → length rest ≤ length t
  choice_shorter (grammar.one front behind t rest nodes branches s is) = sequence_shorter s
  choice_shorter (grammar.several front middle behind t more rest nodes others branches s c is) = omega (arith, sequence_shorter s, choice_shorter c)

  -- nor does reading a sequence
  pub sequence_shorter : {front behind : Front} {t rest : Text} {nodes all : List Tree} → ReadsSequence front t nodes all behind rest → length rest ≤ length t
  sequence_shorter (grammar.ends front behind t rest nodes all at ends same is) = omega (arith, ap length at, skip_shorter front.flags t)
  sequence_shorter (grammar.goes_on front middle behind t next rest nodes more all i s) =
      omega (arith, item_shorter i, sequence_shorter s, skip_shorter front.flags t)

  -- an item takes at least a character
  pub item_shorter : {front behind : Front} {t rest : Text} {nodes all : List Tree} → ReadsItem front t nodes all behind rest → length rest < length t
  item_shorter (grammar.atom front behind t rest nodes all node r is same) = atom_shorter r
  item_shorter (grammar.operator front behind t rest nodes all before last min most greedy r is same unchanged) =
      operator_shorter r
  item_shorter (grammar.directive front behind t next marks run rest c letters nodes all is asks r some same changes) =
      directive_shorter {front = front}
      (record { next = next; marks = marks; run = run; c = c; letters = letters; opens = is; asks = asks; reads = r; some = some; are = refl })
  item_shorter (grammar.group front inner middle behind t inside rest nodes all branches opening o c is same) =
      omega (arith, opening_shorter o, choice_shorter c)
