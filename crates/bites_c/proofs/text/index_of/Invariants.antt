use Rattle.std.proofs.Common.{◌≡◌, ◌+◌, length}
use Rattle.std.specs.List.{prefix_len}
use Rattle.bites_c.proofs.NameLemmas.{is_other}
use Rattle.bites_c.proofs.text.index_of.Given as goal

-- `number` names were passed over, and none of them is the name
abbrev pub invariant-loop-own : goal.invariant-loop-own
invariant-loop-own l =
    (l.number + prefix_len (is_other l.name) l.names ≡ prefix_len (is_other l.name) l.regex.names)
    × (l.number + length l.names ≡ length l.regex.names)
