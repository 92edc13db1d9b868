use Rattle.std.proofs.Common.{◌≡◌, ◌++◌, None, drop}
use Rattle.bites_syntax.proofs.Merging.{merged}
use Rattle.bites_syntax.proofs.class_builder.merge.Given as goal

abbrev pub invariant-ranges-2 : goal.invariant-ranges-2
invariant-ranges-2 l = l.merged.items ++ merged l.last (drop l.range-index l.ranges) ≡ merged None l.ranges
