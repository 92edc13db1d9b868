use Rattle.std.proofs.Common.{◌<◌, ◌^◌}
use Rattle.bites_scan.specs.LiteralSet.{AreCandidates}
use Rattle.bites_scan.proofs.literal_set.LiteralSet.end_of_one.Given as goal

abbrev pub invariant-candidates : goal.invariant-candidates
invariant-candidates l = record { small : l.left < 2 ^ 64; are_candidates : AreCandidates l.self l.haystack l.at l.left }

abbrev pub decreases-candidates : goal.decreases-candidates
decreases-candidates l = l.left
