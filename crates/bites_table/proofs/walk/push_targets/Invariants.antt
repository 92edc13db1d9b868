use Rattle.bites_table.proofs.Library.{◌≡◌, ◌≤◌, ◌++◌, map, drop, length, targets_of}
use Rattle.bites_spec.specs.Program as program
use Rattle.bites_table.proofs.Words.{thread_with, source_of, frame_of}
use Rattle.bites_table.proofs.walk.push_targets.Given as goal

abbrev pub invariant-loop-number : goal.invariant-loop-number
invariant-loop-number l = record {
  frames : map frame_of l.stack ≡ map (thread_with (source_of l.source)) (drop l.number (targets_of (program.splits l.targets l.reverse))) ++ map frame_of l.initial.stack;
  within : l.number ≤ length l.targets;
}

abbrev pub decreases-loop-number : goal.decreases-loop-number
decreases-loop-number l = l.number
