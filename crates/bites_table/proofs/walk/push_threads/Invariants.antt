use Rattle.std.proofs.Common.{◌≡◌, ◌≤◌, ◌++◌, map, drop, length}
use Rattle.bites_table.proofs.Words.{on_row, row_of_register, thread_as, frame_of}
use Rattle.bites_table.proofs.walk.push_threads.Given as goal

abbrev pub invariant-loop-number : goal.invariant-loop-number
invariant-loop-number l = record {
  frames : map frame_of l.stack ≡ map (λ t. on_row row_of_register (thread_as t)) (drop l.number l.threads) ++ map frame_of l.initial.stack;
  within : l.number ≤ length l.threads;
}

abbrev pub decreases-loop-number : goal.decreases-loop-number
decreases-loop-number l = l.number
