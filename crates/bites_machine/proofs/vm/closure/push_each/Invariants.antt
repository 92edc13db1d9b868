use Rattle.bites_machine.proofs.Library.{◌≡◌, ◌≤◌, ◌++◌, drop, length, targets_of, with_frames, framed, splits}
use Rattle.bites_machine.proofs.vm.closure.push_each.Given as goal

abbrev pub invariant-loop-number : goal.invariant-loop-number
invariant-loop-number l = record {
  frames : l.stack ≡ with_frames (framed l.pending_len (drop l.number (targets_of (splits l.targets l.reverse))) ++ l.initial.stack.frames) l.initial.stack;
  within : l.number ≤ length l.targets;
  some : l.number ≡ 0 → length l.targets ≡ 0;
}

abbrev pub decreases-loop-number : goal.decreases-loop-number
decreases-loop-number l = l.number
