use Rattle.bites_machine.proofs.Library.{◌≡◌, ◌≤◌, ◌-◌, ◌++◌, drop, length, map, KeepsRoom, IsUsed, row_of, thread_of, thread_in}
use Rattle.bites_machine.proofs.vm.resume.load.Given as goal

abbrev pub invariant-loop-index : goal.invariant-loop-index
invariant-loop-index l = record {
  within : l.index ≤ length l.from.threads.now;
  len : length l.threads.threads ≡ l.index;
  used : IsUsed l.rows (map row_of l.threads.threads);
  threads : map (thread_of l.rows) l.threads.threads ++ map (thread_in l.from.started l.from.registers.now l.slots_per_row) (drop l.index l.from.threads.now)
      ≡ map (thread_in l.from.started l.from.registers.now l.slots_per_row) l.from.threads.now;
  room : l.threads.room ≡ l.fn.threads.room;
  kept : KeepsRoom l.fn.rows l.rows;
  slots_per_row : l.rows.slots_per_row ≡ l.fn.rows.slots_per_row;
}

abbrev pub decreases-loop-index : goal.decreases-loop-index
decreases-loop-index l = length l.from.threads.now - l.index
