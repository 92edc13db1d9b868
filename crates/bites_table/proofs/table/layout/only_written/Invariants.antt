use Rattle.bites_table.specs.Steps.{most_registers}
use Rattle.bites_table.proofs.Library.{◌≡◌, ◌<◌, ◌⊎◌, ℕ}
use Rattle.bites_table.specs.LaidOut.{IsWritten}
use Rattle.bites_table.proofs.table.layout.only_written.Given as goal

abbrev pub invariant-loop-number : goal.invariant-loop-number
invariant-loop-number l = record {
  written : (r : ℕ) → r < l.number → IsWritten l.moves l.register l.slot r;
  few : (l.register ≡ most_registers) ⊎ (l.register < l.number);
}
