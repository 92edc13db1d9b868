use Rattle.bites_table.specs.Steps.{most_registers}
use Rattle.bites_table.proofs.Library.{◌≡◌, ◌<◌, ◌⊎◌}
use Rattle.bites_table.specs.LaidOut.{IsKeptOrBegun}
use Rattle.bites_table.specs.declared.thread_list.Thread.{Thread}
use Rattle.bites_table.proofs.table.layout.begun_register.Given as goal

abbrev pub invariant-loop-register : goal.invariant-loop-register
invariant-loop-register l = record {
  begun : (t : Thread) → t.register < l.register → IsKeptOrBegun l.moves l.begins t;
  few : (l.begins ≡ most_registers) ⊎ (l.begins < l.register);
}
