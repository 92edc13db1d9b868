use Rattle.std.proofs.Common.{◌<◌}
use Rattle.bites_table.specs.declared.thread_list.Thread.{Thread}
use Rattle.bites_table.proofs.LaidOutLemmas.{among-last}
use Rattle.bites_table.proofs.table.layout.are_held.Goals as goal

pub loop-thread-preserved : goal.loop-thread-preserved
loop-thread-preserved c =
    among-last (λ (t : Thread). t.register < c.args.registers) c.args.threads.now c.loop-thread.thread-index (record { state = 0; register = 0 })
    c.loop-thread-test.true c.loop-thread.invariant c.if-thread-registers.false
