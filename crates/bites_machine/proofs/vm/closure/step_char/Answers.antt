use Rattle.bites_machine.proofs.Library.{refl, ap, Listed}
use Rattle.bites_machine.proofs.tables.UsedLemmas.{puts_in}
use Rattle.bites_machine.proofs.vm.closure.step_char.Goals as goal

pub returns-then-takes : goal.returns-then-takes
returns-then-takes c =
    rw c.if-takes.true (puts_in _ _ _ _ _ _ _ c.fork-row.ensures (ap (λ (l : Listed). l.threads) c.push.ensures) (ap (λ (l : Listed). l.room) c.push.ensures) refl refl refl)
