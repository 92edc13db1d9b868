use Rattle.bites_machine.proofs.Library.{◌≡◌, refl, sym, ap, ◌∙◌, subst, AllApart, Record, ReadsVisits, record_of, record_step, record_of_run, rolls-Run, History-F, fold-roll-History}
use Rattle.bites_machine.proofs.model.MachineRuns.{run_apart}
use Rattle.bites_machine.proofs.vm.counted.Trace.of_run.Goals as goal

record_is : (c : goal.Joined-this) → record_of c.of.result.value ≡ record_of_run c.args.run
record_is c = ap record_of (c.of.ensures ∙ sym (rolls-Run c.args.run)) ∙ fold-roll-History Record record_step (History-F.Run c.args.run)

pub invariant_of-result : goal.invariant_of-result
invariant_of-result c =
    let run = c.args.run in
    subst (λ (r : Record). AllApart r.visits × ReadsVisits r) (sym (record_is c)) (run_apart run.program.value.program run.haystack.bytes c.requires run.place.value _ refl)

pub returns : goal.returns
returns c = record_is c
