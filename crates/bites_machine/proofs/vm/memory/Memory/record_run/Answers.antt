use Rattle.bites_machine.proofs.Library.{ℕ, List, true, sym, ap, ap₂, ◌∙◌, subst, places, first_run, run_record, Contents}
use Rattle.bites_spec.specs.Counts.{IsWalked}
use Rattle.bites_machine.proofs.model.MachineRuns.{run_walked}
use Rattle.bites_machine.proofs.vm.memory.Memory.record_run.Goals as goal

pub returns-clause-walked : goal.returns-clause-walked
returns-clause-walked c =
    let p = c.args.program.now.program in let hay = c.args.haystack.now in let i = c.args.place in let run = c.of.result in
    let (x, is) = c.requires in
    let of_program = ap (λ (q : Contents). run_record q.program (first_run q.program run.haystack.bytes (places run.haystack.bytes run.place.value))) c.of.ensures.program in
    let of_place = ap₂ (λ (h : List ℕ) (k : ℕ). run_record p (first_run p h (places h k))) c.of.ensures.haystack c.of.ensures.place in
    subst (IsWalked p hay i (places hay i) true) (sym (c.finish.ensures.walked ∙ c.record_run.ensures.walked ∙ of_program ∙ of_place ∙ ap (run_record p) is))
    (run_walked p hay c.start.ensures.well_formed i x is)
