use Rattle.bites_machine.proofs.Library.{sym, ◌∙◌, walk_state}
use Rattle.bites_machine.proofs.refine.ClosureSteps.{closes_by_cut}
use Rattle.bites_machine.proofs.vm.pikevm.close_thread.Goals as goal

pub returns-then-is_cut : goal.returns-then-is_cut
returns-then-is_cut c =
    let old = walk_state c.args.counted.now c.args.scratch.now c.args.slots.now in
    rw c.release.ensures (closes_by_cut c.args.here.now c.args.thread old c.requires (sym c.is_cut.ensures ∙ c.if-is_cut.true))
