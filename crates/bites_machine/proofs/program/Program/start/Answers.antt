use Rattle.bites_machine.proofs.Library.{subst, IsWellFormed, Contents}
use Rattle.bites_machine.proofs.compile.CompiledLemmas.{sound_program}
use Rattle.bites_machine.proofs.program.Program.start.Goals as goal

pub returns-clause-well_formed : goal.returns-clause-well_formed
returns-clause-well_formed c = subst (λ (x : Contents). IsWellFormed x.program) c.self.view_is (sound_program _ c.self.invariant.0)
