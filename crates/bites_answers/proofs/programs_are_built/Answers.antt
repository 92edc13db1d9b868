use Rattle.bites_machine.proofs.compile.CompiledLemmas as compiled
use Rattle.bites_answers.proofs.programs_are_built.Goals as goal

pub returns : goal.returns
returns c = compiled.Built-compiled
