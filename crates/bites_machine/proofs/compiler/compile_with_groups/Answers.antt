use Rattle.bites_machine.proofs.Library.{common_steps, arith, room_for_groups}
use Rattle.bites_machine.proofs.compiler.compile_with_groups.Goals as goal

pub with_names-requires : goal.with_names-requires
with_names-requires c = grind (arith, common_steps, room_for_groups)
