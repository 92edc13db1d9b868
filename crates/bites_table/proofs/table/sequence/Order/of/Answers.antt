use Rattle.bites_table.proofs.SequenceLemmas.{order-begun}
use Rattle.bites_table.proofs.table.sequence.Order.of.Goals as goal

pub returns : goal.returns
returns c = order-begun c.args.moves.now c.users_of.result
