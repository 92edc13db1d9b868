use Rattle.std.proofs.Common.{arith}
use Rattle.bites_table.proofs.FrameLemmas.{source-written}
use Rattle.bites_table.proofs.thread_list.Source.write.Goals as goal

pub returns : goal.returns
returns c = source-written c.args.self c.args.slot (omega arith)
