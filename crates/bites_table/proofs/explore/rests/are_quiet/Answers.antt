use borrow.Author.Count.{below_more}
use Rattle.bites_table.proofs.Words.{table_of, LeadsQuietly}
use Rattle.bites_table.proofs.explore.rests.are_quiet.Goals as goal

pub loop-class-preserved : goal.loop-class-preserved
loop-class-preserved c =
    below_more (LeadsQuietly (table_of c.args.graph.now) c.args.number) c.loop-class.class c.loop-class.invariant c.in-Some.ensures.quiet
