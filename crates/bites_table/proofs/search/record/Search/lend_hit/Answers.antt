use Rattle.bites_table.proofs.Library.{is_earliest}
use Rattle.bites_table.proofs.SearchesLemmas.{fresh, hits_lent, more_known}
use Rattle.bites_table.proofs.search.record.Search.lend_hit.Goals as goal

pub lend-requires-clause-unless : goal.lend-requires-clause-unless
lend-requires-clause-unless c = λ n k a tells e.
    more_known c.args.self.now.table.now n k a tells (is_earliest c.args.self.now.input.now.kind) c.args.width.slots c.args.width.more c.requires.on.1.bits.more e

pub lend-requires-clause-fresh : goal.lend-requires-clause-fresh
lend-requires-clause-fresh c = fresh _ _ _ _ _ _ _ c.requires.on.1 _ _ (c.requires.piece c.requires.on.0 c.requires.on.1)

pub returns-clause-hit : goal.returns-clause-hit
returns-clause-hit c =
    hits_lent c.args.self.now c.lend.new.self c.args.width c.args.at c.args.piece.class c.args.piece.len c.hits_are_held.ensures c.requires.some (λ h on. (c.requires.piece h on).over)
    c.lend.ensures.same c.lend.result c.lend.ensures.lent
