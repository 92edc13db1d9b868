use Rattle.bites_table.proofs.search.record.Search.note_skip.Goals as goal

pub returns : goal.returns
returns c = λ s before there. c.in_ok-push.ensures s c.args.to.place before (c.if-from-to.false, there c.number-list.result c.number-list.ensures.number)
