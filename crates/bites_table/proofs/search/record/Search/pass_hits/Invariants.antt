use Rattle.bites_table.proofs.search.record.Search.pass_hits.Given as goal

abbrev pub ghost-repeat_hits : goal.ghost-repeat_hits
ghost-repeat_hits g a = g.before
