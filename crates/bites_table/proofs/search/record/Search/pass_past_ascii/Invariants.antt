use Rattle.bites_table.proofs.search.record.Search.pass_past_ascii.Given as goal

abbrev pub ghost-pass_quiet : goal.ghost-pass_quiet
ghost-pass_quiet g a = g.before
