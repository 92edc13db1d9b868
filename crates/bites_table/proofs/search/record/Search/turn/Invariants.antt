use Rattle.bites_table.proofs.search.record.Search.turn.Given as goal

abbrev pub ghost-pass_one : goal.ghost-pass_one
ghost-pass_one g a = g.before

abbrev pub ghost-step : goal.ghost-step
ghost-step g a = g.before
