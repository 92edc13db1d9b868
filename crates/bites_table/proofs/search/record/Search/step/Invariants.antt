use Rattle.bites_table.proofs.search.record.Search.step.Given as goal

abbrev pub ghost-step_over : goal.ghost-step_over
ghost-step_over g a = g.before
