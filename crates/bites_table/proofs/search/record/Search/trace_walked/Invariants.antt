use Rattle.bites_table.proofs.search.record.Search.trace_walked.Given as goal

abbrev pub ghost-resume : goal.ghost-resume
ghost-resume g a = g.before
