use Rattle.bites_table.proofs.search.record.Search.go_on_by_all.Given as goal

abbrev pub ghost-go_on_by : goal.ghost-go_on_by
ghost-go_on_by g a = g.before
