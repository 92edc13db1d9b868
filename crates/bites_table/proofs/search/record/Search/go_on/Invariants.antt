use Rattle.bites_table.proofs.search.record.Search.go_on.Given as goal

abbrev pub ghost-go_on_by_none : goal.ghost-go_on_by_none
ghost-go_on_by_none g a = g.before

abbrev pub ghost-go_on_by_two : goal.ghost-go_on_by_two
ghost-go_on_by_two g a = g.before

abbrev pub ghost-go_on_by_all : goal.ghost-go_on_by_all
ghost-go_on_by_all g a = g.before
