use Rattle.bites_table.proofs.cache.Cache.search_by_table.Given as goal

abbrev pub ghost-run : goal.ghost-run
ghost-run a = a.slots.now
