use Rattle.bites_table.proofs.cache.Cache.trace_by_table.Given as goal

abbrev pub ghost-trace : goal.ghost-trace
ghost-trace a = a.slots.now
