use Rattle.bites_table.proofs.search.record.Search.pass_piece.Given as goal

abbrev pub ghost-pass_past_ascii : goal.ghost-pass_past_ascii
ghost-pass_past_ascii g a = g.before

abbrev pub ghost-pass_steps : goal.ghost-pass_steps
ghost-pass_steps g a = g.before

abbrev pub ghost-pass_hits : goal.ghost-pass_hits
ghost-pass_hits g a = g.before
