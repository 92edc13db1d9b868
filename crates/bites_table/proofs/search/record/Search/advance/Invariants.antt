use Rattle.bites_table.proofs.search.record.Search.advance.Given as goal

abbrev pub ghost-pass_piece : goal.ghost-pass_piece
ghost-pass_piece g a = g.before

abbrev pub ghost-end_with_hit : goal.ghost-end_with_hit
ghost-end_with_hit g a = g.before

abbrev pub ghost-step_over : goal.ghost-step_over
ghost-step_over g a = g.before
