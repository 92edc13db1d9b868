use Rattle.bites_rows.proofs.words.+words.Given as goal

abbrev pub decreases-write_tree : goal.decreases-write_tree
decreases-write_tree l = l.levels

abbrev pub decreases-write_parts : goal.decreases-write_parts
decreases-write_parts l = l.levels
