use Rattle.std.proofs.Common.{length}
use Rattle.bites_table.proofs.search.record.Search.pass_quiet.Given as goal

abbrev pub ghost-pass_rows : goal.ghost-pass_rows
ghost-pass_rows g a = length g.before
