use Rattle.std.proofs.Common.{sym}
use Rattle.bites_syntax.proofs.NameLemmas.{unclosed_none, unclosed_some}
use Rattle.bites_syntax.proofs.group_names.unclosed_error.Goals as goal

pub returns-then-is_empty : goal.returns-then-is_empty
returns-then-is_empty c = unclosed_none _ (sym c.if-is_empty.ensures)

pub returns-else-is_empty : goal.returns-else-is_empty
returns-else-is_empty c = unclosed_some _ c.utf8.text (sym c.if-is_empty.ensures)
