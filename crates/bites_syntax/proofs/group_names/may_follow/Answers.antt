use Rattle.std.proofs.Common.{sym, ◌∙◌}
use Rattle.bites_syntax.proofs.NameLemmas.{may_begin, may_go_on}
use Rattle.bites_syntax.proofs.group_names.may_follow.Goals as goal

pub returns-then-is_empty : goal.returns-then-is_empty
returns-then-is_empty c = λ is. c.is_name_start.ensures ∙ may_begin _ c.args.c (sym c.if-is_empty.ensures)

pub returns-else-is_empty : goal.returns-else-is_empty
returns-else-is_empty c = λ is. c.is_name_part.ensures ∙ may_go_on _ c.args.c c.utf8.text (sym c.if-is_empty.ensures) is
