use Rattle.bites_syntax.proofs.BracketParts.{Has_first, Has_none}
use Rattle.bites_syntax.proofs.bracket.start_builder.Goals as goal
use Rattle.bites_syntax.proofs.bracket.start_builder.Goals.{in-Some+in_ok-push, in_default}

pub returns : goal.returns
returns c = elim c.match-leading.branch [
  | in-Some+in_ok-push w ↦ rw (w.builder-is, w.in-Some.is) (Has_first _ _ _ c.new-builder.ensures w.in_ok-push.ensures.pushed)
  | in_default w ↦ rw (w.builder-is, w.in_default.is) (Has_none _ c.new-builder.ensures)
]
