use Rattle.bites_syntax.proofs.BracketParts.{add_between}
use Rattle.bites_syntax.proofs.bracket.add_range.Goals as goal

pub returns : goal.returns
returns c =
    λ m k first second. add_between _ _ _ _ _ _ c.in-Character-Character.is-0 c.in-Character-Character.is-1 c.if-high-low.false c.in_ok-push.ensures.pushed m k first second c.args.cursor.now
