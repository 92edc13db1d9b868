use Rattle.bites_syntax.proofs.BracketParts.{add_character, add_class}
use Rattle.bites_syntax.proofs.bracket.add_alone.Goals as goal

pub returns-in_ok-push-in-Character : goal.returns-in_ok-push-in-Character
returns-in_ok-push-in-Character c = λ m means. add_character _ _ _ _ c.in-Character.is c.in_ok-push-in-Character.ensures.pushed m means c.args.cursor.now

pub returns-in_ok-extend-in-Characters : goal.returns-in_ok-extend-in-Characters
returns-in_ok-extend-in-Characters c =
    λ m means. add_class _ _ _ _ _ c.in-Characters.is c.ranges-in-Characters.ensures c.in_ok-extend-in-Characters.ensures.added m means c.args.cursor.now
