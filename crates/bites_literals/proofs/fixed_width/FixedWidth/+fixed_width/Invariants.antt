use Rattle.std.proofs.Common.{◌+◌, ◌*◌, ◌-◌, drop}
use Rattle.bites_spec.specs.Match.{Parse, ParseAll, Turns}
use Rattle.bites_spec.specs.Measure.{height}
use Rattle.bites_spec.specs.Tree.{sequence, trees_of}
use Rattle.bites_literals.specs.FixedWidth.{MayGrow}
use Rattle.bites_literals.proofs.FixedWidthLemmas.{GoesOn}
use Rattle.bites_literals.proofs.fixed_width.FixedWidth.+fixed_width.Given as goal

abbrev pub decreases-add : goal.decreases-add
decreases-add l = 2 * height l.tree.now

abbrev pub decreases-add_turns : goal.decreases-add_turns
decreases-add_turns l = 2 * height l.tree.now + 1

abbrev pub decreases-add_group : goal.decreases-add_group
decreases-add_group l = 2 * height l.tree.now + 1

abbrev pub decreases-add_parts : goal.decreases-add_parts
decreases-add_parts l = 2 * height (sequence (trees_of l.parts.now)) - 1

abbrev pub invariant-add_parts-loop-part : goal.invariant-add_parts-loop-part
invariant-add_parts-loop-part l =
    MayGrow l.self
    × GoesOn (λ hay i j ms. ParseAll hay (trees_of (drop l.part l.parts)) i j ms) (λ hay i j ms. ParseAll hay (trees_of l.parts) i j ms) l.initial.self l.self

abbrev pub invariant-add_turns-loop-turn : goal.invariant-add_turns-loop-turn
invariant-add_turns-loop-turn l =
    MayGrow l.self
    × GoesOn (λ hay i j ms. Turns (Parse hay l.tree) (l.turns - l.turn) i j ms) (λ hay i j ms. Turns (Parse hay l.tree) l.turns i j ms) l.initial.self l.self
