use Rattle.std.proofs.Common.{◌∙◌, sym, arith}
use Rattle.bites_bytes.specs.Matched.{excerpt_of}
use Rattle.bites_bytes.specs.Matches.{matches_left}
use Rattle.bites_bytes.proofs.CountLemmas.{one_less, none_left, matches_bound}
use Rattle.bites_bytes.proofs.bytes.matches.Matches.count.Goals as goal

pub loop-number-init : goal.loop-number-init
loop-number-init c = omega arith

pub overflow_add-number : goal.overflow_add-number
overflow_add-number c =
    let less = one_less excerpt_of matches_left c.loop-number.self c.step.new.self c.step.result c.step.ensures.steps (sym c.is_some.ensures ∙ c.loop-number-test.true) in
    omega (arith, less, c.loop-number.invariant, matches_bound c.args.self, c.args.self.cursor.bounded)

pub loop-number-smaller : goal.loop-number-smaller
loop-number-smaller c =
    let less = one_less excerpt_of matches_left c.loop-number.self c.step.new.self c.step.result c.step.ensures.steps (sym c.is_some.ensures ∙ c.loop-number-test.true) in
    omega (arith, less)

pub loop-number-preserved : goal.loop-number-preserved
loop-number-preserved c =
    let less = one_less excerpt_of matches_left c.loop-number.self c.step.new.self c.step.result c.step.ensures.steps (sym c.is_some.ensures ∙ c.loop-number-test.true) in
    omega (arith, less, c.loop-number.invariant)

pub returns-clause-left : goal.returns-clause-left
returns-clause-left c =
    let none = none_left excerpt_of matches_left c.loop-number.self c.step.new.self c.step.result c.step.ensures.steps (sym c.is_some.ensures ∙ c.loop-number-test.false) in
    omega (arith, none, c.loop-number.invariant)

pub returns-clause-bound : goal.returns-clause-bound
returns-clause-bound c = omega (arith, c.loop-number.invariant, matches_bound c.args.self, c.args.self.cursor.bounded)
