use Rattle.std.proofs.Common.{◌∙◌, sym, arith}
use Rattle.regex_bites.specs.Split.{limited_left, text_now}
use Rattle.bites_bytes.proofs.CountLemmas.{one_less, none_left}
use Rattle.regex_bites.proofs.CountLemmas.{limited_bound}
use Rattle.regex_bites.proofs.string.split.SplitN.count.Goals as goal
use Rattle.regex_bites.proofs.string.split.SplitN.count.Goals.{then-loop-number-test+else-is_some, else-loop-number-test}

pub returns : goal.returns
returns c =
    elim c.loop-number-test.branch [
      | then-loop-number-test+else-is_some w ↦
          let none = none_left text_now limited_left c.loop-number.self w.step.new.self w.step.result w.step.ensures
          (sym w.is_some.ensures ∙ w.if-is_some.false) in
          omega (arith, none, c.loop-number.invariant)
      | else-loop-number-test w ↦
          omega (arith, w.loop-number-test.false, c.loop-number.invariant, limited_bound c.args.self.left c.args.self.split)
    ]

pub loop-number-smaller : goal.loop-number-smaller
loop-number-smaller c =
    let less = one_less text_now limited_left c.loop-number.self c.step.new.self c.step.result c.step.ensures (sym c.is_some.ensures ∙ c.if-is_some.true) in
    omega (arith, less)

pub loop-number-preserved : goal.loop-number-preserved
loop-number-preserved c =
    let less = one_less text_now limited_left c.loop-number.self c.step.new.self c.step.result c.step.ensures (sym c.is_some.ensures ∙ c.if-is_some.true) in
    omega (arith, less, c.loop-number.invariant)
