use Rattle.bites_machine.proofs.Library.{common_steps, ◌≡◌, ◌∙◌, false, true, length, [], refl, sym, ap, arith, lt-ltb, ltb-false}
use Rattle.bites_machine.proofs.vm.traced.trace.Goals as goal

pub loop-ends-init : goal.loop-ends-init
loop-ends-init c = record {
  traced = λ within. ([], 0, grind arith);
  past = λ past. (lt-ltb _ _ past, c.new-places.ensures.items, refl);
  within = λ on. ltb-false _ _ on;
  most = omega (arith, c.new-places.ensures.len);
}

pub loop-ends-preserved : goal.loop-ends-preserved
loop-ends-preserved c =
    let inv = c.loop-ends.invariant in
    let here = c.piece_at-here.result in
    let is = c.piece_at-here.ensures in record {
      traced = λ within.
          let at = inv.traced within in
          let one = c.in_ok-step.ensures at.0 at.1 in
          (one.0, one.1, grind (arith, common_steps));
      past = λ past. absurd (let x : false ≡ true = sym c.loop-ends-test.true ∙ (inv.past past).0 in cc);
      within = λ still. omega (arith, here.within, is.place, ap length is.haystack);
      most = omega (arith, c.in_ok-push.ensures.len, c.if-len-most.true);
    }
