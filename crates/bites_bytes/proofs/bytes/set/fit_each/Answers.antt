use Rattle.std.proofs.Common.{◌<◌, ◌∙◌, length, sym, ap, true≢false, arith}
use Rattle.bites_spec.specs.Counts.{Room}
use Rattle.bites_bytes.proofs.SetLemmas.{fit_at}
use Rattle.bites_bytes.proofs.bytes.set.fit_each.Goals as goal

pub returns-then-not-fits : goal.returns-then-not-fits
returns-then-not-fits c = (
  λ yes. absurd (true≢false (sym yes)),
  λ e.
      let room = c.index-caches-number.result in
      let lt : c.loop-number.number < length c.args.regexes.now = omega (arith, c.loop-number-test.true) in
      let fit = fit_at c.args.caches.now c.args.regexes.now c.loop-number.number room c.index-regexes-number.result e lt c.index-regexes-number.is in
      absurd (true≢false (sym (c.fits.ensures.1 (ap (λ (x : Room). x.fits) c.index-caches-number.is ∙ fit)) ∙ c.if-not-fits.true)),
)
