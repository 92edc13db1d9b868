use Rattle.std.proofs.Common.{eqb-true, eq-eqb}
use Rattle.bites_literals.proofs.AllowedBytesLemmas.{none_below, below_none}
use Rattle.bites_literals.proofs.allowed_bytes.lanes_lie_between.Goals as goal

pub returns-then-below-eq0 : goal.returns-then-below-eq0
returns-then-below-eq0 c =
    let hay = c.args.haystack.now in
    let greatest = c.args.greatest.now in (
      λ e k from to. (
        none_below hay c.args.least.now c.args.at c.requires.haystack c.requires.least c.if-below-eq0.true k from to,
        none_below greatest hay c.args.at c.requires.greatest c.requires.haystack (eqb-true _ _ e) k from to,
      ),
      λ h. eq-eqb _ _ (below_none greatest hay c.args.at c.requires.greatest c.requires.haystack (λ k from to. (h k from to).1)),
    )

pub returns-else-below-eq0 : goal.returns-else-below-eq0
returns-else-below-eq0 c = (
  λ e. absurd (c.if-below-eq0.false (eqb-true _ _ e)),
  λ h. eq-eqb _ _ (below_none c.args.haystack.now c.args.least.now c.args.at c.requires.haystack c.requires.least (λ k from to. (h k from to).0)),
)
