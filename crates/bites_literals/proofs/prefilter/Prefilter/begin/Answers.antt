use Rattle.std.proofs.Common.{sym, subst}
use Rattle.std.specs.Prelude.{IfSome}
use Rattle.bites_literals.specs.FixedWidth.{IsFixedWidth}
use Rattle.bites_literals.specs.declared.fixed_width.FixedWidth.{FixedWidth}
use Rattle.bites_literals.proofs.BeginLemmas.{begins_here}
use Rattle.bites_literals.proofs.LawLemmas.{whatever_end}
use Rattle.bites_literals.proofs.prefilter.Prefilter.begin.Goals as goal

pub returns-in-Some-fixed : goal.returns-in-Some-fixed
returns-in-Some-fixed c t is =
    let fixed : IsFixedWidth t c.in-Some-fixed.fixed.value = subst (λ o. IfSome o (λ f. IsFixedWidth t f.value)) c.in-Some-fixed.is is.fixed in
    whatever_end c.args.with_end t c.args.haystack.now c.args.start c.begin.result (c.begin.ensures.begins t (subst (λ (f : FixedWidth). IsFixedWidth t f) (sym c.deref.ensures) fixed))

pub returns-in-None : goal.returns-in-None
returns-in-None c t is = begins_here t c.args.haystack.now c.args.start c.requires
