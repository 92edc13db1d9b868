use Rattle.std.proofs.Common.{◌<◌, ◌+◌, true, length, subst, arith}
use Rattle.std.specs.Prelude.{IfSome}
use Rattle.bites_literals.specs.declared.prefilter.Begin.TheVariants.{Nowhere}
use Rattle.bites_literals.specs.Begins.{IsNear}
use Rattle.bites_literals.proofs.BeginLemmas.{none_fit}
use Rattle.bites_literals.proofs.LawLemmas.{begins_later}
use Rattle.bites_literals.proofs.prefilter.Prefilter.begin_by_end.Goals as goal

pub returns-in-Some : goal.returns-in-Some
returns-in-Some c t is end =
    let hay = c.args.haystack.now in
    let from = c.back-from.result in
    let near = subst (λ o. IfSome o (IsNear t)) c.in-Some.is is.near in
    let short : length hay < from + length c.in-Some.near.literal.bytes = omega (arith, c.if-left-len.true, c.len.ensures) in
    begins_later true t hay c.args.start from (c.back-from.ensures.none t end) Nowhere (none_fit t c.args.end.now end hay from c.in-Some.near near short)

pub returns-in_default-2 : goal.returns-in_default-2
returns-in_default-2 c t is end =
    begins_later true t c.args.haystack.now c.args.start c.back-from.result (c.back-from.ensures.none t end) c.begin_by_literal.result (c.begin_by_literal.ensures.begins t is)
