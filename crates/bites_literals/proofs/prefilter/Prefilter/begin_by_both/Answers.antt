use Rattle.std.proofs.Common.{true}
use Rattle.bites_literals.specs.declared.prefilter.Begin.TheVariants.{From}
use Rattle.bites_literals.proofs.LawLemmas.{begins_later}
use Rattle.bites_literals.proofs.prefilter.Prefilter.begin_by_both.Goals as goal

pub returns-in-From : goal.returns-in-From
returns-in-From c t is end =
    begins_later true t c.args.haystack.now c.args.start c.in-From.from (c.in-From.ensures.begins t is) (From c.back.result) (c.back.ensures.none t end)
