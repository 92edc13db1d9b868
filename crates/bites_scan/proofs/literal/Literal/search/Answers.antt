use Rattle.std.proofs.Common.{Bool, take, sym, subst}
use Rattle.bites_scan.specs.Literal.{Needle, IsOutcome, IsOutcomeOf, folding}
use Rattle.bites_scan.proofs.literal.Literal.search.Goals as goal

pub returns-then-self : goal.returns-then-self
returns-then-self c =
    let own = c.self.inside in
    subst (λ (n : Needle). IsOutcome n c.args.haystack.now c.args.from c.search.result) c.self.view_is
    (subst (λ (caseless : Bool). IsOutcomeOf (folding caseless) c.args.haystack.now (take own.len own.bytes) c.args.from c.search.result) (sym c.if-self.true) c.search.ensures)
