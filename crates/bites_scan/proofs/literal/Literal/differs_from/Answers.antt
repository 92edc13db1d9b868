use Rattle.std.proofs.Common.{true, false, ap₂, sym, ◌∙◌, ◌||◌}
use Rattle.bites_scan.proofs.LiteralLemmas.{compared}
use Rattle.bites_scan.proofs.literal.Literal.differs_from.Goals as goal

pub returns-then-is_caseless : goal.returns-then-is_caseless
returns-then-is_caseless c =
    compared c.args.self.now c.args.other.now true c.are_equal.result c.min-both.result c.len.result c.len-2.result c.bytes.result.now c.bytes-2.result.now
    (ap₂ (λ x y. x || y) (sym c.is_caseless.ensures) (sym c.is_caseless-2.ensures) ∙ c.if-is_caseless.true) c.len.ensures c.len-2.ensures c.min-both.ensures c.bytes.ensures c.bytes-2.ensures c.are_equal.ensures

pub returns-else-is_caseless : goal.returns-else-is_caseless
returns-else-is_caseless c =
    compared c.args.self.now c.args.other.now false c.are_equal-else-is_caseless.result c.min-both.result c.len.result c.len-2.result c.bytes.result.now c.bytes-2.result.now
    (ap₂ (λ x y. x || y) (sym c.is_caseless.ensures) (sym c.is_caseless-2.ensures) ∙ c.if-is_caseless.false) c.len.ensures c.len-2.ensures c.min-both.ensures c.bytes.ensures c.bytes-2.ensures c.are_equal-else-is_caseless.ensures
