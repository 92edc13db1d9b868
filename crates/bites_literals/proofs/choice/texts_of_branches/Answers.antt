use Rattle.std.proofs.Common.{◌+◌, ◌<◌, drop, length, subst, arith, rules}
use Rattle.bites_spec.specs.Tree.{Trees, trees_of}
use Rattle.bites_syntax.proofs.TreeParts.{parts_from}
use Rattle.bites_literals.specs.Texts.{bytes_of}
use Rattle.bites_literals.proofs.ChoiceLemmas.{HasBranches, one_text_more}
use Rattle.bites_literals.proofs.choice.texts_of_branches.Goals as goal

pub loop-number-preserved : goal.loop-number-preserved
loop-number-preserved c =
    let parts = c.args.parts.now in
    let part = c.index-parts-number in
    let facts = c.facts_of-facts in
    let some : 0 < length (bytes_of facts.result.front) = omega (arith, c.if-len-lt-LEAST_LEN.false, c.len.ensures) in
    let from = parts_from parts c.loop-number.number part.result part.is (omega arith) in
    one_text_more (trees_of parts) (trees_of (drop (c.loop-number.number + 1) parts)) part.result c.loop-number.texts.items
    (subst (λ (rest : Trees). HasBranches (trees_of parts) rest c.loop-number.texts.items) from c.loop-number.invariant)
    facts.result facts.ensures c.if-not-facts.false c.if-not-facts-2.false some c.literal.result c.literal.ensures c.push.new.self.items (search rules)
