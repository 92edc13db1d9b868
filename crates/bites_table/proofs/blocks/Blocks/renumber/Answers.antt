use Rattle.bites_table.proofs.Library.{◌≤◌, length, ap, ◌∙◌, arith}
use Rattle.bites_table.specs.Blocks.{at}
use Rattle.bites_table.proofs.BlockLemmas.{repeated, renumbered_blocks}
use Rattle.bites_table.proofs.blocks.Blocks.renumber.Goals as goal

pub returns-clause-blocks : goal.returns-clause-blocks
returns-clause-blocks c =
    let one = c.loop-interval.invariant in
    let two = c.loop-interval-2.invariant in
    let end_one : length c.args.self.now.of.items ≤ c.loop-interval.interval = omega (arith, one.len, c.loop-interval-test.false, c.len-interval-end.ensures) in
    let end_two : length c.args.self.now.of.items ≤ c.loop-interval-2.interval = omega (arith, one.len, c.loop-interval-2-test.false, c.len-interval-end-2.ensures) in
    renumbered_blocks c.args.self.now.len c.args.self.now.of.items c.loop-interval.self one.moved
    (λ k lt. one.marks k (omega arith))
    (record { of = c.loop-interval-2.self.of; len = c.loop-interval-2.self.len; moved = c.fill.new.self })
    two.len
    (λ k lt. two.done k (omega arith))
    c.requires.some
    (omega (arith, two.same_len, c.in_ok-self.ensures))
    (λ n. ap (λ l. at l n) (c.fill.ensures.items (λ y e. e)) ∙ repeated _ 0 n)
