use Rattle.bites_table.proofs.Library.{rules, arith, ◌≡◌, ◌++◌, ◌∷◌, [], ap, refl, slice_set}
use Rattle.bites_table.proofs.Words.{most_registers, sources_after, Gives, row_of_register, Copy}
use Rattle.bites_table.proofs.SequenceLemmas.{gives-step, order-spared}
use Rattle.bites_table.proofs.table.sequence.Order.spare.Goals as goal

pub returns : goal.returns
returns c =
    let old = c.args.steps.now.items in
    let to = c.args.to in
    let is = c.requires.order in
    let pushed : c.push.new.self.items ≡ old ++ Copy most_registers to ∷ [] = search rules in
    let gives : Gives old c.push.new.self.items most_registers (row_of_register to) =
    gives-step old (Copy most_registers to) c.push.new.self.items most_registers (row_of_register to) pushed (omega arith, omega arith) (omega arith)
    (ap (slice_set (sources_after old) most_registers) (is.rows.left to (omega arith) c.requires.left)) in
    order-spared c.args.moves.now c.args.self.now old is c.push.new.self.items _ to gives refl refl
