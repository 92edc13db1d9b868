use Rattle.bites_table.proofs.Library.{rules, arith, ◌≡◌, ◌++◌, ◌∷◌, [], ap, ◌∙◌, None, sym, ℕ, Option, slice_set}
use Rattle.bites_table.proofs.Words.{unwritten, row_of_register, sources_after, base_of, Blank, Copy}
use Rattle.bites_table.proofs.SequenceLemmas.{gives-step}
use Rattle.bites_table.proofs.table.sequence.Order.push_base.Goals as goal

pub returns-in_default-clause-gives : goal.returns-in_default-clause-gives
returns-in_default-clause-gives c =
    let old = c.args.steps.now.items in
    let new = c.push.new.self.items in
    let to = c.args.to in
    let none : c.args.source.register ≡ None = search rules in
    let base : unwritten ≡ base_of c.args.source = ap (λ (o : Option ℕ). record { register = o; writes = unwritten.writes }) (sym none) in
    let pushed : new ≡ old ++ Blank to ∷ [] = search rules in
    gives-step old (Blank to) new to (base_of c.args.source) pushed (omega arith) (omega arith) (ap (slice_set (sources_after old) to) base)

pub returns-in_ok-ok-2-clause-gives : goal.returns-in_ok-ok-2-clause-gives
returns-in_ok-ok-2-clause-gives c =
    let old = c.args.steps.now.items in
    let new = c.push-then-from-to.new.self.items in
    let to = c.args.to in
    let from = c.in_ok-from.from in
    let base : row_of_register c.in-Some.register ≡ base_of c.args.source = ap (λ (o : Option ℕ). record { register = o; writes = unwritten.writes }) (sym c.in-Some.is) in
    let pushed : new ≡ old ++ Copy to from ∷ [] = search rules in
    gives-step old (Copy to from) new to (base_of c.args.source) pushed (omega arith, omega (arith, c.in_ok-from.ensures.few)) (omega arith)
    (ap (slice_set (sources_after old) to) (c.in_ok-from.ensures.row old c.requires.rows ∙ base))
