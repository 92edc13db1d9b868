use Rattle.std.proofs.Common.{◌≡◌, ℕ, ◌+◌, ◌-◌, ◌<◌, length, drop, sym, ap, ◌∙◌, subst, arith}
use Rattle.bites_spec.specs.Tree.{Tree, Trees, repetition, trees_of}
use Rattle.bites_syntax.specs.View.{look_of, tree_of}
use Rattle.bites_syntax.proofs.TreeParts.{read_below, parts_from, parts_end}
use Rattle.bites_literals.specs.Facts.{AreFacts, AreAllFacts, AreSomeFacts}
use Rattle.bites_literals.proofs.tree.+facts.Goals as goal

pub facts_of-returns-in-Repetition : goal.facts_of-returns-in-Repetition
facts_of-returns-in-Repetition t c =
    let node = c.in-Repetition in
    subst (λ (t : Tree). AreFacts t c.repeated.result)
    (ap (λ x. repetition node.min node.max node.greedy x) c.deref.ensures ∙ ap tree_of (sym node.is) ∙ c.kind.ensures)
    (c.repeated.ensures c.deref.result.now node.greedy c.facts_of.ensures)

pub facts_of_sequence-loop-i-init : goal.facts_of_sequence-loop-i-init
facts_of_sequence-loop-i-init t c =
    subst (λ (ts : Trees). AreAllFacts ts c.empty-facts.result) (sym (parts_end c.args.parts.now (length c.args.parts.now) (omega arith))) c.empty-facts.ensures

pub facts_of_alternation-loop-i-init : goal.facts_of_alternation-loop-i-init
facts_of_alternation-loop-i-init t c =
    subst (λ (ts : Trees). AreSomeFacts ts c.none-facts.result) (sym (parts_end c.args.parts.now (length c.args.parts.now) (omega arith))) c.none-facts.ensures

before : (i : ℕ) → 0 < i → i - 1 + 1 ≡ i
before i some = omega arith

pub facts_of_sequence-facts_of-requires : goal.facts_of_sequence-facts_of-requires
facts_of_sequence-facts_of-requires t c =
    let below = read_below c.args.parts.now (c.loop-i.i - 1) c.index-parts-i.result c.index-parts-i.is (omega arith) in
    (omega (arith, c.decreases, below), tt)

pub facts_of_alternation-facts_of-requires : goal.facts_of_alternation-facts_of-requires
facts_of_alternation-facts_of-requires t c =
    let below = read_below c.args.parts.now (c.loop-i.i - 1) c.index-parts-i.result c.index-parts-i.is (omega arith) in
    (omega (arith, c.decreases, below), tt)

pub facts_of_sequence-loop-i-preserved : goal.facts_of_sequence-loop-i-preserved
facts_of_sequence-loop-i-preserved t c =
    let parts = c.args.parts.now in
    let part = c.index-parts-i.result in
    let from = parts_from parts (c.loop-i.i - 1) part c.index-parts-i.is (omega arith) in
    subst (λ (ts : Trees). AreAllFacts ts c.followed_by-facts.result) (sym from)
    (c.followed_by-facts.ensures part (trees_of (drop (c.loop-i.i - 1 + 1) parts)) c.facts_of.ensures
    (subst (λ k. AreAllFacts (trees_of (drop k parts)) c.loop-i.facts) (sym (before c.loop-i.i (omega arith))) c.loop-i.invariant))

pub facts_of_alternation-loop-i-preserved : goal.facts_of_alternation-loop-i-preserved
facts_of_alternation-loop-i-preserved t c =
    let parts = c.args.parts.now in
    let part = c.index-parts-i.result in
    let from = parts_from parts (c.loop-i.i - 1) part c.index-parts-i.is (omega arith) in
    subst (λ (ts : Trees). AreSomeFacts ts c.or-facts.result) (sym from)
    (c.or-facts.ensures part (trees_of (drop (c.loop-i.i - 1 + 1) parts)) c.facts_of.ensures
    (subst (λ k. AreSomeFacts (trees_of (drop k parts)) c.loop-i.facts) (sym (before c.loop-i.i (omega arith))) c.loop-i.invariant))

pub facts_of-returns-in-Empty : goal.facts_of-returns-in-Empty
facts_of-returns-in-Empty t c = subst (λ (t : Tree). AreFacts t c.empty.result) (ap tree_of (sym c.in-Empty.is) ∙ c.kind.ensures) c.empty.ensures

pub facts_of-returns-in-Look : goal.facts_of-returns-in-Look
facts_of-returns-in-Look t c =
    subst (λ (t : Tree). AreFacts t c.look.result) (ap tree_of (sym c.in-Look.is) ∙ c.kind.ensures) (c.look.ensures (look_of c.in-Look.field-0))
