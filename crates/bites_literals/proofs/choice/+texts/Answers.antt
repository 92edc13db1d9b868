use Rattle.std.proofs.Common.{◌+◌, ◌<◌, drop, sym, ap, ◌∙◌, subst, arith}
use Rattle.bites_spec.specs.Match.{Matches}
use Rattle.bites_spec.specs.Tree.{Tree, Trees, repetition, tree_and, trees_of}
use Rattle.bites_syntax.specs.View.{tree_of}
use Rattle.bites_syntax.proofs.TreeParts.{read_below, parts_from}
use Rattle.bites_literals.specs.Choice.{StandsBefore}
use Rattle.bites_literals.proofs.ChoiceLemmas.{BeginsAs, HasSoFar, added_as, added_behind, first_of_turns, one_branch_more}
use Rattle.bites_literals.proofs.choice.+texts.Goals as goal

pub add_texts-returns-in-Repetition : goal.add_texts-returns-in-Repetition
add_texts-returns-in-Repetition t c =
    let node = c.in-Repetition in
    let body = c.deref-in-Repetition.result.now in
    let some : 0 < node.min = omega arith in
    let begins = subst (λ (u : Tree). BeginsAs u body)
    (ap (λ x. repetition node.min node.max node.greedy x) c.deref-in-Repetition.ensures ∙ ap tree_of (sym node.is) ∙ c.kind.ensures)
    (λ hay i j (n, le, within, turns). first_of_turns (Matches hay body) node.min n i j some le turns) in
    added_as c.args.front.now c.args.tree.now body begins c.args.texts.now.items c.add_texts-in-Repetition.new.texts.items c.add_texts-in-Repetition.result c.add_texts-in-Repetition.ensures

pub add_texts_of_each-add_texts-requires : goal.add_texts_of_each-add_texts-requires
add_texts_of_each-add_texts-requires t c =
    let below = read_below c.args.parts.now c.loop-branch.branch c.index-parts-branch.result c.index-parts-branch.is (omega arith) in
    (omega (arith, c.decreases, below), tt)

pub add_texts_of_each-loop-branch-preserved : goal.add_texts_of_each-loop-branch-preserved
add_texts_of_each-loop-branch-preserved t c =
    let parts = c.args.parts.now in
    let from = parts_from parts c.loop-branch.branch c.index-parts-branch.result c.index-parts-branch.is (omega arith) in
    one_branch_more c.args.front.now (trees_of parts) (trees_of (drop (c.loop-branch.branch + 1) parts)) c.index-parts-branch.result c.args.texts.now.items c.loop-branch.texts.items c.add_texts.new.texts.items
    (subst (λ (rest : Trees). HasSoFar c.args.front.now (trees_of parts) rest c.args.texts.now.items c.loop-branch.texts.items) from c.loop-branch.invariant) (c.in_ok-add_texts.ensures c.if-not-branch.false)

pub add_texts_of_sequence-add_texts-requires : goal.add_texts_of_sequence-add_texts-requires
add_texts_of_sequence-add_texts-requires t c =
    let below = read_below c.args.parts.now c.front_of-passed.result.1 c.index-parts-passed-then-is_choice.result c.index-parts-passed-then-is_choice.is (omega arith) in
    (omega (arith, c.decreases, below), tt)

pub add_texts_of_sequence-returns-then-is_choice : goal.add_texts_of_sequence-returns-then-is_choice
add_texts_of_sequence-returns-then-is_choice t c =
    let parts = c.args.parts.now in
    let passed = c.front_of-passed.result.1 in
    let part = c.index-parts-passed-then-is_choice in
    let rest : Trees = tree_and part.result (trees_of (drop (passed + 1) parts)) in
    let stands = subst (λ (rest : Trees). StandsBefore c.args.front.now (trees_of parts) c.front_of-passed.result.0 rest) (parts_from parts passed part.result part.is (omega arith)) c.front_of-passed.ensures.stands in
    added_behind c.args.front.now c.front_of-passed.result.0 (trees_of parts) rest stands part.result (λ hay i j m. (m.0, m.1))
    c.args.texts.now.items c.add_texts.new.texts.items c.add_texts.result c.add_texts.ensures
