use Rattle.std.proofs.Common.{◌+◌, ◌-◌, ◌≡◌, ◌++◌, ◌∷◌, [], ℕ, suc, drop, Some, refl, sym, ap, ◌∙◌, subst, arith, rules}
use Rattle.std.proofs.lemmas.List.{map-append}
use Rattle.bites_spec.specs.Match.{Parse, ParseAll, Turns, mark}
use Rattle.bites_spec.specs.Tree.{Tree, Trees, class, group, repetition, sequence, trees_of}
use Rattle.bites_syntax.specs.View.{tree_of}
use Rattle.bites_syntax.proofs.TreeParts.{read_below, parts_from, parts_end}
use Rattle.bites_literals.specs.declared.fixed_width.FixedWidth.{FixedWidth}
use Rattle.bites_literals.specs.declared.fixed_width.Group.{Group}
use Rattle.bites_literals.specs.FixedWidth.{Adds, marks_of}
use Rattle.bites_literals.proofs.FixedWidthLemmas.{GoesOn, Parsed, adds_nothing, adds_group, adds_turns, one_more}
use Rattle.bites_literals.proofs.fixed_width.FixedWidth.+fixed_width.Goals as goal

-- what is parsed as one tree is parsed as another that is the same
as_tree : (t u : Tree) → t ≡ u → (old new : FixedWidth) → Adds (λ hay i j ms. Parse hay t i j ms) old new → Adds (λ hay i j ms. Parse hay u i j ms) old new
as_tree t u e old new a = subst (λ (t : Tree). Adds (λ hay i j ms. Parse hay t i j ms) old new) e a

pub add-returns-in-Empty : goal.add-returns-in-Empty
add-returns-in-Empty t c told = as_tree _ _ (ap tree_of (sym c.in-Empty.is) ∙ c.kind.ensures) _ _ (adds_nothing c.args.self.now c.requires)

pub add-returns-in-Look : goal.add-returns-in-Look
add-returns-in-Look t c told = as_tree _ _ (ap tree_of (sym c.in-Look.is) ∙ c.kind.ensures) _ _ (c.add_look.ensures told)

pub add-returns-in-Char : goal.add-returns-in-Char
add-returns-in-Char t c told = as_tree _ _ (ap tree_of (sym c.in-Char.is) ∙ c.kind.ensures) _ _ (c.add_char.ensures told)

pub add-returns-in-Class : goal.add-returns-in-Class
add-returns-in-Class t c told =
    as_tree _ _ (ap class c.ranges-in-Class.ensures.ranges ∙ ap tree_of (sym c.in-Class.is) ∙ c.kind.ensures) _ _ (c.add_class.ensures told)

pub add-returns-in-Repetition : goal.add-returns-in-Repetition
add-returns-in-Repetition t c told =
    let node = c.in-Repetition in
    let all : node.max ≡ Some node.min = search rules in
    as_tree _ _
    (ap (λ m. repetition node.min m node.greedy c.deref.result.now) (sym all) ∙ ap (λ x. repetition node.min node.max node.greedy x) c.deref.ensures ∙ ap tree_of (sym node.is) ∙ c.kind.ensures) _ _
    (adds_turns node.min node.greedy c.deref.result.now c.args.self.now c.add_turns.new.self (c.add_turns.ensures told))

pub add-returns-in-Capture : goal.add-returns-in-Capture
add-returns-in-Capture t c told =
    let node = c.in-Capture in
    as_tree _ _ (ap (λ x. group node.index node.name x) c.deref-in-Capture.ensures ∙ ap tree_of (sym node.is) ∙ c.kind.ensures) _ _ (c.add_group.ensures told node.name)

pub add-returns-in-Concat : goal.add-returns-in-Concat
add-returns-in-Concat t c told =
    as_tree _ _ (ap (λ ts. sequence (trees_of ts)) c.deref-in-Concat.ensures.value ∙ ap tree_of (sym c.in-Concat.is) ∙ c.kind.ensures) _ _ (c.add_parts.ensures told)

pub add_group-returns : goal.add_group-returns
add_group-returns t c told name =
    adds_group c.args.number c.args.tree.now c.args.self.now c.add.new.self _ (c.add.ensures (search rules)) refl refl refl
    (ap marks_of pushed ∙ map-append (λ (g : Group). mark g.number g.start g.end) c.add.new.self.groups.items _) name
  where
    pushed : c.push.new.self.items ≡ c.add.new.self.groups.items ++ record { number = c.args.number; start = c.args.self.now.len; end = c.add.new.self.len } ∷ []
    pushed = search rules

pub add_parts-add-requires : goal.add_parts-add-requires
add_parts-add-requires t c =
    let below = read_below c.args.parts.now c.loop-part.part c.index-parts-part.result c.index-parts-part.is (omega arith) in
    (omega (arith, c.decreases, below), c.loop-part.invariant.0)

pub add_parts-loop-part-preserved : goal.add_parts-loop-part-preserved
add_parts-loop-part-preserved t c =
    let parts = c.args.parts.now in
    let part = c.index-parts-part in
    let from = parts_from parts c.loop-part.part part.result part.is (omega arith) in
    let added = c.add.ensures (search rules) in
    let whole : Parsed = λ hay i j ms. ParseAll hay (trees_of parts) i j ms in (
      added.grows,
      one_more whole (λ hay i j ms. Parse hay part.result i j ms) (λ hay i j ms. ParseAll hay (trees_of (drop (c.loop-part.part + 1) parts)) i j ms)
          c.args.self.now c.loop-part.self c.add.new.self
          (subst (λ (ts : Trees). GoesOn (λ hay i j ms. ParseAll hay ts i j ms) whole c.args.self.now c.loop-part.self) from c.loop-part.invariant.1) added,
    )

pub add_parts-returns : goal.add_parts-returns
add_parts-returns t c told =
    let parts = c.args.parts.now in
    c.loop-part.invariant.1 c.loop-part.self
    (subst (λ (ts : Trees). Adds (λ hay i j ms. ParseAll hay ts i j ms) c.loop-part.self c.loop-part.self) (sym (parts_end parts c.loop-part.part (omega arith))) (adds_nothing c.loop-part.self c.loop-part.invariant.0))

pub add_turns-loop-turn-init : goal.add_turns-loop-turn-init
add_turns-loop-turn-init t c =
    let all : c.args.turns - 0 ≡ c.args.turns = omega arith in
    (c.requires, λ new a. subst (λ n. Adds (λ hay i j ms. Turns (Parse hay c.args.tree.now) n i j ms) c.args.self.now new) all a)

pub add_turns-loop-turn-preserved : goal.add_turns-loop-turn-preserved
add_turns-loop-turn-preserved t c =
    let turn = c.loop-turn.turn in
    let one : c.args.turns - turn ≡ suc (c.args.turns - (turn + 1)) = omega arith in
    let added = c.add.ensures (search rules) in
    let turns : ℕ → Parsed = λ n hay i j ms. Turns (Parse hay c.args.tree.now) n i j ms in (
      added.grows,
      one_more (turns c.args.turns) (λ hay i j ms. Parse hay c.args.tree.now i j ms) (turns (c.args.turns - (turn + 1)))
          c.args.self.now c.loop-turn.self c.add.new.self
          (subst (λ n. GoesOn (turns n) (turns c.args.turns) c.args.self.now c.loop-turn.self) one c.loop-turn.invariant.1) added,
    )

pub add_turns-returns : goal.add_turns-returns
add_turns-returns t c told =
    let none : 0 ≡ c.args.turns - c.loop-turn.turn = omega arith in
    let turns : ℕ → Parsed = λ n hay i j ms. Turns (Parse hay c.args.tree.now) n i j ms in
    c.loop-turn.invariant.1 c.loop-turn.self
    (subst (λ n. Adds (turns n) c.loop-turn.self c.loop-turn.self) none (adds_nothing c.loop-turn.self c.loop-turn.invariant.0))
