use Rattle.std.proofs.Common.{◌≡◌, ℕ, Option, None, Some, false, true, refl, ap, sym, subst, ◌∙◌, true≢false, is_some}
use Rattle.std.specs.Prelude.{IfSome}
use Rattle.bites_spec.specs.Tree.{Tree, class, repetition}
use Rattle.bites_syntax.specs.View.{tree_of}
use Rattle.bites_literals.specs.ByteRun.{IsByteRunOf}
use Rattle.bites_literals.proofs.ByteRunLemmas.{of_tree}
use Rattle.bites_literals.proofs.byte_run.ByteRun.of.Goals as goal

pub returns-in-Class : goal.returns-in-Class
returns-in-Class c =
    of_tree c.args.tree.now c.ranges-in-Class.result.now false (sym (ap class c.ranges-in-Class.ensures.ranges ∙ ap tree_of (sym c.in-Class.is) ∙ c.kind.ensures)) c.of_ranges.result c.of_ranges.ensures

pub returns-in-Repetition : goal.returns-in-Repetition
returns-in-Repetition c =
    let node = c.in-Repetition in let sub = node.sub.value in
    subst (λ (t : Tree). IfSome c.repeated.result (IsByteRunOf t))
    (ap (repetition 1 None true) c.deref.ensures ∙ ap (λ n. repetition n None true sub) (sym c.if-min-eq1.true) ∙ ap (λ m. repetition node.min m true sub) (sym (unbounded node.max c.if-is_none.ensures))
    ∙ ap (λ g. repetition node.min node.max g sub) (sym c.if-greedy.true) ∙ ap tree_of (sym node.is) ∙ c.kind.ensures)
    c.repeated.ensures
  where
    unbounded : (o : Option ℕ) → is_some o ≡ false → o ≡ None
    unbounded None e = refl
    unbounded (Some m) e = absurd (true≢false e)
