use Rattle.std.proofs.Common.{None, true, ap, sym, ◌∙◌}
use Rattle.bites_spec.specs.Tree.{class, repetition}
use Rattle.bites_syntax.specs.View.{tree_of}
use Rattle.bites_literals.proofs.ByteRunLemmas.{of_tree}
use Rattle.bites_literals.proofs.byte_run.ByteRun.repeated.Goals as goal

pub returns-in-Class : goal.returns-in-Class
returns-in-Class c =
    of_tree _ c.ranges-in-Class.result.now true (sym (ap (repetition 1 None true) (ap class c.ranges-in-Class.ensures.ranges ∙ ap tree_of (sym c.in-Class.is) ∙ c.kind.ensures)))
    c.of_ranges.result c.of_ranges.ensures
