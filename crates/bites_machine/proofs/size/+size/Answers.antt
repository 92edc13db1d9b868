use Rattle.bites_machine.proofs.Library.{common_steps, ap, ◌∙◌, sym, arith, Tree, size_of, tree_of, Kind, held_size, read_below}
use Rattle.bites_machine.proofs.compile.SizeLemmas.{alternation_size}
use Rattle.bites_machine.proofs.size.+size.Goals as goal

pub size_of-returns-in-Alternation-clause-size : goal.size_of-returns-in-Alternation-clause-size
size_of-returns-in-Alternation-clause-size t c =
    alternation_size _ _ _ _ _ _ c.size_of_all-in-Alternation.ensures.size c.new-in-Alternation.ensures
    c.deref-in-Alternation.ensures.value (c.deref-in-Alternation.ensures.len ∙ sym c.len.ensures) c.with.ensures
    ∙ ap (λ (k : Kind). held_size (size_of (tree_of k))) (sym c.in-Alternation.is) ∙ ap (λ (x : Tree). held_size (size_of x)) c.kind.ensures

pub size_of_all-size_of-requires : goal.size_of_all-size_of-requires
size_of_all-size_of-requires t c = grind (arith, common_steps, read_below)
