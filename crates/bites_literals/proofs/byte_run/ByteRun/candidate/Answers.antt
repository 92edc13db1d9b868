use Rattle.std.proofs.Common.{◌+◌, length, sym, subst, arith}
use Rattle.bites_spec.specs.Tree.{Tree}
use Rattle.bites_literals.specs.Begins.{NoPartMatches}
use Rattle.bites_literals.proofs.ByteRunLemmas.{none_own}
use Rattle.bites_literals.proofs.CandidateLemmas.{no_part_own}
use Rattle.bites_literals.proofs.byte_run.ByteRun.candidate.Goals as goal

pub returns-then-at-haystack : goal.returns-then-at-haystack
returns-then-at-haystack c t (rs, repeats, same, is) =
    let hay = c.args.haystack.now in let start = c.args.start in let at = c.skip_while-at in
    let none = none_own rs repeats c.args.self.now is hay (λ k. (c.type_inv.haystack k).fits) start at.result at.ensures in
    subst (λ (t : Tree). NoPartMatches t hay start (length hay + 1)) (sym same)
    (no_part_own rs repeats is.ascii hay start (length hay + 1) (λ k from lt within. none k from (omega (arith, within, c.if-at-haystack.true))))

pub returns : goal.returns
returns c t (rs, repeats, same, is) =
    let hay = c.args.haystack.now in let start = c.args.start in let at = c.skip_while-at in
    let none = none_own rs repeats c.args.self.now is hay (λ k. (c.type_inv.haystack k).fits) start at.result at.ensures in (
      at.ensures.onward,
      at.ensures.within,
      subst (λ (t : Tree). NoPartMatches t hay start at.result) (sym same) (no_part_own rs repeats is.ascii hay start at.result (λ k from lt within. none k from lt)),
    )
