use Rattle.std.proofs.Common.{true, sym, subst, arith, rules}
use Rattle.bites_spec.proofs.utf8.PieceLemmas.{Among-places}
use Rattle.bites_literals.specs.Begins.{IsFirstMatch}
use Rattle.bites_literals.proofs.FixedWidthLemmas.{first_there, only_there}
use Rattle.bites_literals.proofs.fixed_width.FixedWidth.begin.Goals as goal
use Rattle.bites_literals.proofs.fixed_width.FixedWidth.begin.Goals.{else-start-eq0-via-then-start-eq0+else-is_here, else-start-eq0-via-else-start-eq0}

pub returns-then-is_here-clause-begins : goal.returns-then-is_here-clause-begins
returns-then-is_here-clause-begins c t is =
    subst (λ s. IsFirstMatch true t c.args.haystack.now s s c.args.self.now.len) (sym c.if-start-eq0.true) (first_there t c.args.self.now is c.args.haystack.now (c.is_here.ensures.yes (search rules)))

pub returns-else-start-eq0-clause-begins : goal.returns-else-start-eq0-clause-begins
returns-else-start-eq0-clause-begins c t is i among j m =
    let there = only_there t c.args.self.now is c.args.haystack.now i j m in
    elim c.else-start-eq0.branch [
      | else-start-eq0-via-then-start-eq0+else-is_here w ↦ absurd (grind (arith, (w.is_here.ensures.no is.short there.1)))
      | else-start-eq0-via-else-start-eq0 w ↦ absurd (omega (arith, there.0, (Among-places c.args.haystack.now c.args.start i among).0, w.if-start-eq0.false))
    ]
