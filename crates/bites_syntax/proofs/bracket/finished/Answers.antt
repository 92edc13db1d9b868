use Rattle.std.proofs.Common.{List}
use Rattle.std.proofs.lemmas.Result.{IfOk-weaker}
use Rattle.bites_spec.specs.Bracket.{with_cases}
use Rattle.bites_spec.specs.Class.{Lists, complement}
use Rattle.bites_spec.specs.Range.{Range, in_ranges}
use Rattle.bites_syntax.specs.FlagsView.{flags_of}
use Rattle.bites_syntax.specs.Members.{Has}
use Rattle.bites_syntax.proofs.BracketParts.{Has_folded, Lists_others, Lists_set}
use Rattle.bites_syntax.proofs.bracket.finished.Goals as goal
use Rattle.bites_syntax.proofs.bracket.finished.Goals.{then-flags+in_ok-add_cases, else-flags}

pub returns-then-negated : goal.returns-then-negated
returns-then-negated c = λ set has.
    let cased : Has c.if-flags.builder (with_cases (flags_of c.args.flags) set) = elim c.if-flags.branch [
      | then-flags+in_ok-add_cases w ↦ rw (w.builder-is, w.if-flags.true) (Has_folded _ _ set has w.in_ok-add_cases.ensures.folded)
      | else-flags w ↦ rw (w.builder-is, w.if-flags.false) has
    ] in
    let lists : Lists c.in_ok-class.class (with_cases (flags_of c.args.flags) set) = Lists_set _ _ _ c.in_ok-class.ensures cased in
    rw c.if-negated.true (IfOk-weaker c.negate.result (λ (x : List Range). Lists x (complement (in_ranges c.in_ok-class.class)))
    (λ (x : List Range). Lists x (complement (with_cases (flags_of c.args.flags) set))) (λ x negated. Lists_others _ x _ lists negated) c.negate.ensures)

pub returns-else-negated : goal.returns-else-negated
returns-else-negated c = λ set has.
    let cased : Has c.if-flags.builder (with_cases (flags_of c.args.flags) set) = elim c.if-flags.branch [
      | then-flags+in_ok-add_cases w ↦ rw (w.builder-is, w.if-flags.true) (Has_folded _ _ set has w.in_ok-add_cases.ensures.folded)
      | else-flags w ↦ rw (w.builder-is, w.if-flags.false) has
    ] in
    rw c.if-negated.false (Lists_set _ _ _ c.in_ok-class.ensures cased)
