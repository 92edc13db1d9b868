use Rattle.std.proofs.Common.{◌≤◌, length, arith, refl, ◌∙◌}
use Rattle.std.proofs.lemmas.Result.{err_from_is_err_and}
use Rattle.bites_spec.specs.Bracket.{with_cases, with_negation}
use Rattle.bites_spec.specs.Reader.{class_members}
use Rattle.bites_syntax.specs.FlagsView.{flags_of}
use Rattle.bites_syntax.specs.Members.{leading_set}
use Rattle.bites_syntax.proofs.MemberParts.{refuses_by, refuses_first}
use Rattle.bites_syntax.proofs.PartLemmas.{no_longer}
use Rattle.bites_syntax.proofs.bracket.bracket.Goals as goal

pub returns-in_err-members : goal.returns-in_err-members
returns-in_err-members c = no_longer (grind arith) λ n room.
    let p = err_from_is_err_and c.from_residual-in_err-members.result c.from_residual-in_err-members.ensures.1 in
    let behind_caret : length c.caret.new.cursor ≤ n = omega (arith, room, c.caret.ensures.forward) in
    let behind_leading : length c.leading.new.cursor ≤ n = omega (arith, behind_caret, c.leading.ensures.forward) in
    rw (p.1, p.2)
    (refuses_by _ _ _ (c.in_ok-negated.ensures.reads n ∙ c.in_ok-leading.ensures.reads n behind_caret c.in_ok-negated.negated)
    (refuses_first _ (class_members n (flags_of c.args.flags) (leading_set c.in_ok-leading.leading) c.leading.new.cursor) _
    (c.in_err-members.ensures.reads n behind_leading (leading_set c.in_ok-leading.leading) c.in_ok-builder.ensures)))

pub returns : goal.returns
returns c = no_longer (grind arith) λ n room.
    let behind_caret : length c.caret.new.cursor ≤ n = omega (arith, room, c.caret.ensures.forward) in
    let behind_leading : length c.leading.new.cursor ≤ n = omega (arith, behind_caret, c.leading.ensures.forward) in
    let read = c.in_ok-members.ensures.reads n behind_leading (leading_set c.in_ok-leading.leading) c.in_ok-builder.ensures in (
      with_negation c.in_ok-negated.negated (with_cases (flags_of c.args.flags) read.0),
      c.in_ok-negated.ensures.reads n ∙ c.in_ok-leading.ensures.reads n behind_caret c.in_ok-negated.negated ∙ rw read.1 refl,
      c.in_ok-finished.ensures read.0 read.2,
    )
