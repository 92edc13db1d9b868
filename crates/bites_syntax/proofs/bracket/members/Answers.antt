use Rattle.std.proofs.Common.{◌≡◌, ◌≤◌, suc, length, arith, ap, sym, ◌∙◌}
use Rattle.std.proofs.lemmas.Result.{err_from_is_err_and}
use Rattle.bites_spec.specs.Reader.{class_members, member}
use Rattle.bites_syntax.specs.FlagsView.{flags_of}
use Rattle.bites_syntax.proofs.MemberParts.{closes, enter, refuses_by}
use Rattle.bites_syntax.proofs.PartLemmas.{no_longer}
use Rattle.bites_syntax.proofs.bracket.members.Goals as goal

pub members-init : goal.members-init
members-init c =
    (λ n room set has. (let at = enter n (flags_of c.args.flags) _ _ room c.skip.ensures.reads in (at.0, set, at.1, has, at.2 set)), c.skip.ensures.forward)

pub members-preserved : goal.members-preserved
members-preserved c =
    let flags = flags_of c.args.flags in
    let stays : c.bump_if.new.self ≡ c.members.cursor = c.members-test.ensures.rest.reads in (
      λ n room set has.
          (let so_far = c.members.invariant.0 n room set has in
          let here : length c.bump_if.new.self ≤ suc so_far.0 = omega (arith, so_far.2, ap length stays) in
          let more = c.in_ok-member.ensures.reads so_far.0 here (class_members so_far.0 flags) so_far.1 so_far.3 in
          let enough : length c.member.new.cursor ≤ so_far.0 = omega (arith, here, c.in_ok-member.ensures.progress) in
          let at = enter so_far.0 flags _ _ enough c.skip-in-members.ensures.reads in (
            at.0,
            more.0,
            at.1,
            more.2,
            so_far.4 ∙ ap (λ x. member (class_members so_far.0 flags) so_far.0 flags so_far.1 x) (sym stays) ∙ more.1 ∙ at.2 more.0,
          )),
      omega (arith, c.skip-in-members.ensures.forward, c.in_ok-member.ensures.progress, c.members.invariant.1, ap length stays),
    )

pub returns-in_err-member : goal.returns-in_err-member
returns-in_err-member c = no_longer (grind arith) λ n room set has.
    let flags = flags_of c.args.flags in
    let p = err_from_is_err_and c.from_residual.result c.from_residual.ensures.1 in
    let stays : c.bump_if.new.self ≡ c.members.cursor = c.members-test.ensures.rest.reads in
    let so_far = c.members.invariant.0 n room set has in
    let here : length c.bump_if.new.self ≤ suc so_far.0 = omega (arith, so_far.2, ap length stays) in
    rw (p.1, p.2)
    (refuses_by _ _ _ (so_far.4 ∙ ap (λ x. member (class_members so_far.0 flags) so_far.0 flags so_far.1 x) (sym stays))
    (c.in_err-member.ensures.reads so_far.0 here (class_members so_far.0 flags) so_far.1 so_far.3))

pub returns : goal.returns
returns c = no_longer (grind arith) λ n room set has.
    let so_far = c.members.invariant.0 n room set has in (
      so_far.1,
      so_far.4
          ∙ closes (class_members so_far.0 (flags_of c.args.flags)) so_far.0 (flags_of c.args.flags) so_far.1 c.members.cursor c.bump_if.new.self
          (sym c.members-test.ensures.value) c.members-test.ensures.rest.reads,
      so_far.3,
    )
