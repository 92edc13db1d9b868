use Rattle.std.proofs.Common.{◌≡◌, ◌≤◌, drop, suc, length, arith, ap, ◌∙◌}
use Rattle.std.proofs.lemmas.Result.{err_from_is_err_and}
use Rattle.bites_spec.specs.Pattern.{skip}
use Rattle.bites_spec.proofs.characters.EachLemmas.{skip_shorter}
use Rattle.bites_syntax.specs.FlagsView.{flags_of}
use Rattle.bites_syntax.proofs.MemberParts.{Adds_by, dash_alone, dash_fault, dash_range}
use Rattle.bites_syntax.proofs.PartLemmas.{no_longer}
use Rattle.bites_syntax.proofs.bracket.after_dash.Goals as goal

pub returns-in-Some-eq93 : goal.returns-in-Some-eq93
returns-in-Some-eq93 c = no_longer (grind arith) λ t at n room m means.
    let behind : c.skip.new.self ≡ skip (flags_of c.args.flags) t =
    c.skip.ensures.reads ∙ ap (λ x. skip (flags_of c.args.flags) x) (c.bump.ensures.rest.reads ∙ ap (drop 1) (c.ahead-ahead.ensures ∙ at)) in
    Adds_by _ _ _ _ _ _ (λ go set. dash_alone go n (flags_of c.args.flags) set m c.args.cursor.now _ _ _ _ behind c.in-Some-eq93.ensures c.in-Some-eq93.field-0-test)
    (c.add_alone.ensures m means)

pub returns-in_ok-second-in-Some : goal.returns-in_ok-second-in-Some
returns-in_ok-second-in-Some c = no_longer (grind arith) λ t at n room m means.
    let behind : c.skip.new.self ≡ skip (flags_of c.args.flags) t =
    c.skip.ensures.reads ∙ ap (λ x. skip (flags_of c.args.flags) x) (c.bump.ensures.rest.reads ∙ ap (drop 1) (c.ahead-ahead.ensures ∙ at)) in
    let enough : length c.skip.new.self ≤ suc n = omega (arith, room, ap length behind, skip_shorter (flags_of c.args.flags) t) in
    let second = c.in_ok-second-in-Some.ensures.reads n enough in
    Adds_by _ _ _ _ _ _ (λ go set. dash_range go n (flags_of c.args.flags) set m second.0 c.args.cursor.now _ _ _ _ _ behind c.in-Some.ensures c.in-Some.field-0-test.1 second.1)
    (c.add_range.ensures m second.0 means second.2)

pub returns-in_err-second-in-Some : goal.returns-in_err-second-in-Some
returns-in_err-second-in-Some c = no_longer (grind arith) λ t at n room m means go set has.
    let behind : c.skip.new.self ≡ skip (flags_of c.args.flags) t =
    c.skip.ensures.reads ∙ ap (λ x. skip (flags_of c.args.flags) x) (c.bump.ensures.rest.reads ∙ ap (drop 1) (c.ahead-ahead.ensures ∙ at)) in
    let enough : length c.skip.new.self ≤ suc n = omega (arith, room, ap length behind, skip_shorter (flags_of c.args.flags) t) in
    let p = err_from_is_err_and c.from_residual.result c.from_residual.ensures.1 in
    rw (p.1, p.2) (dash_fault go n (flags_of c.args.flags) set m c.args.cursor.now _ _ _ _ _ behind c.in-Some.ensures c.in-Some.field-0-test.1
    (c.in_err-second-in-Some.ensures.reads n enough))
