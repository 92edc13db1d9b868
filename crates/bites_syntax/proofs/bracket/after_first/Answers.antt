use Rattle.std.proofs.Common.{◌≡◌, ◌≤◌, ◌∷◌, drop, length, arith, ap, ◌∙◌}
use Rattle.bites_syntax.specs.FlagsView.{flags_of}
use Rattle.bites_syntax.proofs.MemberParts.{Adds_by, first_alone, first_and_dash}
use Rattle.bites_syntax.proofs.PartLemmas.{no_longer}
use Rattle.bites_syntax.proofs.bracket.after_first.Goals as goal

pub returns-in-Some-eq45 : goal.returns-in-Some-eq45
returns-in-Some-eq45 c = no_longer (grind arith) λ n room m means.
    let at : c.args.cursor.now ≡ 45 ∷ drop 1 c.args.cursor.now = c.in-Some-eq45.ensures ∙ ap (λ x. x ∷ drop 1 c.args.cursor.now) c.in-Some-eq45.field-0-test in
    let enough : length (drop 1 c.args.cursor.now) ≤ n = omega (arith, room, ap length at) in
    Adds_by _ _ _ _ _ _ (λ go set. first_and_dash go n (flags_of c.args.flags) set m _ _ at)
    (c.after_dash.ensures.reads _ at n enough m means)

pub returns-in-Some : goal.returns-in-Some
returns-in-Some c = no_longer (grind arith) λ n room m means.
    Adds_by _ _ _ _ _ _ (λ go set. first_alone go n (flags_of c.args.flags) set m _ _ _ c.in-Some.ensures c.in-Some.field-0-test.1)
    (c.add_alone.ensures m means)
