use Rattle.std.proofs.Common.{◌≡◌, sym, ap, ◌∙◌, drop, arith}
use Rattle.bites_spec.specs.Reader.{named_group, no_name, opened}
use Rattle.bites_syntax.specs.Openings.{IsOpened}
use Rattle.bites_syntax.proofs.GroupLemmas.{agrees_at, opened_long, opened_short, opened_plain}
use Rattle.bites_syntax.proofs.PartLemmas.{no_longer}
use Rattle.bites_syntax.proofs.group.open_group.Goals as goal

pub returns-then-bump_over : goal.returns-then-bump_over
returns-then-bump_over c = no_longer (grind arith) λ g is.
    let same : opened g c.args.cursor.now ≡ named_group g c.bump_over.new.self =
    opened_long g c.args.cursor.now (sym c.if-begins_look_around.ensures) (sym c.if-bump_over.ensures.value) ∙ ap (named_group g) (sym c.if-bump_over.ensures.rest.reads) in
    agrees_at (λ o x. IsOpened o c.named_group.new.state g x) c.named_group.result c.named_group.new.cursor _ _ same (c.named_group.ensures.reads g is)

pub returns-then-bump_over-2 : goal.returns-then-bump_over-2
returns-then-bump_over-2 c = no_longer (grind arith) λ g is.
    let stays : c.bump_over.new.self ≡ c.args.cursor.now = c.if-bump_over.ensures.rest.reads in
    let same : opened g c.args.cursor.now ≡ named_group g c.bump_over-2.new.self =
    opened_short g c.args.cursor.now (sym c.if-begins_look_around.ensures) (sym c.if-bump_over.ensures.value) (rw stays at (sym c.if-bump_over-2.ensures.value))
    ∙ ap (named_group g) (sym (c.if-bump_over-2.ensures.rest.reads ∙ ap (drop 2) stays)) in
    agrees_at (λ o x. IsOpened o c.named_group-then-bump_over-2.new.state g x) c.named_group-then-bump_over-2.result c.named_group-then-bump_over-2.new.cursor _ _ same
    (c.named_group-then-bump_over-2.ensures.reads g is)

pub returns : goal.returns
returns c = no_longer (grind arith) λ g is.
    let stays : c.bump_over.new.self ≡ c.args.cursor.now = c.if-bump_over.ensures.rest.reads in
    let stays_too : c.bump_over-2.new.self ≡ c.bump_over.new.self = c.if-bump_over-2.ensures.rest.reads in
    let same : opened g c.args.cursor.now ≡ no_name g c.bump_over-2.new.self =
    opened_plain g c.args.cursor.now (sym c.if-begins_look_around.ensures) (sym c.if-bump_over.ensures.value) (rw stays at (sym c.if-bump_over-2.ensures.value))
    ∙ ap (no_name g) (sym (stays_too ∙ stays)) in
    agrees_at (λ o x. IsOpened o c.no_name.new.state g x) c.no_name.result c.no_name.new.cursor _ _ same (c.no_name.ensures.reads g is)
