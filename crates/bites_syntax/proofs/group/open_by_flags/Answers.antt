use Rattle.std.proofs.Common.{◌≡◌, ◌∙◌, [], arith}
use Rattle.bites_spec.specs.Reader.{flags_end, flags_from}
use Rattle.bites_syntax.specs.Openings.{IsOpened}
use Rattle.bites_syntax.proofs.GroupLemmas.{agrees_at, flags_close}
use Rattle.bites_syntax.proofs.PartLemmas.{no_longer}
use Rattle.bites_syntax.proofs.group.open_by_flags.Goals as goal

pub returns-in-Some : goal.returns-in-Some
returns-in-Some c = no_longer (grind arith) λ g is.
    let same : flags_from g [] c.args.cursor.now ≡ flags_end g c.deref.result.now c.in-Some.end c.bump.new.self =
    c.in_ok-run.ensures.run.reads g ∙ rw c.deref.ensures.value (flags_close g c.in_ok-run.run'.items c.flag_run.new.cursor c.bump.new.self c.in-Some.end c.in_ok-run.ensures.ends c.in-Some.ensures.value) in
    agrees_at (λ o x. IsOpened o c.flags_end.new.state g x) c.flags_end.result c.bump.new.self _ _ same (c.flags_end.ensures g c.bump.new.self (c.ahead-place.ensures ∙ c.in-Some.ensures.value) is)
