use Rattle.std.proofs.Common.{rules, ◌≤◌, length, arith}
use Rattle.std.proofs.lemmas.Result.{err_from_is_err_and}
use Rattle.bites_syntax.specs.FlagsView.{flags_of}
use Rattle.bites_syntax.proofs.MemberParts.{Adds_by, unnamed_fault, unnamed_leads}
use Rattle.bites_syntax.proofs.PartLemmas.{reads_some}
use Rattle.bites_syntax.proofs.bracket.unnamed.Goals as goal

pub returns-in_err-first : goal.returns-in_err-first
returns-in_err-first c = reads_some (grind arith) (search rules) λ n room go set has.
    let p = err_from_is_err_and c.from_residual.result c.from_residual.ensures.1 in
    rw (p.1, p.2) (unnamed_fault go n (flags_of c.args.flags) set _ _ c.requires c.in_default.ensures (c.in_err-first.ensures.reads n room))

pub returns : goal.returns
returns c = reads_some (grind arith) (search rules) λ n room.
    let first = c.in_ok-first.ensures.reads n room in
    let enough : length c.skip.new.self ≤ n = omega (arith, room, c.skip.ensures.forward, c.in_ok-first.ensures.progress) in
    Adds_by _ _ _ _ _ _ (λ go set. unnamed_leads go n (flags_of c.args.flags) set _ _ _ first.0 c.requires c.in_default.ensures first.1 c.skip.ensures.reads)
    (c.after_first.ensures.reads n enough first.0 first.2)
