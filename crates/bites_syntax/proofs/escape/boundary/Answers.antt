use Rattle.std.proofs.Common.{◌≡◌, drop, sym, arith}
use Rattle.bites_spec.specs.Pattern.{skip}
use Rattle.bites_syntax.specs.FlagsView.{flags_of}
use Rattle.bites_syntax.proofs.EscapeParts.{boundary_spelled}
use Rattle.bites_syntax.proofs.PartLemmas.{no_longer}
use Rattle.bites_syntax.proofs.escape.boundary.Goals as goal

pub returns-in-Some : goal.returns-in-Some
returns-in-Some c = no_longer (grind arith) λ n room.
    let behind : c.bump_if.new.self ≡ drop 1 c.args.cursor.now = rw (← c.ahead-ahead.ensures) c.if-not-bump_if.ensures.rest.reads in
    let gap : c.skip.new.self ≡ skip (flags_of c.args.flags) (drop 1 c.args.cursor.now) = rw (← behind) c.skip.ensures.reads in
    rw (boundary_spelled n (flags_of c.args.flags) c.args.cursor.now _ _ _ room (rw (← c.ahead-ahead.ensures) (sym c.if-not-bump_if.ensures.value)) gap c.in-Some.ensures (sym c.if-contains.ensures))
    c.boundary_name.ensures.reads
