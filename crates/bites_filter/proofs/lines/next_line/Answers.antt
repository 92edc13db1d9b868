use Rattle.std.proofs.Common.{◌≡◌, ◌<◌, ◌++◌, length, subst, arith, IfSome}
use Rattle.std.specs.Io.BufRead.{take_through}
use Rattle.bites_filter.proofs.LineLemmas.{line_read}
use Rattle.bites_filter.proofs.lines.next_line.Goals as goal

pub returns-in-Ok : goal.returns-in-Ok
returns-in-Ok g c =
    let left = g.R.Read.remaining c.args.input.now in let rest = g.R.Read.remaining c.read_until.new.self in
    let line = c.read_until.new.buf.items in
    let some : 0 < length line =
    omega (arith, c.read_until.new.buf.ok.0, c.in-Ok.ensures.ok, c.clear.ensures.len, c.in-Ok.field-0-test) in
    let is : IfSome left (λ xs. line ≡ take_through 10 xs) =
    subst (λ l. IfSome left (λ xs. line ≡ l ++ take_through 10 xs)) c.clear.ensures.items c.in-Ok.ensures.bytes in
    line_read left rest line some is c.in-Ok.ensures.rest
