use Rattle.std.proofs.Common.{◌≡◌, ◌+◌, ◌≤◌, length, take, drop, sym, subst, arith}
use Rattle.std.proofs.lemmas.List.{take-append-drop, take-take, length-take-le}
use Rattle.bites_spec.specs.Regex.{Regex}
use Rattle.bites_bytes.specs.Calls.{NoPartMatches}
use Rattle.bites_filter.specs.Lines.{AreWhole}
use Rattle.clients.proofs.SkipLemmas.{idle_front}
use Rattle.clients.proofs.lines.filter.FilterLineTask.skip.Goals as goal

pub returns-in-Some-clause-nothing : goal.returns-in-Some-clause-nothing
returns-in-Some-clause-nothing c =
    let s = c.args.self.now in let buffer = c.args.buffer.now in let end = c.len_of_lines.result in
    let at = c.in-Some.at in
    let candidate = c.in-Some.ensures in
    let within : end ≤ at = omega (arith, c.len_of_lines.ensures.within, length-take-le at buffer candidate.1) in
    let same : take end (take at buffer) ≡ take end buffer = take-take end at buffer within in
    let whole : AreWhole (take end buffer) = subst AreWhole same c.len_of_lines.ensures.whole in
    let none : NoPartMatches s.searcher.tree buffer 0 at = subst (λ (r : Regex). NoPartMatches r.tree buffer 0 at) c.regex.ensures candidate.2 in
    let long = length-take-le end buffer (omega (arith, within, candidate.1)) in
    (whole, idle_front s c.if-self.false buffer at none (take end buffer) (drop end buffer) (sym (take-append-drop end buffer)) (omega (arith, long, within)) whole)

pub returns-in-None-clause-nothing : goal.returns-in-None-clause-nothing
returns-in-None-clause-nothing c =
    let s = c.args.self.now in let buffer = c.args.buffer.now in let end = c.len_of_lines-in-None.result in
    let whole = c.len_of_lines-in-None.ensures.whole in
    let none : NoPartMatches s.searcher.tree buffer 0 (length buffer + 1) =
    subst (λ (r : Regex). NoPartMatches r.tree buffer 0 (length buffer + 1)) c.regex.ensures c.in-None.ensures in
    let long = length-take-le end buffer c.len_of_lines-in-None.ensures.within in (
      whole,
      idle_front s c.if-self.false buffer (length buffer + 1) none (take end buffer) (drop end buffer) (sym (take-append-drop end buffer))
          (omega (arith, long, c.len_of_lines-in-None.ensures.within)) whole,
    )
