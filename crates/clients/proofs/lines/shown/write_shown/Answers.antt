use Rattle.std.proofs.Common.{IfOk, map, subst}
use Rattle.std.specs.Io.BufRead.{strip_last}
use Rattle.std.specs.Io.KnownBytes.{Appends}
use Rattle.bites_spec.specs.Captured.{excerpt}
use Rattle.bites_spec.specs.Iteration.{spans_in}
use Rattle.bites_spec.specs.Regex.{Regex, IsCompiled}
use Rattle.clients.proofs.ShownLemmas.{match_lines, matches_shown}
use Rattle.clients.proofs.lines.shown.write_shown.Goals as goal

pub returns-in-Matches-clause-shown : goal.returns-in-Matches-clause-shown
returns-in-Matches-clause-shown g c =
    let f = c.args.format in let n = c.args.number in let r = c.args.searcher.now in let line = c.args.line.now in
    let wrote = c.write_matches.result in let old = g.W.Write.contents c.args.out.now in let new = g.W.Write.contents c.write_matches.new.out in
    rw c.in-Matches.is (matches_shown f n wrote r line old new
    (c.finds_are_successive.ensures r (subst (λ (q : Regex). IsCompiled q) c.regex.ensures c.as_str.ensures.compiled) (strip_last 10 line))
    (subst (λ h. IfOk wrote (λ x. Appends old new (match_lines f n (map (excerpt h) (spans_in r h))))) c.without_line_feed-text.ensures
    c.write_matches.ensures.all))
