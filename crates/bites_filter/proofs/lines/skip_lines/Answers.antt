use Rattle.std.proofs.Common.{rules, take, subst}
use Rattle.std.specs.Io.BufRead.{FillKeeps}
use Rattle.std.proofs.BufReadLemmas.{Consumes_shown}
use Rattle.bites_filter.proofs.SkipLemmas.{not_tried, none_skipped, consumed}
use Rattle.bites_filter.proofs.lines.skip_lines.Goals as goal

pub returns-in-Err : goal.returns-in-Err
returns-in-Err g c =
    none_skipped g.T.LineTask.does c.args.task.now (g.R.Read.remaining c.args.input.now) (g.R.Read.remaining c.fill_buf.follows.lender-at-none)
    c.fill_buf.follows.holds-at-none.0

pub returns : goal.returns
returns g c =
    let left = g.R.Read.remaining c.args.input.now in
    let shown = c.in-Ok.buffer.now in
    let rested = c.fill_buf.follows.lender-at-none in
    let filled = subst (FillKeeps left (g.R.Read.remaining rested) (g.R.BufRead.consumable_len rested)) c.in-Ok.is c.fill_buf.follows.holds-at-none in
    let taken = Consumes_shown left (g.R.Read.remaining rested) (g.R.Read.remaining c.consume.new.self) (g.R.BufRead.consumable_len rested) shown c.skip-end.result
    c.skip-end.ensures.within c.in-Ok.ensures.front c.in-Ok.ensures.end filled.0 filled.1 c.consume.ensures.bytes in
    consumed g.T.LineTask.does c.args.task.now left (g.R.Read.remaining c.consume.new.self) (take c.skip-end.result shown) c.count_lines-count.result taken.0
    c.skip-end.ensures.nothing (search rules)

pub returns-then-not-is_next : goal.returns-then-not-is_next
returns-then-not-is_next g c = not_tried g.T.LineTask.does c.args.task.now (g.R.Read.remaining c.args.input.now)
