use Rattle.clients.proofs.FilterLemmas.{filtered}
use Rattle.clients.proofs.lines.filter.write_lines.Goals as goal

pub returns-in-Ok : goal.returns-in-Ok
returns-in-Ok g c =
    filtered c.args.filter.now c.each_line.new.task c.in_ok-count.count (g.W.Write.contents c.args.out.now)
    (g.W.Write.contents c.each_line.new.out) (g.W.Write.contents c.write_ending.new.out) (g.R.Read.remaining c.args.input.now)
    c.in_ok-count.ensures c.in-Ok.ensures
