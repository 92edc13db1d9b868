use Rattle.bites_filter.proofs.LineLemmas.{lines_written}
use Rattle.clients.specs.Served.{IsServed}
use Rattle.clients.proofs.routes.paths.write_routes.Goals as goal

pub returns : goal.returns
returns g c =
    lines_written (λ s. s.routes) IsServed (g.R.Read.remaining c.args.input.now) (g.W.Write.contents c.args.out.now)
    (g.W.Write.contents c.each_line.new.out) c.args.router.now c.in_ok-each_line.field-0 c.each_line.new.task c.in_ok-each_line.ensures
