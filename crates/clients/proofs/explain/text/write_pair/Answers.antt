use Rattle.std.proofs.Common.{◌+◌, ◌-◌, ◌/◌, ◌%◌}
use Rattle.bites_filter.proofs.Written.{appends_both}
use Rattle.clients.specs.Json.{unit}
use Rattle.clients.proofs.explain.text.write_pair.Goals as goal

pub returns : goal.returns
returns g c =
    let contents = g.W.Write.contents in
    appends_both (contents c.args.out.now) (contents c.write_unit.new.out) (contents c.write_unit-2.new.out)
    (unit (55296 + (c.args.number - 65536) / 1024)) (unit (56320 + c.args.number % 1024)) c.in_ok-write_unit.ensures c.in_ok-write_unit-2.ensures
