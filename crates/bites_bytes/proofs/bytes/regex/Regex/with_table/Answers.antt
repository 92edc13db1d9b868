use Rattle.std.proofs.Common.{ap}
use Rattle.std.specs.Prelude.{is_some}
use Rattle.bites_spec.specs.Regex.{with_table}
use Rattle.bites_bytes.proofs.bytes.regex.Regex.with_table.Goals as goal

pub returns-clause-same : goal.returns-clause-same
returns-clause-same c =
    let b = is_some c.make_table-table.result in
    (b, ap (with_table b) c.self.view_is)
