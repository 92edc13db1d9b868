use Rattle.std.proofs.Common.{◌∙◌, ap}
use Rattle.std.specs.Prelude.{is_some}
use Rattle.bites_spec.specs.Regex.{Regex, with_prefilter}
use Rattle.bites_bytes.proofs.bytes.regex.Regex.prepared_for.Goals as goal

pub returns : goal.returns
returns c =
    let made = c.with_prefilter.ensures ∙ ap (with_prefilter c.args.prefilter) c.in_ok-regex.ensures in record {
      same = (is_some c.make_table-table.result, made);
      none = λ zero. ap (λ (r : Regex). r.has_table) made ∙ c.make_table-table.ensures.none zero;
    }
