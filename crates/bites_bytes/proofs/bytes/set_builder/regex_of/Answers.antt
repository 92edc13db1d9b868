use Rattle.std.proofs.Common.{subst}
use Rattle.bites_spec.specs.Set.{with_pattern}
use Rattle.bites_bytes.specs.Settings.{Builds}
use Rattle.bites_bytes.proofs.SettingsLemmas.{builds_one}
use Rattle.bites_bytes.proofs.bytes.set_builder.regex_of.Goals as goal

pub returns : goal.returns
returns c =
    builds_one (with_pattern c.args.all.now c.args.pattern.now) c.args.limit c.into_regex_for.result
    (subst (λ s. Builds s c.into_regex_for.result) c.in_ok-limited.ensures c.into_regex_for.ensures)
