use Rattle.bites_bytes.proofs.SettingsLemmas.{handed_on}
use Rattle.bites_bytes.proofs.bytes.set_builder.add_regex.Goals as goal

pub returns-in_err-regex-clause-message : goal.returns-in_err-regex-clause-message
returns-in_err-regex-clause-message c =
    handed_on c.from_residual.result c.in_err-regex.field-0.0 _ c.from_residual.ensures.1 c.in_err-regex.ensures.message
