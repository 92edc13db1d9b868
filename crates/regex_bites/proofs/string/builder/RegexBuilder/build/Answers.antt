use Rattle.bites_bytes.proofs.SettingsLemmas.{passed_on}
use Rattle.regex_bites.proofs.string.builder.RegexBuilder.build.Goals as goal

pub returns-in_err-regex : goal.returns-in_err-regex
returns-in_err-regex c =
    let e = c.in_err-regex.ensures in rw (← c.self.view_is) (passed_on _ _ _ c.from_residual.ensures.1 e.refused e.message)
