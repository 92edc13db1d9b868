use Rattle.bites_bytes.proofs.SettingsLemmas.{passed_on}
use Rattle.bites_bytes.proofs.bytes.builder.RegexBuilder.into_regex_for.Goals as goal

pub returns-in_err-tree : goal.returns-in_err-tree
returns-in_err-tree c = let e = c.in_err-tree.ensures in passed_on _ _ _ c.from_residual.ensures.1 e.refused e.message
