use Rattle.std.proofs.Common.{sym, subst}
use Rattle.bites_bytes.specs.Settings.{IsRead}
use Rattle.bites_bytes.proofs.SettingsLemmas.{passed_on}
use Rattle.bites_bytes.proofs.bytes.builder.RegexBuilder.build.Goals as goal

pub compiled-requires : goal.compiled-requires
compiled-requires c =
    subst (λ s. IsRead s c.in_ok-tree.tree c.in_ok-tree.groups) (sym c.in_ok-copy.ensures) c.in_ok-tree.ensures.read

pub returns-in_err-tree : goal.returns-in_err-tree
returns-in_err-tree c = let e = c.in_err-tree.ensures in passed_on _ _ _ c.from_residual.ensures.1 e.refused e.message

pub returns : goal.returns
returns c = rw (← c.in_ok-copy.ensures) c.compiled.ensures
