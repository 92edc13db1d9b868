use Rattle.std.proofs.Common.{false, true, sym, subst}
use Rattle.bites_spec.specs.Regex.{Regex}
use Rattle.bites_spec.specs.Settings.{Accepts, settings, no_flags}
use Rattle.bites_filter.proofs.text_table.TextRuleEntry.read.Goals as goal

-- what is accepted doesn't depend on whether the longest match is searched for
pub returns : goal.returns
returns c =
    let own = subst (λ (r : Regex). Accepts (settings c.args.pattern.now no_flags 10485760 50 1048576 false true false) r.tree) (sym c.in_ok-new.ensures)
    (subst (λ s. Accepts s c.in_ok-regex.regex.tree) c.in_ok-builder.ensures c.in_ok-regex.ensures) in
    (c.in_ok-from_str.ensures.ok, record { read = own.read; small = own.small })
