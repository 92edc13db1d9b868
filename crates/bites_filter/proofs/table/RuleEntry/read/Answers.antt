use Rattle.std.proofs.Common.{◌≡◌, ◌∙◌, false, true, ap, sym, subst}
use Rattle.bites_spec.specs.Regex.{Regex}
use Rattle.bites_spec.specs.Settings.{Settings, Accepts, settings, no_flags}
use Rattle.bites_filter.proofs.table.RuleEntry.read.Goals as goal

pub returns : goal.returns
returns c =
    let made = c.in_ok-builder.ensures in
    let same = sym c.in_ok-searcher.ensures in
    record {
      name_is = c.in_ok-from_str.ensures.ok;
      accepted = subst (λ (r : Regex). Accepts (settings c.args.pattern.now no_flags 10485760 50 1048576 false true false) r.tree) same
          (subst (λ s. Accepts s c.in_ok-regex.regex.tree) made c.in_ok-regex.ensures.accepted);
      longest = subst (λ (r : Regex). r.leftmost_longest ≡ true) same
          (c.in_ok-regex.ensures.longest ∙ ap (λ (s : Settings). s.leftmost_longest) made);
    }
