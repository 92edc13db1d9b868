use Rattle.std.proofs.Common.{◌∙◌, ap, map, subst, sym, rules}
use Rattle.std.specs.Prelude.{string_bytes}
use Rattle.bites_spec.specs.Set.{AreBuilt, set_settings}
use Rattle.bites_bytes.proofs.bytes.set_builder.RegexSetBuilder.build.Goals as goal

pub returns : goal.returns
returns c =
    let s = c.self.inside in
    let same = ap (λ ps. set_settings (map string_bytes ps) s.all) c.as_slice.ensures.value ∙ c.self.view_is in record {
      built = subst (λ q. AreBuilt q c.from_regexes.result) same (subst (AreBuilt _) (sym c.from_regexes.ensures) c.in_ok-regexes.ensures.built);
      refused = tt;
    }

pub returns-in_err-regexes : goal.returns-in_err-regexes
returns-in_err-regexes c = search rules
