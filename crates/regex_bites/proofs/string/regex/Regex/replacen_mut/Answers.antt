use Rattle.std.proofs.Common.{rules, None, refl, inl}
use Rattle.bites_spec.specs.Pieces.{limited}
use Rattle.bites_spec.specs.Iteration.{captures_in}
use Rattle.bites_bytes.proofs.ReplacedLemmas.{if_ok, if_refused, on_err}
use Rattle.bites_bytes.proofs.ReplacingLemmas.{some_none}
use Rattle.regex_bites.proofs.string.regex.Regex.replacen_mut.Goals as goal

pub returns-in_err-cache-2 : goal.returns-in_err-cache-2
returns-in_err-cache-2 g c =
    let R = g.R.Replacer in let asked = c.no_expansion.follows.lender-at-none in
    let none = some_none R.replaces R.answers R.refuses asked (limited c.args.limit (captures_in c.args.self.now c.args.haystack.now)) asked (inl refl) in record {
      replaces = search rules;
      refused = on_err c.from_residual-in_err-cache-2.result _ (None, asked, search rules, none);
      borrowed = search rules;
    }

pub returns-in_err-locations : goal.returns-in_err-locations
returns-in_err-locations g c =
    let R = g.R.Replacer in let asked = c.no_expansion.follows.lender-at-none in
    let none = some_none R.replaces R.answers R.refuses asked (limited c.args.limit (captures_in c.args.self.now c.args.haystack.now)) asked (inl refl) in record {
      replaces = search rules;
      refused = on_err c.from_residual-in_err-locations.result _ (None, asked, search rules, none);
      borrowed = search rules;
    }

pub returns : goal.returns
returns g c =
    let e = c.replace_each.ensures.found in let asked = c.no_expansion.follows.lender-at-none in record {
      replaces = if_ok c.replace_each.result _ _ e.replaces (λ x each. (each.0, (None, asked, search rules, each.1), each.2));
      refused = if_refused c.replace_each.result _ _ e.served (λ some. (None, asked, search rules, some));
      borrowed = e.borrowed;
    }
