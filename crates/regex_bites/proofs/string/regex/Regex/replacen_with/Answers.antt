use Rattle.std.proofs.Common.{rules, None}
use Rattle.bites_bytes.proofs.ReplacedLemmas.{if_ok}
use Rattle.regex_bites.proofs.string.regex.Regex.replacen_with.Goals as goal

pub returns : goal.returns
returns g c =
    let e = c.replace_each.ensures in record {
      found = record {
        replaces = if_ok c.replace_each.result _ _ e.found.replaces
            (λ x each. (c.replace_each.new.replacer, (each.0, (None, c.no_expansion.follows.lender-at-none, search rules, each.1), each.2)));
        borrowed = e.found.borrowed;
      };
      len = e.len;
      fits = e.fits;
    }
