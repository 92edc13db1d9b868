use Rattle.bites_bytes.proofs.ReplacedLemmas.{if_ok}
use Rattle.bites_bytes.proofs.bytes.regex.Regex.replacen_with.Goals as goal

pub returns : goal.returns
returns g c =
    let e = c.replace_by.ensures.found in record {
      found = record { replaces = if_ok c.replace_by.result _ _ e.replaces (λ x is. (_, is)); borrowed = e.borrowed };
      same = c.replace_by.ensures.same;
    }
