use Rattle.std.proofs.Common.{inr}
use Rattle.bites_bytes.proofs.ReplacedLemmas.{if_refused}
use Rattle.bites_bytes.proofs.bytes.regex.Regex.replacen_mut.Goals as goal

pub returns : goal.returns
returns g c =
    let e = c.replace_by.ensures.found in record {
      replaces = e.replaces;
      refused = if_refused c.replace_by.result _ _ e.refused (λ h. inr h);
      borrowed = e.borrowed;
    }
