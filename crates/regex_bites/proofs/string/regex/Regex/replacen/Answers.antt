use Rattle.bites_bytes.proofs.ReplacedLemmas.{if_ok}
use Rattle.regex_bites.proofs.string.regex.Regex.replacen.Goals as goal

pub returns : goal.returns
returns g c =
    let e = c.replacen_mut.ensures in
    record { replaces = if_ok c.replacen_mut.result _ _ e.replaces (λ x is. (_, is)); borrowed = e.borrowed }
