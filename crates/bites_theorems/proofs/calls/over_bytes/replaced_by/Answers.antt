use Rattle.bites_spec.specs.Iteration.{captures_in}
use Rattle.bites_spec.proofs.Laws as laws
use Rattle.bites_theorems.proofs.calls.over_bytes.replaced_by.Goals as goal

pub returns : goal.returns
returns g c =
    let r = c.args.regex.now in let hay = c.args.haystack.now in
    let h = c.in_ok-replaced.ensures.replaces in
    (h.0, (captures_in r hay, laws.groups_are_successive r c.as_str.ensures.compiled hay, h.1))
