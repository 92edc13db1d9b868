use Rattle.bites_spec.proofs.utf8.StartLemmas.{all_are_starts}
use Rattle.bites_spec.specs.Utf8.{places}
use Rattle.bites_spec.specs.Found.{IsLeastEnd}
use Rattle.regex_bites.proofs.BorderLemmas.{over_text, end_border}
use Rattle.regex_bites.proofs.string.regex.Regex.shortest_match_at.Goals as goal

pub returns : goal.returns
returns c =
    let hay = c.args.haystack.now in let s = c.args.start in let end = c.in_ok-end.end in
    let least = over_text (λ r h. IsLeastEnd r.tree h (places h s) end) _ _ _ _ c.over_bytes.ensures.same c.as_bytes.ensures.value c.in_ok-end.ensures in
    record { least = least; border = end_border hay c.utf8.haystack c.args.self.now.tree s _ (all_are_starts hay s) c.requires end least }
