use Rattle.std.proofs.Common.{subst}
use Rattle.std.specs.Prelude.{is_some}
use Rattle.bites_spec.proofs.utf8.StartLemmas.{all_are_starts}
use Rattle.bites_bytes.specs.Calls as over_bytes
use Rattle.regex_bites.proofs.BorderLemmas.{over_text, end_border}
use Rattle.regex_bites.proofs.string.regex.Regex.shortest_match_at_with.Goals as goal

pub returns : goal.returns
returns c =
    let hay = c.args.haystack.now in let s = c.args.start in let call = c.shortest_match_at_with in
    let ends = over_text (λ r h. over_bytes.EndsWith r h s call.result c.cache.inside.cache call.new.cache)
    _ _ _ _ c.over_bytes.ensures.same c.as_bytes.ensures.value call.ensures in record {
      least = ends.least;
      border = end_border hay c.utf8.haystack c.args.self.now.tree s _ (all_are_starts hay s) c.requires.border call.result ends.least;
      searched = subst (λ old. over_bytes.SearchedFrom c.args.self.now hay s (is_some call.result) old call.new.cache) c.cache.view_is ends.searched;
      searches = subst (λ old. over_bytes.Makes 1 old call.new.cache) c.cache.view_is ends.searches;
    }
