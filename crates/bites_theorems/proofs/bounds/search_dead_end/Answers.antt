use Rattle.std.proofs.Common.{subst}
use Rattle.bites_spec.specs.Counts.{IsWalked}
use Rattle.bites_spec.specs.Utf8.{places}
use Rattle.bites_spec.proofs.Laws as laws
use Rattle.bites_theorems.proofs.bounds.search_dead_end.Goals as goal

pub returns-clause-visits : goal.returns-clause-visits
returns-clause-visits c =
    let hay = c.args.haystack.now in let s = c.args.start in
    (laws.searches_reach_bounds hay s c.search.result c.search.new.cache.walked
    (subst (λ p. IsWalked p hay s (places hay s) c.search.result c.search.new.cache.walked) c.requires.program (c.search.ensures.search.bounded, c.search.ensures.search.visited))).0

pub returns-clause-looks : goal.returns-clause-looks
returns-clause-looks c =
    let hay = c.args.haystack.now in let s = c.args.start in
    (laws.searches_reach_bounds hay s c.search.result c.search.new.cache.walked
    (subst (λ p. IsWalked p hay s (places hay s) c.search.result c.search.new.cache.walked) c.requires.program (c.search.ensures.search.bounded, c.search.ensures.search.visited))).1
