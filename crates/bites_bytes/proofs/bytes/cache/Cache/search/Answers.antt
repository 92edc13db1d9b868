use Rattle.std.proofs.Common.{sym, subst}
use Rattle.bites_bytes.specs.NextMatch.{BeginsBy}
use Rattle.bites_bytes.proofs.LaterLemmas.{searched_for}
use Rattle.bites_bytes.proofs.bytes.cache.Cache.search.Goals as goal

pub take_match-requires-clause-asked : goal.take_match-requires-clause-asked
take_match-requires-clause-asked c = (c.begin-begin.ensures.found _ _ c.in-Match.is).0

pub take_match-requires-clause-found : goal.take_match-requires-clause-found
take_match-requires-clause-found c = (c.begin-begin.ensures.found _ _ c.in-Match.is).1

pub returns-then-not-input : goal.returns-then-not-input
returns-then-not-input c =
    let i = c.args.asked.now in
    searched_for c.args.regex.now i _ c.explores_at.ensures.explores c.explores_at.ensures.longest _ (subst (BeginsBy i.anchored c.args.regex.now i.haystack.now i.start) (sym c.place-place.ensures) c.begin-begin.ensures.begins)
    _ _ _ _ _ _ c.begin-begin.ensures.same c.explore_longest.ensures

pub returns : goal.returns
returns c =
    let i = c.args.asked.now in
    searched_for c.args.regex.now i _ c.explores_at.ensures.explores c.explores_at.ensures.longest _ (subst (BeginsBy i.anchored c.args.regex.now i.haystack.now i.start) (sym c.place-place.ensures) c.begin-begin.ensures.begins)
    _ _ _ _ _ _ c.begin-begin.ensures.same c.explore.ensures

pub take_groups-requires-clause-asked : goal.take_groups-requires-clause-asked
take_groups-requires-clause-asked c = (c.begin-begin.ensures.found _ _ c.in-Match.is).0

pub take_groups-requires-clause-found : goal.take_groups-requires-clause-found
take_groups-requires-clause-found c = (c.begin-begin.ensures.found _ _ c.in-Match.is).1
