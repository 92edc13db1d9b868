use Rattle.std.proofs.Common.{Some, refl}
use Rattle.bites_spec.specs.Match.{Matches, MatchesAll}
use Rattle.bites_literals.proofs.FactLemmas.{joined, behind}
use Rattle.bites_literals.proofs.facts.Facts.followed_by.Goals as goal

pub returns-then-len-le-MAX_LEN : goal.returns-then-len-le-MAX_LEN
returns-then-len-le-MAX_LEN c t ts facts others =
    joined (λ hay i j. Matches hay t i j) (λ hay i j. MatchesAll hay ts i j) c.args.self.now c.args.rest.now facts others _
    c.if-self.true c.sum-most.ensures c.ends_before-ends.ensures c.union-ascii.ensures.has c.back_before-back.ensures c.followed_by.ensures.bytes c.followed_by.ensures.caseless refl c.is_exact_before.ensures c.later.result c.later.ensures c.better-inside.ensures

pub returns : goal.returns
returns c t ts facts others =
    behind (λ hay i j. Matches hay t i j) (λ hay i j. MatchesAll hay ts i j) c.args.self.now c.args.rest.now facts others _
    c.sum-most.ensures c.ends_before-ends.ensures c.union-ascii.ensures.has c.back_before-back.ensures refl refl refl c.later.result c.better-inside.result
    (Some (record { text = c.args.rest.now.front; before = c.args.self.now.most })) c.later.ensures c.better-inside.ensures (refl, refl) c.better.ensures
