use Rattle.std.proofs.Common.{◌≡◌, ◌+◌, get_or, ap, ◌∙◌, arith}
use Rattle.std.proofs.lemmas.Simd.{get_or-chunk}
use Rattle.bites_scan.proofs.LiteralLemmas.{byte_at}
use Rattle.bites_scan.proofs.pair.Pair.lanes.Goals as goal

pub returns : goal.returns
returns g c k h o =
    let fold = g.F.Folding.fold in
    let haystack = c.args.haystack.now in
    let at = c.args.at in
    let literal = c.args.self.now in
    let first : at + literal.first + k ≡ at + k + literal.first = omega arith in
    let second : at + literal.second + k ≡ at + k + literal.second = omega arith in
    c.both.ensures k h
    (c.lanes-first.ensures k h (ap fold (ap (λ l. get_or l k 0) c.load.ensures ∙ get_or-chunk (at + literal.first) 16 haystack k 0 h ∙ ap (λ j. get_or haystack j 0) first) ∙ byte_at fold haystack literal.needle.now (at + k) literal.first o literal.first_within))
    (c.lanes-second.ensures k h (ap fold (ap (λ l. get_or l k 0) c.load-2.ensures ∙ get_or-chunk (at + literal.second) 16 haystack k 0 h ∙ ap (λ j. get_or haystack j 0) second) ∙ byte_at fold haystack literal.needle.now (at + k) literal.second o literal.second_within))
