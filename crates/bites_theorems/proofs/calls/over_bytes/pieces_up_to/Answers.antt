use Rattle.std.specs.Prelude.{Ok}
use Rattle.std.proofs.lemmas.Iterator.Consumers.{YieldsList-from_first, map_from_collect}
use Rattle.bites_spec.specs.Iteration.{spans_in, pieces_up_to}
use Rattle.bites_spec.proofs.Laws as laws
use Rattle.bites_bytes.specs.Split.{limited_left, bytes_at}
use Rattle.bites_theorems.proofs.calls.over_bytes.pieces_up_to.Goals as goal

pub returns : goal.returns
returns c =
    let r = c.args.regex.now in let hay = c.args.haystack.now in
    let pieces = map_from_collect {E = Unit {0}} (Ok c.in_ok-pieces.pieces) c.in_ok-pieces.ensures.ran
    (YieldsList-from_first bytes_at limited_left (pieces_up_to r hay c.args.limit) c.in_ok-splitn.ensures) in
    (spans_in r hay, laws.finds_are_successive r c.as_str.ensures.compiled hay, pieces)
