use Rattle.std.proofs.Common.{map}
use Rattle.std.specs.Prelude.{Ok}
use Rattle.std.proofs.lemmas.Iterator.Consumers.{YieldsList-from_first, map_from_collect}
use Rattle.bites_spec.specs.Captured.{excerpt}
use Rattle.bites_spec.specs.Iteration.{spans_in, pieces_in}
use Rattle.regex_bites.specs.Matched.{excerpt_of}
use Rattle.regex_bites.specs.Matches.{matches_left}
use Rattle.regex_bites.specs.Split.{pieces_left, text_now}
use Rattle.bites_theorems.proofs.PieceLemmas.{in_turn}
use Rattle.bites_theorems.proofs.successive.over_texts.matches_and_pieces.Goals as goal

pub returns : goal.returns
returns c =
    let r = c.args.regex.now in let hay = c.args.haystack.now in
    let found = map_from_collect {E = Unit {0}} (Ok c.in_ok-matches.matches) c.in_ok-matches.ensures.ran
    (YieldsList-from_first excerpt_of matches_left (map (excerpt hay) (spans_in r hay)) c.in_ok-find_iter.ensures) in
    let pieces = map_from_collect {E = Unit {0}} (Ok c.in_ok-pieces.pieces) c.in_ok-pieces.ensures.ran
    (YieldsList-from_first text_now pieces_left (pieces_in r hay) c.in_ok-split.ensures) in
    in_turn r c.as_str.ensures.compiled hay excerpt_of c.in_ok-matches.matches.items _ found pieces
