use Rattle.std.proofs.Common.{ap, refl}
use Rattle.std.specs.Prelude.{unwrap_or}
use Rattle.bites_bytes.specs.Matched.{excerpt_of}
use Rattle.bites_bytes.specs.Searcher.{spans_left}
use Rattle.bites_bytes.proofs.SplitLemmas.{piece_is, split_some, split_none}
use Rattle.bites_bytes.proofs.bytes.searcher.split.Split.step.Goals as goal

pub returns-in-Some : goal.returns-in-Some
returns-in-Some c =
    let e = c.in-Some.ensures in let s = c.args.self.now.matches in let t = c.step.new.self in
    let split = split_some s.haystack.now (unwrap_or s.last 0) c.args.self.now.done c.if-self.false t.haystack.now (unwrap_or t.last 0) e.same
    (excerpt_of c.in-Some.found) (ap (λ o. unwrap_or o 0) e.moves.1) _
    (piece_is _ _ _ _ _ _ refl c.end_of_last-begin.ensures.last c.start.ensures) (spans_left s) (spans_left t) e.steps.0 in
    (split.0, e.steps.1)

pub returns-in-None : goal.returns-in-None
returns-in-None c =
    let e = c.in-None.ensures in let s = c.args.self.now.matches in
    let split = split_none s.haystack.now (unwrap_or s.last 0) c.args.self.now.done c.if-self.false (spans_left s) _ e.steps.0.0
    (piece_is _ _ _ _ _ _ refl c.end_of_last-begin.ensures.last refl) in
    (split.0, e.steps.1)
