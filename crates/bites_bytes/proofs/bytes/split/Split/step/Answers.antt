use Rattle.std.proofs.Common.{ap, refl}
use Rattle.std.specs.Prelude.{unwrap_or}
use Rattle.bites_bytes.specs.Matched.{excerpt_of}
use Rattle.bites_bytes.specs.Matches.{spans_left}
use Rattle.bites_bytes.proofs.SplitLemmas.{piece_is, split_some, split_none}
use Rattle.bites_bytes.proofs.bytes.split.Split.step.Goals as goal

pub returns-in-Some : goal.returns-in-Some
returns-in-Some c =
    let e = c.in-Some.ensures in let s = c.args.self.now.matches.cursor in let t = c.step.new.self.cursor in
    split_some s.haystack.now (unwrap_or s.last 0) c.args.self.now.done c.if-self.false t.haystack.now (unwrap_or t.last 0) e.same.1
    (excerpt_of c.in-Some.found) (ap (λ o. unwrap_or o 0) e.moves.1) _
    (piece_is _ _ _ _ _ _ refl c.end_of_last-begin.ensures.last c.start.ensures) (spans_left s) (spans_left t) e.steps

pub returns-in-None : goal.returns-in-None
returns-in-None c =
    let s = c.args.self.now.matches.cursor in
    split_none s.haystack.now (unwrap_or s.last 0) c.args.self.now.done c.if-self.false (spans_left s) _ c.in-None.ensures.steps.0
    (piece_is _ _ _ _ _ _ refl c.end_of_last-begin.ensures.last refl)
