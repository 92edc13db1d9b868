use Rattle.std.proofs.Common.{◌∙◌, ap, sym}
use Rattle.std.specs.Prelude.{slice_range}
use Rattle.bites_bytes.proofs.SplitLemmas.{split_some, split_none}
use Rattle.regex_bites.specs.Matched.{excerpt_of}
use Rattle.regex_bites.specs.Searcher.{spans_left}
use Rattle.regex_bites.proofs.string.searcher.split.Split.step.Goals as goal

pub returns-in-Some : goal.returns-in-Some
returns-in-Some c =
    let e = c.in-Some.ensures in let begin = c.args.self.now.begin in let s = c.args.self.now.matches in let t = c.step.new.self in
    let split = split_some s.haystack.now begin c.args.self.now.done c.if-self.false t.haystack.now c.end-self.result e.same
    (excerpt_of c.in-Some.found) c.end-self.ensures _
    (sym (c.range.ensures.value ∙ ap (slice_range s.haystack.now begin) c.start.ensures))
    (spans_left s) (spans_left t) e.steps.0 in
    (split.0, e.steps.1)

pub returns-in-None : goal.returns-in-None
returns-in-None c =
    let e = c.in-None.ensures in let begin = c.args.self.now.begin in let s = c.args.self.now.matches in
    let split = split_none s.haystack.now begin c.args.self.now.done c.if-self.false (spans_left s) _ e.steps.0.0
    (sym c.range-in-None.ensures.value) in
    (split.0, e.steps.1)
