use Rattle.std.proofs.Common.{◌∙◌, ◌≤◌, ap, sym, subst, option_map}
use Rattle.bites_spec.specs.Run.{Answered}
use Rattle.bites_spec.specs.Regex.{run_at}
use Rattle.bites_spec.specs.Captured.{excerpt}
use Rattle.bites_machine.specs.Inputs.{starts_of}
use Rattle.bites_bytes.specs.Calls.{SearchedBy}
use Rattle.bites_bytes.specs.Matched.{excerpt_of}
use Rattle.bites_bytes.proofs.SlotLemmas.{answered, starts_are, front_slots, none_there, two_at_least, ends_lie, found_match, found_some}
use Rattle.bites_bytes.proofs.MadeLemmas.{made_by}
use Rattle.bites_bytes.proofs.TracedLemmas.{longest_of}
use Rattle.bites_bytes.proofs.bytes.cache.Cache.find.Goals as goal

pub returns-then-not-search : goal.returns-then-not-search
returns-then-not-search c =
    let r = c.args.regex.now in let hay = c.args.haystack.now in let s = c.args.start in let b = c.args.anchored in let e = c.search.ensures in
    let a = answered r _ _ _ _ _ _ e c.kind.ensures in record {
      finds = record {
        found = found_match r e.answered.compiled hay s _ (starts_are hay b s) _
            (ap (option_map (excerpt hay)) (none_there r e.answered.compiled hay s _ (starts_are hay b s) _ _ _ a c.if-not-search.true));
        searched = subst (λ f. SearchedBy b r hay s f c.args.self.now c.search.new.self) c.if-not-search.true e.searched;
        searches = made_by r _ (longest_of r _ c.kind.ensures) b _ _ e.searches;
      };
      answered = subst (λ f. Answered r.program (run_at r hay (starts_of hay b s)) f c.args.slots.now c.search.new.slots) c.if-not-search.true a;
      compiled = e.answered.compiled;
      fits = e.fits;
    }

pub ends_in-requires : goal.ends_in-requires
ends_in-requires c = subst (λ n. 2 ≤ n) (sym c.search.auto.slots) (two_at_least c.args.regex.now c.search.ensures.answered.compiled _ c.requires.slots)

pub at-requires : goal.at-requires
at-requires c =
    let r = c.args.regex.now in let hay = c.args.haystack.now in let s = c.args.start in let b = c.args.anchored in let e = c.search.ensures in
    ends_lie r e.answered.compiled hay s _ (starts_are hay b s) c.ends_in.result
    (c.ends_in.ensures ∙ front_slots r e.answered.compiled hay s _ (starts_are hay b s) _ _ _ (answered r _ _ _ _ _ _ e c.kind.ensures)
    c.if-not-search.false (two_at_least r e.answered.compiled _ c.requires.slots))

pub returns : goal.returns
returns c =
    let r = c.args.regex.now in let hay = c.args.haystack.now in let s = c.args.start in let b = c.args.anchored in let e = c.search.ensures in
    let a = answered r _ _ _ _ _ _ e c.kind.ensures in
    let is = c.at.ensures.found ∙ ap (option_map (excerpt hay)) (c.ends_in.ensures
    ∙ front_slots r e.answered.compiled hay s _ (starts_are hay b s) _ _ _ a c.if-not-search.false (two_at_least r e.answered.compiled _ c.requires.slots)) in
    let some = found_some r e.answered.compiled hay s _ (starts_are hay b s) excerpt_of c.at.result is _ _ _ a in record {
      finds = record {
        found = found_match r e.answered.compiled hay s _ (starts_are hay b s) (option_map excerpt_of c.at.result) is;
        searched = subst (λ f. SearchedBy b r hay s f c.args.self.now c.search.new.self) some e.searched;
        searches = made_by r _ (longest_of r _ c.kind.ensures) b _ _ e.searches;
      };
      answered = subst (λ f. Answered r.program (run_at r hay (starts_of hay b s)) f c.args.slots.now c.search.new.slots) some a;
      compiled = e.answered.compiled;
      fits = e.fits;
    }
