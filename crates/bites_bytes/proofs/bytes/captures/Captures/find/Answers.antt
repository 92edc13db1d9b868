use Rattle.std.proofs.Common.{Some, false, sym, true, subst}
use Rattle.bites_bytes.specs.Calls.{FindsCaptured, SearchedBy}
use Rattle.bites_machine.specs.Inputs.{starts_of}
use Rattle.bites_bytes.specs.Matched.{excerpt_of}
use Rattle.bites_bytes.proofs.CapturedLemmas.{captured_there, groups_there}
use Rattle.bites_bytes.proofs.SlotLemmas.{starts_are}
use Rattle.bites_bytes.proofs.bytes.captures.Captures.find.Goals as goal

pub returns-then-is_none : goal.returns-then-is_none
returns-then-is_none c =
    let r = c.args.regex.now in let hay = c.args.haystack.now in let s = c.args.start in let b = c.args.anchored in let e = c.find.ensures in record {
      found = captured_there r e.compiled hay s _ (starts_are hay b s) excerpt_of _ _ c.find.new.self e.reads.read false c.if-is_none.ensures;
      searched = subst (λ f. SearchedBy b r hay s f c.args.cache.now c.find.new.cache) c.if-is_none.ensures e.reads.searched;
      searches = e.reads.searches;
      fits = e.cache;
    }

pub new-requires : goal.new-requires
new-requires c =
    let hay = c.args.haystack.now in let e = c.find.ensures in
    groups_there c.args.regex.now e.compiled hay c.args.start _ (starts_are hay c.args.anchored c.args.start) excerpt_of _ _ _ e.reads.read true c.if-is_none.ensures

pub returns : goal.returns
returns c =
    let r = c.args.regex.now in let hay = c.args.haystack.now in let s = c.args.start in let b = c.args.anchored in let e = c.find.ensures in record {
      found = subst (λ x. FindsCaptured r hay (starts_of hay b s) (Some x)) (sym c.in_ok-new.ensures)
          (captured_there r e.compiled hay s _ (starts_are hay b s) excerpt_of _ _ _ e.reads.read true c.if-is_none.ensures);
      searched = subst (λ f. SearchedBy b r hay s f c.args.cache.now c.find.new.cache) c.if-is_none.ensures e.reads.searched;
      searches = e.reads.searches;
      fits = e.cache;
    }
