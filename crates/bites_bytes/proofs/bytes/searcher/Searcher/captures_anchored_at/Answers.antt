use Rattle.std.proofs.Common.{◌∙◌, true, sym}
use Rattle.bites_machine.specs.Inputs.{starts_of}
use Rattle.bites_bytes.specs.Calls.{FindsCaptured}
use Rattle.bites_bytes.specs.Matched.{excerpt_of}
use Rattle.bites_bytes.proofs.CapturedLemmas.{captured_there, groups_there, returned}
use Rattle.bites_bytes.proofs.SlotLemmas.{read_length, starts_are}
use Rattle.bites_bytes.proofs.bytes.searcher.Searcher.captures_anchored_at.Goals as goal

pub of_found-requires : goal.of_found-requires
of_found-requires c =
    let hay = c.args.haystack.now in let s = c.args.start in let e = c.find-found.ensures in
    groups_there c.self.inside.regex e.compiled hay s _ (starts_are hay true s) excerpt_of _ _ _ e.reads.read _ (sym c.is_some.ensures)

pub invariant_of-self : goal.invariant_of-self
invariant_of-self c =
    let hay = c.args.haystack.now in let s = c.args.start in let e = c.find-found.ensures in
    (e.cache ∙ c.self.invariant.0, read_length c.self.inside.regex e.compiled hay s _ (starts_are hay true s) _ _ _ e.reads.read c.self.invariant.1)

pub returns : goal.returns
returns c =
    let r = c.self.inside.regex in let hay = c.args.haystack.now in let s = c.args.start in let e = c.find-found.ensures in record {
      found = rw (← c.self.view_is)
          (returned (FindsCaptured r hay (starts_of hay true s)) _
          (captured_there r e.compiled hay s _ (starts_are hay true s) excerpt_of _ _ _ e.reads.read _ (sym c.is_some.ensures)) _ c.of_found.ensures);
      same = c.self.view_is;
    }
