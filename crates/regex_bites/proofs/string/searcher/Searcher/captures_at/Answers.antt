use Rattle.std.proofs.Common.{◌∙◌, false, sym}
use Rattle.bites_machine.specs.Inputs.{starts_of}
use Rattle.bites_bytes.specs.Calls.{FindsCaptured}
use Rattle.bites_bytes.proofs.CapturedLemmas.{captured_there, returned}
use Rattle.bites_bytes.proofs.SlotLemmas.{read_length, starts_are}
use Rattle.regex_bites.specs.Matched.{excerpt_of}
use Rattle.regex_bites.proofs.BorderLemmas.{groups_in_text}
use Rattle.regex_bites.proofs.string.searcher.Searcher.captures_at.Goals as goal

pub of_found-requires : goal.of_found-requires
of_found-requires c =
    let e = c.captures_read_at_with-found.ensures in
    groups_in_text c.self.inside.regex c.as_str.ensures.compiled c.args.haystack.now false c.args.start excerpt_of _ _ _ e.read e.borders _ (sym c.is_some.ensures)

pub invariant_of-self : goal.invariant_of-self
invariant_of-self c =
    let hay = c.args.haystack.now in let s = c.args.start in let e = c.captures_read_at_with-found.ensures in (
      e.searched.fits ∙ c.self.invariant.0,
      read_length c.self.inside.regex c.as_str.ensures.compiled hay s _ (starts_are hay false s) _ _ _ e.read c.self.invariant.1,
    )

pub returns : goal.returns
returns c =
    let r = c.self.inside.regex in let hay = c.args.haystack.now in let s = c.args.start in let e = c.captures_read_at_with-found.ensures in record {
      found = rw (← c.self.view_is)
          (returned (FindsCaptured r hay (starts_of hay false s)) _
          (captured_there r c.as_str.ensures.compiled hay s _ (starts_are hay false s) excerpt_of _ _ _ e.read _ (sym c.is_some.ensures)) _ c.of_found.ensures);
      same = c.self.view_is;
    }
