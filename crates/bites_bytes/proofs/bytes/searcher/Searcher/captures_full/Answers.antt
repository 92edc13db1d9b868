use Rattle.std.proofs.Common.{option_map}
use Rattle.bites_spec.specs.Captured.{AreGroups, captured}
use Rattle.bites_spec.specs.Full.{full_slots}
use Rattle.bites_bytes.specs.Calls.{groups_if, FindsCapturedFull}
use Rattle.bites_spec.proofs.regex.FullLemmas.{full_slots_are_groups}
use Rattle.bites_bytes.proofs.CapturedLemmas.{if_found, returned}
use Rattle.bites_bytes.proofs.FullLemmas.{captured_full}
use Rattle.bites_bytes.proofs.bytes.searcher.Searcher.captures_full.Goals as goal

pub of_found-requires : goal.of_found-requires
of_found-requires c =
    let r = c.self.inside.regex in let hay = c.args.haystack.now in let e = c.find_full-found.ensures in
    if_found (AreGroups r hay) (full_slots r hay) (full_slots_are_groups r e.compiled hay) _ e.reads.found

pub returns : goal.returns
returns c =
    let r = c.self.inside.regex in let hay = c.args.haystack.now in let e = c.find_full-found.ensures in
    let o = groups_if c.find_full-found.result c.find_full-found.new.self in record {
      found = rw (← c.self.view_is) (returned (FindsCapturedFull r hay) (option_map (captured r hay) o) (captured_full r e.compiled hay o e.reads.found) _ c.of_found.ensures);
      same = c.self.view_is;
    }
