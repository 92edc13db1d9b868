use Rattle.bites_bytes.specs.Calls.{FindsCapturedFull}
use Rattle.bites_bytes.proofs.CapturedLemmas.{returned}
use Rattle.bites_bytes.proofs.FullLemmas.{captured_full}
use Rattle.regex_bites.proofs.BorderLemmas.{full_in_text}
use Rattle.regex_bites.proofs.string.searcher.Searcher.captures_full.Goals as goal

pub of_found-requires : goal.of_found-requires
of_found-requires c =
    full_in_text c.self.inside.regex c.as_str.ensures.compiled c.args.haystack.now _ _ _ _ _ c.captures_read_full_with-found.ensures

pub returns : goal.returns
returns c =
    let r = c.self.inside.regex in let hay = c.args.haystack.now in record {
      found = rw (← c.self.view_is) (returned (FindsCapturedFull r hay) _
          (captured_full r c.as_str.ensures.compiled hay _ c.captures_read_full_with-found.ensures.found) _ c.of_found.ensures);
      same = c.self.view_is;
    }
