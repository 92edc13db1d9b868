use Rattle.bites_bytes.proofs.FullLemmas.{full_matches}
use Rattle.bites_bytes.proofs.bytes.regex.Regex.is_full_match_with.Goals as goal

pub returns : goal.returns
returns c =
    let e = c.find_full.ensures in record {
      found = full_matches c.args.self.now e.compiled c.args.haystack.now c.find_full.result _ _ e.full;
      searched = e.searched;
      searches = e.searches;
    }
