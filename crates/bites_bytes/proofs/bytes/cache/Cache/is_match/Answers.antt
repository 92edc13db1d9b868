use Rattle.std.proofs.Common.{refl}
use Rattle.bites_bytes.proofs.SearchLemmas.{least_found}
use Rattle.bites_bytes.proofs.bytes.cache.Cache.is_match.Goals as goal

pub returns : goal.returns
returns c =
    let e = c.search.ensures in let least = e.answered.least refl in record {
      found = least_found c.args.regex.now e.answered.compiled c.args.haystack.now _ least.0 c.search.result _ _ least.1 least.2;
      searched = e.searched;
      searches = e.searches;
    }
