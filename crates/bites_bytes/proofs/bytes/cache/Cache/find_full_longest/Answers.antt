use Rattle.std.proofs.Common.{refl, length}
use Rattle.bites_bytes.proofs.FullLemmas.{same_end, full_missing, full_there}
use Rattle.bites_bytes.proofs.SlotLemmas.{two_at_least}
use Rattle.bites_bytes.proofs.bytes.cache.Cache.find_full_longest.Goals as goal

pub returns-then-not-search : goal.returns-then-not-search
returns-then-not-search c =
    let e = c.search.ensures in record {
      full = full_missing c.args.regex.now e.answered.compiled c.args.haystack.now c.search.result _ _ c.search.new.slots c.if-not-search.true (e.answered.longest refl);
      compiled = e.answered.compiled;
      searched = record { fits = e.fits; bounded = e.searched.walked.0; read = e.searched.read };
      searches = e.searches;
    }

pub returns : goal.returns
returns c =
    let e = c.search.ensures in record {
      full = full_there c.args.regex.now e.answered.compiled c.args.haystack.now c.search.result _ c.args.slots.now c.search.new.slots c.if-not-search.false
          (two_at_least c.args.regex.now e.answered.compiled _ c.requires.slots) (e.answered.longest refl)
          (same_end c.search.new.slots (length c.args.haystack.now) c.end_in.result c.eq.result c.end_in.ensures c.eq.ensures);
      compiled = e.answered.compiled;
      searched = record { fits = e.fits; bounded = e.searched.walked.0; read = e.searched.read };
      searches = e.searches;
    }
