use Rattle.std.proofs.Common.{refl, length}
use Rattle.bites_bytes.proofs.FullLemmas.{same_end, first_missing, first_there}
use Rattle.bites_bytes.proofs.SlotLemmas.{two_at_least}
use Rattle.bites_bytes.proofs.bytes.cache.Cache.find_full_by_table.Goals as goal

pub returns-then-not-search-clause-full : goal.returns-then-not-search-clause-full
returns-then-not-search-clause-full c =
    let e = c.search.ensures in record {
      full = first_missing c.args.regex.now e.answered.compiled c.args.haystack.now c.search.result _ _ c.search.new.slots c.if-not-search.true (e.answered.first refl);
      compiled = e.answered.compiled;
      searched = record { fits = e.fits; bounded = e.searched.walked.0; read = e.searched.read };
      searches = e.searches;
    }

pub returns-then-eq-clause-full : goal.returns-then-eq-clause-full
returns-then-eq-clause-full c =
    let e = c.search.ensures in record {
      full = first_there c.args.regex.now e.answered.compiled c.args.haystack.now c.search.result c.args.slots.now c.search.new.slots c.if-not-search.false
          (two_at_least c.args.regex.now e.answered.compiled _ c.requires.slots) (e.answered.first refl)
          ((same_end c.search.new.slots (length c.args.haystack.now) c.end_in.result c.eq.result c.end_in.ensures c.eq.ensures).0 c.if-eq.true);
      compiled = e.answered.compiled;
      searched = record { fits = e.fits; bounded = e.searched.walked.0; read = e.searched.read };
      searches = e.searches;
    }
