use Rattle.std.proofs.Common.{◌≡◌}
use Rattle.bites_spec.specs.Utf8.{places}
use Rattle.bites_spec.specs.Set.{fits_of}
use Rattle.bites_bytes.proofs.SetLemmas.{NoneTo}
use Rattle.bites_bytes.proofs.bytes.set_search.match_any.Given as goal

-- the caches fit as before, and none of the regexes so far matches
abbrev pub invariant-loop-number : goal.invariant-loop-number
invariant-loop-number l = record {
  fits : fits_of l.caches ≡ fits_of l.fn.caches;
  none : NoneTo l.regexes l.haystack (places l.haystack l.start) l.number;
}
