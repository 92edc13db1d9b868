use Rattle.std.proofs.Common.{◌≡◌, length}
use Rattle.bites_spec.specs.Utf8.{places}
use Rattle.bites_spec.specs.Set.{fits_of}
use Rattle.bites_bytes.proofs.SetLemmas.{AreMatchedTo}
use Rattle.bites_bytes.proofs.bytes.set_search.match_each.Given as goal

-- the caches fit as before, and the entries so far are right
abbrev pub invariant-loop-number : goal.invariant-loop-number
invariant-loop-number l = record {
  fits : fits_of l.caches ≡ fits_of l.fn.caches;
  len : length l.matched ≡ length l.fn.matched;
  each : AreMatchedTo l.regexes l.haystack (places l.haystack l.start) l.number l.matched;
}
