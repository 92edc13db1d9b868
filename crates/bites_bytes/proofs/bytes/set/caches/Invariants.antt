use Rattle.std.proofs.Common.{◌≡◌, take}
use Rattle.bites_spec.specs.Set.{fits_of, fits_for}
use Rattle.bites_bytes.proofs.bytes.set.caches.Given as goal

-- there is a cache for each regex so far
abbrev pub invariant-loop-regex : goal.invariant-loop-regex
invariant-loop-regex l = fits_of l.caches.items ≡ fits_for (take l.regex-index l.regexes)
