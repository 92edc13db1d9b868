use Rattle.std.proofs.Common.{◌≡◌, take}
use Rattle.bites_spec.specs.Set.{fits_of, fits_for}
use Rattle.bites_bytes.proofs.bytes.set.fit_each.Given as goal

-- the caches so far fit
abbrev pub invariant-loop-number : goal.invariant-loop-number
invariant-loop-number l = fits_of (take l.number l.caches) ≡ fits_for (take l.number l.regexes)
