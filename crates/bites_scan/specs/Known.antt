-- What a set keeps of its literals.
use Rattle.std.specs.Prelude.{ℕ, ◌<◌, ◌≤◌, List, length, slice_index_or}
use Rattle.bites_scan.specs.declared.fingerprints.Fingerprints.{Fingerprints}
use Rattle.bites_scan.specs.declared.shortlist.Shortlist.{Shortlist}
use Rattle.bites_scan.specs.Buckets.{Knows}
use Rattle.bites_scan.specs.Literal.{Needle}
use Rattle.bites_scan.specs.Shortlist.{Lists}

-- the fingerprints know each of the first `n` literals, and the list has it by its number
abbrev pub AreKnown : List Needle → ℕ → Fingerprints → Shortlist → Type 0
AreKnown literals n f s = (k : ℕ) (d : Needle) → k < n → Knows f (slice_index_or literals k d) × Lists s (slice_index_or literals k d) k

-- each of the first `n` literals has so many bytes at least
abbrev pub AreAsLong : List Needle → ℕ → ℕ → Type 0
AreAsLong literals n least = (k : ℕ) (d : Needle) → k < n → least ≤ length (slice_index_or literals k d).bytes
