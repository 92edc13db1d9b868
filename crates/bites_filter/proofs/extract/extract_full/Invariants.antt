use Rattle.std.proofs.Common.{◌≡◌, ℕ, ◌+◌, ◌<◌, option_map, slice_get}
use Rattle.bites_spec.specs.Pieces.{text_at}
use Rattle.bites_spec.specs.Slots.{group_in}
use Rattle.bites_filter.proofs.extract.extract_full.Given as goal

-- the parts below k are the texts of their groups
abbrev pub invariant-loop-k : goal.invariant-loop-k
invariant-loop-k l =
    (j : ℕ) → j < l.k →
    option_map (λ p. p.now) (slice_get l.parts j) ≡ option_map (text_at l.captures.haystack) (group_in l.captures.slots (j + 1))
