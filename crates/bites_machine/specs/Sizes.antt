-- Sizes that saturate at 64 bits.
use Rattle.std.specs.Prelude.{ℕ, ◌+◌, ◌*◌, min}
use Rattle.bites_spec.specs.Tree.{Tree}
use Rattle.bites_spec.specs.Measure.{Size, size, size_of, states}

-- the number, saturated at the greatest of 64 bits
abbrev pub held : ℕ → ℕ
held n = min n 18446744073709551615

-- a size, each of its numbers saturated
abbrev pub held_size : Size → Size
held_size s = size (held s.states) (held s.targets) (held s.ranges)

-- the sum of two sizes
abbrev pub both_sizes : Size → Size → Size
both_sizes s t = size (s.states + t.states) (s.targets + t.targets) (s.ranges + t.ranges)

-- the size of a tree's program with groups of the given size
abbrev pub size_by : ℕ → Tree → ℕ
size_by groups t = 32 * states t + 4 * (size_of t).targets + 8 * (size_of t).ranges + groups
