-- Vectors of 16 bytes, some of whose lanes are marked.
use Rattle.std.specs.Prelude.{ℕ, List, map, not, Bool, ◌==◌}
use lib.Lanes.{mask_l}

-- a lane is marked: it isn't 0
abbrev pub is_marked : ℕ → Bool
is_marked lane = not (lane == 0)

abbrev pub marks : List ℕ → List Bool
marks vector = map is_marked vector

-- the number whose bit k says whether lane k is marked
abbrev pub mask : List Bool → ℕ
mask = mask_l
