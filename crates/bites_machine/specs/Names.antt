-- The names of a tree's groups.
use Rattle.std.specs.Prelude.{ℕ, List, [], ◌∷◌, ◌++◌, map, replicate, option_map, Option, None, slice_set, String, string_bytes}

-- the bytes of each name
abbrev pub bytes_of : {Z : Type 0} → List (Option (String Z)) → List (Option (List ℕ))
bytes_of names = map (option_map string_bytes) names

-- these names of the first groups, and the given number of groups without a name after them
abbrev pub names_by : {Z : Type 0} → List (Option (String Z)) → ℕ → List (Option (List ℕ))
names_by names unnamed = bytes_of names ++ replicate unnamed None

-- each group's name is written to its index
abbrev pub filled : List (ℕ × Option (List ℕ)) → List (Option (List ℕ)) → List (Option (List ℕ))
filled [] names = names
filled (g ∷ groups) names = filled groups (slice_set names g.0 g.1)
