-- The texts of the groups of a match of a whole text.
use Rattle.std.specs.Prelude.{◌≡◌, ℕ, ◌+◌, ◌<◌, Bool, true, false, List, length, Some, option_map, slice_get, IsUtf8}
use Rattle.bites_spec.specs.Tree.{Tree}
use Rattle.bites_spec.specs.Match.{Mark, Parse, groups}
use Rattle.bites_spec.specs.Measure.{groups_left, static_captures_len}
use Rattle.bites_spec.specs.Full.{IsFullMatch}
use Rattle.bites_spec.specs.Pieces.{text_at}
use Rattle.bites_spec.specs.Regex.{Regex}

-- the regex has n groups, with group 0, and all of them participate in every match
abbrev pub HasGroups : Regex → ℕ → Type 0
HasGroups r n =
    (r.keep_dropped_groups ≡ false) × (length (groups_left r.tree) ≡ n) × (static_captures_len r.tree ≡ Some n)

-- these are the texts of groups 1, 2 and so on in one parse of the whole text
pub record AreParts (t : Tree) (text : List ℕ) (parts : List (List ℕ)) : Type 0 where
  pub marks : List Mark
  pub parse : Parse text t 0 (length text) marks
  pub each : (k : ℕ) → k < length parts →
      slice_get parts k ≡ option_map (text_at text) (groups 0 (length text) marks (k + 1))

-- these are the parts of the whole text, or the tree does not match it
abbrev pub Extracts : Tree → List ℕ → Bool → List (List ℕ) → Type 0
Extracts t text true parts = AreParts t text parts
Extracts t text false parts = IsFullMatch t text → ⊥

-- these are the parts of the whole text, or the tree does not match it, or it is not UTF-8
abbrev pub ExtractsBytes : Tree → List ℕ → Bool → List (List ℕ) → Type 0
ExtractsBytes t text true parts = AreParts t text parts
ExtractsBytes t text false parts = IsUtf8 text → IsFullMatch t text → ⊥
