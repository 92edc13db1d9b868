-- What a template stands for by the groups of a match.
use Rattle.std.specs.Prelude.{◌≡◌, ℕ, ◌<◌, ◌^◌, Bool, false, List, Option, option_map, position}
use Rattle.std.specs.Borrow.{Bor}
use Rattle.std.specs.Option.{option_map_or}
use Rattle.std.specs.Str.{bytes_eq}
use Rattle.bites_spec.specs.Slots.{group_in}
use Rattle.bites_spec.specs.Pieces.{text_at}
use Rattle.bites_spec.specs.Template.{expansion}

-- whether a group has this name
abbrev pub has_name : List ℕ → Option (List ℕ) → Bool
has_name word name = option_map_or (λ n. bytes_eq n word) name false

-- the number of the first group with this name
abbrev pub index_in : List (Option (List ℕ)) → List ℕ → Option ℕ
index_in names word = position (has_name word) names

-- what a group matched, if it participated
abbrev pub text_in : List (Option ℕ) → List ℕ → ℕ → Option (List ℕ)
text_in slots hay k = option_map (text_at hay) (group_in slots k)

-- The text of a template by the names of the groups, the slots of a match and the haystack; a number fits in a `usize`.
abbrev pub expansion_of : List (Option (List ℕ)) → List (Option ℕ) → List ℕ → List ℕ → List ℕ
expansion_of names slots hay template = expansion false 0xFFFF_FFFF_FFFF_FFFF (text_in slots hay) (index_in names) template

-- what calls with a number return is a function of the number
abbrev pub GivesTexts : (ℕ → Option (Bor (List ℕ)) → Type 0) → (ℕ → Option (List ℕ)) → Type 0
GivesTexts post texts = (k : ℕ) (r : _) → k < 2 ^ 64 → post k r → option_map (λ t. t.now) r ≡ texts k

-- what calls with a name return is a function of the name
abbrev pub GivesNumbers : (Bor (List ℕ) → Option ℕ → Type 0) → (List ℕ → Option ℕ) → Type 0
GivesNumbers post numbers = (name : _) (r : _) → post name r → r ≡ numbers name.now
