-- The lines of a log in the common log format, and their fields.
use Rattle.std.specs.Prelude.{◌≡◌, ℕ, true, List, [], ◌∷◌, length, Some, None, codes}
use Rattle.bites_spec.specs.Class.{Set, single, union, between, complement}
use Rattle.bites_spec.specs.RangesOf.{ranges_of}
use Rattle.bites_spec.specs.Tree.{Tree, char, class, repetition, group, sequence, trees_of}
use Rattle.bites_spec.specs.Match.{Matches}
use Rattle.bites_filter.specs.Parts.{AreParts}

-- a group with this number and name that takes characters of the set, at least `least` of them
abbrev pub field : ℕ → List ℕ → ℕ → Set → Tree
field number name least set = group number (Some name) (repetition least None true (class (ranges_of set)))

-- all but these two characters
abbrev pub all_but : ℕ → ℕ → Set
all_but a b = complement (union (single a) (single b))

-- the pattern of a whole line
abbrev pub pattern : List ℕ
pattern = codes "(?<host>[^ \"]+) (?<ident>[^ \"]+) (?<user>[^ \"]+) \\[(?<time>[^\\]\"]+)\\] \"(?<request>[^\"]*)\" (?<status>[0-9]+) (?<size>[0-9-]+)"

-- the tree that the pattern is read as
abbrev pub entry_tree : Tree
entry_tree =
    sequence (trees_of (
    field 1 (codes "host") 1 (all_but 0x20 0x22) ∷ char 0x20
    ∷ field 2 (codes "ident") 1 (all_but 0x20 0x22) ∷ char 0x20
    ∷ field 3 (codes "user") 1 (all_but 0x20 0x22) ∷ char 0x20
    ∷ char 0x5B ∷ field 4 (codes "time") 1 (all_but 0x5D 0x22) ∷ char 0x5D ∷ char 0x20
    ∷ char 0x22 ∷ field 5 (codes "request") 0 (complement (single 0x22)) ∷ char 0x22 ∷ char 0x20
    ∷ field 6 (codes "status") 1 (between 0x30 0x39) ∷ char 0x20
    ∷ field 7 (codes "size") 1 (union (between 0x30 0x39) (single 0x2D))
    ∷ []))

-- the line does not have the format
abbrev pub NoEntry : List ℕ → Type 0
NoEntry line = Matches line entry_tree 0 (length line) → ⊥

-- these are the fields of the line: the texts of the seven groups in one parse of the whole line
abbrev pub IsEntry : List ℕ → List (List ℕ) → Type 0
IsEntry line fields = (length fields ≡ 7) × AreParts entry_tree line fields
