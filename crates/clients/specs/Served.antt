-- What is written for the paths.
use Rattle.std.specs.Prelude.{◌≡◌, ℕ, List, [], ◌∷◌, ◌++◌, ◌⊎◌, Option, IsUtf8}
use Rattle.std.specs.Io.BufRead.{strip_last}
use Rattle.bites_filter.specs.Lines.{AreWritten}
use Rattle.bites_filter.specs.Table.{NamedRegex, NoneMatches, IsFirst, name_at}
use Rattle.bites_filter.specs.Tabs.{tabbed_groups}

-- the name, the groups from group 1 on, and a line feed
abbrev pub served_line : List ℕ → List ℕ → List (Option ℕ) → List ℕ
served_line name path slots = (name ++ tabbed_groups path slots) ++ 10 ∷ []

-- Either the path has no route, as one that is not UTF-8, or the first route whose tree matches the whole path is written, with
-- the groups of a parse of the path.
abbrev pub Serves : List NamedRegex → List ℕ → List ℕ → Type 0
Serves routes path written =
    ((IsUtf8 path → NoneMatches routes path) × (written ≡ 45 ∷ 10 ∷ []))
    ⊎ (IsUtf8 path × (k : ℕ) × (slots : List (Option ℕ)) × IsFirst routes path k slots
    × (written ≡ served_line (name_at routes k) path slots))

-- the path is the line without its line feed
abbrev pub IsServed : List NamedRegex → List ℕ → List ℕ → Type 0
IsServed routes line written = Serves routes (strip_last 10 line) written

-- each line is served, and what is written for them stands in their order
abbrev pub AreServed : List NamedRegex → List (List ℕ) → List ℕ → Type 0
AreServed routes = AreWritten (IsServed routes)
