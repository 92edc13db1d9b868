-- What a tree matches, by which parses, and which groups a parse marks.
use Rattle.std.specs.Prelude.{◌≡◌, ℕ, zero, suc, ◌+◌, ◌<◌, ◌≤◌, Bool, true, List, [], ◌∷◌, ◌++◌, Option, Some, None, if◌then◌else◌, IfSome, ◌==◌, ◌⊎◌}
use Rattle.std.specs.Prelude.{length}
use Rattle.std.specs.Option.{option_or}
use Rattle.bites_spec.specs.Walks.{Among, AllApart}
use Rattle.bites_spec.specs.Utf8.{piece, character}
use Rattle.bites_spec.specs.Look.{Holds}
use Rattle.bites_spec.specs.Range.{in_ranges}
use Rattle.bites_spec.specs.Tree.{Tree, Trees, empty, char, class, look, repetition, group, sequence, alternation, no_tree, tree_and}

-- where something begins and ends
pub record Span : Type 0 where
  pub start : ℕ
  pub end : ℕ

-- a span by its two ends
abbrev pub span : ℕ → ℕ → Span
span i j = record { start = i; end = j }

-- a group, and where it began and ended
pub record Mark : Type 0 where
  pub group : ℕ
  pub span : Span

-- a mark by its group and the two ends of its span
abbrev pub mark : ℕ → ℕ → ℕ → Mark
mark k i j = record { group = k; span = span i j }

-- n is not above the bound, if there is one
abbrev pub IsWithin : Option ℕ → ℕ → Type 0
IsWithin most n = IfSome most (λ m. n ≤ m)

-- n steps of R, one after the other
abbrev pub Chain : (ℕ → ℕ → Type 0) → ℕ → ℕ → ℕ → Type 0
Chain R zero i j = j ≡ i
Chain R (suc n) i j = (l : ℕ) × R i l × Chain R n l j

-- n turns of R, one after the other, with the marks of all
abbrev pub Turns : {M : Type 0} → (ℕ → ℕ → List M → Type 0) → ℕ → ℕ → ℕ → List M → Type 0
Turns R zero i j ms = (j ≡ i) × (ms ≡ [])
Turns {M} R (suc n) i j ms =
    (l : ℕ) × (first : List M) × (rest : List M) × R i l first × Turns R n l j rest × (ms ≡ first ++ rest)

module _ (hay : List ℕ) where
  -- the piece at i has a length, its character passes the test, and it ends at j
  abbrev pub Takes : (ℕ → Bool) → ℕ → ℕ → Type 0
  Takes test i j = (0 < (piece hay i).len) × (test (character (piece hay i)) ≡ true) × (j ≡ i + (piece hay i).len)

  abbrev mutual
    -- the tree matches from i to j
    pub Matches : Tree → ℕ → ℕ → Type 0
    Matches empty i j = j ≡ i
    Matches (char c) i j = Takes (λ d. d == c) i j
    Matches (class rs) i j = Takes (in_ranges rs) i j
    Matches (look l) i j = Holds l hay i × (j ≡ i)
    Matches (repetition min most greedy t) i j = (n : ℕ) × (min ≤ n) × IsWithin most n × Chain (Matches t) n i j
    Matches (group k name t) i j = Matches t i j
    Matches (sequence ts) i j = MatchesAll ts i j
    Matches (alternation ts) i j = MatchesOne ts i j

    -- all of the trees match, one after the other
    pub MatchesAll : Trees → ℕ → ℕ → Type 0
    MatchesAll no_tree i j = j ≡ i
    MatchesAll (tree_and t ts) i j = (l : ℕ) × Matches t i l × MatchesAll ts l j

    -- one of the trees matches
    pub MatchesOne : Trees → ℕ → ℕ → Type 0
    MatchesOne no_tree i j = ⊥
    MatchesOne (tree_and t ts) i j = Matches t i j ⊎ MatchesOne ts i j

  abbrev mutual
    -- One way in which the tree matches from i to j. The marks are its groups, in the order in which they end.
    pub Parse : Tree → ℕ → ℕ → List Mark → Type 0
    Parse empty i j ms = (j ≡ i) × (ms ≡ [])
    Parse (char c) i j ms = Takes (λ d. d == c) i j × (ms ≡ [])
    Parse (class rs) i j ms = Takes (in_ranges rs) i j × (ms ≡ [])
    Parse (look l) i j ms = Holds l hay i × (j ≡ i) × (ms ≡ [])
    Parse (repetition min most greedy t) i j ms = (n : ℕ) × (min ≤ n) × IsWithin most n × Turns (Parse t) n i j ms
    Parse (group k name t) i j ms = (inner : List Mark) × Parse t i j inner × (ms ≡ inner ++ mark k i j ∷ [])
    Parse (sequence ts) i j ms = ParseAll ts i j ms
    Parse (alternation ts) i j ms = ParseOne ts i j ms

    -- a parse of all of the trees, one after the other
    pub ParseAll : Trees → ℕ → ℕ → List Mark → Type 0
    ParseAll no_tree i j ms = (j ≡ i) × (ms ≡ [])
    ParseAll (tree_and t ts) i j ms =
        (l : ℕ) × (first : List Mark) × (rest : List Mark) × Parse t i l first × ParseAll ts l j rest × (ms ≡ first ++ rest)

    -- a parse of one of the trees
    pub ParseOne : Trees → ℕ → ℕ → List Mark → Type 0
    ParseOne no_tree i j ms = ⊥
    ParseOne (tree_and t ts) i j ms = Parse t i j ms ⊎ ParseOne ts i j ms

-- where the group last participated, if it did
abbrev pub last_mark : List Mark → ℕ → Option Span
last_mark [] k = None
last_mark (m ∷ ms) k = option_or (last_mark ms k) (if m.group == k then Some m.span else None)

-- The groups of a parse from i to j: group 0 is the whole, each other one its last mark.
abbrev pub groups : ℕ → ℕ → List Mark → ℕ → Option Span
groups i j ms zero = Some (span i j)
groups i j ms (suc k) = last_mark ms (suc k)

-- the group participated
abbrev pub IsMarked : List Mark → ℕ → Type 0
IsMarked [] k = ⊥
IsMarked (m ∷ ms) k = (m.group ≡ k) ⊎ IsMarked ms k

-- at least n different groups participated
abbrev pub MarksAtLeast : ℕ → List Mark → Type 0
MarksAtLeast n ms = (ks : List ℕ) × (length ks ≡ n) × AllApart ks × ((k : ℕ) → Among ks k → IsMarked ms k)
