-- The tree of a pattern, and measures of it.
use Rattle.std.specs.Prelude.{◌≡◌, ◌≢◌, ℕ, suc, ◌≤◌, max, Bool, true, false, ◌&&◌, ◌||◌, not, List, [], ◌∷◌, ◌++◌, Option, Some, None, IfSome, IsTrue, ◌==◌, is_some, if◌then◌else◌}
use Rattle.bites_spec.specs.Range.{Range}
use Rattle.bites_spec.specs.Look.{Look}

mutual
  -- what a pattern is read as
  pub data Tree : Type 0 where
    empty : Tree
    char : ℕ → Tree
    -- the set of characters in these ranges
    class : List Range → Tree
    look : Look → Tree
    -- the least count, the greatest count if there is one, whether more is preferred, and the body
    repetition : ℕ → Option ℕ → Bool → Tree → Tree
    -- its number, and the bytes of its name if it has one
    group : ℕ → Option (List ℕ) → Tree → Tree
    sequence : Trees → Tree
    alternation : Trees → Tree

  -- trees in a row
  pub data Trees : Type 0 where
    no_tree : Trees
    tree_and : Tree → Trees → Trees

-- a list of trees as the parts of one
abbrev pub trees_of : List Tree → Trees
trees_of [] = no_tree
trees_of (t ∷ ts) = tree_and t (trees_of ts)

-- nodes one after another: one node is itself, and no node is `empty`
abbrev pub sequence_of : List Tree → Tree
sequence_of [] = empty
sequence_of (t ∷ []) = t
sequence_of (t ∷ u ∷ ts) = sequence (trees_of (t ∷ u ∷ ts))

-- an alternation of branches: one branch is itself, and no branch is `empty`
abbrev pub alternation_of : List Tree → Tree
alternation_of [] = empty
alternation_of (t ∷ []) = t
alternation_of (t ∷ u ∷ ts) = alternation (trees_of (t ∷ u ∷ ts))

-- a repetition: at most no turn is `empty`, exactly one turn is the body
abbrev pub repetition_of : ℕ → Option ℕ → Bool → Tree → Tree
repetition_of min None greedy body = repetition min None greedy body
repetition_of min (Some max) greedy body =
    if max == 0 then empty
    else if (min == 1) && (max == 1) then body
    else repetition min (Some max) greedy body

abbrev mutual
  -- the tree is nullable: its form alone lets it match the empty text
  pub is_nullable : Tree → Bool
  is_nullable empty = true
  is_nullable (char c) = false
  is_nullable (class rs) = false
  is_nullable (look l) = true
  is_nullable (repetition min most greedy t) = (min == 0) || is_nullable t
  is_nullable (group k name t) = is_nullable t
  is_nullable (sequence ts) = all_are_nullable ts
  is_nullable (alternation ts) = some_is_nullable ts

  -- each of the trees is nullable
  pub all_are_nullable : Trees → Bool
  all_are_nullable no_tree = true
  all_are_nullable (tree_and t ts) = is_nullable t && all_are_nullable ts

  -- one of the trees is nullable
  pub some_is_nullable : Trees → Bool
  some_is_nullable no_tree = false
  some_is_nullable (tree_and t ts) = is_nullable t || some_is_nullable ts

abbrev mutual
  -- no repetition without a greatest count has a nullable body
  pub is_plain : Tree → Bool
  is_plain empty = true
  is_plain (char c) = true
  is_plain (class rs) = true
  is_plain (look l) = true
  is_plain (repetition min most greedy t) = (is_some most || not (is_nullable t)) && is_plain t
  is_plain (group k name t) = is_plain t
  is_plain (sequence ts) = all_are_plain ts
  is_plain (alternation ts) = all_are_plain ts

  -- each of the trees is plain
  pub all_are_plain : Trees → Bool
  all_are_plain no_tree = true
  all_are_plain (tree_and t ts) = is_plain t && all_are_plain ts

-- the tree is plain
abbrev pub IsPlain : Tree → Type 0
IsPlain t = IsTrue (is_plain t)

abbrev mutual
  -- the numbers of the groups that are left in the tree
  pub groups_in : Tree → List ℕ
  groups_in empty = []
  groups_in (char c) = []
  groups_in (class rs) = []
  groups_in (look l) = []
  groups_in (repetition min most greedy t) = groups_in t
  groups_in (group k name t) = k ∷ groups_in t
  groups_in (sequence ts) = groups_in_all ts
  groups_in (alternation ts) = groups_in_all ts

  -- those of all of the trees
  pub groups_in_all : Trees → List ℕ
  groups_in_all no_tree = []
  groups_in_all (tree_and t ts) = groups_in t ++ groups_in_all ts

-- the name as a list of one, or none
abbrev pub name_if_any : Option (List ℕ) → List (List ℕ)
name_if_any None = []
name_if_any (Some name) = name ∷ []

abbrev mutual
  -- the names of the groups that are left in the tree
  pub names_in : Tree → List (List ℕ)
  names_in empty = []
  names_in (char c) = []
  names_in (class rs) = []
  names_in (look l) = []
  names_in (repetition min most greedy t) = names_in t
  names_in (group k name t) = name_if_any name ++ names_in t
  names_in (sequence ts) = names_in_all ts
  names_in (alternation ts) = names_in_all ts

  -- those of all of the trees
  pub names_in_all : Trees → List (List ℕ)
  names_in_all no_tree = []
  names_in_all (tree_and t ts) = names_in t ++ names_in_all ts

-- the greatest of the numbers, or 0
abbrev pub greatest : List ℕ → ℕ
greatest [] = 0
greatest (x ∷ xs) = max x (greatest xs)

-- one more than the greatest number of a group
abbrev pub captures_len : Tree → ℕ
captures_len t = suc (greatest (groups_in t))

-- how many trees there are
abbrev pub count : Trees → ℕ
count no_tree = 0
count (tree_and t ts) = suc (count ts)

-- counts that `repetition_of` does not rewrite, and the least is not above the greatest
abbrev pub IsCount : ℕ → Option ℕ → Type 0
IsCount min most = IfSome most (λ n. (min ≤ n) × (1 ≤ n) × ((min ≡ 1) → n ≢ 1))

abbrev mutual
  -- the tree has only forms that reading a pattern leaves
  pub IsReduced : Tree → Type 0
  IsReduced empty = Unit {0}
  IsReduced (char c) = Unit {0}
  IsReduced (class rs) = Unit {0}
  IsReduced (look l) = Unit {0}
  IsReduced (repetition min most greedy t) = IsCount min most × IsReduced t
  IsReduced (group k name t) = (1 ≤ k) × IsReduced t
  IsReduced (sequence ts) = (2 ≤ count ts) × AllAreReduced ts
  IsReduced (alternation ts) = (2 ≤ count ts) × AllAreReduced ts

  -- each of the trees is reduced
  pub AllAreReduced : Trees → Type 0
  AllAreReduced no_tree = Unit {0}
  AllAreReduced (tree_and t ts) = IsReduced t × AllAreReduced ts
