-- What a search of a tree finds. The starts of a search are the places from which a match may begin, in order.
use Rattle.std.specs.Prelude.{◌≡◌, ℕ, ◌<◌, ◌≤◌, Bool, true, false, List, [], ◌∷◌, Option, Some, None, if◌then◌else◌, ◌==◌}
use Rattle.bites_spec.specs.Walks.{Among}
use Rattle.bites_spec.specs.Tree.{Tree, IsPlain}
use Rattle.bites_spec.specs.Match.{Span, Mark, Matches, Parse, groups}
use Rattle.bites_spec.specs.Preference.{ParseTo, parses}

-- where a match begins and ends, and where each group last participated
pub record Answer : Type 0 where
  pub start : ℕ
  pub end : ℕ
  pub group : ℕ → Option Span

-- the first of the list
abbrev pub head_of : List ParseTo → Option ParseTo
head_of [] = None
head_of (w ∷ ws) = Some w

-- the first of the list that ends at j
abbrev pub first_ending : ℕ → List ParseTo → Option ParseTo
first_ending j [] = None
first_ending j (w ∷ ws) = if w.end == j then Some w else first_ending j ws

-- a parse by its end and its marks
abbrev pub parse_to : ℕ → List Mark → ParseTo
parse_to j ms = record { end = j; marks = ms }

module _ (t : Tree) (hay : List ℕ) where
  -- the tree matches from none of the starts
  abbrev pub NoMatch : List ℕ → Type 0
  NoMatch starts = (i : ℕ) → Among starts i → (j : ℕ) → Matches hay t i j → ⊥

  -- the tree matches from some start
  abbrev pub HasMatch : List ℕ → Type 0
  HasMatch starts = (i : ℕ) × (j : ℕ) × Among starts i × Matches hay t i j

  -- i is the first of the starts from which the tree matches
  pub record IsFirstPlace (starts : List ℕ) (i : ℕ) : Type 0 where
    pub place : Among starts i
    pub matches : (j : ℕ) × Matches hay t i j
    pub none_before : (k : ℕ) → Among starts k → k < i → (j : ℕ) → Matches hay t k j → ⊥

  -- the answer begins at the first start that has a match; its end and groups are those of one parse there, and Q holds of it
  pub record IsFoundBy (Q : (i j : ℕ) → List Mark → Type 0) (starts : List ℕ) (a : Answer) : Type 0 where
    pub first : IsFirstPlace starts a.start
    pub marks : List Mark
    pub parse : Parse hay t a.start a.end marks
    pub groups : (k : ℕ) → a.group k ≡ groups a.start a.end marks k
    pub chosen : Q a.start a.end marks

  -- what a search finds: nothing if nothing matches from a start, else an answer for whose parse Q holds
  abbrev pub FoundBy : ((i j : ℕ) → List Mark → Type 0) → List ℕ → Option Answer → Type 0
  FoundBy Q starts None = NoMatch starts
  FoundBy Q starts (Some a) = IsFoundBy Q starts a

  -- what a search finds, by some parse from the first place
  abbrev pub FoundSome : List ℕ → Option Answer → Type 0
  FoundSome = FoundBy (λ i j ms. Unit {0})

  -- what a search finds: if the tree is plain, by its preferred parse from the first place
  abbrev pub Found : List ℕ → Option Answer → Type 0
  Found = FoundBy (λ i j ms. IsPlain t → head_of (parses hay t i) ≡ Some (parse_to j ms))

  -- like `Found`, but with the greatest end, and if the tree is plain by the first parse that ends there
  abbrev pub FoundLongest : List ℕ → Option Answer → Type 0
  FoundLongest = FoundBy (λ i j ms.
      ((l : ℕ) → Matches hay t i l → l ≤ j) × (IsPlain t → first_ending j (parses hay t i) ≡ Some (parse_to j ms)))

  -- the least end of any match from a start
  abbrev pub IsLeastEnd : List ℕ → Option ℕ → Type 0
  IsLeastEnd starts None = NoMatch starts
  IsLeastEnd starts (Some j) =
      ((i : ℕ) × Among starts i × Matches hay t i j)
      × ((i : ℕ) → Among starts i → (l : ℕ) → Matches hay t i l → j ≤ l)

-- what a search of the tree finds: with the greatest end if true, else by the preferred parse
abbrev pub Finds : Bool → Tree → List ℕ → List ℕ → Option Answer → Type 0
Finds true = FoundLongest
Finds false = Found
