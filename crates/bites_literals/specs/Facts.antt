-- What is known of each match of a tree.
use Rattle.std.specs.Prelude.{◌≡◌, ℕ, ◌+◌, ◌*◌, ◌<◌, ◌≤◌, ◌⊎◌, ◌||◌, ◌++◌, max, Bool, true, false, List, [], length, slice_index, Option, Some, None, IfSome}
use Rattle.std.specs.Char.{to_ascii_lowercase}
use Rattle.bites_spec.specs.Range.{Range, in_ranges}
use Rattle.bites_spec.specs.Tree.{Tree, Trees}
use Rattle.bites_spec.specs.Match.{Matches, MatchesAll, MatchesOne}
use Rattle.bites_literals.specs.declared.ascii.AsciiSet.{AsciiSet}
use Rattle.bites_literals.specs.declared.facts.Facts.{Facts}
use Rattle.bites_literals.specs.declared.facts.Needed.{Needed}
use Rattle.bites_literals.specs.declared.text.Text.{Text}
use Rattle.bites_literals.specs.Ascii.{Has}
use Rattle.bites_literals.specs.Texts.{EndsWith, Holds, Stands, bytes_of}

-- M says of a haystack what lies between two of its offsets

-- it has at most so many bytes
abbrev pub IsMost : (List ℕ → ℕ → ℕ → Type 0) → Option ℕ → Type 0
IsMost M most = IfSome most (λ n. (hay : List ℕ) (i j : ℕ) → M hay i j → j ≤ i + n)

-- it ends at the end of the haystack
abbrev pub EndsAtEnd : (List ℕ → ℕ → ℕ → Type 0) → Type 0
EndsAtEnd M = (hay : List ℕ) (i j : ℕ) → M hay i j → j ≡ length hay

-- each byte of it that is ASCII is in the set
abbrev pub HoldsOnly : (List ℕ → ℕ → ℕ → Type 0) → AsciiSet → Type 0
HoldsOnly M set = (hay : List ℕ) (i j : ℕ) → M hay i j → (k : ℕ) → i ≤ k → k < j → slice_index hay k < 128 → Has set (slice_index hay k)

-- it holds the text
abbrev pub IsHeld : (List ℕ → ℕ → ℕ → Type 0) → Option Needed → Type 0
IsHeld M needed =
    IfSome needed (λ n. (hay : List ℕ) (i j : ℕ) → M hay i j → Holds n.text.caseless (bytes_of n.text) n.before hay i j)

-- these facts hold of it
pub record AreFactsOf (M : List ℕ → ℕ → ℕ → Type 0) (f : Facts) : Type 0 where
  pub onward : (hay : List ℕ) (i j : ℕ) → M hay i j → i ≤ j
  pub most : IsMost M f.most
  pub ends : f.ends ≡ true → EndsAtEnd M
  pub ascii : HoldsOnly M f.ascii
  pub front : (hay : List ℕ) (i j : ℕ) → M hay i j → Stands f.front.caseless (bytes_of f.front) hay i × (i + length (bytes_of f.front) ≤ j)
  pub whole : f.whole ≡ true → (hay : List ℕ) (i j : ℕ) → M hay i j → j ≡ i + length (bytes_of f.front)
  pub exact : f.exact ≡ true → (hay : List ℕ) (i : ℕ) → Stands f.front.caseless (bytes_of f.front) hay i → M hay i (i + length (bytes_of f.front))
  pub back : (hay : List ℕ) (i j : ℕ) → M hay i j → EndsWith f.back.caseless (bytes_of f.back) hay i j
  pub needed : IsHeld M f.needed

-- they hold of what is empty
abbrev pub AreEmptyFacts : Facts → Type 0
AreEmptyFacts = AreFactsOf (λ hay i j. j ≡ i)

-- they hold of each match of the tree
abbrev pub AreFacts : Tree → Facts → Type 0
AreFacts t = AreFactsOf (λ hay i j. Matches hay t i j)

-- they hold of each match of the trees one after another
abbrev pub AreAllFacts : Trees → Facts → Type 0
AreAllFacts ts = AreFactsOf (λ hay i j. MatchesAll hay ts i j)

-- they hold of each match of one of the trees
abbrev pub AreSomeFacts : Trees → Facts → Type 0
AreSomeFacts ts = AreFactsOf (λ hay i j. MatchesOne hay ts i j)

-- they say this, and no text is known
pub record IsWithoutText (bound : Option ℕ) (at_end : Bool) (set : AsciiSet) (f : Facts) : Type 0 where
  pub most : f.most ≡ bound
  pub ends : f.ends ≡ at_end
  pub ascii : f.ascii ≡ set
  pub front : bytes_of f.front ≡ []
  pub whole : f.whole ≡ false
  pub exact : f.exact ≡ false
  pub back : bytes_of f.back ≡ []
  pub needed : f.needed ≡ None

-- they say that it is the text, of one byte, and what is ASCII in the set
pub record IsOneByte (text : Text) (set : AsciiSet) (f : Facts) : Type 0 where
  pub most : f.most ≡ Some 1
  pub ends : f.ends ≡ false
  pub ascii : f.ascii ≡ set
  pub front : f.front ≡ text
  pub back : f.back ≡ text
  pub needed : f.needed ≡ None

-- each match of the tree holds the text
abbrev pub IsNeeded : Tree → Option Needed → Type 0
IsNeeded t = IsHeld (λ hay i j. Matches hay t i j)

-- the result is the sum of both numbers, or not known
abbrev pub IsSum : (a b result : Option ℕ) → Type 0
IsSum a b None = Unit {0}
IsSum a b (Some r) = (m : ℕ) × (n : ℕ) × (a ≡ Some m) × (b ≡ Some n) × (r ≡ m + n)

-- the result is their product, or not known
abbrev pub IsProduct : (a b result : Option ℕ) → Type 0
IsProduct a b None = Unit {0}
IsProduct a b (Some r) = (m : ℕ) × (n : ℕ) × (a ≡ Some m) × (b ≡ Some n) × (r ≡ m * n)

-- the result is the greater one of them, or not known
abbrev pub IsGreatest : (a b result : Option ℕ) → Type 0
IsGreatest a b None = Unit {0}
IsGreatest a b (Some r) = (m : ℕ) × (n : ℕ) × (a ≡ Some m) × (b ≡ Some n) × (r ≡ max m n)

-- the result is the text behind so many more bytes, or none
abbrev pub IsLater : Option Needed → Option ℕ → Option Needed → Type 0
IsLater needed most None = Unit {0}
IsLater needed most (Some r) = (n : Needed) × (needed ≡ Some n) × (r.text ≡ n.text) × IsSum most n.before r.before

-- the text is what the first ends with and then the second, where that is all of its match, or what the second ends with
abbrev pub IsBackBefore : (first rest : Facts) → Text → Type 0
IsBackBefore f g text =
    ((g.whole ≡ true) × (bytes_of text ≡ bytes_of f.back ++ bytes_of g.front) × (text.caseless ≡ (f.back.caseless || g.front.caseless)))
    ⊎ (text ≡ g.back)

-- the characters of the ranges are this letter in both cases
pub record IsOneLetter (ranges : List Range) (letter : ℕ) : Type 0 where
  pub cases : (c : ℕ) → in_ranges ranges c ≡ true → (c < 128) × (to_ascii_lowercase c ≡ to_ascii_lowercase letter)
  pub both : (c : ℕ) → to_ascii_lowercase c ≡ to_ascii_lowercase letter → in_ranges ranges c ≡ true

-- so many turns, out of at least `min`, begin with a text that is known: one, or some of which each is a text and nothing else, where all
-- fit into a text
pub record AreTurnsInFront (f : Facts) (min turns : ℕ) : Type 0 where
  pub some : 0 < turns
  pub within : turns ≤ min
  pub known : (turns ≡ 1) ⊎ (f.whole ≡ true)
  pub fit : turns * length (bytes_of f.front) ≤ 32
