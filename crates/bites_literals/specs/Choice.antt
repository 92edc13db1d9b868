-- Texts of which one occurs where a match begins.
use Rattle.std.specs.Prelude.{◌≡◌, ℕ, ◌+◌, ◌<◌, ◌≤◌, Bool, true, List, ◌++◌, length, slice_index_or, IsTrue}
use Rattle.bites_spec.specs.Tree.{Tree, Trees}
use Rattle.bites_spec.specs.Match.{Matches, MatchesAll}
use Rattle.bites_scan.specs.Literal.{Needle, DifferFrom}
use Rattle.bites_scan.specs.LiteralSet.{SomeOccursAt, StandsUpTo}
use Rattle.bites_literals.specs.Texts.{Stands, bytes_of}
use Rattle.bites_literals.specs.declared.choice.Choice.{Choice}
use Rattle.bites_literals.specs.declared.text.Text.{Text}

-- each match of the tree begins with one of the texts
abbrev pub BeginsWithOne : Tree → List Needle → Type 0
BeginsWithOne t texts = (hay : List ℕ) (i j : ℕ) → Matches hay t i j → SomeOccursAt texts hay i

-- one of the texts occurs where the front stands and the tree matches behind it
abbrev pub BeginsBehind : Text → Tree → List Needle → Type 0
BeginsBehind front t texts =
    (hay : List ℕ) (i j : ℕ) → Stands front.caseless (bytes_of front) hay i → Matches hay t (i + length (bytes_of front)) j → SomeOccursAt texts hay i

-- where the front stands and these trees match behind it, the longer one stands and the rest of the trees match behind that
abbrev pub StandsBefore : Text → Trees → Text → Trees → Type 0
StandsBefore front trees longer rest =
    (hay : List ℕ) (i j : ℕ) → Stands front.caseless (bytes_of front) hay i → MatchesAll hay trees (i + length (bytes_of front)) j →
    Stands longer.caseless (bytes_of longer) hay i × MatchesAll hay rest (i + length (bytes_of longer)) j

-- texts stand behind those before, and one of all these occurs where the front stands and the tree matches behind it
pub record HasAdded (front : Text) (t : Tree) (before after : List Needle) : Type 0 where
  pub more : List Needle
  pub kept : after ≡ before ++ more
  pub begins : BeginsBehind front t after

-- texts were added for the tree behind the front, if it is said so
abbrev pub AreAdded : Text → Tree → (before after : List Needle) → Bool → Type 0
AreAdded front t before after said = IsTrue said → HasAdded front t before after

-- no place has the text of this number and one from that number on
abbrev pub AllFrom : (from first : ℕ) → List Needle → Type 0
AllFrom from first texts = (k : ℕ) (d : Needle) → from ≤ k → k < length texts → DifferFrom (slice_index_or texts first d) (slice_index_or texts k d)

-- what one tree matches the other does, and the other way round
pub record MatchAlike (t u : Tree) : Type 0 where
  pub to : (hay : List ℕ) (i j : ℕ) → Matches hay t i j → Matches hay u i j
  pub from : (hay : List ℕ) (i j : ℕ) → Matches hay u i j → Matches hay t i j

-- each match of the tree is one of the texts, and each text is a match wherever it stands
pub record AreBranches (t : Tree) (texts : List Needle) : Type 0 where
  pub matches : (hay : List ℕ) (i j : ℕ) → StandsUpTo texts hay i j → Matches hay t i j
  pub stands : (hay : List ℕ) (i j : ℕ) → Matches hay t i j → StandsUpTo texts hay i j

-- so it is, and from each place there is one match at most
pub record IsOneOf (t : Tree) (texts : List Needle) : Type 0 where
  pub branches : AreBranches t texts
  pub one : (hay : List ℕ) (i j l : ℕ) → Matches hay t i j → Matches hay t i l → l ≡ j

-- each match of the tree begins with one of the choice, or is one of it
pub record IsChoice (t : Tree) (choice : Choice) : Type 0 where
  pub begins : BeginsWithOne t choice.set.value
  pub only : choice.is_match ≡ true → IsOneOf t choice.set.value
