-- The lines that a filter selects, and what is written of them.
use Rattle.std.specs.Prelude.{◌≡◌, ℕ, ◌+◌, Bool, true, false, not, cond, List, [], ◌∷◌, ◌++◌, ◌⊎◌, length, flat_map, Option, decimal, nat_lt}
use Rattle.std.specs.Io.KnownBytes.{Appends}
use Rattle.std.specs.Io.BufRead.{strip_last}
use Rattle.bites_spec.specs.Tree.{Tree}
use Rattle.bites_spec.specs.Regex.{Regex}
use Rattle.bites_spec.specs.Match.{Span}
use Rattle.bites_spec.specs.Found.{HasMatch}
use Rattle.bites_spec.specs.AllMatches.{AreMatches}
use Rattle.bites_spec.specs.Pieces.{text_at}
use Rattle.bites_spec.specs.Utf8.{places}
use Rattle.clients.specs.declared.lines.options.Show.{Show}
use Rattle.clients.specs.declared.lines.options.Show.TheVariants.{Lines, Matches, Count, Name, Nothing}
use Rattle.clients.specs.declared.lines.options.Format.{Format}

-- a line with its number; the first line has number 1
pub record Selected : Type 0 where
  pub number : ℕ
  pub line : List ℕ

-- the same by its parts
abbrev pub selected : ℕ → List ℕ → Selected
selected n l = record { number = n; line = l }

-- the tree matches somewhere in the line without its line feed, or with `invert` it does not
abbrev pub IsAskedFor : Tree → Bool → List ℕ → Type 0
IsAskedFor t false line = HasMatch t (strip_last 10 line) (places (strip_last 10 line) 0)
IsAskedFor t true line = HasMatch t (strip_last 10 line) (places (strip_last 10 line) 0) → ⊥

-- These are the lines that are asked for among the lines after the first n, in their order. Each other line is not asked for.
abbrev pub AreSelected : Tree → Bool → ℕ → List (List ℕ) → List Selected → Type 0
AreSelected t invert n [] found = found ≡ []
AreSelected t invert n (l ∷ ls) found =
    (IsAskedFor t invert l × (others : List Selected) × (found ≡ selected (n + 1) l ∷ others) × AreSelected t invert (n + 1) ls others)
    ⊎ (IsAskedFor t (not invert) l × AreSelected t invert (n + 1) ls found)

-- true if one of the lines is asked for, or false if none is
abbrev pub IsAnySelected : Tree → Bool → List (List ℕ) → Bool → Type 0
IsAnySelected t invert [] any = any ≡ false
IsAnySelected t invert (l ∷ ls) any =
    (IsAskedFor t invert l × (any ≡ true)) ⊎ (IsAskedFor t (not invert) l × IsAnySelected t invert ls any)

-- the name and a colon, if it is asked for
abbrev pub name_label : Format → List ℕ
name_label f = cond f.named (f.name.now ++ 58 ∷ []) []

-- the name and the number of a line, each with a colon, as they are asked for
abbrev pub label : Format → ℕ → List ℕ
label f n = name_label f ++ cond f.numbered (decimal n ++ 58 ∷ []) []

-- a text on a line of its own
abbrev pub labelled : List ℕ → List ℕ → List ℕ
labelled before text = (before ++ text) ++ 10 ∷ []

-- the same, if the text is not empty
abbrev pub labelled_match : List ℕ → List ℕ → List ℕ
labelled_match before [] = []
labelled_match before (b ∷ bs) = labelled before (b ∷ bs)

-- what is written of a line: it, or the texts of all matches in it, or nothing
abbrev pub IsShown : Regex → Format → Show → ℕ → List ℕ → List ℕ → Type 0
IsShown r f Lines n line text = text ≡ labelled (label f n) (strip_last 10 line)
IsShown r f Matches n line text =
    (found : List Span) × AreMatches r (strip_last 10 line) found
    × (text ≡ flat_map (λ s. labelled_match (label f n) (text_at (strip_last 10 line) s)) found)
IsShown r f Count n line text = text ≡ []
IsShown r f Name n line text = text ≡ []
IsShown r f Nothing n line text = text ≡ []

-- what is written of the lines, one after another
abbrev pub AreShown : Regex → Format → List Selected → List ℕ → Type 0
AreShown r f [] text = text ≡ []
AreShown r f (x ∷ xs) text =
    (first : List ℕ) × (rest : List ℕ) × IsShown r f f.show x.number x.line first × AreShown r f xs rest × (text ≡ first ++ rest)

-- what is written after the last line: how many there are, if that is asked for
abbrev pub ending : Format → Show → ℕ → List ℕ
ending f Lines n = []
ending f Matches n = []
ending f Count n = labelled (name_label f) (decimal n)
ending f Name n = []
ending f Nothing n = []

-- There are `count` lines that are asked for, and what is shown of them stands after the old output.
pub record IsFiltered (r : Regex) (invert : Bool) (f : Format) (lines : List (List ℕ)) (count : ℕ) (old new : Option (List ℕ)) : Type 0 where
  pub found : List Selected
  pub selected : AreSelected r.tree invert 0 lines found
  pub count_is : count ≡ length found
  pub texts : List ℕ
  pub shown : AreShown r f found texts
  pub written : Appends old new (texts ++ ending f f.show count)

-- a name on a line of its own, if one of the lines is asked for
abbrev pub IsNamed : Regex → Bool → Format → List (List ℕ) → Bool → Option (List ℕ) → Option (List ℕ) → Type 0
IsNamed r invert f lines any old new =
    IsAnySelected r.tree invert lines any × Appends old new (cond any (f.name.now ++ 10 ∷ []) [])

-- `any` says whether a line is asked for, and what is asked for stands after the old output
abbrev pub IsSearched : Regex → Bool → Format → Show → List (List ℕ) → Bool → Option (List ℕ) → Option (List ℕ) → Type 0
IsSearched r invert f Lines lines any old new = (count : ℕ) × IsFiltered r invert f lines count old new × (any ≡ nat_lt 0 count)
IsSearched r invert f Matches lines any old new = (count : ℕ) × IsFiltered r invert f lines count old new × (any ≡ nat_lt 0 count)
IsSearched r invert f Count lines any old new = (count : ℕ) × IsFiltered r invert f lines count old new × (any ≡ nat_lt 0 count)
IsSearched r invert f Name lines any old new = IsNamed r invert f lines any old new
IsSearched r invert f Nothing lines any old new = IsAnySelected r.tree invert lines any × Appends old new []
