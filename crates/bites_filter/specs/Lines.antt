-- The lines of an input, and what is done with each in turn.
use Rattle.std.specs.Prelude.{◌≡◌, ◌==◌, ℕ, ◌+◌, Bool, true, false, cond, List, [], ◌∷◌, ◌++◌, length, Option, Some, None, if◌then◌else◌}
use Rattle.std.specs.Io.BufRead.{ends_with_byte}

-- the lines with a byte put before the first one
abbrev pub put_in_front : ℕ → List (List ℕ) → List (List ℕ)
put_in_front b [] = (b ∷ []) ∷ []
put_in_front b (l ∷ ls) = (b ∷ l) ∷ ls

-- the lines of the bytes, each with the line feed that ends it; the last line may have none
abbrev pub lines_of : List ℕ → List (List ℕ)
lines_of [] = []
lines_of (b ∷ bs) = if b == 10 then (b ∷ []) ∷ lines_of bs else put_in_front b (lines_of bs)

-- the line feed that ends the line, if one does
abbrev pub line_feed_of : List ℕ → List ℕ
line_feed_of line = if ends_with_byte 10 line then 10 ∷ [] else []

-- If the remaining bytes are known, their first line is read and the other lines remain, or no line remained.
abbrev pub ReadsLine : Option (List ℕ) → Bool → List ℕ → Option (List ℕ) → Type 0
ReadsLine None there line rest = Unit {0}
ReadsLine (Some xs) false line rest = lines_of xs ≡ []
ReadsLine (Some xs) true line None = ⊥
ReadsLine (Some xs) true line (Some ys) = lines_of xs ≡ line ∷ lines_of ys

-- how many line feeds there are
abbrev pub line_feeds : List ℕ → ℕ
line_feeds [] = 0
line_feeds (b ∷ bs) = cond (b == 10) 1 0 + line_feeds bs

-- the last of the bytes, if there is one, is a line feed
abbrev pub AreWhole : List ℕ → Type 0
AreWhole [] = Unit {0}
AreWhole (b ∷ []) = b ≡ 10
AreWhole (b ∷ c ∷ cs) = AreWhole (c ∷ cs)

module _ {S : Type 0} (Does : S → ℕ → List ℕ → List ℕ → Bool → S → Type 0) where
  -- The lines after the first n are done one after another. The texts that are written for them stand in their order, and
  -- `count` of the lines count.
  abbrev pub DoesEach : ℕ → List (List ℕ) → S → List ℕ → ℕ → S → Type 0
  DoesEach n [] s text count t = (text ≡ []) × (count ≡ 0) × (t ≡ s)
  DoesEach n (l ∷ ls) s text count t =
      (first : List ℕ) × (counts : Bool) × (m : S) × (rest : List ℕ) × (others : ℕ)
      × Does s (n + 1) l first counts m × DoesEach (n + 1) ls m rest others t
      × (text ≡ first ++ rest) × (count ≡ cond counts 1 0 + others)

  -- nothing is written for any of these lines, and none of them counts
  abbrev pub AreIdle : S → List (List ℕ) → Type 0
  AreIdle s [] = Unit {0}
  AreIdle s (l ∷ ls) = ((n : ℕ) → Does s n l [] false s) × AreIdle s ls

  -- the bytes are whole lines for which there is nothing to do
  abbrev pub IsNothingFor : S → List ℕ → Type 0
  IsNothingFor s bytes = AreWhole bytes × AreIdle s (lines_of bytes)

  -- If the remaining bytes are known, they lose so many lines for which there is nothing to do.
  abbrev pub SkipsLines : S → Option (List ℕ) → ℕ → Option (List ℕ) → Type 0
  SkipsLines s None count rest = Unit {0}
  SkipsLines s (Some xs) count None = ⊥
  SkipsLines s (Some xs) count (Some ys) =
      (skipped : List ℕ) × (xs ≡ skipped ++ ys) × IsNothingFor s skipped × (count ≡ length (lines_of skipped))

-- each line is written as `Writes` says, and what is written for them stands in their order
abbrev pub AreWritten : (List ℕ → List ℕ → Type 0) → List (List ℕ) → List ℕ → Type 0
AreWritten Writes [] text = text ≡ []
AreWritten Writes (l ∷ ls) text =
    (first : List ℕ) × (rest : List ℕ) × Writes l first × AreWritten Writes ls rest × (text ≡ first ++ rest)

module _ {S X : Type 0} (seen : S → X) (Writes : X → List ℕ → List ℕ → Type 0) where
  -- a line is written as `Writes` says by what is seen of the state, which is unchanged
  abbrev pub WritesLine : S → ℕ → List ℕ → List ℕ → Bool → S → Type 0
  WritesLine s number line text counts t = Writes (seen s) line text × (seen t ≡ seen s)
