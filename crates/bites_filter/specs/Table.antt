-- Tables of named patterns, and which of them reads furthest from an offset.
use Rattle.std.specs.Prelude.{◌≡◌, ◌≢◌, ℕ, ◌<◌, ◌≤◌, Bool, true, false, List, [], ◌∷◌, ◌++◌, length, Option, Some, option_map, unwrap_or, get_or, slice_get, if◌then◌else◌, ◌==◌, ◌||◌, ◌⊎◌}
use Rattle.std.specs.List.{list_all}
use Rattle.std.specs.Io.BufRead.{strip_last, ends_with_byte}
use Rattle.bites_filter.specs.declared.table.Reading.{Reading}
use Rattle.bites_spec.specs.Tree.{Tree}
use Rattle.bites_spec.specs.Match.{Matches}
use Rattle.bites_spec.specs.Regex.{Regex}
use Rattle.bites_spec.specs.Full.{IsFullMatch, FindsGroupsFull}
use Rattle.bites_spec.specs.Settings.{Accepts, settings, no_flags, by_default}

-- a regex with its name
pub record NamedRegex : Type 0 where
  pub name : List ℕ
  pub regex : Regex

-- the same by its parts
abbrev pub named : List ℕ → Regex → NamedRegex
named name regex = record { name = name; regex = regex }

-- the name of the rule with this number
abbrev pub name_at : List NamedRegex → ℕ → List ℕ
name_at rules k = unwrap_or (option_map (λ r. r.name) (slice_get rules k)) []

-- The regex is built from the pattern without flags, under the default limits, and searches for the longest match.
pub record IsRule (name pattern : List ℕ) (rule : NamedRegex) : Type 0 where
  pub name_is : rule.name ≡ name
  pub accepted : Accepts (settings pattern no_flags 10485760 50 1048576 false true false) rule.regex.tree
  pub longest : rule.regex.leftmost_longest ≡ true

-- the rule has the name, and the tree that a builder accepts of the pattern by default
abbrev pub IsTextRule : List ℕ → List ℕ → NamedRegex → Type 0
IsTextRule name pattern rule = (rule.name ≡ name) × Accepts (by_default pattern) rule.regex.tree

-- the line without the line feed that ends it, and without a carriage return before that
abbrev pub without_end : List ℕ → List ℕ
without_end line = if ends_with_byte 10 line then strip_last 13 (strip_last 10 line) else line

-- nothing but spaces and tabs stands in the line
abbrev pub is_blank : List ℕ → Bool
is_blank = list_all (λ b. (b == 32) || (b == 9))

-- the line is blank, or begins with `#`
abbrev pub says_nothing : List ℕ → Bool
says_nothing [] = true
says_nothing (b ∷ bs) = if b == 35 then true else is_blank (b ∷ bs)

module _ {S : Type 0} (Is : List ℕ → List ℕ → S → Type 0) where
  -- The line is a name without a space, then a space and a pattern. The entry is that of both.
  pub record IsEntry (line : List ℕ) (entry : S) : Type 0 where
    pub name : List ℕ
    pub pattern : List ℕ
    pub line_is : line ≡ name ++ 32 ∷ pattern
    pub no_space : (i : ℕ) → i < length name → get_or name i 0 ≢ 32
    pub entry_is : Is name pattern entry

  -- there is an entry for each line, without the end of the line, but for the lines that say nothing
  abbrev pub AreEntries : List (List ℕ) → List S → Type 0
  AreEntries [] entries = entries ≡ []
  AreEntries (l ∷ ls) entries =
      ((says_nothing (without_end l) ≡ true) × AreEntries ls entries)
      ⊎ ((says_nothing (without_end l) ≡ false) × (e : S) × (es : List S) × IsEntry (without_end l) e × AreEntries ls es
      × (entries ≡ e ∷ es))

-- j is the greatest end of a match from i, or i if none ends after it
pub record IsReach (t : Tree) (text : List ℕ) (i j : ℕ) : Type 0 where
  pub from : i ≤ j
  pub within : j ≤ length text
  pub greatest : (l : ℕ) → Matches text t i l → l ≤ j
  pub matches : i < j → Matches text t i j

module _ (rules : List NamedRegex) (text : List ℕ) where
  -- the rule of this number matches from i to j
  abbrev pub Reads : ℕ → ℕ → ℕ → Type 0
  Reads k i j = (r : NamedRegex) × (slice_get rules k ≡ Some r) × Matches text r.regex.tree i j

  -- No rule matches further from i than to j. If j is after i, rule k matches up to j, and no rule before it does.
  pub record IsFurthest (i k j : ℕ) : Type 0 where
    pub from : i ≤ j
    pub within : j ≤ length text
    pub greatest : (l e : ℕ) → Reads l i e → e ≤ j
    pub reads : i < j → Reads k i j
    pub first : i < j → (l : ℕ) → Reads l i j → k ≤ l

  -- These readings stand one after another from i on. Each reads furthest from its start, and where they stop no rule matches any
  -- byte.
  abbrev pub AreReadings : ℕ → List Reading → ℕ → Type 0
  AreReadings i [] stop = (stop ≡ i) × ((k j : ℕ) → Reads k i j → j ≤ i)
  AreReadings i (t ∷ ts) stop = (i < t.end) × IsFurthest i t.rule t.end × AreReadings t.end ts stop

  -- the rule of this number matches the whole text
  abbrev pub MatchesFull : ℕ → Type 0
  MatchesFull k = (r : NamedRegex) × (slice_get rules k ≡ Some r) × IsFullMatch r.regex.tree text

  -- no rule matches the whole text
  abbrev pub NoneMatches : Type 0
  NoneMatches = (k : ℕ) → MatchesFull k → ⊥

  -- the rule of this number is the first that matches the whole text, and the slots hold the groups of a parse of the text
  pub record IsFirst (k : ℕ) (slots : List (Option ℕ)) : Type 0 where
    pub rule : NamedRegex
    pub at : slice_get rules k ≡ Some rule
    pub groups : FindsGroupsFull rule.regex text (Some slots)
    pub first : (l : ℕ) → l < k → MatchesFull l → ⊥

-- two lists of readings of a text from one offset are one list
abbrev pub ReadingsAreOneList : Type 0
ReadingsAreOneList =
    (rules : List NamedRegex) (text : List ℕ) (i : ℕ) (ts us : List Reading) (m n : ℕ) → AreReadings rules text i ts m →
    AreReadings rules text i us n → (ts ≡ us) × (m ≡ n)
