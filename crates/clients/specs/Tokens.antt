-- How a text is cut into tokens, and what is written of them.
use Rattle.std.specs.Prelude.{◌==◌, ℕ, ◌+◌, ◌-◌, ◌≤◌, List, [], ◌∷◌, ◌++◌, length, take, drop, count_by, flat_map, Option, if◌then◌else◌}
use Rattle.std.specs.Io.KnownBytes.{Appends}
use Rattle.bites_filter.specs.Table.{NamedRegex, AreReadings, name_at}
use Rattle.bites_filter.specs.declared.table.Reading.{Reading}

-- a tab as `\t`, a line feed as `\n`, a backslash as `\\`, and any other byte as it is
abbrev pub escaped_byte : ℕ → List ℕ
escaped_byte b = if b == 92 then 92 ∷ 92 ∷ [] else if b == 9 then 92 ∷ 116 ∷ [] else if b == 10 then 92 ∷ 110 ∷ [] else b ∷ []

-- the bytes of a text, each as above
abbrev pub escaped : List ℕ → List ℕ
escaped = flat_map escaped_byte

-- the line of a token: the name of its rule, a tab and its text, both escaped
abbrev pub token_line : List ℕ → List ℕ → List ℕ
token_line name text = ((escaped name ++ 9 ∷ []) ++ escaped text) ++ 10 ∷ []

module _ (rules : List NamedRegex) (text : List ℕ) where
  -- the lines of tokens; the first token begins at i
  abbrev pub token_lines : ℕ → List Reading → List ℕ
  token_lines i [] = []
  token_lines i (t ∷ ts) =
      token_line (name_at rules t.rule) (take (t.end - i) (drop i text)) ++ token_lines t.end ts

  -- The tokens stand one after another from the start of the text. Each is the longest that any rule matches there, by the first
  -- such rule. Where they stop, no rule matches any byte. Their lines stand after the old output.
  pub record AreWritten (old new : Option (List ℕ)) (stop : ℕ) : Type 0 where
    pub tokens : List Reading
    pub are : AreReadings rules text 0 tokens stop
    pub within : stop ≤ length text
    pub written : Appends old new (token_lines 0 tokens)

-- the number of the line of an offset; the first line has number 1
abbrev pub line_at : List ℕ → ℕ → ℕ
line_at text i = count_by (λ b. b == 10) (take i text) + 1
