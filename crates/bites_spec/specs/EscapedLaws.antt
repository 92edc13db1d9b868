-- The laws of escaped texts, each proved.
use Rattle.std.specs.Prelude.{◌≡◌, ℕ, ◌+◌, ◌≤◌, ◌↔◌, List, [], length, Option, option_map, chars, encode_utf8_all, IsUtf8, IsCharBoundary}
use Rattle.bites_spec.specs.Utf8.{places}
use Rattle.bites_spec.specs.Pattern.{Text}
use Rattle.bites_spec.specs.Tree.{groups_in}
use Rattle.bites_spec.specs.Measure.{Limits, height, program_size}
use Rattle.bites_spec.specs.Match.{Matches, span}
use Rattle.bites_spec.specs.Found.{FoundSome}
use Rattle.bites_spec.specs.Settings.{no_flags, by_default, Accepts}
use Rattle.bites_spec.specs.Escaped.{escaped, text_tree}
use Rattle.bites_spec.specs.Occurrence.{StandsAt, IsLeftmost}

-- without flags an escaped text is read as its characters; of the limits on reading only that on the height can refuse it
abbrev pub EscapedIsRead : Type 0
EscapedIsRead =
    (text : Text) (nest_limit : ℕ) → height (text_tree text) ≤ nest_limit → Limits (escaped text) no_flags nest_limit (text_tree text)

-- the bytes of an escaped text are those of its characters
abbrev pub EscapedIsText : Type 0
EscapedIsText = (text : List ℕ) → IsUtf8 text → chars (encode_utf8_all (escaped (chars text))) ≡ escaped (chars text)

-- it has no group, and no part of its tree has parts
abbrev pub EscapedIsFlat : Type 0
EscapedIsFlat = (text : Text) → (groups_in (text_tree text) ≡ []) × (height (text_tree text) ≤ 1)

-- under the limits that a builder begins with, only the size of its program can refuse it
abbrev pub EscapedIsAccepted : Type 0
EscapedIsAccepted =
    (text : List ℕ) → IsUtf8 text → program_size (text_tree (chars text)) ≤ 10485760 →
    Accepts (by_default (encode_utf8_all (escaped (chars text)))) (text_tree (chars text))

-- in a text it matches from a border exactly if its text stands there
abbrev pub EscapedMatchesText : Type 0
EscapedMatchesText =
    (hay text : List ℕ) (i j : ℕ) → IsUtf8 hay → IsUtf8 text → IsCharBoundary hay i →
    Matches hay (text_tree (chars text)) i j ↔ (StandsAt hay text i × (j ≡ i + length text))

-- what is found is where its text stands first
abbrev pub EscapedFindsText : Type 0
EscapedFindsText =
    (hay text : List ℕ) (s : ℕ) → IsUtf8 hay → IsUtf8 text → IsCharBoundary hay s →
    (o : Option _) → FoundSome (text_tree (chars text)) hay (places hay s) o → IsLeftmost hay text s (option_map (λ a. span a.start a.end) o)
