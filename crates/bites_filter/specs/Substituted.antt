-- Texts with matches replaced by a template.
use Rattle.std.specs.Prelude.{◌≡◌, ℕ, List, map}
use Rattle.bites_spec.specs.Regex.{Regex}
use Rattle.bites_spec.specs.Captured.{Captured}
use Rattle.bites_spec.specs.AllMatches.{AreCaptures}
use Rattle.bites_spec.specs.Pieces.{limited, replaced}
use Rattle.bites_spec.specs.Replaced.{span_in}
use Rattle.bites_spec.specs.Replacer.{expanded}

-- The regex's tree finds these groups of all matches in the text. The new text is the text with the first n matches, or all for
-- 0, replaced by what the template stands for by their groups.
pub record Substitutes (r : Regex) (template : List ℕ) (n : ℕ) (text new : List ℕ) : Type 0 where
  pub found : List Captured
  pub all : AreCaptures r text found
  pub new_is : new ≡ replaced text n (map span_in found) (map (λ c. expanded c template) (limited n found))
