-- Pieces and replaced haystacks, by what the tree of a regex finds.
use Rattle.std.specs.Prelude.{◌≡◌, ℕ, ◌+◌, List, map, length, Option}
use Rattle.bites_spec.specs.Match.{Span}
use Rattle.bites_spec.specs.Regex.{Regex}
use Rattle.bites_spec.specs.Captured.{Captured}
use Rattle.bites_spec.specs.Pieces.{gaps, gaps_up_to, text_at, limited, replaced, alternate}
use Rattle.bites_spec.specs.Replace.{Replaces}
use Rattle.bites_spec.specs.Replaced.{span_in}
use Rattle.bites_spec.specs.AllMatches.{AreMatches, AreCaptures}

-- there is one piece more than there are matches, and pieces and matches in turn are the haystack
pub record AreInTurn (hay : List ℕ) (pieces matches : List (List ℕ)) : Type 0 where
  pub one_more : length pieces ≡ length matches + 1
  pub whole : alternate pieces matches ≡ hay

module _ (r : Regex) (hay : List ℕ) where
  -- these texts stand between all matches of the tree
  abbrev pub ArePieces : List (List ℕ) → Type 0
  ArePieces texts = (ss : List Span) × AreMatches r hay ss × (texts ≡ map (text_at hay) (gaps (length hay) ss))

  -- at most n of them: the first n - 1, and then the whole rest
  abbrev pub ArePiecesUpTo : ℕ → List (List ℕ) → Type 0
  ArePiecesUpTo n texts = (ss : List Span) × AreMatches r hay ss × (texts ≡ map (text_at hay) (gaps_up_to n (length hay) ss))

  -- the haystack with the first n matches of the tree, or all for 0, replaced by the text of each
  abbrev pub IsReplaced : ℕ → (Captured → List ℕ) → List ℕ → Type 0
  IsReplaced n text result =
      (cs : List Captured) × AreCaptures r hay cs × (result ≡ replaced hay n (map span_in cs) (map text (limited n cs)))

  -- the haystack with them replaced as a replacer says, by what it gives and what it returns
  abbrev pub ReplacesMatches : {S : Type 0} → (S → Captured → List ℕ → S → Type 0) → (S → Option (List ℕ) → S → Type 0) →
      ℕ → S → List ℕ → S → Type 0
  ReplacesMatches gives answers n s result t =
      (cs : List Captured) × AreCaptures r hay cs × Replaces gives answers span_in hay n cs s result t
