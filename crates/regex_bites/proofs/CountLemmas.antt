-- How many pieces of a text iterators have left.
use Rattle.std.proofs.Common.{◌≡◌, ℕ, zero, suc, ◌≤◌, false, length, ap, ◌∙◌, arith}
use Rattle.std.proofs.lemmas.List.{length-map}
use Rattle.bites_spec.specs.Captured.{Excerpt}
use Rattle.bites_bytes.proofs.CountLemmas.{length-open, length-limited}
use Rattle.regex_bites.specs.Matches.{matches_left, spans_left}
use Rattle.regex_bites.specs.Split.{pieces_left, at_most_left}
use Rattle.regex_bites.specs.declared.string.split.Split.{Split}

-- one more piece is left than there are matches
pub length-pieces : (s : Split) → s.done ≡ false → length (pieces_left s) ≡ suc (length (matches_left s.matches))
length-pieces s more =
    length-open s.matches.haystack.now s.begin (spans_left s.matches) s.done more
    ∙ ap suc (length-map (matches_left s.matches) (λ (e : Excerpt). e.span))

-- no more pieces are left than may come
pub limited_bound : (n : ℕ) (s : Split) → length (at_most_left n s) ≤ n
limited_bound zero s = omega arith
limited_bound (suc n) s = length-limited s.matches.haystack.now s.begin n (spans_left s.matches) s.done
