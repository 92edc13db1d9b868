-- How many items iterators have left.
use Rattle.std.proofs.Common.{◌≡◌, ℕ, zero, suc, ◌≤◌, Bool, true, false, cond, List, [], length, take, Option, Some, None, refl, sym, ap, ◌∙◌, true≢false, arith}
use Rattle.std.specs.Prelude.{is_some, unwrap_or}
use Rattle.std.specs.Iterator.{YieldsFirstBy}
use Rattle.std.proofs.lemmas.List.{length-map, length-take}
use Rattle.bites_spec.specs.Utf8.{places}
use Rattle.bites_spec.specs.Match.{Span}
use Rattle.bites_spec.specs.Pieces.{gaps_from, text_at}
use Rattle.bites_spec.specs.Slots.{span_of_run}
use Rattle.bites_spec.specs.Spans.{successive, successive_after}
use Rattle.bites_spec.specs.Regex.{Regex, run_at, span_at}
use Rattle.bites_spec.specs.Captured.{excerpt}
use Rattle.bites_spec.specs.Iteration.{spans_after, captured_by, captures_after}
use Rattle.bites_spec.proofs.iteration.PieceTextLemmas.{length-gaps_from}
use Rattle.bites_spec.proofs.iteration.SuccessiveLemmas.{successive-length, successive_after-length, mapped_after, mapped_successive}
use Rattle.bites_bytes.specs.Matches.{spans_left, matches_left, captures_to_come}
use Rattle.bites_bytes.specs.Split.{pieces_left, at_most_left}
use Rattle.bites_bytes.specs.declared.bytes.matches.Matches.{Matches}
use Rattle.bites_bytes.specs.declared.bytes.split.Split.{Split}
use Rattle.bites_bytes.proofs.SplitLemmas.{pieces}

module _ {S A B : Type 0} (view : A → B) (left : S → List B) where
  -- a step that gives an item takes one
  pub one_less : (s t : S) (r : Option A) → YieldsFirstBy view left s r t → is_some r ≡ true → length (left s) ≡ suc (length (left t))
  one_less s t None steps some = absurd (true≢false (sym some))
  one_less s t (Some x) steps some = ap length steps

  -- and there is none where it gives none
  pub none_left : (s t : S) (r : Option A) → YieldsFirstBy view left s r t → is_some r ≡ false → length (left s) ≡ 0
  none_left s t None steps none = ap length steps.0
  none_left s t (Some x) steps none = absurd (true≢false none)

spans_bound : (r : Regex) (hay : List ℕ) (last : Option ℕ) → length (spans_after r hay last) ≤ suc (length hay)
spans_bound r hay None = successive-length (λ s. s) hay (λ s. span_at r hay (places hay s))
spans_bound r hay (Some e) = let le = successive_after-length (λ s. s) hay (λ s. span_at r hay (places hay s)) e in omega (arith, le)

pub length-matches : (s : Matches) → length (matches_left s) ≡ length (spans_left s.cursor)
length-matches s = length-map (spans_left s.cursor) (excerpt s.cursor.haystack.now)

-- at most one more match is left than the haystack has bytes
pub matches_bound : (s : Matches) → length (matches_left s) ≤ suc (length s.cursor.haystack.now)
matches_bound s =
    let le = spans_bound s.cursor.regex.now s.cursor.haystack.now s.cursor.last in let e = length-matches s in omega (arith, le, e)

captures_spans : (r : Regex) (hay : List ℕ) (last : Option ℕ) → length (captures_after r hay last) ≡ length (spans_after r hay last)
captures_spans r hay None =
    let runs = successive span_of_run hay (λ s. run_at r hay (places hay s)) in
    length-map runs (captured_by r hay) ∙ sym (length-map runs span_of_run)
    ∙ ap length (mapped_successive span_of_run span_of_run (λ s. s) (λ x. refl) hay (λ s. run_at r hay (places hay s)))
captures_spans r hay (Some e) =
    let runs = successive_after span_of_run hay (λ s. run_at r hay (places hay s)) e in
    length-map runs (captured_by r hay) ∙ sym (length-map runs span_of_run)
    ∙ ap length (mapped_after span_of_run span_of_run (λ s. s) (λ x. refl) hay (λ s. run_at r hay (places hay s)) e)

-- as many captures are to come as matches are left
pub length-captures : (s : Matches) → length (captures_to_come s.cursor) ≡ length (matches_left s)
length-captures s = captures_spans s.cursor.regex.now s.cursor.haystack.now s.cursor.last ∙ sym (length-matches s)

-- how many pieces are left, between these spans
pub length-open : (hay : List ℕ) (begin : ℕ) (ss : List Span) (done : Bool) → done ≡ false → length (cond done [] (pieces hay begin ss)) ≡ suc (length ss)
length-open hay begin ss done more =
    ap (λ b. length (cond b [] (pieces hay begin ss))) more ∙ length-map (gaps_from (length hay) begin ss) (text_at hay)
    ∙ length-gaps_from (length hay) begin ss

-- and between the first n of them
pub length-limited : (hay : List ℕ) (begin n : ℕ) (ss : List Span) (done : Bool) → length (cond done [] (pieces hay begin (take n ss))) ≤ suc n
length-limited hay begin n ss true = omega arith
length-limited hay begin n ss false =
    let e = length-open hay begin (take n ss) false refl in let l = length-take n ss in omega (arith, e, l)

-- one more piece is left than there are matches
pub length-pieces : (s : Split) → s.done ≡ false → length (pieces_left s) ≡ suc (length (matches_left s.matches))
length-pieces s more =
    length-open s.matches.cursor.haystack.now (unwrap_or s.matches.cursor.last 0) (spans_left s.matches.cursor) s.done more
    ∙ ap suc (sym (length-matches s.matches))

-- no more pieces are left than may come
pub limited_bound : (n : ℕ) (s : Split) → length (at_most_left n s) ≤ n
limited_bound zero s = omega arith
limited_bound (suc n) s =
    length-limited s.matches.cursor.haystack.now (unwrap_or s.matches.cursor.last 0) n (spans_left s.matches.cursor) s.done
