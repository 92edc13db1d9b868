-- Iterators over pieces, step by step.
use Rattle.std.proofs.Common.{◌≡◌, ℕ, zero, suc, ◌-◌, Bool, false, cond, List, [], ◌∷◌, map, length, take, drop, Option, Some, None, refl, sym, ap, ap₂, ◌∙◌}
use Rattle.std.specs.Prelude.{MatchOption, slice_range}
use Rattle.std.specs.Borrow.{Bor}
use Rattle.bites_spec.specs.Match.{Span}
use Rattle.bites_spec.specs.Pieces.{gaps_from, text_at}
use Rattle.bites_spec.specs.Regex.{Regex}
use Rattle.bites_spec.specs.Captured.{Excerpt, excerpt}
use Rattle.bites_spec.specs.Iteration.{spans_in, pieces_in, pieces_up_to}
use Rattle.bites_bytes.specs.Split.{pieces_of, at_most_of, StepsOnBy}

pub spans_of : (hay : List ℕ) (ss : List Span) → map (λ e. e.span) (map (excerpt hay) ss) ≡ ss
spans_of hay [] = refl
spans_of hay (s ∷ ss) = ap (λ xs. s ∷ xs) (spans_of hay ss)

-- what stands between two places, by equal parts
pub piece_is : (h k : List ℕ) (a b i j : ℕ) → h ≡ k → a ≡ b → i ≡ j → slice_range k b j ≡ take (i - a) (drop a h)
piece_is h k a b i j e f g =
    sym (ap (λ l. take (i - a) (drop a l)) e ∙ ap (λ n. take (i - n) (drop n k)) f ∙ ap (λ n. take (n - b) (drop b k)) g)

-- the pieces from a place on, between these spans
abbrev pub pieces : List ℕ → ℕ → List Span → List (List ℕ)
pieces hay e ss = map (text_at hay) (gaps_from (length hay) e ss)

module _ (hay : List ℕ) (begin : ℕ) (done : Bool) (more : done ≡ false) where
  open_by : (ss : List Span) → pieces_of hay begin done ss ≡ pieces hay begin ss
  open_by ss = ap (λ b. cond b [] (pieces hay begin ss)) more

  -- a step to a match in the same haystack returns the piece before it, and goes on where it ends
  module _ (k : List ℕ) (next : ℕ) (same : k ≡ hay) (m : Excerpt) (behind : next ≡ m.span.end) (piece : List ℕ)
      (is : slice_range hay begin m.span.start ≡ piece) where
    step_by : (ss rest : List Span) → ss ≡ m.span ∷ rest → pieces_of hay begin done ss ≡ piece ∷ pieces_of k next done rest
    step_by ss rest e =
        open_by ss ∙ ap (pieces hay begin) e
        ∙ ap₂ (λ a b. a ∷ b) is
        (ap (λ (n : ℕ). pieces hay n rest) (sym behind) ∙ ap (λ h. pieces h next rest) (sym same)
        ∙ sym (ap (λ b. cond b [] (pieces k next rest)) more))

    pub split_some : (ss rest : List Span) → map (excerpt hay) ss ≡ m ∷ map (excerpt k) rest →
        (pieces_of hay begin done ss ≡ piece ∷ pieces_of k next done rest)
        × ((n : ℕ) → at_most_of (suc (suc n)) hay begin done ss ≡ piece ∷ at_most_of (suc n) k next done rest)
    split_some ss rest left =
        let spans : ss ≡ m.span ∷ rest =
        sym (spans_of hay ss) ∙ ap (map (λ (e : Excerpt). e.span)) left ∙ ap (λ l. m.span ∷ l) (spans_of k rest) in
        (step_by ss rest spans, λ n. step_by (take (suc n) ss) (take n rest) (ap (take (suc n)) spans))

  -- where nothing matches any more the rest is a piece
  pub split_none : (ss : List Span) (piece : List ℕ) → map (excerpt hay) ss ≡ [] → slice_range hay begin (length hay) ≡ piece →
      (pieces_of hay begin done ss ≡ piece ∷ []) × ((n : ℕ) → at_most_of (suc (suc n)) hay begin done ss ≡ piece ∷ [])
  split_none ss piece none is =
      let spans : ss ≡ [] = sym (spans_of hay ss) ∙ ap (map (λ (e : Excerpt). e.span)) none in
      (last ss spans, λ n. last (take (suc n) ss) (ap (take (suc n)) spans))
    where
      last : (l : List Span) → l ≡ [] → pieces_of hay begin done l ≡ piece ∷ []
      last l e = open_by l ∙ ap (pieces hay begin) e ∙ ap (λ x. x ∷ []) is

  -- before any piece was returned
  module _ (r : Regex) (k : List ℕ) (same : hay ≡ k) (front : begin ≡ 0) (ss : List Span) (all : ss ≡ spans_in r k) where
    start_by : (f : List Span → List Span) → pieces_of hay begin done (f ss) ≡ pieces k 0 (f (spans_in r k))
    start_by f =
        open_by (f ss) ∙ ap (λ h. pieces h begin (f ss)) same ∙ ap (λ (n : ℕ). pieces k n (f ss)) front ∙ ap (λ l. pieces k 0 (f l)) all

    pub all_start : pieces_of hay begin done ss ≡ pieces_in r k
    all_start = start_by (λ l. l)

    pub limited_start : (n : ℕ) → at_most_of n hay begin done ss ≡ pieces_up_to r k n
    limited_start zero = refl
    limited_start (suc n) = start_by (take n)

-- a step where more than one piece may come
pub step_yields : {S : Type 0} (left : S → List (List ℕ)) (at_most : ℕ → S → List (List ℕ)) (n m k : ℕ) (s t : S) (r : Option (Bor (List ℕ))) →
    n ≡ suc (suc k) → m ≡ suc k → StepsOnBy left at_most s r t →
    MatchOption r ((at_most n s ≡ []) × (at_most m t ≡ [])) (λ x. at_most n s ≡ x.now ∷ at_most m t)
step_yields left at_most n m k s t None e f h = ((h.2 n).0, (h.2 m).1)
step_yields left at_most n m k s t (Some x) e f h =
    ap (λ j. at_most j s) e ∙ h.1 k ∙ ap (λ xs. x.now ∷ xs) (sym (ap (λ j. at_most j t) f))
