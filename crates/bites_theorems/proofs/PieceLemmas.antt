-- The pieces between the matches of a compiled regex.
use Rattle.std.proofs.Common.{◌≡◌, ℕ, ◌+◌, List, map, length, sym, ap, ◌∙◌, subst}
use Rattle.std.proofs.lemmas.List.{length-map}
use Rattle.bites_spec.specs.Pieces.{gaps, text_at}
use Rattle.bites_spec.specs.Regex.{Regex, IsCompiled}
use Rattle.bites_spec.specs.Captured.{Excerpt, excerpt, text_of}
use Rattle.bites_spec.specs.Iteration.{spans_in, pieces_in}
use Rattle.bites_spec.proofs.Laws as laws
use Rattle.bites_theorems.specs.OnTree.{AreInTurn}
use Rattle.bites_theorems.proofs.SuccessiveLemmas.{texts_of_parts}

module _ (r : Regex) (is : IsCompiled r) (hay : List ℕ) where
  in_turn_by_spans : AreInTurn hay (pieces_in r hay) (map (text_at hay) (spans_in r hay))
  in_turn_by_spans =
      let ss = spans_in r hay in
      let whole = laws.pieces_and_matches hay ss (laws.matches_stand_apart r hay ss (laws.finds_are_successive r is hay)).0 in
      record {
        one_more = length-map (gaps (length hay) ss) (text_at hay) ∙ whole.0 ∙ ap (λ n. n + 1) (sym (length-map ss (text_at hay)));
        whole = whole.1;
      }

  -- pieces and matches in turn are the haystack
  pub in_turn : {M : Type 0} (f : M → Excerpt) (ms : List M) (pieces : List (List ℕ)) → map f ms ≡ map (excerpt hay) (spans_in r hay) →
      pieces ≡ pieces_in r hay → AreInTurn hay pieces (map (λ m. text_of (f m)) ms)
  in_turn f ms pieces found split =
      subst (λ ps. AreInTurn hay ps (map (λ m. text_of (f m)) ms)) (sym split)
      (subst (AreInTurn hay (pieces_in r hay)) (sym (texts_of_parts f hay ms (spans_in r hay) found)) in_turn_by_spans)
