-- A row that is written field after field.
use Rattle.std.proofs.Common.{◌≡◌, ℕ, ◌+◌, ◌<◌, List, [], ◌∷◌, ◌++◌, length, map, drop, get_or, sym, ap, ◌∙◌, append_assoc}
use Rattle.std.proofs.lemmas.List.{at_drop_more}
use Rattle.std.specs.Borrow.{Bor}
use Rattle.bites_filter.specs.Csv.{row_after}

pub row_more : (fields : List (Bor (List ℕ))) (i : ℕ) (d : Bor (List ℕ)) (separator all written : List ℕ) → i < length fields →
    all ≡ written ++ row_after separator (map (λ f. f.now) (drop i fields)) →
    all ≡ (written ++ (separator ++ (34 ∷ (get_or fields i d).now ++ (34 ∷ []))))
    ++ row_after (44 ∷ []) (map (λ f. f.now) (drop (i + 1) fields))
row_more fields i d separator all written lt e =
    e ∙ ap (λ r. written ++ r) (at_drop_more (λ l. row_after separator (map (λ f. f.now) l)) fields i d lt)
    ∙ sym (simp append_assoc)
