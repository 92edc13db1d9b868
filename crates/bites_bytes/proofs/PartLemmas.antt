-- The groups that participate in a match, one after another.
use Rattle.std.proofs.Common.{◌≡◌, ℕ, zero, suc, ◌+◌, ◌-◌, ◌/◌, ◌≤◌, ◌<◌, ◌⊎◌, List, [], ◌∷◌, ◌++◌, map, length, take, drop, slice_set, Option, Some, None, IsSome, Bor, option_map, refl, sym, ap, ap₂, ◌∙◌, subst, inl, inr, true≢false, arith}
use Rattle.std.specs.List.{filter_map, cons_option, range_with_len}
use Rattle.std.proofs.lemmas.List.{append_assoc, length-append, map-append, take_more_set, take_at, take_all, length-set}
use Rattle.bites_spec.specs.Match.{Span}
use Rattle.bites_spec.specs.Pieces.{text_at}
use Rattle.bites_spec.specs.Slots.{group_in, participating}
use Rattle.bites_spec.specs.Expansion.{text_in}

-- those from a number on
unfoldable pub parts_from : List (Option ℕ) → ℕ → List Span
parts_from slots k = filter_map (group_in slots) (range_with_len k (length slots / 2 - k))

parts_step : (slots : List (Option ℕ)) (k : ℕ) → k < length slots / 2 → parts_from slots k ≡ cons_option (group_in slots k) (parts_from slots (k + 1))
unfolding parts_from
parts_step slots k less =
    let e : length slots / 2 - k ≡ suc (length slots / 2 - (k + 1)) = omega (arith, less) in
    ap (λ m. filter_map (group_in slots) (range_with_len k m)) e

parts_end : (slots : List (Option ℕ)) (k : ℕ) → length slots / 2 ≤ k → parts_from slots k ≡ []
unfolding parts_from
parts_end slots k le =
    let e : length slots / 2 - k ≡ 0 = omega (arith, le) in ap (λ m. filter_map (group_in slots) (range_with_len k m)) e

-- the first n were written, and the others come from a number on
pub record Written (slots : List (Option ℕ)) (hay : List ℕ) (n k : ℕ) (texts : List (Bor (List ℕ))) : Type 0 where
  pub front : List Span
  pub all : parts_from slots 1 ≡ front ++ parts_from slots k
  pub count : length front ≡ n
  pub fits : n ≤ length texts
  pub same : map (λ t. t.now) (take n texts) ≡ map (text_at hay) front

module _ (slots : List (Option ℕ)) (hay : List ℕ) where
  pub nothing_written : (texts : List (Bor (List ℕ))) → Written slots hay 0 1 texts
  nothing_written texts = record { front = []; all = refl; count = refl; fits = omega arith; same = refl }

  no_group : (o : Option Span) → None ≡ option_map (text_at hay) o → o ≡ None
  no_group None e = refl
  no_group (Some g) e = cc

  -- a group that doesn't participate is passed over
  pub passed_over : (n k : ℕ) (texts : List (Bor (List ℕ))) → k < length slots / 2 → None ≡ text_in slots hay k → Written slots hay n k texts →
      Written slots hay n (k + 1) texts
  passed_over n k texts less none w =
      let step = parts_step slots k less ∙ ap (λ o. cons_option o (parts_from slots (k + 1))) (no_group (group_in slots k) none) in
      record { front = w.front; all = w.all ∙ ap (λ l. w.front ++ l) step; count = w.count; fits = w.fits; same = w.same }

  a_group : (text : List ℕ) (o : Option Span) → Some text ≡ option_map (text_at hay) o → (g : Span) × (o ≡ Some g) × (text ≡ text_at hay g)
  a_group text None e = cc
  a_group text (Some g) e = (g, refl, inner text (text_at hay g) e)
    where
      inner : (a b : List ℕ) → Some a ≡ Some b → a ≡ b
      inner a b e = cc

  -- the text of one that does is written
  pub one_written : (n k : ℕ) (texts : List (Bor (List ℕ))) (t : Bor (List ℕ)) → k < length slots / 2 → n < length texts →
      Some t.now ≡ text_in slots hay k → Written slots hay n k texts → Written slots hay (n + 1) (k + 1) (slice_set texts n t)
  one_written n k texts t less room some w =
      let g = a_group t.now (group_in slots k) some in
      let step = parts_step slots k less ∙ ap (λ o. cons_option o (parts_from slots (k + 1))) g.1 in
      record {
        front = w.front ++ g.0 ∷ [];
        all = w.all ∙ ap (λ l. w.front ++ l) step ∙ sym (append_assoc w.front (g.0 ∷ []) (parts_from slots (k + 1)));
        count = length-append w.front (g.0 ∷ []) ∙ ap (λ m. m + 1) w.count;
        fits = subst (λ m. n + 1 ≤ m) (sym (length-set texts n t)) (omega (arith, room));
        same =
            ap (map (λ (x : Bor (List ℕ)). x.now)) (take_more_set texts n t room)
            ∙ map-append (λ (x : Bor (List ℕ)). x.now) (take n texts) (t ∷ [])
            ∙ ap₂ (λ a b. a ++ b) w.same (ap (λ x. x ∷ []) g.2)
            ∙ sym (map-append (text_at hay) w.front (g.0 ∷ []));
      }

  all_from_one : (n : ℕ) → n + 1 ≤ length (participating slots) → (o : Option Span) → group_in slots 0 ≡ o → IsSome o →
      (drop 1 (participating slots) ≡ parts_from slots 1) × (n ≤ length (parts_from slots 1))
  unfolding parts_from
  all_from_one n enough None e some = absurd (true≢false (sym some))
  all_from_one n enough (Some g) e some = cases (length slots / 2) refl
    where
      cases : (m : ℕ) → length slots / 2 ≡ m → (drop 1 (participating slots) ≡ parts_from slots 1) × (n ≤ length (parts_from slots 1))
      cases zero none =
          let l : length (participating slots) ≡ 0 = ap (λ j. length (filter_map (group_in slots) (range_with_len 0 j))) none in
          absurd (omega (arith, l, enough))
      cases (suc m) is =
          let from_zero : length slots / 2 ≡ length slots / 2 - 0 = omega arith in
          let step : participating slots ≡ g ∷ parts_from slots 1 =
          ap (λ j. filter_map (group_in slots) (range_with_len 0 j)) from_zero
          ∙ parts_step slots 0 (omega (arith, is)) ∙ ap (λ o. cons_option o (parts_from slots 1)) e in
          let l : length (participating slots) ≡ suc (length (parts_from slots 1)) = ap length step in
          (ap (drop 1) step, omega (arith, l, enough))

  written_all : (n k : ℕ) (texts : List (Bor (List ℕ))) → Written slots hay n k texts → n ≡ length texts →
      map (λ t. t.now) texts ≡ map (text_at hay) (take (length texts) (parts_from slots 1))
  written_all n k texts w is =
      ap (map (λ (x : Bor (List ℕ)). x.now)) (sym (take_all n texts (omega (arith, is)))) ∙ w.same
      ∙ ap (map (text_at hay)) (sym (take_at w.front (parts_from slots k) n w.count))
      ∙ ap (λ l. map (text_at hay) (take n l)) (sym w.all) ∙ ap (λ m. map (text_at hay) (take m (parts_from slots 1))) is

  -- where all parts are written, or no group is left, each part has the text of its group
  pub all_written : (n k : ℕ) (texts : List (Bor (List ℕ))) → Written slots hay n k texts → (n ≡ length texts) ⊎ (length slots / 2 ≤ k) →
      length texts + 1 ≤ length (participating slots) → IsSome (group_in slots 0) →
      map (λ t. t.now) texts ≡ map (text_at hay) (take (length texts) (drop 1 (participating slots)))
  all_written n k texts w (inl full) enough some =
      let one = all_from_one (length texts) enough (group_in slots 0) refl some in
      written_all n k texts w full ∙ ap (λ l. map (text_at hay) (take (length texts) l)) (sym one.0)
  all_written n k texts w (inr over) enough some =
      let one = all_from_one (length texts) enough (group_in slots 0) refl some in
      let l : length (parts_from slots 1) ≡ length w.front + 0 =
      ap length (w.all ∙ ap (λ l. w.front ++ l) (parts_end slots k over)) ∙ length-append w.front [] in
      written_all n k texts w (omega (arith, l, one.1, w.count, w.fits))
      ∙ ap (λ l. map (text_at hay) (take (length texts) l)) (sym one.0)
