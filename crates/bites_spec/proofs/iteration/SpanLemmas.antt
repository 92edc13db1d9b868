-- Successive matches stand in order, and their ends grow.
use Rattle.std.proofs.lemmas.Grind.{common_steps}
use Rattle.std.proofs.Common.{ℕ, ◌<◌, ◌≤◌, List, [], ◌∷◌, map, length, Option, Some, arith, ltb-true, ltb-false}
use Rattle.std.proofs.lemmas.Bool.{cases_Bool}
use Rattle.bites_spec.specs.Match.{Span}
use Rattle.bites_spec.specs.Spans.{IsNextAfter, Follow, Successive, LiesFrom, EndsGrow}
use Rattle.bites_spec.specs.Pieces.{AreInOrder}

module _ {B : Type 0} (span_of : B → Span) (hay : List ℕ) (A : ℕ → Option B → Type 0)
    (lies : (s : ℕ) (x : B) → A s (Some x) → LiesFrom (length hay) s (span_of x)) where
  pub next_lies : (e : ℕ) (x : B) → IsNextAfter span_of hay A e (Some x) → LiesFrom (length hay) e (span_of x) × (e < (span_of x).end)
  next_lies e x is_next = grind (arith, common_steps, ltb-true, ltb-false, cases_Bool)

  follow_in_order : (e : ℕ) (xs : List B) → e ≤ length hay → Follow span_of hay A (IsNextAfter span_of hay A e) xs →
      AreInOrder (length hay) e (map span_of xs) × EndsGrow e (map span_of xs)
  follow_in_order e [] le is_next = (le, tt)
  follow_in_order e (x ∷ xs) le is_next =
      let next = next_lies e x is_next.0 in
      let more = follow_in_order (span_of x).end xs next.0.2 is_next.1 in
      ((next.0.0, next.0.1, more.0), (next.1, more.1))

  -- the matches stand in order within the haystack
  pub Successive-in_order : (xs : List B) → Successive span_of hay A xs → AreInOrder (length hay) 0 (map span_of xs)
  Successive-in_order [] is_next = omega arith
  Successive-in_order (x ∷ xs) is_next = grind (arith, common_steps, follow_in_order)

  -- each match after the first ends above the one before
  pub Successive-ends_grow : (x : B) (xs : List B) → Successive span_of hay A (x ∷ xs) → EndsGrow (span_of x).end (map span_of xs)
  Successive-ends_grow x xs is_next = (follow_in_order (span_of x).end xs (lies 0 x is_next.0).2 is_next.1).1
