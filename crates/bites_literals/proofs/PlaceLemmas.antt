-- Places where a piece begins by its first byte, and behind a byte of ASCII.
use Rattle.std.proofs.Common.{◌≡◌, ℕ, zero, suc, ◌+◌, ◌<◌, ◌≤◌, cond, List, [], ◌∷◌, length, get_or, refl, sym, subst, ◌⊎◌, inl, inr, arith, le-leb}
use Rattle.std.proofs.lemmas.Bool.{cases_lt, cases_eq}
use Rattle.bites_spec.specs.Walks.{Among}
use Rattle.bites_spec.specs.Utf8.{piece, places, places_within, step_len}
use Rattle.bites_spec.proofs.utf8.PieceLemmas.{piece_some, step_some}
use Rattle.bites_spec.proofs.runs.PlaceLemmas.{place_behind}
use Rattle.bites_spec.proofs.utf8.AsciiPieces.{ascii_byte}
use Rattle.bites_literals.specs.Begins.{Continues}
use Rattle.bites_literals.proofs.PieceBytes.{continues_within}

module _ (hay : List ℕ) where
  -- no piece goes past a byte that continues no character
  step_short : (s x : ℕ) → s < x → (Continues (get_or hay x 0) → ⊥) → s + step_len hay s ≤ x
  step_short s x lt first =
      elim (cases_lt x (s + (piece hay s).len)) [
        | inl inside ↦ absurd (first (continues_within hay s x lt inside))
        | inr past ↦ omega (arith, past, lt)
      ]

  -- a byte of ASCII is such a byte
  ascii_first : (x : ℕ) → get_or hay x 0 < 128 → Continues (get_or hay x 0) → ⊥
  ascii_first x low within = omega (arith, low, within.0)

  among_within : (n s x : ℕ) → s ≤ length hay → ((s ≡ x) ⊎ Among (places_within n hay (s + step_len hay s)) x) → Among (places_within (suc n) hay s) x
  among_within n s x le h = subst (λ b. Among (cond b (s ∷ places_within n hay (s + step_len hay s)) []) x) (sym (le-leb s (length hay) le)) h

  among_first : (n s x : ℕ) → length hay < n + s → s ≤ x → x < length hay → (Continues (get_or hay x 0) → ⊥) → Among (places_within n hay s) x
  among_first zero s x fuel le lt first = absurd (omega arith)
  among_first (suc n) s x fuel le lt first =
      among_within n s x (omega arith)
      (elim (cases_eq s x) [
        | inl e ↦ inl e
        | inr d ↦ inr (among_first n (s + step_len hay s) x (omega (arith, step_some hay s)) (step_short s x (omega arith) first) lt first)
      ])

  pub place_at_first : (s x : ℕ) → s ≤ x → x < length hay → (Continues (get_or hay x 0) → ⊥) → Among (places hay s) x
  unfolding places
  place_at_first s x le lt first = among_first (suc (length hay)) s x (omega arith) le lt first

  pub place_behind_ascii : (s y : ℕ) → s ≤ y → y < length hay → get_or hay y 0 < 128 → Among (places hay s) (y + 1)
  place_behind_ascii s y le lt low =
      let some = piece_some hay y lt in
      let one : (piece hay y).len ≡ 1 = (ascii_byte hay y y (omega (arith, lt)) (omega arith) (omega (arith, some)) low).one in
      let there = place_behind hay s y (place_at_first s y le lt (ascii_first y low)) some in
      subst (λ n. Among (places hay s) (y + n)) one there

  pub start_among : (s : ℕ) → s ≤ length hay → Among (places hay s) s
  unfolding places
  start_among s le = among_within (length hay) s s le (inl refl)
