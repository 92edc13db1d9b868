-- The starts of a search rise, and lie in the haystack.
use Rattle.std.proofs.lemmas.Grind.{common_steps}
use Rattle.std.proofs.Common.{◌≡◌, ℕ, zero, suc, ◌+◌, ◌<◌, ◌≤◌, Bool, true, false, cond, List, [], ◌∷◌, ◌++◌, length, refl, sym, ap, subst, inl, inr, arith, leb-true, le-leb}
use Rattle.std.specs.Prelude.{nat_le}
use Rattle.std.proofs.lemmas.List.{append-nil}
use Rattle.bites_spec.specs.Walks.{Among, AreOrdered}
use Rattle.bites_spec.specs.Utf8.{places, places_within, step_len, start_alone, AreStarts}
use Rattle.bites_spec.specs.CallerLaws.{SearchesHaveStarts, StartIsAlone}
use Rattle.bites_spec.proofs.utf8.PieceLemmas.{Among-places, places_within_above}

-- each after all before it
abbrev pub Rise : List ℕ → Type 0
Rise = AreOrdered (λ i j. i < j)

places_within_rise : (n : ℕ) (hay : List ℕ) (s : ℕ) → Rise (places_within n hay s)
places_within_rise zero hay s = tt
places_within_rise (suc n) hay s = by (nat_le s (length hay)) (places_within_rise n hay (s + step_len hay s))
  where
    by : (b : Bool) → Rise (places_within n hay (s + step_len hay s)) → Rise (cond b (s ∷ places_within n hay (s + step_len hay s)) [])
    by true rise = (λ i among. places_within_above n hay s i among, rise)
    by false rise = tt

places_rise : (hay : List ℕ) (s : ℕ) → Rise (places hay s)
unfolding places
places_rise hay s = places_within_rise (suc (length hay)) hay s

among_front : (xs ys : List ℕ) (x : ℕ) → Among xs x → Among (xs ++ ys) x
among_front [] ys x h = absurd h
among_front (y ∷ xs) ys x (inl h) = inl h
among_front (y ∷ xs) ys x (inr h) = inr (among_front xs ys x h)

front_rises : (xs ys : List ℕ) → Rise (xs ++ ys) → Rise xs
front_rises [] ys h = tt
front_rises (x ∷ xs) ys h = (λ i among. h.0 i (among_front xs ys i among), front_rises xs ys h.1)

module _ (hay : List ℕ) (s : ℕ) (starts : List ℕ) (are : AreStarts hay s starts) where
  pub starts_rise : Rise starts
  starts_rise = front_rises starts are.0 (subst Rise are.1 (places_rise hay s))

  -- each start is a place
  pub start_among : (i : ℕ) → Among starts i → Among (places hay s) i
  start_among i h = subst (λ (l : List ℕ). Among l i) (sym are.1) (among_front starts are.0 i h)

  -- it lies at s or after, and in the haystack
  pub start_lies : (i : ℕ) → Among starts i → (s ≤ i) × (i ≤ length hay)
  start_lies i h = Among-places hay s i (start_among i h)

  -- a place that is no start comes after all starts
  pub start_or_above : (k : ℕ) → Among (places hay s) k → (i : ℕ) → Among starts i → k < i → Among starts k
  start_or_above k among i h lt = within starts are.0 (subst Rise are.1 (places_rise hay s)) (subst (λ (l : List ℕ). Among l k) are.1 among) h
    where
      within : (xs ys : List ℕ) → Rise (xs ++ ys) → Among (xs ++ ys) k → Among xs i → Among xs k
      within [] ys rise one two = absurd two
      within (x ∷ xs) ys rise (inl here) two = inl here
      within (x ∷ xs) ys rise (inr later) (inl here) = let above = rise.0 k later in absurd (omega (arith, lt, here, above))
      within (x ∷ xs) ys rise (inr later) (inr two) = inr (within xs ys rise.1 later two)

pub all_are_starts : (hay : List ℕ) (s : ℕ) → AreStarts hay s (places hay s)
all_are_starts hay s = ([], sym (append-nil (places hay s)))

pub alone_is_start : (hay : List ℕ) (s : ℕ) → AreStarts hay s (start_alone hay s)
unfolding places start_alone
alone_is_start hay s = by (nat_le s (length hay))
  where
    by : (b : Bool) → (rest : List ℕ) × (cond b (s ∷ places_within (length hay) hay (s + step_len hay s)) [] ≡ cond b (s ∷ []) [] ++ rest)
    by true = (places_within (length hay) hay (s + step_len hay s), refl)
    by false = ([], refl)

pub alone_within : (hay : List ℕ) (s : ℕ) → s ≤ length hay → start_alone hay s ≡ s ∷ []
unfolding start_alone
alone_within hay s le = ap (λ (b : Bool). cond b (s ∷ []) []) (le-leb s (length hay) le)

pub alone_past : (hay : List ℕ) (s : ℕ) → length hay < s → start_alone hay s ≡ []
unfolding start_alone
alone_past hay s lt = by (nat_le s (length hay)) (λ is. leb-true s (length hay) is)
  where
    by : (b : Bool) → (b ≡ true → s ≤ length hay) → cond b (s ∷ []) [] ≡ []
    by true le = let within = le refl in absurd (omega arith)
    by false le = refl

pub searches_have_starts : SearchesHaveStarts
searches_have_starts hay s = (all_are_starts hay s, alone_is_start hay s)

pub start_is_alone : StartIsAlone
unfolding start_alone
start_is_alone hay s i = grind (arith, common_steps, leb-true)
