-- Edges and runs lead from place to place, forward, and within the haystack.
use Rattle.std.proofs.lemmas.Grind.{common_steps}
use Rattle.std.proofs.Common.{◌≡◌, ℕ, zero, suc, ◌+◌, ◌<◌, ◌≤◌, Bool, true, false, cond, ◌&&◌, List, [], ◌∷◌, length, map, Option, Some, None, le_of_eq, refl, sym, ap, subst, inl, inr, ⊎_elim, arith, ◌⊎◌, ltb-true, leb-true, le-leb}
use Rattle.std.specs.Prelude.{nat_lt, nat_le, ◌==◌}
use Rattle.std.proofs.lemmas.Bool.{cases_Bool}
use Rattle.bites_spec.specs.Utf8.{piece, character, places, places_within, step_len}
use Rattle.bites_spec.specs.Look.{Look}
use Rattle.bites_spec.specs.Range.{in_ranges}
use Rattle.bites_spec.specs.Walks.{Among}
use Rattle.bites_spec.specs.Program.{State, Program, Configuration, at, state_at, edges, taking, looking, targets_of, char, ranges, splits, goto, capture, fail, match, IsWellFormed}
use Rattle.bites_spec.specs.Run.{Runs}
use Rattle.bites_spec.specs.RunLaws.{NothingPastTheEnd}
use Rattle.bites_spec.proofs.utf8.PieceLemmas.{piece_within, Among-places}
use Rattle.bites_spec.proofs.runs.RunLemmas.{Inside, inside_on}

pub past_end : (hay : List ℕ) (s : ℕ) → length hay < s → nat_le s (length hay) ≡ false
past_end hay s lt = grind (arith, common_steps, leb-true)

-- more fuel than the haystack needs adds no place
pub places_enough : (n m : ℕ) (hay : List ℕ) (s : ℕ) → length hay < n + s → length hay < m + s → places_within n hay s ≡ places_within m hay s
places_enough zero zero hay s a b = refl
places_enough zero (suc m) hay s a b =
    sym (ap (λ c. cond c (s ∷ places_within m hay (s + step_len hay s)) []) (past_end hay s (omega arith)))
places_enough (suc n) zero hay s a b =
    ap (λ c. cond c (s ∷ places_within n hay (s + step_len hay s)) []) (past_end hay s (omega arith))
places_enough (suc n) (suc m) hay s a b =
    ap (λ l. cond (nat_le s (length hay)) (s ∷ l) []) (places_enough n m hay (s + step_len hay s) (omega arith) (omega arith))

-- the places from one in the haystack, or from its end, are this one and those from the next one on
pub places-here : (hay : List ℕ) (s : ℕ) → s ≤ length hay → places hay s ≡ s ∷ places hay (s + step_len hay s)
unfolding places
places-here hay s le = grind (arith, common_steps, le-leb, places_enough)

-- no place lies past the end
pub places-past : (hay : List ℕ) (s : ℕ) → length hay < s → places hay s ≡ []
unfolding places
places-past hay s lt = ap (λ c. cond c (s ∷ places_within (length hay) hay (s + step_len hay s)) []) (past_end hay s lt)

-- if a place is in the list, so is the place after its piece, by induction on the room for places
pub place_on : (n : ℕ) (hay : List ℕ) (s i : ℕ) → length hay < n + s → Among (places hay s) i → 0 < (piece hay i).len → Among (places hay s) (i + (piece hay i).len)
place_on zero hay s i room h some = absurd (subst (λ (l : List ℕ). Among l i) (places-past hay s (omega arith)) h)
place_on (suc n) hay s i room h some =
    let le : s ≤ length hay = (let r = Among-places hay s i h in omega (arith, r)) in
    subst (λ (l : List ℕ). Among l (i + (piece hay i).len)) (sym (places-here hay s le))
    (⊎_elim
    (λ (here : s ≡ i). inr (subst (λ (k : ℕ). Among (places hay (s + step_len hay s)) k) (step here)
    (subst (λ (l : List ℕ). Among l (s + step_len hay s)) (sym (places-here hay (s + step_len hay s) (fits here))) (inl refl))))
    (λ later. inr (place_on n hay (s + step_len hay s) i (omega arith) later some))
    (subst (λ (l : List ℕ). Among l i) (places-here hay s le) h))
  where
    step : s ≡ i → s + step_len hay s ≡ i + (piece hay i).len
    step here = subst (λ (k : ℕ). k + step_len hay k ≡ i + (piece hay i).len) (sym here) (omega arith)

    fits : s ≡ i → s + step_len hay s ≤ length hay
    fits here = let le = (Among-places hay s i h).1 in omega (arith, step here, piece_within hay i le)

-- if a place is in the list, so is the place after its piece
pub place_behind : (hay : List ℕ) (s i : ℕ) → Among (places hay s) i → 0 < (piece hay i).len → Among (places hay s) (i + (piece hay i).len)
place_behind hay s i h some = place_on (suc (length hay)) hay s i (omega arith) h some

-- the same place, or the place after the piece
abbrev pub IsNext : List ℕ → ℕ → ℕ → Type 0
IsNext hay i j = (j ≡ i) ⊎ ((0 < (piece hay i).len) × (j ≡ i + (piece hay i).len))

taking_next : (hay : List ℕ) (test : ℕ → Bool) (q i : ℕ) (t : Configuration) → Among (taking hay test q i) t → IsNext hay i t.place
taking_next hay test q i t h =
    ⊎_elim
    (λ (some : nat_lt 0 (piece hay i).len ≡ true).
    inr (ltb-true 0 (piece hay i).len some, of_test (test (character (piece hay i))) (subst (λ b. Among (taken b) t) (ap (λ b. b && test (character (piece hay i))) some) h)))
    (λ (none : nat_lt 0 (piece hay i).len ≡ false).
    absurd (subst (λ b. Among (taken b) t) (ap (λ b. b && test (character (piece hay i))) none) h))
    (cases_Bool (nat_lt 0 (piece hay i).len))
  where
    taken : Bool → List Configuration
    taken b = cond b (at q (i + (piece hay i).len) ∷ []) []

    of_test : (b : Bool) → Among (taken b) t → t.place ≡ i + (piece hay i).len
    of_test true a = ⊎_elim (λ (e : at q (i + (piece hay i).len) ≡ t). sym (ap (λ s. s.place) e)) (λ (no : ⊥). absurd no) a
    of_test false a = absurd a

same_place : (q i : ℕ) (t : Configuration) → Among (at q i ∷ []) t → t.place ≡ i
same_place q i t h = ⊎_elim (λ (e : at q i ≡ t). sym (ap (λ s. s.place) e)) (λ (no : ⊥). absurd no) h

looking_next : (hay : List ℕ) (look : Option Look) (q i : ℕ) (t : Configuration) → Among (looking hay look q i) t → t.place ≡ i
looking_next hay None q i t h = same_place q i t h
looking_next hay (Some l) q i t h = grind (arith, common_steps)

map_next : (qs : List ℕ) (i : ℕ) (t : Configuration) → Among (map (λ q. at q i) qs) t → t.place ≡ i
map_next [] i t h = absurd h
map_next (q ∷ qs) i t h = ⊎_elim (λ (e : at q i ≡ t). sym (ap (λ s. s.place) e)) (λ later. map_next qs i t later) h

-- an edge leads to the same place, or over the piece
pub edge_next : (hay : List ℕ) (s : State) (i : ℕ) (t : Configuration) → Among (edges hay s i) t → IsNext hay i t.place
edge_next hay (char q c) i t h = taking_next hay (λ d. d == c) q i t h
edge_next hay (ranges q rs) i t h = taking_next hay (in_ranges rs) q i t h
edge_next hay (splits qs b) i t h = inl (map_next (targets_of (splits qs b)) i t h)
edge_next hay (goto q look) i t h = inl (looking_next hay look q i t h)
edge_next hay (capture q k) i t h = inl (same_place q i t h)
edge_next hay fail i t h = absurd h
edge_next hay match i t h = absurd h

module _ (p : Program) (hay : List ℕ) where
  -- a run never goes back
  pub runs_forward : (s : Configuration) (r : List Configuration) (j : ℕ) → Runs p hay s r j → s.place ≤ j
  runs_forward s [] j runs = le_of_eq runs.1
  runs_forward s (t ∷ r) j runs = grind (arith, common_steps, edge_next, (runs_forward t r j runs.1))

  -- a run from a place of the list ends at a place of the list
  pub runs_to_place : (start : ℕ) (s : Configuration) (r : List Configuration) (j : ℕ) → Among (places hay start) s.place → Runs p hay s r j → Among (places hay start) j
  runs_to_place start s [] j among runs = subst (λ (k : ℕ). Among (places hay start) k) runs.1 among
  runs_to_place start s (t ∷ r) j among runs =
      runs_to_place start t r j
      (⊎_elim (λ (e : t.place ≡ s.place). subst (λ (k : ℕ). Among (places hay start) k) (sym e) among)
      (λ over. subst (λ (k : ℕ). Among (places hay start) k) (sym over.1) (place_behind hay start s.place among over.0))
      (edge_next hay (state_at p.states s.state) s.place t runs.0))
      runs.1

  module _ (well : IsWellFormed p) where
    -- a run from a configuration inside ends within the haystack
    pub runs_within : (s : Configuration) (r : List Configuration) (j : ℕ) → Inside p hay s → Runs p hay s r j → j ≤ length hay
    runs_within s [] j inside runs = subst (λ k. k ≤ length hay) runs.1 inside.1
    runs_within s (t ∷ r) j inside runs = runs_within t r j (inside_on p hay well s t inside runs.0) runs.1

none_of_zero : {A : Type 0} (xs : List A) → length xs ≤ 0 → xs ≡ []
none_of_zero [] le = refl
none_of_zero (x ∷ xs) le = absurd (omega (arith, le))

-- past the end there is no place, and nothing is visited
pub nothing_past_the_end : NothingPastTheEnd
nothing_past_the_end p hay s past = grind (arith, common_steps, none_of_zero, places-past)
