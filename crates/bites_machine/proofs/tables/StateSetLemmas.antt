-- Members and the generations in which they were inserted.
use Rattle.bites_machine.proofs.Library.{common_steps, ◌≡◌, ℕ, zero, suc, ◌+◌, ◌<◌, true, false, List, [], ◌∷◌, length, refl, sym, ap, ap₂, ◌∙◌, arith, eq-eqb, ne_eqb, slice_index, slice_set, replicate, map-set, set-get_or}
use Rattle.bites_machine.specs.StateSet.{members_of, AreGenerations}

-- the state is inserted in this generation
pub inserted : (generation : ℕ) (generations : List ℕ) (i : ℕ) → members_of generation (slice_set generations i generation) ≡ slice_set (members_of generation generations) i true
inserted generation generations i = grind (arith, common_steps, map-set, eq-eqb)

-- the state was inserted in this generation already
pub inserted_again : (generation : ℕ) (generations : List ℕ) (i : ℕ) → slice_index generations i ≡ generation → members_of generation generations ≡ slice_set (members_of generation generations) i true
inserted_again generation generations i is = ap (members_of generation) (sym (set-get_or generations i 0) ∙ ap (slice_set generations i) is) ∙ inserted _ _ _

none_later : (generation : ℕ) (generations : List ℕ) → ((k : ℕ) → k < length generations → slice_index generations k < generation) → members_of generation generations ≡ replicate (length generations) false
none_later generation [] before = refl
none_later generation (r ∷ generations) before =
    let lt : r < generation = before 0 (omega arith) in
    ap₂ ◌∷◌ (ne_eqb r generation (λ e. absurd (omega (arith, e, lt)))) (none_later generation generations (λ k h. before (suc k) (omega (arith, h))))

-- there is no member in a generation that comes later
pub no_members : (generation : ℕ) (generations : List ℕ) → AreGenerations generation generations → members_of (generation + 1) generations ≡ replicate (length generations) false
no_members generation generations are = none_later (generation + 1) generations (λ k h. let le = are.past k h in omega (arith, le))

-- after generation 0 there is no member
pub none_at_first : (n : ℕ) → members_of 1 (replicate n 0) ≡ replicate n false
none_at_first zero = refl
none_at_first (suc n) = ap (λ l. false ∷ l) (none_at_first n)
