-- Partitions into blocks, and the steps of a split.
use Rattle.bites_table.proofs.Library.{common_steps, ◌==◌, nat_lt, slice_index_or, replicate, IsStrictlyIncreasing, cases_eq, cases_lt, nat_tests, get_or_past, AllPairs-from_increasing, in_range, in_ranges, State, state_at, takes, ◌≡◌, ℕ, ◌+◌, ◌<◌, ◌≤◌, Bool, ◌&&◌, ◌||◌, List, [], ◌∷◌, ◌++◌, length, sym, ap, ◌∙◌, subst, ⊎_elim, ◌⊎◌, arith, length-append, zero, suc, refl}
use Rattle.bites_table.proofs.Words.{at, IsInterval, IsFiner, PassAlike, AreBlocks, IsMoved, AreSplit, AreSplitByKinds, Distinctions, Blocks}
use Rattle.bites_table.proofs.BoundLemmas.{single}

up_to : (i n : ℕ) → i < n + 1 → (i < n) ⊎ (i ≡ n)
up_to i n lt = grind arith

-- rising numbers do not fall
pub rises : (xs : List ℕ) → IsStrictlyIncreasing xs → (i j : ℕ) → i ≤ j → j < length xs → at xs i ≤ at xs j
rises xs rising i j le lt = grind (arith, AllPairs-from_increasing, cases_eq)

-- where a range begins to be moved
pub begins_up : (begins : List ℕ) → IsStrictlyIncreasing begins → (first r : ℕ) → IsInterval begins first r → (i : ℕ) →
    ((at begins r < first) × (i ≡ r + 1)) ⊎ ((first ≤ at begins r) × (i ≡ r)) →
    ((k : ℕ) → i ≤ k → k < length begins → first ≤ at begins k) × ((k : ℕ) → k < i → at begins k < first)
begins_up begins rising first r is i h = grind (arith, rises, AllPairs-from_increasing)

pub marks_begin : (a : Bool) (first last n k i : ℕ) → (k < i → n < first) → a ≡ (a || (in_range (first, last) n && nat_lt k i))
marks_begin a first last n k i below = grind (arith, common_steps, nat_tests)

pub marks_more : (a b : Bool) (first last n k i : ℕ) → b ≡ (a || (in_range (first, last) n && nat_lt k i)) → (k ≡ i → (first ≤ n) × (n ≤ last)) →
    (b || (k == i)) ≡ (a || (in_range (first, last) n && nat_lt k (i + 1)))
marks_more a b first last n k i is inside = grind (arith, common_steps, nat_tests)

pub marks_end : (a : Bool) (first last n k i : ℕ) → (i ≤ k → last < n) → (a || (in_range (first, last) n && nat_lt k i)) ≡ (a || in_range (first, last) n)
marks_end a first last n k i past = grind (arith, common_steps, nat_tests)

-- a list of one value, which is read past its end too
pub repeated : {X : Type 0} (n : ℕ) (x : X) (m : ℕ) → slice_index_or (replicate n x) m x ≡ x
repeated zero x m = refl
repeated (suc n) x zero = refl
repeated (suc n) x (suc m) = repeated n x m

-- blocks that are numbered anew
module _ (from : ℕ) (old : List ℕ) (mid : Blocks) (m : IsMoved from old mid) (all : (k : ℕ) → k < length old → from ≤ at mid.of.items k) (c : Blocks)
    (same_len : length c.of.items ≡ length old) (less : (k : ℕ) → k < length old → at c.of.items k + from ≡ at mid.of.items k) where
  pub renumbered_blocks : 0 < length old → c.len + from ≡ mid.len → ((n : ℕ) → at c.moved.items n ≡ 0) → AreBlocks c
  renumbered_blocks there len none = grind (arith, get_or_past, cases_lt)

-- blocks that become finer
pub still_alike : (begins old new : List ℕ) (test : ℕ → Bool) → length old ≡ length begins → IsFiner old new → PassAlike begins old test → PassAlike begins new test
still_alike begins old new test len finer alike i j il jl same = alike i j il jl (finer i j (omega arith) (omega arith) same)

pub still_by_kinds : (begins old new : List ℕ) (kinds : Distinctions) → length old ≡ length begins → IsFiner old new → AreSplitByKinds begins old kinds → AreSplitByKinds begins new kinds
still_by_kinds begins old new kinds len finer by = grind (arith, common_steps, still_alike)

-- by a single character
pub single_alike : (begins blocks : List ℕ) (x : ℕ) → PassAlike begins blocks (in_ranges ((x, x) ∷ [])) → PassAlike begins blocks (λ d. d == x)
single_alike begins blocks x alike i j il jl same = single x (at begins i) ∙ alike i j il jl same ∙ sym (single x (at begins j))

-- a loop over states goes one further
pub one_state_more : (begins old new : List ℕ) (ss : List State) (n : ℕ) (s : State) → s ≡ state_at ss n → length old ≡ length begins → IsFiner old new → PassAlike begins new (takes s) →
    ((q : ℕ) → q < n → PassAlike begins old (takes (state_at ss q))) → (q : ℕ) → q < n + 1 → PassAlike begins new (takes (state_at ss q))
one_state_more begins old new ss n s is len finer alike before q lt = grind (arith, common_steps, still_alike, up_to)

pub all_states : (begins old new : List ℕ) (ss : List State) (n : ℕ) → length ss ≤ n → length old ≡ length begins → IsFiner old new →
    ((q : ℕ) → q < n → PassAlike begins old (takes (state_at ss q))) → AreSplit begins new ss
all_states begins old new ss n le len finer before q = grind (arith, common_steps, still_alike, get_or_past, cases_lt)

-- members of the blocks of the first intervals
pub record AreMembersOf (begins blocks members : List ℕ) (n : ℕ) : Type 0 where
  pub below : (i : ℕ) → i < n → at blocks i < length members
  pub is : (m : ℕ) → m < length members → (i : ℕ) × (i < n) × (at blocks i ≡ m) × (at begins i ≡ at members m)

pub no_member_more : (begins blocks members : List ℕ) (n : ℕ) → at blocks n < length members → AreMembersOf begins blocks members n → AreMembersOf begins blocks members (n + 1)
no_member_more begins blocks members n known are = record {
  below = λ i lt. ⊎_elim (λ (less : i < n). are.below i less) (λ (e : i ≡ n). subst (λ k. at blocks k < length members) (sym e) known) (up_to i n lt);
  is = λ m lt. let old = are.is m lt in (old.0, omega (arith, old.1), old.2, old.3);
}

pub one_member_more : (begins blocks members : List ℕ) (n c : ℕ) → at blocks n ≡ length members → c ≡ at begins n → AreMembersOf begins blocks members n →
    AreMembersOf begins blocks (members ++ c ∷ []) (n + 1)
one_member_more begins blocks members n c new c_is are = record {
  below = λ i lt. ⊎_elim (λ (less : i < n). let old = are.below i less in grind (arith, length-append)) (λ (e : i ≡ n). let at_n = ap (at blocks) e in grind (arith, length-append)) (up_to i n lt);
  is = λ m lt. ⊎_elim (λ (less : m < length members).
      let old = are.is m less in (old.0, omega (arith, old.1), old.2, old.3 ∙ sym (front less)))
      (λ (e : m ≡ length members). (n, omega arith, new ∙ sym e, sym c_is ∙ grind (arith, common_steps))) (up_to m (length members) (grind (arith, length-append)));
}
  where
    front : {m : ℕ} → m < length members → at (members ++ c ∷ []) m ≡ at members m
    front lt = grind (arith, common_steps)
