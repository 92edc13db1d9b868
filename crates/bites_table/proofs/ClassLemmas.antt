-- The classes of blocks are classes of the program.
use Rattle.bites_table.proofs.Library.{common_steps, IfSome, nat_le, IsStrictlyIncreasing, nat_tests, get_or_default, slice_get_past, is_scalar, Program, state_at, takes, ◌≡◌, ℕ, zero, suc, ◌<◌, ◌≤◌, Bool, true, cond, List, [], ◌∷◌, length, Option, Some, None, refl, sym, ap, ◌∙◌, subst, arith, slice_get-get_or, AllPairs-from_increasing}
use Rattle.bites_table.proofs.Words.{kind_of_byte, AreAlike, AreClasses, seen, CoverBefore, CoverAfter, Distinctions, NoneBetween, AreBounds, AreTakenAlike, AreIntervals, at, IsInterval, AreSplit, AreSplitByKinds, HaveMembers, Intervals, interval_at, class_by, classes_of, AreSound}
use Rattle.bites_table.proofs.LeadLemmas.{alike_itself}
use Rattle.bites_table.proofs.DistinctionLemmas.{characters_alike}
use Rattle.bites_table.proofs.BoundLemmas.{seen_alike}
use Rattle.bites_table.proofs.BlockLemmas.{rises}

abbrev NeverFalls : List ℕ → Type 0
NeverFalls xs = (i j : ℕ) → i ≤ j → j < length xs → at xs i ≤ at xs j

-- a number from the first on has an interval
found : (xs : List ℕ) → NeverFalls xs → (c : ℕ) → 0 < length xs → at xs 0 ≤ c → IsInterval xs c (interval_at xs c)
found [] never c some below = absurd (omega arith)
found (b ∷ []) never c some below = record { within = omega arith; begins_below = below; next_above = λ k more lt. absurd (omega arith) }
found (b ∷ d ∷ bs) never c some below = by_next (nat_le d c) refl (λ le. found (d ∷ bs) tail c (omega arith) le)
  where
    tail : NeverFalls (d ∷ bs)
    tail i j le lt = never (suc i) (suc j) (omega arith) (omega arith)

    above_first : (k : ℕ) → c < d → 0 < k → k < length (b ∷ d ∷ bs) → c < at (b ∷ d ∷ bs) k
    above_first zero past more lt = absurd (omega arith)
    above_first (suc k) past more lt = let low = tail 0 k (omega arith) (omega arith) in omega arith

    by_next : (x : Bool) → nat_le d c ≡ x → (d ≤ c → IsInterval (d ∷ bs) c (interval_at (d ∷ bs) c)) → IsInterval (b ∷ d ∷ bs) c (cond x (suc (interval_at (d ∷ bs) c)) 0)
    by_next x e rest = grind (arith, common_steps, nat_tests, above_first)

pub interval_found : (xs : List ℕ) → IsStrictlyIncreasing xs → (c : ℕ) → 0 < length xs → at xs 0 ≤ c → IsInterval xs c (interval_at xs c)
interval_found xs rising c some below = found xs (rises xs rising) c some below

-- it is the only one
pub same_interval : (xs : List ℕ) (c i j : ℕ) → IsInterval xs c i → IsInterval xs c j → i ≡ j
same_interval xs c i j a b = grind (arith, common_steps)

pub interval_is : (xs : List ℕ) → IsStrictlyIncreasing xs → (c i : ℕ) → 0 < length xs → at xs 0 ≤ c → IsInterval xs c i → interval_at xs c ≡ i
interval_is xs rising c i some below is = same_interval xs c (interval_at xs c) i (interval_found xs rising c some below) is

-- no interval begins between the beginning of that of a number and the number
none_between : (xs : List ℕ) → IsStrictlyIncreasing xs → (c i : ℕ) → IsInterval xs c i → NoneBetween xs (at xs i) c
none_between xs rising c i is b h above = grind (arith, get_or_default, rises)

module _ (p : Program) (kinds : Distinctions) (before : CoverBefore kinds p.states) (after : CoverAfter kinds p.states) (begins blocks members : List ℕ)
    (rising : IsStrictlyIncreasing begins) (first : at begins 0 ≡ 0) (some : 0 < length begins) (bounds : AreBounds p.states kinds begins)
    (split : AreSplit begins blocks p.states) (by_kinds : AreSplitByKinds begins blocks kinds) (have : HaveMembers begins blocks members) where
  -- first characters of two intervals of a block
  block_alike : (j i : ℕ) → j < length begins → i < length begins → at blocks j ≡ at blocks i → seen kinds (kind_of_byte (at begins j)) ≡ seen kinds (kind_of_byte (at begins i))
  block_alike j i jl il same = grind (arith, seen_alike)

  member_alike : (c : ℕ) → is_scalar c ≡ true → (i : ℕ) → IsInterval begins c i → AreAlike p (Some (at members (at blocks i))) (Some c)
  member_alike c c_is i is =
      let j = have.is (at blocks i) (have.below i is.within) in
      let near : AreTakenAlike p.states kinds (at begins i) c = bounds (at begins i) c c_is is.begins_below (none_between begins rising c i is) in
      characters_alike p kinds before after (at members (at blocks i)) c
      (λ q. ap (λ n. takes (state_at p.states q) n) (sym j.3) ∙ split q j.0 i j.1 is.within j.2 ∙ near.by_states q)
      (ap (λ n. seen kinds (kind_of_byte n)) (sym j.3) ∙ block_alike j.0 i j.1 is.within j.2 ∙ near.by_kinds)

  pub are_classes : AreClasses p (classes_of (record { begins = begins; classes = blocks; members = members }))
  are_classes None is = subst (λ o. AreAlike p o None) (sym (slice_get_past members (length members) (omega arith))) (alike_itself p None)
  are_classes (Some c) is = grind (arith, common_steps, slice_get_past, alike_itself, interval_found, slice_get-get_or, member_alike)

-- so are those that the code makes of them, if it does
pub made_classes : (p : Program) (kinds : Distinctions) → CoverBefore kinds p.states → CoverAfter kinds p.states → (begins blocks : List ℕ) →
    AreIntervals begins → AreBounds p.states kinds begins → AreSplit begins blocks p.states → AreSplitByKinds begins blocks kinds → (o : Option Intervals) →
    IfSome o (λ v. v ≡ record { begins = begins; classes = blocks; members = v.members }) → IfSome o (λ v. HaveMembers begins blocks v.members) → IfSome o (λ v. AreClasses p (classes_of v))
made_classes p kinds before after begins blocks are bounds split by_kinds None is have = tt
made_classes p kinds before after begins blocks are bounds split by_kinds (Some v) is have =
    subst (λ (u : Intervals). AreClasses p (classes_of u)) (sym is)
    (are_classes p kinds before after begins blocks v.members are.rising are.first are.some bounds split by_kinds have)

module _ (v : Intervals) (sound : AreSound v) where
  -- the class of a character by its interval
  pub class_is : (c i : ℕ) → IsInterval v.begins c i → class_by v (Some c) ≡ at v.classes i
  class_is c i is = ap (at v.classes) (interval_is v.begins sound.rising c i sound.begun (omega (arith, sound.first)) is)

  pub class_below : (c : ℕ) → class_by v (Some c) < length v.members
  class_below c = let is = interval_found v.begins sound.rising c sound.begun (omega (arith, sound.first)) in sound.below (interval_at v.begins c) is.within

-- each class is that of its member, where members begin intervals
pub own_class : (v : Intervals) → IsStrictlyIncreasing v.begins → at v.begins 0 ≡ 0 → HaveMembers v.begins v.classes v.members → (m : ℕ) → m < length v.members →
    class_by v (Some (at v.members m)) ≡ m
own_class v rising first have m lt =
    let j = have.is m lt in
    let is : IsInterval v.begins (at v.begins j.0) j.0 = record {
      within = j.1;
      begins_below = omega arith;
      next_above = λ k more within. AllPairs-from_increasing v.begins rising j.0 k 0 more within;
    } in
    ap (λ c. at v.classes (interval_at v.begins c)) (sym j.3)
    ∙ ap (at v.classes) (interval_is v.begins rising (at v.begins j.0) j.0 (omega arith) (omega (arith, first)) is) ∙ j.2
