-- What callers rely on: anchored trees match the whole haystack, literals are read, ranges are listed, groups participate.
use Rattle.std.proofs.lemmas.Grind.{common_steps}
use Rattle.std.proofs.Common.{◌≡◌, ℕ, zero, suc, ◌+◌, ◌<◌, ◌≤◌, ◌/◌, false, ◌||◌, List, [], ◌∷◌, length, Option, Some, None, IsSome, refl, sym, subst, inl, ⊎_elim, arith, le-leb, eqb-true, eq-eqb}
use Rattle.std.specs.Prelude.{◌==◌}
use Rattle.std.specs.List.{filter_map, cons_option, range_with_len}
use Rattle.std.proofs.Math.Bool.{or_assoc}
use Rattle.std.proofs.lemmas.Bool.Decides.{nat_tests}
use Rattle.std.proofs.lemmas.Bool.{cases_Bool}
use Rattle.bites_spec.specs.Utf8.{places}
use Rattle.bites_spec.specs.Range.{Range, in_range, in_ranges}
use Rattle.bites_spec.specs.Class.{Set, none, union}
use Rattle.bites_spec.specs.Look.{start, end, holds, Holds}
use Rattle.bites_spec.specs.Slots.{group_in}
use Rattle.bites_spec.specs.RangesOf.{ranges_of}
use Rattle.bites_spec.specs.CallerLaws.{StartIsPlace, AnchoredIsWhole, AnchoredMatchesWhole, LiteralIsRead, range_set, with_ranges, UnionsAreListed, RangesAreListed, EachParticipates}
use Rattle.bites_spec.proofs.classes.ClassLemmas.{ranges_of_list, lists_are_ranges_of}
use Rattle.bites_spec.proofs.grammar.WholeOnce.{reads_once}
use Rattle.bites_spec.proofs.grammar.WholeSound.{read_within}

pub start_is_place : StartIsPlace
unfolding places
start_is_place hay s le = rw (le-leb s (length hay) le) (inl refl)

pub at_start : (hay : List ℕ) (i : ℕ) → Holds start hay i → i ≡ 0
unfolding holds
at_start hay i h = eqb-true i 0 h

at_end : (hay : List ℕ) (i : ℕ) → Holds end hay i → i ≡ length hay
unfolding holds
at_end hay i h = eqb-true i (length hay) h

pub holds_start : (hay : List ℕ) → Holds start hay 0
unfolding holds
holds_start hay = refl

holds_end : (hay : List ℕ) → Holds end hay (length hay)
unfolding holds
holds_end hay = eq-eqb (length hay) (length hay) refl

pub anchored_matches_whole : AnchoredMatchesWhole
anchored_matches_whole t hay i j (l, begins, (k, m, (e, ends, rest))) = grind (arith, common_steps, at_start, at_end)

pub anchored_is_whole : AnchoredIsWhole
anchored_is_whole t hay = (
  λ (i, j, place, m). (anchored_matches_whole t hay i j m).2,
  λ m. (0, length hay, start_is_place hay 0 (omega arith), (0, (holds_start hay, refl), (length hay, m, (length hay, (holds_end hay, refl), refl)))),
)

pub literal_is_read : LiteralIsRead
literal_is_read pattern flags nest_limit t is =
    let reading = (read_within ranges_of ranges_of_list nest_limit pattern flags t is).reading in
    (reading, λ u reads. reads_once pattern flags u t reads reading)

-- the set of a range has the same test as the range
same_range : (r : Range) (c : ℕ) → range_set r c ≡ in_range r c
same_range r c = grind (arith, common_steps, eqb-true, cases_Bool)

same_union : (set : Set) (ranges : List Range) (c : ℕ) → with_ranges set ranges c ≡ (set c || in_ranges ranges c)
same_union set [] c = grind arith
same_union set (r ∷ ranges) c = grind (arith, common_steps, same_range, or_assoc, (same_union (union set (range_set r)) ranges c))

pub ranges_are_listed : RangesAreListed
ranges_are_listed set ranges canonical same =
    sym (lists_are_ranges_of set ranges (record { canonical = canonical; same = same }))

pub unions_are_listed : UnionsAreListed
unions_are_listed ranges canonical =
    ranges_are_listed (with_ranges none ranges) ranges canonical (λ c scalar. sym (same_union none ranges c))

module _ {B : Type 0} (f : ℕ → Option B) where
  at_most : (s n : ℕ) → length (filter_map f (range_with_len s n)) ≤ n
  at_most s zero = omega arith
  at_most s (suc n) = by (f s) (at_most (s + 1) n)
    where
      by : (o : Option B) → length (filter_map f (range_with_len (s + 1) n)) ≤ n →
          length (cons_option o (filter_map f (range_with_len (s + 1) n))) ≤ suc n
      by None le = omega arith
      by (Some b) le = omega arith

  all_some : (s n : ℕ) → n ≤ length (filter_map f (range_with_len s n)) → (j : ℕ) → s ≤ j → j < s + n → IsSome (f j)
  all_some s zero enough j from below = absurd (omega arith)
  all_some s (suc n) enough j from below = by (f s) refl enough (all_some (s + 1) n)
    where
      by : (o : Option B) → f s ≡ o → suc n ≤ length (cons_option o (filter_map f (range_with_len (s + 1) n))) →
          (n ≤ length (filter_map f (range_with_len (s + 1) n)) → (k : ℕ) → s + 1 ≤ k → k < (s + 1) + n → IsSome (f k)) → IsSome (f j)
      by None e le more = let most = at_most (s + 1) n in absurd (omega arith)
      by (Some b) e le more =
          ⊎_elim (λ is. subst (λ k. IsSome (f k)) (eqb-true s j is) (subst IsSome (sym e) refl))
          (λ is. more (omega arith) j (later is) (omega arith))
          (cases_Bool (s == j))
        where
          later : (s == j) ≡ false → s + 1 ≤ j
          later is = grind (arith, nat_tests)

pub each_participates : EachParticipates
each_participates slots enough k below = all_some (group_in slots) 0 (length slots / 2) enough k (omega arith) (omega arith)
