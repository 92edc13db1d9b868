-- At least as many groups participate in an answer and in its slots as the form gives.
use Rattle.std.proofs.lemmas.Grind.{common_steps}
use Rattle.std.proofs.Common.{◌≡◌, ℕ, zero, suc, ◌+◌, ◌/◌, ◌<◌, ◌≤◌, Bool, true, false, List, [], ◌∷◌, length, Option, Some, None, IsSome, is_some, option_map, refl, sym, ap, ◌∙◌, subst, inl, inr, ⊎_elim, true≢false, arith, ◌⊎◌, eq-eqb}
use Rattle.std.specs.Prelude.{◌==◌, if◌then◌else◌}
use Rattle.std.specs.Option.{option_or}
use Rattle.std.specs.List.{range_with_len, filter_map}
use Rattle.std.proofs.lemmas.Option.{none-some}
use Rattle.std.proofs.lemmas.List.{get_or_past}
use Rattle.bites_spec.specs.Walks.{Among, AllApart}
use Rattle.bites_spec.specs.Tree.{Tree}
use Rattle.bites_spec.specs.Measure.{static_count, static_captures_len}
use Rattle.bites_spec.specs.Match.{Span, Mark, IsMarked, Parse, last_mark, groups}
use Rattle.bites_spec.specs.Built.{IsCompilable}
use Rattle.bites_spec.specs.Run.{slots}
use Rattle.bites_spec.specs.Slots.{group_in, participating}
use Rattle.bites_spec.specs.FoundLaws.{ParticipateAtLeast, StaticLenIsLeast}
use Rattle.bites_spec.specs.RunLaws.{StaticLenParticipates}
use Rattle.bites_spec.proofs.parses.StaticLemmas.{witness}
use Rattle.bites_spec.proofs.programs.BuiltLemmas.{groups_positive, run_is_parse}
use Rattle.bites_spec.proofs.programs.FoundLemmas.{same_groups}

some_or : {A : Type 0} (o q : Option A) → IsSome o ⊎ IsSome q → IsSome (option_or o q)
some_or None q h = ⊎_elim (λ no. absurd (true≢false (sym no))) (λ yes. yes) h
some_or (Some x) q h = refl

-- a group that is marked has a last mark
marked_last : (ms : List Mark) (k : ℕ) → IsMarked ms k → IsSome (last_mark ms k)
marked_last [] k h = absurd h
marked_last (m ∷ ms) k h =
    some_or (last_mark ms k) (if m.group == k then Some m.span else None)
    (⊎_elim (λ (e : m.group ≡ k). inr (ap (λ b. is_some (if b then Some m.span else None)) (eq-eqb m.group k e))) (λ later. inl (marked_last ms k later)) h)

static_parts : (t : Tree) (n : ℕ) → static_captures_len t ≡ Some n → (m : ℕ) × (static_count t ≡ Some m) × (suc m ≡ n)
static_parts t n e = grind (arith, common_steps, option_map, none-some)

-- in each parse, at least as many groups participate as the form gives, group 0 included
parse_participates : (t : Tree) → IsCompilable t → (n : ℕ) → static_captures_len t ≡ Some n → (hay : List ℕ) (i j : ℕ) (ms : List Mark) → Parse hay t i j ms →
    ParticipateAtLeast n (groups i j ms)
parse_participates t fit n e hay i j ms parse =
    let count = static_parts t n e in
    let w = witness hay t fit.numbers count.0 count.1 i j ms parse in
    let positive : (k : ℕ) → Among w.ks k → 1 ≤ k = (λ k h. groups_positive t fit.reduced k (w.within k h)) in (
      0 ∷ w.ks,
      ap suc w.many ∙ count.2,
      (λ h. absurd (let one = positive 0 h in omega (arith, one)), w.apart),
      λ k h. ⊎_elim (λ (zero_is : 0 ≡ k). subst (λ x. IsSome (groups i j ms x)) zero_is refl)
          (λ later. of_positive k (positive k later) (w.marked k later)) h,
    )
  where
    of_positive : (k : ℕ) → 1 ≤ k → IsMarked ms k → IsSome (groups i j ms k)
    of_positive zero le marked = absurd (omega (arith, le))
    of_positive (suc k) le marked = marked_last ms (suc k) marked

same_part : (n : ℕ) (f g : ℕ → Option Span) → ((k : ℕ) → f k ≡ g k) → ParticipateAtLeast n g → ParticipateAtLeast n f
same_part n f g same (ks, many, apart, all) = (ks, many, apart, λ k h. subst (λ (o : Option Span). IsSome o) (sym (same k)) (all k h))

pub static_len_is_least : StaticLenIsLeast
static_len_is_least t fit n e hay ps a found = grind (arith, common_steps, same_part, parse_participates)

-- a list without one of its elements, shorter by one
record Without (ys : List ℕ) (x : ℕ) : Type 0 where
  rest : List ℕ
  shorter : length ys ≡ suc (length rest)
  kept : (k : ℕ) → Among ys k → (k ≡ x → ⊥) → Among rest k

without : (ys : List ℕ) (x : ℕ) → Among ys x → Without ys x
without [] x h = absurd h
without (y ∷ ys) x h =
    ⊎_elim
    (λ (e : y ≡ x). record {
      rest = ys;
      shorter = refl;
      kept = λ k among other. ⊎_elim (λ (is : y ≡ k). absurd (other (sym is ∙ e))) (λ later. later) among;
    })
    (λ later. let w = without ys x later in record {
      rest = y ∷ w.rest;
      shorter = ap suc w.shorter;
      kept = λ k among other. ⊎_elim (λ (is : y ≡ k). inl is) (λ behind. inr (w.kept k behind other)) among;
    })
    h

-- a list of distinct numbers, all from another list, is no longer than that list
pub apart_length : (xs ys : List ℕ) → AllApart xs → ((k : ℕ) → Among xs k → Among ys k) → length xs ≤ length ys
apart_length [] ys apart inside = omega arith
apart_length (x ∷ xs) ys apart inside =
    let w = without ys x (inside x (inl refl)) in
    let more = apart_length xs w.rest apart.1 (λ k h. w.kept k (inside k (inr h)) (λ (e : k ≡ x). apart.0 (subst (λ (z : ℕ). Among xs z) e h))) in
    omega (arith, more, w.shorter)

module _ (f : ℕ → Option Span) where
  -- the numbers that have a span
  abbrev known : List ℕ → List ℕ
  known [] = []
  known (k ∷ ks) = if is_some (f k) then k ∷ known ks else known ks

  known_length : (ks : List ℕ) → length (known ks) ≡ length (filter_map f ks)
  known_length [] = refl
  known_length (k ∷ ks) = grind (arith, common_steps, (known_length ks))

  known_among : (ks : List ℕ) (x : ℕ) → Among ks x → IsSome (f x) → Among (known ks) x
  known_among [] x h some = absurd h
  known_among (k ∷ ks) x h some =
      ⊎_elim
      (λ (e : k ≡ x).
      let yes : is_some (f k) ≡ true = subst (λ (y : ℕ). is_some (f y) ≡ true) (sym e) some in
      subst (λ b. Among (if b then k ∷ known ks else known ks) x) (sym yes) (inl e))
      (λ later. at_test (is_some (f k)) (known_among ks x later some))
      h
    where
      at_test : (b : Bool) → Among (known ks) x → Among (if b then k ∷ known ks else known ks) x
      at_test true a = inr a
      at_test false a = a

among_range : (a n k : ℕ) → k < n → Among (range_with_len a n) (a + k)
among_range a zero k lt = absurd (omega (arith, lt))
among_range a (suc n) zero lt = inl (omega arith)
among_range a (suc n) (suc k) lt = inr (subst (λ (x : ℕ). Among (range_with_len (a + 1) n) x) (next a k) (among_range (a + 1) n k (omega (arith, lt))))
  where
    next : (a k : ℕ) → a + 1 + k ≡ a + suc k
    next a k = omega arith

pub among_first : (n k : ℕ) → k < n → Among (range_with_len 0 n) k
among_first n k lt = subst (λ (x : ℕ). Among (range_with_len 0 n) x) (from_zero k) (among_range 0 n k lt)
  where
    from_zero : (k : ℕ) → 0 + k ≡ k
    from_zero k = omega arith

some_in : (os : List (Option ℕ)) (k : ℕ) → IsSome (group_in os k) → k < length os / 2
some_in os k some = grind (arith, common_steps, true≢false, get_or_past)

-- n distinct groups that participate are all in the list of those that do
least_participating : (n : ℕ) (os : List (Option ℕ)) → ParticipateAtLeast n (group_in os) → n ≤ length (participating os)
least_participating n os (ks, many, apart, all) =
    let range = range_with_len 0 (length os / 2) in
    let fits = apart_length ks (known (group_in os) range) apart
    (λ k h. known_among (group_in os) range k (among_first (length os / 2) k (some_in os k (all k h))) (all k h)) in
    omega (arith, fits, many, known_length (group_in os) range)

pub static_len_participates : StaticLenParticipates
static_len_participates t p hay fit built n e r runs =
    let x = run_is_parse t p hay fit built r.start r.end r.configurations runs in
    least_participating n (slots p r)
    (same_part n (group_in (slots p r)) (groups r.start r.end x.0) (λ k. same_groups t p hay fit built r x.0 x.2 k)
    (parse_participates t fit n e hay r.start r.end x.0 x.1))
