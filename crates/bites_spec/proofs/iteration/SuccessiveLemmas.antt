-- The function `successive` returns the one list of successive answers that the relation has.
use Rattle.std.proofs.lemmas.Grind.{common_steps}
use Rattle.std.proofs.Common.{◌≡◌, ℕ, zero, suc, ◌+◌, ◌<◌, ◌≤◌, true, cond, List, [], ◌∷◌, map, length, Option, Some, None, refl, sym, ap, ap₂, ◌∙◌, subst, inl, arith}
use Rattle.std.specs.Prelude.{option_map, ◌==◌, ◌&&◌}
use Rattle.std.proofs.lemmas.Bool.{eq-eqb, and_parts, and_from}
use Rattle.bites_spec.specs.Utf8.{step_len}
use Rattle.bites_spec.specs.Match.{Span}
use Rattle.bites_spec.specs.Spans.{IsEmptyAt, IsNextAfter, Follow, Successive, is_empty_at, next_after, followed, some_after, successive_after, successive, AnswersLie}
use Rattle.bites_spec.proofs.iteration.SpanLemmas.{next_lies}

module _ {B : Type 0} (span_of : B → Span) (hay : List ℕ) (A : ℕ → Option B) where
  -- the function A, as a relation of a start and an answer
  abbrev Answers : ℕ → Option B → Type 0
  Answers s o = A s ≡ o

  -- an answer that passes the test for emptiness is empty in the relation; below it, the converse
  tests_empty : (e : ℕ) (x : B) → is_empty_at span_of e (Some x) ≡ true → IsEmptyAt span_of hay Answers e (Some x)
  tests_empty e x h = grind (arith, common_steps, and_parts)

  empty_tests : (e : ℕ) (x : B) → IsEmptyAt span_of hay Answers e (Some x) → is_empty_at span_of e (Some x) ≡ true
  empty_tests e x h =
      and_from ((span_of x).start == e) ((span_of x).end == e) (eq-eqb (span_of x).start e h.0) (eq-eqb (span_of x).end e h.1)

  next_by : (e : ℕ) (now later : Option B) → A e ≡ now → A (e + step_len hay e) ≡ later →
      IsNextAfter span_of hay Answers e (cond (is_empty_at span_of e now) later now)
  next_by e None later p q = inl (p, λ h. h)
  next_by e (Some x) later p q = grind (arith, common_steps, tests_empty, empty_tests)

  -- what the function returns is next
  pub next_after-IsNextAfter : (e : ℕ) → IsNextAfter span_of hay Answers e (next_after span_of hay A e)
  unfolding next_after
  next_after-IsNextAfter e = next_by e (A e) (A (e + step_len hay e)) refl refl

  one_now : (e : ℕ) (now later o : Option B) → now ≡ o → (IsEmptyAt span_of hay Answers e o → ⊥) →
      o ≡ cond (is_empty_at span_of e now) later now
  one_now e None later o p some = sym p
  one_now e (Some x) later o p some = grind (arith, common_steps, tests_empty)

  one_later : (e : ℕ) (now later o : Option B) (x : B) → now ≡ Some x → IsEmptyAt span_of hay Answers e (Some x) → later ≡ o →
      o ≡ cond (is_empty_at span_of e now) later now
  one_later e now later o x p empty q =
      subst (λ z. o ≡ cond (is_empty_at span_of e z) later z) (sym p) (rw (empty_tests e x empty) (sym q))

  -- and nothing else is next
  pub next_after-one : (e : ℕ) (o : Option B) → IsNextAfter span_of hay Answers e o → o ≡ next_after span_of hay A e
  unfolding next_after
  next_after-one e o is_next = grind (arith, common_steps, one_now)

  follow_one : (First : Option B → Type 0) (only : (o r : Option B) → First o → First r → o ≡ r) (xs ys : List B) →
      Follow span_of hay Answers First xs → Follow span_of hay Answers First ys → xs ≡ ys
  follow_one First only [] [] p q = refl
  follow_one First only [] (y ∷ ys) p q = let e = only None (Some y) p q.0 in cc
  follow_one First only (x ∷ xs) [] p q = let e = only (Some x) None p.0 q in cc
  follow_one First only (x ∷ xs) (y ∷ ys) p q =
      let same = some_same x y (only (Some x) (Some y) p.0 q.0) in
      ap₂ (λ a b. a ∷ b) same
      (follow_one (IsNextAfter span_of hay Answers (span_of x).end)
      (λ o r h k. next_after-one (span_of x).end o h ∙ sym (next_after-one (span_of x).end r k)) xs ys p.1
      (subst (λ z. Follow span_of hay Answers (IsNextAfter span_of hay Answers (span_of z).end) ys) (sym same) q.1))
    where
      some_same : (x y : B) → Some x ≡ Some y → x ≡ y
      some_same x y e = cc

  -- at most one list is that of the successive answers
  pub successive_once : (xs ys : List B) → Successive span_of hay Answers xs → Successive span_of hay Answers ys → xs ≡ ys
  successive_once xs ys p q = follow_one (Answers 0) (λ o r h k. sym h ∙ k) xs ys p q

module _ {B : Type 0} (span_of : B → Span) (hay : List ℕ) (A : ℕ → Option B) (lies : AnswersLie span_of hay A) where
  -- the next item ends above the end after which it comes
  pub next_after-above : (e : ℕ) (x : B) → next_after span_of hay A e ≡ Some x → (e < (span_of x).end) × ((span_of x).end ≤ length hay)
  next_after-above e x is = grind (arith, common_steps, next_lies, next_after-IsNextAfter)

  same_followed : (f g : ℕ → List B) (o : Option B) → ((x : B) → o ≡ Some x → f (span_of x).end ≡ g (span_of x).end) →
      followed span_of f o ≡ followed span_of g o
  same_followed f g None same = refl
  same_followed f g (Some x) same = ap (λ xs. x ∷ xs) (same x refl)

  none_followed : (f : ℕ → List B) (o : Option B) → ((x : B) → o ≡ Some x → ⊥) → [] ≡ followed span_of f o
  none_followed f None never = refl
  none_followed f (Some x) never = absurd (never x refl)

  -- two bounds that are both large enough give the same list
  same_some : (n m e : ℕ) → length hay ≤ n + e → length hay ≤ m + e → some_after span_of hay A n e ≡ some_after span_of hay A m e
  unfolding some_after
  same_some zero zero e p q = refl
  same_some zero (suc m) e p q = grind (arith, common_steps, none_followed, next_after-above)
  same_some (suc n) zero e p q = grind (arith, common_steps, none_followed, next_after-above)
  same_some (suc n) (suc m) e p q =
      same_followed (some_after span_of hay A n) (some_after span_of hay A m) (next_after span_of hay A e)
      (λ x is. let h = next_after-above e x is in let one = h.0 in same_some n m (span_of x).end (omega arith) (omega arith))

  pub goes_on : (e : ℕ) →
      successive_after span_of hay A e ≡ followed span_of (successive_after span_of hay A) (next_after span_of hay A e)
  unfolding successive_after some_after
  goes_on e = same_some (length hay) (suc (length hay)) e (omega arith) (omega arith)

  follows : (behind : ℕ → List B) (First : Option B → Type 0) (o : Option B) → First o →
      ((x : B) → o ≡ Some x → Follow span_of hay (λ s r. A s ≡ r) (IsNextAfter span_of hay (λ s r. A s ≡ r) (span_of x).end) (behind (span_of x).end)) →
      Follow span_of hay (λ s r. A s ≡ r) First (followed span_of behind o)
  follows behind First None first more = first
  follows behind First (Some x) first more = (first, more x refl)

  none_next : (e : ℕ) (o : Option B) → IsNextAfter span_of hay (λ s r. A s ≡ r) e o → ((x : B) → o ≡ Some x → ⊥) → IsNextAfter span_of hay (λ s r. A s ≡ r) e None
  none_next e None is_next never = is_next
  none_next e (Some x) is_next never = absurd (never x refl)

  some_follow : (n e : ℕ) → length hay ≤ n + e →
      Follow span_of hay (λ s r. A s ≡ r) (IsNextAfter span_of hay (λ s r. A s ≡ r) e) (some_after span_of hay A n e)
  unfolding some_after
  some_follow zero e p =
      none_next e (next_after span_of hay A e) (next_after-IsNextAfter span_of hay A e)
      (λ x is. let h = next_after-above e x is in let one = h.0 in let two = h.1 in omega arith)
  some_follow (suc n) e p =
      follows (some_after span_of hay A n) (IsNextAfter span_of hay (λ s r. A s ≡ r) e) (next_after span_of hay A e) (next_after-IsNextAfter span_of hay A e)
      (λ x is. let h = next_after-above e x is in let one = h.0 in some_follow n (span_of x).end (omega arith))

  -- the function returns the successive answers
  pub successive_follow : Successive span_of hay (λ s r. A s ≡ r) (successive span_of hay A)
  unfolding successive successive_after
  successive_follow = grind (arith, common_steps, follows, some_follow)

-- how many items there are
module _ {B : Type 0} (span_of : B → Span) (hay : List ℕ) (A : ℕ → Option B) where
  followed-length : (f : ℕ → List B) (n : ℕ) (o : Option B) → ((e : ℕ) → length (f e) ≤ n) → length (followed span_of f o) ≤ suc n
  followed-length f n None less = omega arith
  followed-length f n (Some x) less = let le = less (span_of x).end in omega arith

  some_after-length : (n e : ℕ) → length (some_after span_of hay A n e) ≤ n
  unfolding some_after
  some_after-length zero e = omega arith
  some_after-length (suc n) e = followed-length (some_after span_of hay A n) n (next_after span_of hay A e) (some_after-length n)

  -- after an item there are no more items than the haystack has bytes
  pub successive_after-length : (e : ℕ) → length (successive_after span_of hay A e) ≤ length hay
  unfolding successive_after
  successive_after-length e = some_after-length (length hay) e

  pub successive-length : length (successive span_of hay A) ≤ suc (length hay)
  unfolding successive
  successive-length = followed-length (successive_after span_of hay A) (length hay) (A 0) successive_after-length

-- mapped items with the same spans
module _ {B C : Type 0} (f : B → C) (span_of : B → Span) (span_of_image : C → Span)
    (same : (x : B) → span_of_image (f x) ≡ span_of x) (hay : List ℕ) (A : ℕ → Option B) where
  -- the image of each answer
  abbrev image : ℕ → Option C
  image s = option_map f (A s)

  mapped_empty : (e : ℕ) (o : Option B) → is_empty_at span_of_image e (option_map f o) ≡ is_empty_at span_of e o
  mapped_empty e None = refl
  mapped_empty e (Some x) = ap (λ (s : Span). (s.start == e) && (s.end == e)) (same x)

  mapped_next : (e : ℕ) → next_after span_of_image hay image e ≡ option_map f (next_after span_of hay A e)
  unfolding next_after
  mapped_next e = grind (arith, common_steps, mapped_empty)

  mapped_followed : (g : ℕ → List B) (h : ℕ → List C) → ((e : ℕ) → map f (g e) ≡ h e) → (o : Option B) →
      map f (followed span_of g o) ≡ followed span_of_image h (option_map f o)
  mapped_followed g h more None = refl
  mapped_followed g h more (Some x) =
      ap (λ xs. f x ∷ xs) (more (span_of x).end ∙ ap (λ (s : Span). h s.end) (sym (same x)))

  mapped_some : (n e : ℕ) → map f (some_after span_of hay A n e) ≡ some_after span_of_image hay image n e
  unfolding some_after
  mapped_some zero e = refl
  mapped_some (suc n) e =
      mapped_followed (some_after span_of hay A n) (some_after span_of_image hay image n) (mapped_some n) (next_after span_of hay A e)
      ∙ ap (followed span_of_image (some_after span_of_image hay image n)) (sym (mapped_next e))

  pub mapped_after : (e : ℕ) → map f (successive_after span_of hay A e) ≡ successive_after span_of_image hay image e
  unfolding successive_after
  mapped_after e = mapped_some (length hay) e

  pub mapped_successive : map f (successive span_of hay A) ≡ successive span_of_image hay image
  unfolding successive
  mapped_successive = mapped_followed (successive_after span_of hay A) (successive_after span_of_image hay image) mapped_after (A 0)
