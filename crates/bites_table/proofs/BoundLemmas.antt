-- Characters without a bound between them are taken alike, and their kinds are not told apart.
use Rattle.bites_table.proofs.Library.{common_steps, ◌==◌, nat_le, slice_index_or, IsStrictlyIncreasing, nat_tests, take_more, AllPairs-from_increasing, Range, in_range, in_ranges, State, state_at, takes, char, ranges, splits, goto, capture, fail, match, ◌≡◌, ℕ, zero, suc, ◌+◌, ◌<◌, ◌≤◌, Bool, true, false, cond, ◌||◌, List, [], ◌∷◌, ◌++◌, take, length, refl, sym, ap, ap₂, ◌∙◌, ◌⊎◌, arith, append_assoc, Contains, Contains-append_left, Contains-append_right, is_scalar, following}
use Rattle.bites_table.proofs.Words.{kind_of_byte, is_line, is_return, is_word_kind, seen, Distinctions, bounds_after, ends_of, bounds_of_state, bounds_of, line_feeds, carriage_returns, word_bytes, bounds_of_kinds, NoneBetween, AreBounds}
use Rattle.bites_table.proofs.KindLemmas.{line_feed_is, carriage_return_is, word_is, no_edge}

first : {X : Type 0} (x : X) (xs : List X) → Contains (x ∷ xs) x
first x xs = (0, omega arith, refl)

later : {X : Type 0} (y : X) (xs : List X) (x : X) → Contains xs x → Contains (y ∷ xs) x
later y xs x (k, lt, is) = (suc k, omega arith, is)

-- a range of one character
pub single : (x c : ℕ) → (c == x) ≡ in_ranges ((x, x) ∷ []) c
single x c = grind (arith, nat_tests)

scalar_cases : (c : ℕ) → is_scalar c ≡ true → (c < 0xD800) ⊎ ((0xE000 ≤ c) × (c ≤ 0x10_FFFF))
scalar_cases c is = grind (arith, nat_tests)

-- what is seen of the kind of a character
line_at : (c : ℕ) → is_line (kind_of_byte c) ≡ in_ranges line_feeds c
line_at c = grind (arith, common_steps, no_edge, line_feed_is, nat_tests)

return_at : (c : ℕ) → is_return (kind_of_byte c) ≡ in_ranges carriage_returns c
return_at c = grind (arith, common_steps, carriage_return_is, nat_tests)

word_at : (c : ℕ) → is_word_kind (kind_of_byte c) ≡ in_ranges word_bytes c
word_at c = grind (arith, common_steps, word_is, nat_tests)

-- kinds of characters in the same ranges
pub seen_alike : (d : Distinctions) (c e : ℕ) → (d.line ≡ true → in_ranges line_feeds c ≡ in_ranges line_feeds e) →
    (d.carriage_return ≡ true → in_ranges carriage_returns c ≡ in_ranges carriage_returns e) →
    (d.word ≡ true → in_ranges word_bytes c ≡ in_ranges word_bytes e) → seen d (kind_of_byte c) ≡ seen d (kind_of_byte e)
seen_alike d c e line return word = grind (arith, no_edge, line_at, return_at, word_at)

-- a character and a number that is not above it
module _ (c d : ℕ) (d_is : is_scalar d ≡ true) (le : c ≤ d) where
  -- a range does not tell them apart
  high_alike : (hi : ℕ) → NoneBetween (bounds_after hi) c d → nat_le c hi ≡ nat_le d hi
  high_alike hi none = by_end (hi == 0x10_FFFF) refl none
    where
      by_gap : (x : Bool) → (hi == 0xD7FF) ≡ x → (c < cond x 0xE000 (hi + 1) → d < cond x 0xE000 (hi + 1)) → nat_le c hi ≡ nat_le d hi
      by_gap x e none = grind (arith, common_steps, scalar_cases, nat_tests)

      by_end : (x : Bool) → (hi == 0x10_FFFF) ≡ x → NoneBetween (cond x [] (following hi ∷ [])) c d → nat_le c hi ≡ nat_le d hi
      by_end true e none = grind (arith, common_steps, scalar_cases, nat_tests, by_gap, first)
      by_end false e none = by_gap (hi == 0xD7FF) refl (none (following hi) (first (following hi) []))

  range_alike : (r : Range) → (c < r.0 → d < r.0) → NoneBetween (bounds_after r.1) c d → in_range r c ≡ in_range r d
  range_alike r low high = grind (arith, common_steps, high_alike, nat_tests)

  -- nor do ranges
  ranges_alike : (rs : List Range) → NoneBetween (ends_of rs) c d → in_ranges rs c ≡ in_ranges rs d
  ranges_alike [] none = refl
  ranges_alike (r ∷ rs) none =
      ap₂ ◌||◌
      (range_alike r (none r.0 (first r.0 (bounds_after r.1 ++ ends_of rs))) (λ b h. none b (later r.0 (bounds_after r.1 ++ ends_of rs) b (Contains-append_left (bounds_after r.1) (ends_of rs) b h))))
      (ranges_alike rs (λ b h. none b (later r.0 (bounds_after r.1 ++ ends_of rs) b (Contains-append_right (bounds_after r.1) (ends_of rs) b h))))

  -- nor does a state
  state_alike : (s : State) → NoneBetween (bounds_of_state s) c d → takes s c ≡ takes s d
  state_alike (char q x) none = single x c ∙ ranges_alike ((x, x) ∷ []) none ∙ sym (single x d)
  state_alike (ranges q rs) none = ranges_alike rs none
  state_alike (splits qs b) none = refl
  state_alike (goto q look) none = refl
  state_alike (capture q k) none = refl
  state_alike fail none = refl
  state_alike match none = refl

  states_alike : (ss : List State) → NoneBetween (bounds_of ss) c d → (q : ℕ) → takes (state_at ss q) c ≡ takes (state_at ss q) d
  states_alike [] none q = refl
  states_alike (s ∷ ss) none zero = state_alike s (λ b h. none b (Contains-append_left (bounds_of_state s) (bounds_of ss) b h))
  states_alike (s ∷ ss) none (suc q) = states_alike ss (λ b h. none b (Contains-append_right (bounds_of_state s) (bounds_of ss) b h)) q

  -- nor do kinds
  kinds_alike : (kinds : Distinctions) → NoneBetween (bounds_of_kinds kinds) c d → seen kinds (kind_of_byte c) ≡ seen kinds (kind_of_byte d)
  kinds_alike kinds none =
      seen_alike kinds c d
      (λ told. ranges_alike line_feeds (λ b h. none b (Contains-append_left lines (returns ++ words) b (rw told h))))
      (λ told. ranges_alike carriage_returns (λ b h. none b (Contains-append_right lines (returns ++ words) b (Contains-append_left returns words b (rw told h)))))
      (λ told. ranges_alike word_bytes (λ b h. none b (Contains-append_right lines (returns ++ words) b (Contains-append_right returns words b (rw told h)))))
    where
      lines : List ℕ
      lines = cond kinds.line (ends_of line_feeds) []

      returns : List ℕ
      returns = cond kinds.carriage_return (ends_of carriage_returns) []

      words : List ℕ
      words = cond kinds.word (ends_of word_bytes) []

-- so these are bounds, and so are others that have them all
pub are_bounds : (ss : List State) (kinds : Distinctions) (bounds : List ℕ) →
    ((b : ℕ) → Contains (((0 ∷ []) ++ bounds_of_kinds kinds) ++ bounds_of ss) b → Contains bounds b) → AreBounds ss kinds bounds
are_bounds ss kinds bounds all c d d_is le none = record {
  by_states = states_alike c d d_is le ss (λ b h. none b (all b (Contains-append_right ((0 ∷ []) ++ bounds_of_kinds kinds) (bounds_of ss) b h)));
  by_kinds = kinds_alike c d d_is le kinds (λ b h. none b (all b (Contains-append_left ((0 ∷ []) ++ bounds_of_kinds kinds) (bounds_of ss) b (Contains-append_right (0 ∷ []) (bounds_of_kinds kinds) b h))));
}

-- and 0 is one of them
pub has_zero : (ss : List State) (kinds : Distinctions) (bounds : List ℕ) →
    ((b : ℕ) → Contains (((0 ∷ []) ++ bounds_of_kinds kinds) ++ bounds_of ss) b → Contains bounds b) → Contains bounds 0
has_zero ss kinds bounds all = grind (arith, common_steps, Contains-append_left, first)

-- the first of rising numbers with 0 among them
pub first_is_zero : (xs : List ℕ) → IsStrictlyIncreasing xs → Contains xs 0 → (slice_index_or xs 0 0 ≡ 0) × (0 < length xs)
first_is_zero xs rising h = grind (arith, common_steps, AllPairs-from_increasing)

-- one range more
pub ends-more : (rs : List Range) (r : Range) → ends_of (rs ++ r ∷ []) ≡ ends_of rs ++ (r.0 ∷ bounds_after r.1)
ends-more [] r = grind (arith, common_steps, append_assoc)
ends-more (x ∷ rs) r = ap (λ l. x.0 ∷ (bounds_after x.1 ++ l)) (ends-more rs r) ∙ ap (λ l. x.0 ∷ l) (sym (append_assoc (bounds_after x.1) (ends_of rs) (r.0 ∷ bounds_after r.1)))

-- one state more
pub bounds-more : (ss : List State) (s : State) → bounds_of (ss ++ s ∷ []) ≡ bounds_of ss ++ bounds_of_state s
bounds-more [] s = grind (arith, common_steps, append_assoc)
bounds-more (x ∷ ss) s = ap (λ l. bounds_of_state x ++ l) (bounds-more ss s) ∙ sym (append_assoc (bounds_of_state x) (bounds_of ss) (bounds_of_state s))

-- a loop over ranges goes one further
pub one_range : (old now one two : List ℕ) (rs : List Range) (i : ℕ) → i < length rs → now ≡ old ++ ends_of (take i rs) →
    one ≡ now ++ (slice_index_or rs i (0, 0)).0 ∷ [] → two ≡ one ++ bounds_after (slice_index_or rs i (0, 0)).1 → two ≡ old ++ ends_of (take (i + 1) rs)
one_range old now one two rs i lt is first second = grind (arith, common_steps, first, append_assoc, ends-more, take_more)

-- and one over states
pub one_state : (old now next : List ℕ) (ss : List State) (i : ℕ) (d : State) → i < length ss → now ≡ old ++ bounds_of (take i ss) →
    next ≡ now ++ bounds_of_state (slice_index_or ss i d) → next ≡ old ++ bounds_of (take (i + 1) ss)
one_state old now next ss i d lt is more = grind (arith, common_steps, append_assoc, bounds-more, take_more)
