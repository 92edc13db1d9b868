-- Marked lanes, the masks of them, and the offsets of a haystack that they stand for.
use Rattle.std.proofs.Common.{◌≡◌, ℕ, zero, suc, ◌+◌, ◌-◌, ◌*◌, ◌/◌, ◌%◌, ◌^◌, ◌<◌, ◌≤◌, eqb, Bool, true, false, not, cond, ◌||◌, List, [], ◌∷◌, ◌++◌, map, length, get_or, take, drop, replicate, bit_or, w8, refl, sym, ap, ap₂, ◌∙◌, subst, arith, inl, inr, eqb-true, eq-eqb}
use Rattle.std.proofs.lemmas.Bool.{cases_eq, ne_eqb, cond-true, cond-false}
use Rattle.std.proofs.lemmas.List.{map-append, length-map, get_or-map, drop-drop}
use Rattle.std.proofs.lemmas.Nat.{le_or_l, le_or_r, div-mul-add}
use Rattle.std.proofs.lemmas.Nat.Bits.{bit_at-zero, bit_at_above}
use Rattle.std.proofs.lemmas.Simd.{bit_mask_l, bitmask_splat, get_or-chunk, mask_l-lt, length-chunk, first_set_mask_l, run_in_chunk_le, run_in_chunk_fails, run_in_chunk_stops}
use Rattle.std.proofs.Math.Nat.{mul_assoc}
use Rattle.std.proofs.Math.Seq.{take-add}
use Rattle.std.specs.Int.{bit_at}
use Rattle.std.specs.List.{prefix_len}
use lib.Count.{count_leading_zeros, leading_top, count_trailing_zeros, trailing_of_zero}
use lib.Lanes.{zip2, sel_l, mask_l, top, chunk}
use Rattle.bites_scan.specs.Lanes.{is_marked, marks}
use Rattle.bites_scan.specs.Forms.{Agree}
use Rattle.bites_scan.specs.Stops.{AreWords, IsFirstStop, IsLastStop, IsRun, IsTail}

-- ---- lanes that were computed one by one

-- the constant that a choice takes where the top bit of a lane is set
pub chosen : (f : ℕ → ℕ) (v : List ℕ) (n : ℕ) → length v ≡ n → sel_l {A = ℕ} (map (top 7) (map f v)) (replicate n 255) (replicate n 0) ≡ map (λ x. cond (top 7 (f x)) 255 0) v
chosen f [] zero e = refl
chosen f [] (suc n) e = absurd (omega arith)
chosen f (x ∷ xs) zero e = absurd (omega arith)
chosen f (x ∷ xs) (suc n) e = ap (λ r. cond (top 7 (f x)) 255 0 ∷ r) (chosen f xs n (omega arith))

marked : (b : Bool) → is_marked (cond b 255 0) ≡ b
marked true = refl
marked false = refl

marks_map : (f : ℕ → Bool) (p : ℕ → Bool) (v : List ℕ) → ((x : ℕ) → f x ≡ p x) → marks (map (λ x. cond (f x) 255 0) v) ≡ map p v
marks_map f p [] h = refl
marks_map f p (x ∷ xs) h = ap₂ (λ b r. b ∷ r) (marked (f x) ∙ h x) (marks_map f p xs h)

-- a choice between 255 and 0 marks the lanes whose top bit is set
pub marks_chosen : (f : ℕ → ℕ) (p : ℕ → Bool) (v z : List ℕ) → length v ≡ 16 → z ≡ map f v → ((x : ℕ) → top 7 (f x) ≡ p x) → marks (sel_l {A = ℕ} (map (top 7) z) (replicate 16 255) (replicate 16 0)) ≡ map p v
marks_chosen f p v z long e h = ap (λ l. marks (sel_l {A = ℕ} (map (top 7) l) (replicate 16 255) (replicate 16 0))) e ∙ ap marks (chosen f v 16 long) ∙ marks_map (λ x. top 7 (f x)) p v h

pub top_of : (b : Bool) → top 7 (cond b 255 0) ≡ b
top_of true = refl
top_of false = refl

pub top_of_three : (a b c : Bool) → top 7 (bit_or (bit_or (cond a 255 0) (cond b 255 0)) (cond c 255 0)) ≡ (a || b || c)
top_of_three true true true = refl
top_of_three true true false = refl
top_of_three true false true = refl
top_of_three true false false = refl
top_of_three false true true = refl
top_of_three false true false = refl
top_of_three false false true = refl
top_of_three false false false = refl

-- ---- masks

pub masked : (z : List ℕ) → length z ≡ 16 → mask_l (map (top 7) (zip2 (λ a b. cond (not (eqb a b)) 255 0) z (replicate 16 0))) % 2 ^ 64 ≡ mask_l (marks z)
masked z long = bitmask_splat w8 (λ a b. not (eqb a b)) z 16 0 long (omega arith)

unmarked : (x : ℕ) → ◌≡◌ {A = ℕ} (cond (is_marked x) 1 0) 0 → x ≡ 0
unmarked x e = go (eqb x 0) refl e
  where
    go : (t : Bool) → eqb x 0 ≡ t → ◌≡◌ {A = ℕ} (cond (not t) 1 0) 0 → x ≡ 0
    go true p q = eqb-true _ _ p
    go false p q = absurd (omega arith)

unmarked_zero : (x : ℕ) → x ≡ 0 → ◌≡◌ {A = ℕ} (cond (is_marked x) 1 0) 0
unmarked_zero x e = ap (λ n. cond (is_marked n) 1 0) e

-- where no lane of the union is marked, no lane of either is
pub quiet_either : (xs ys : List ℕ) → length xs ≡ length ys → mask_l (marks (zip2 bit_or xs ys)) ≡ 0 → (mask_l (marks xs) ≡ 0) × (mask_l (marks ys) ≡ 0)
quiet_either [] [] e q = (refl, refl)
quiet_either [] (y ∷ ys) e q = absurd (omega arith)
quiet_either (x ∷ xs) [] e q = absurd (omega arith)
quiet_either (x ∷ xs) (y ∷ ys) e q =
    let rest = quiet_either xs ys (omega arith) (omega arith) in
    let none = unmarked (bit_or x y) (omega arith) in
    let a = unmarked_zero x (omega (arith, le_or_l x y)) in
    let b = unmarked_zero y (omega (arith, le_or_r x y)) in
    (omega arith, omega arith)

mask_append : (n : ℕ) (xs ys : List Bool) → length xs ≡ n → mask_l (xs ++ ys) ≡ mask_l xs + 2 ^ n * mask_l ys
mask_append zero [] ys e = omega arith
mask_append zero (x ∷ xs) ys e = absurd (omega arith)
mask_append (suc n) [] ys e = absurd (omega arith)
mask_append (suc n) (x ∷ xs) ys e =
    let twice : 2 ^ suc n ≡ 2 * 2 ^ n = omega arith in
    omega (arith, mask_append n xs ys (omega arith), ap (λ k. k * mask_l ys) twice, mul_assoc 2 (2 ^ n) (mask_l ys))

module _ (a b c d : List Bool) (la : length a ≡ 16) (lb : length b ≡ 16) (lc : length c ≡ 16) (ld : length d ≡ 16) where
  pub mask_of_parts : mask_l (a ++ (b ++ (c ++ d))) ≡ mask_l a + mask_l b * 65536 + mask_l c * 4294967296 + mask_l d * 281474976710656
  mask_of_parts = omega (arith, mask_append 16 a (b ++ (c ++ d)) la, mask_append 16 b (c ++ d) lb, mask_append 16 c d lc)

none_append : (xs ys : List Bool) → mask_l xs ≡ 0 → mask_l ys ≡ 0 → mask_l (xs ++ ys) ≡ 0
none_append xs ys e f = mask_append (length xs) xs ys refl ∙ ap₂ (λ x y. x + 2 ^ length xs * y) e f ∙ omega arith

pub mask_of_none : (a b c d : List Bool) → mask_l a ≡ 0 → mask_l b ≡ 0 → mask_l c ≡ 0 → mask_l d ≡ 0 → mask_l (a ++ (b ++ (c ++ d))) ≡ 0
mask_of_none a b c d ea eb ec ed = none_append a (b ++ (c ++ d)) ea (none_append b (c ++ d) eb (none_append c d ec ed))

pub mask_small : (ms : List Bool) → length ms ≡ 16 → mask_l ms < 65536
mask_small ms e = subst (λ n. mask_l ms < 2 ^ n) e (mask_l-lt ms)

pub length_marks : (z : List ℕ) → length (marks z) ≡ length z
length_marks z = length-map z is_marked

-- ---- from masks to offsets

chunk_parts : (i n m : ℕ) (xs : List ℕ) → chunk i (n + m) xs ≡ chunk i n xs ++ chunk (i + n) m xs
chunk_parts i n m xs = take-add n m (drop i xs) ∙ ap (λ l. take n (drop i xs) ++ take m l) (drop-drop n i xs)

module _ (p : ℕ → Bool) (haystack : List ℕ) (at : ℕ) where
  tests : ℕ → ℕ → List Bool
  tests i n = map p (chunk i n haystack)

  -- the tests of 64 bytes are those of four vectors
  pub four_tests : (a b c d : List Bool) → a ≡ map p (chunk at 16 haystack) → b ≡ map p (chunk (at + 16) 16 haystack) → c ≡ map p (chunk (at + 32) 16 haystack) → d ≡ map p (chunk (at + 48) 16 haystack)
      → a ++ (b ++ (c ++ d)) ≡ map p (chunk at 64 haystack)
  four_tests a b c d ea eb ec ed =
      let at_32 : at + 16 + 16 ≡ at + 32 = omega arith in
      let at_48 : at + 32 + 16 ≡ at + 48 = omega arith in
      let cd = ap (map p) (chunk_parts (at + 32) 16 16 haystack ∙ ap (λ i. chunk (at + 32) 16 haystack ++ chunk i 16 haystack) at_48) ∙ map-append p (chunk (at + 32) 16 haystack) (chunk (at + 48) 16 haystack) in
      let bcd = ap (map p) (chunk_parts (at + 16) 16 32 haystack ∙ ap (λ i. chunk (at + 16) 16 haystack ++ chunk i 32 haystack) at_32) ∙ map-append p (chunk (at + 16) 16 haystack) (chunk (at + 32) 32 haystack) in
      let abcd = ap (map p) (chunk_parts at 16 48 haystack) ∙ map-append p (chunk at 16 haystack) (chunk (at + 16) 48 haystack) in
      ap₂ (λ x y. x ++ y) ea (ap₂ (λ x y. x ++ y) eb (ap₂ (λ x y. x ++ y) ec ed ∙ sym cd) ∙ sym bcd) ∙ sym abcd

  module _ (n m r : ℕ) (room : at + n ≤ length haystack) (few : n ≤ 64) (masks : m ≡ mask_l (map p (chunk at n haystack))) where
    run_of : r ≡ cond (eqb m 0) n (count_trailing_zeros 64 m) → IsRun p haystack at n r
    run_of e =
        let counted : r ≡ prefix_len (λ x. not (p x)) (chunk at n haystack) = e ∙ ap (λ k. cond (eqb k 0) n (count_trailing_zeros 64 k)) masks ∙ first_set_mask_l p (chunk at n haystack) n (length-chunk at n haystack room) few in
        record {
          short = run_in_chunk_le p haystack at n r 0 room counted;
          passed = run_in_chunk_fails p haystack at n r 0 room counted;
          stopped = run_in_chunk_stops p haystack at n r 0 room counted;
        }

    pub run_whole : m ≡ 0 → r ≡ n → IsRun p haystack at n r
    run_whole none e = run_of (e ∙ sym (cond-true (eqb m 0) n (count_trailing_zeros 64 m) (eq-eqb _ _ none)))

    pub run_stopped : (m ≡ 0 → ⊥) → r ≡ count_trailing_zeros 64 m → IsRun p haystack at n r
    run_stopped some e = run_of (e ∙ sym (cond-false (eqb m 0) n (count_trailing_zeros 64 m) (ne_eqb _ _ some)))

  -- of 64 lanes a mask of 0 has 64 zeros too
  pub run_of_64 : (m r : ℕ) → at + 64 ≤ length haystack → m ≡ mask_l (map p (chunk at 64 haystack)) → r ≡ count_trailing_zeros 64 m → IsRun p haystack at 64 r
  run_of_64 m r room masks e =
      elim (cases_eq m 0) [
        | inl none ↦ run_whole 64 m r room (omega arith) masks none (e ∙ ap (count_trailing_zeros 64) none ∙ trailing_of_zero 64)
        | inr some ↦ run_stopped 64 m r room (omega arith) masks some e
      ]

-- a test that agrees with another on bytes stops at the same offset
pub same_stops : (p q : ℕ → Bool) (haystack : List ℕ) (from end : ℕ) → Agree p q → ((k : ℕ) → get_or haystack k 0 < 256) → IsFirstStop p haystack from end → IsFirstStop q haystack from end
same_stops p q haystack from end agree bytes is = record {
  onward = is.onward;
  within = is.within;
  passed = λ k a b. sym (agree (get_or haystack k 0) (bytes k)) ∙ is.passed k a b;
  stopped = λ h. sym (agree (get_or haystack end 0) (bytes end)) ∙ is.stopped h;
}

pub same_last_stops : (p q : ℕ → Bool) (haystack : List ℕ) (start end at : ℕ) → Agree p q → ((k : ℕ) → get_or haystack k 0 < 256) → IsLastStop p haystack start end at → IsLastStop q haystack start end at
same_last_stops p q haystack start end at agree bytes is = record {
  onward = is.onward;
  within = is.within;
  passed = λ k a b. sym (agree (get_or haystack k 0) (bytes k)) ∙ is.passed k a b;
  stopped = λ h. sym (agree (get_or haystack (at - 1) 0) (bytes (at - 1))) ∙ is.stopped h;
}

-- ---- words

-- a bit of the mask of some tests is what the test says of the byte there
bit_there : (p : ℕ → Bool) (bytes : List ℕ) (at n m : ℕ) → at + n ≤ length bytes → m ≡ mask_l (map p (chunk at n bytes)) → (k : ℕ) → k < n → bit_at m k ≡ cond (p (get_or bytes (at + k) 0)) 1 0
bit_there p bytes at n m room masks k h =
    let whole : length (chunk at n bytes) ≡ n = length-chunk at n bytes room in
    ap (λ m. bit_at m k) masks ∙ bit_mask_l (map p (chunk at n bytes)) k
    ∙ ap (λ t. cond t 1 0) (get_or-map p (chunk at n bytes) k 0 false (omega arith) ∙ ap p (get_or-chunk at n bytes k 0 h))

-- the mask of four vectors of a table of all bytes
pub word_bits : (p : ℕ → Bool) (bytes : List ℕ) → length bytes ≡ 256 → ((x : ℕ) → x < 256 → get_or bytes x 0 ≡ x) → (first m : ℕ) (a b c d : List Bool) → first + 64 ≤ 256 → m ≡ mask_l (a ++ (b ++ (c ++ d)))
    → a ≡ map p (chunk first 16 bytes) → b ≡ map p (chunk (first + 16) 16 bytes) → c ≡ map p (chunk (first + 32) 16 bytes) → d ≡ map p (chunk (first + 48) 16 bytes)
    → (k : ℕ) → k < 64 → bit_at m k ≡ cond (p (first + k)) 1 0
word_bits p bytes long itself first m a b c d room e ea eb ec ed k h =
    bit_there p bytes first 64 m (omega arith) (e ∙ ap mask_l (four_tests p bytes first a b c d ea eb ec ed)) k h ∙ ap (λ x. cond (p x) 1 0) (itself (first + k) (omega arith))

module _ (p : ℕ → Bool) (a b c d : ℕ) (ea : (k : ℕ) → k < 64 → bit_at a k ≡ cond (p (0 + k)) 1 0) (eb : (k : ℕ) → k < 64 → bit_at b k ≡ cond (p (64 + k)) 1 0)
    (ec : (k : ℕ) → k < 64 → bit_at c k ≡ cond (p (128 + k)) 1 0) (ed : (k : ℕ) → k < 64 → bit_at d k ≡ cond (p (192 + k)) 1 0) where
  bit_in : (q r byte : ℕ) → r < 64 → 64 * q + r ≡ byte → q < 4 → bit_at (get_or (a ∷ b ∷ c ∷ d ∷ []) q 0) r ≡ cond (p byte) 1 0
  bit_in zero r byte h e l = let at : 0 + r ≡ byte = omega arith in ea r h ∙ ap (λ x. cond (p x) 1 0) at
  bit_in (suc zero) r byte h e l = let at : 64 + r ≡ byte = omega arith in eb r h ∙ ap (λ x. cond (p x) 1 0) at
  bit_in (suc (suc zero)) r byte h e l = let at : 128 + r ≡ byte = omega arith in ec r h ∙ ap (λ x. cond (p x) 1 0) at
  bit_in (suc (suc (suc zero))) r byte h e l = let at : 192 + r ≡ byte = omega arith in ed r h ∙ ap (λ x. cond (p x) 1 0) at
  bit_in (suc (suc (suc (suc q)))) r byte h e l = absurd (omega arith)

  pub are_words : AreWords p (a ∷ b ∷ c ∷ d ∷ [])
  are_words byte h = bit_in (byte / 64) (byte % 64) byte (omega arith) (omega arith) (omega arith)

same_flags : (s t : Bool) → ◌≡◌ {A = ℕ} (cond s 1 0) (cond t 1 0) → s ≡ t
same_flags true true e = refl
same_flags true false e = absurd (omega arith)
same_flags false true e = absurd (omega arith)
same_flags false false e = refl

-- tests with the same words agree
pub same_words : (p q : ℕ → Bool) (ws vs : List ℕ) → ws ≡ vs → AreWords p ws → AreWords q vs → Agree p q
same_words p q ws vs e f g byte h = same_flags (p byte) (q byte) (sym (f byte h) ∙ ap (λ l. bit_at (get_or l (byte / 64) 0) (byte % 64)) e ∙ g byte h)

-- ---- from masks to the last of some offsets

-- what is left of 63 by the leading zeros is the place of the highest 1
pub highest_bit : (m : ℕ) → 0 < m → m < 2 ^ 64 → (bit_at m (63 - count_leading_zeros 64 m) ≡ 1) × ((k : ℕ) → 63 - count_leading_zeros 64 m < k → bit_at m k ≡ 0)
highest_bit m some small =
    let top = leading_top 64 m some small in
    let at : top.0 ≡ 63 - count_leading_zeros 64 m = omega (arith, top.1) in
    let whole : m ≡ 1 * 2 ^ top.0 + (m - 2 ^ top.0) = omega (arith, top.2) in
    let half : m / 2 ^ top.0 ≡ 1 = ap (λ n. n / 2 ^ top.0) whole ∙ div-mul-add 1 (2 ^ top.0) (m - 2 ^ top.0) (omega (arith, top.2, top.3)) in
    (subst (λ r. bit_at m r ≡ 1) at (ap (λ n. n % 2) half), λ k h. bit_at_above m (suc top.0) k top.3 (omega (arith, at, h)))

module _ (p : ℕ → Bool) (haystack : List ℕ) (at m : ℕ) (room : at + 16 ≤ length haystack) (masks : m ≡ mask_l (map p (chunk at 16 haystack))) where
  none_there : (k : ℕ) → k < 16 → bit_at m k ≡ 0 → p (get_or haystack (at + k) 0) ≡ false
  none_there k h e = same_flags _ false (sym (bit_there p haystack at 16 m room masks k h) ∙ e)

  pub tail_whole : m ≡ 0 → IsTail p haystack at 16 16
  tail_whole none = record {
    short = omega arith;
    passed = λ k a b.
        let there = none_there (k - at) (omega arith) (ap (λ n. bit_at n (k - at)) none ∙ bit_at-zero (k - at)) in
        let e : at + (k - at) ≡ k = omega arith in
        subst (λ i. p (get_or haystack i 0) ≡ false) e there;
    stopped = λ h. absurd (omega arith);
  }

  pub tail_stopped : (r : ℕ) → r < 16 → bit_at m r ≡ 1 → ((k : ℕ) → r < k → bit_at m k ≡ 0) → IsTail p haystack at 16 (15 - r)
  tail_stopped r low set above = record {
    short = omega arith;
    passed = λ k a b.
        let there = none_there (k - at) (omega arith) (above (k - at) (omega arith)) in
        let e : at + (k - at) ≡ k = omega arith in
        subst (λ i. p (get_or haystack i 0) ≡ false) e there;
    stopped = λ h.
        let e : at + r ≡ at + (16 - (15 - r)) - 1 = omega arith in
        subst (λ i. p (get_or haystack i 0) ≡ true) e (same_flags _ true (sym (bit_there p haystack at 16 m room masks r low) ∙ set));
  }
