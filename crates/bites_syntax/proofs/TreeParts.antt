-- The parts of a tree, read one by one.
use Rattle.std.proofs.Common.{◌≡◌, ℕ, zero, suc, ◌+◌, ◌<◌, ◌≤◌, max, List, [], ◌∷◌, ◌++◌, length, get_or, drop, take, ◌-◌, Option, Some, None, arith, refl, sym, ap, ◌∙◌, subst, inl, inr, length-append, eq-eqb, ne_eqb}
use Rattle.std.proofs.lemmas.List.{take_rest}
use Rattle.std.proofs.lemmas.Bool.{cases_eq}
use Rattle.bites_spec.specs.Tree.{Tree, Trees, empty, char, class, look, repetition, group, sequence, alternation, no_tree, tree_and, trees_of, greatest, groups_in, groups_in_all}
use Rattle.bites_spec.specs.Measure.{height, both, agreed, repeated_count, static_count, static_sum, static_agreed}

part_below : (ts : List Tree) (i : ℕ) (d : Tree) → i < length ts → height (get_or ts i d) < height (sequence (trees_of ts))
part_below [] i d h = absurd (omega arith)
part_below (t ∷ ts) zero d h = omega arith
part_below (t ∷ ts) (suc i) d h = omega (arith, part_below ts i d (omega arith))

-- a part is less tall than the row that it stands in
pub read_below : (ts : List Tree) (i : ℕ) (t : Tree) → t ≡ get_or ts i t → i < length ts → height t < height (sequence (trees_of ts))
read_below ts i t e h = subst (λ x. height x < height (sequence (trees_of ts))) (sym e) (part_below ts i t h)

one_later : (i : ℕ) → suc (i + 1) ≡ suc i + 1
one_later i = omega arith

-- the parts from a place on are the part there and those after it
pub parts_from : (ts : List Tree) (i : ℕ) (t : Tree) → t ≡ get_or ts i t → i < length ts → trees_of (drop i ts) ≡ tree_and t (trees_of (drop (i + 1) ts))
parts_from [] i t e h = absurd (omega arith)
parts_from (x ∷ ts) zero t e h = ap (λ y. tree_and y (trees_of ts)) (sym e)
parts_from (x ∷ ts) (suc i) t e h =
    parts_from ts i t e (omega arith) ∙ ap (λ k. tree_and t (trees_of (drop k (x ∷ ts)))) (one_later i)

-- after the last part there is none
pub parts_end : (ts : List Tree) (i : ℕ) → length ts ≤ i → trees_of (drop i ts) ≡ no_tree
parts_end [] zero h = refl
parts_end [] (suc i) h = refl
parts_end (t ∷ ts) zero h = absurd (omega arith)
parts_end (t ∷ ts) (suc i) h = parts_end ts i (omega arith)

pub greatest-append : (xs ys : List ℕ) → greatest (xs ++ ys) ≡ max (greatest xs) (greatest ys)
greatest-append [] ys = omega arith
greatest-append (x ∷ xs) ys = omega (arith, greatest-append xs ys)

-- the greatest number of the parts from a place on
pub greatest_from : (ts : List Tree) (i : ℕ) (t : Tree) → t ≡ get_or ts i t → i < length ts →
    greatest (groups_in_all (trees_of (drop i ts))) ≡ max (greatest (groups_in t)) (greatest (groups_in_all (trees_of (drop (i + 1) ts))))
greatest_from ts i t e h =
    ap (λ x. greatest (groups_in_all x)) (parts_from ts i t e h) ∙ greatest-append (groups_in t) (groups_in_all (trees_of (drop (i + 1) ts)))

-- the groups of the parts from a place on
pub groups_from : (ts : List Tree) (i : ℕ) (t : Tree) → t ≡ get_or ts i t → i < length ts →
    length (groups_in_all (trees_of (drop i ts))) ≡ length (groups_in t) + length (groups_in_all (trees_of (drop (i + 1) ts)))
groups_from ts i t e h =
    ap (λ x. length (groups_in_all x)) (parts_from ts i t e h) ∙ length-append (groups_in t) (groups_in_all (trees_of (drop (i + 1) ts)))

-- a count is no more than a number
abbrev pub Within : Option ℕ → ℕ → Type 0
Within None n = Unit {0}
Within (Some m) n = m ≤ n

within_more : (o : Option ℕ) (m n : ℕ) → m ≤ n → Within o m → Within o n
within_more None m n h w = tt
within_more (Some k) m n h w = omega (arith, h, w)

within_repeated : (min n : ℕ) (o : Option ℕ) → Within o n → Within (repeated_count min o) n
within_repeated zero n None w = tt
within_repeated zero n (Some zero) w = w
within_repeated zero n (Some (suc k)) w = rw (ne_eqb (suc k) 0 (λ e. omega (arith, e))) tt
within_repeated (suc min) n None w = tt
within_repeated (suc min) n (Some k) w = rw (ne_eqb (suc min) 0 (λ e. omega (arith, e))) w

within_both : (a b : Option ℕ) (m n : ℕ) → Within a m → Within b n → Within (both a b) (m + n)
within_both None b m n v w = tt
within_both (Some j) None m n v w = tt
within_both (Some j) (Some k) m n v w = omega (arith, v, w)

within_agreed : (a b : Option ℕ) (m n : ℕ) → Within a m → Within b n → Within (agreed a b) (m + n)
within_agreed None b m n v w = tt
within_agreed (Some j) None m n v w = tt
within_agreed (Some j) (Some k) m n v w = elim (cases_eq j k) [
  | inl e ↦ rw (eq-eqb j k e) (omega (arith, v))
  | inr e ↦ rw (ne_eqb j k e) tt
]

at_length : (o : Option ℕ) (m n : ℕ) → m ≡ n → Within o m → Within o n
at_length o m n e w = subst (λ k. Within o k) e w

mutual
  -- no more groups participate in every match than there are
  pub count_within : (t : Tree) → Within (static_count t) (length (groups_in t))
  count_within empty = omega arith
  count_within (char c) = omega arith
  count_within (class ranges) = omega arith
  count_within (look l) = omega arith
  count_within (repetition min most greedy t) = within_repeated min (length (groups_in t)) (static_count t) (count_within t)
  count_within (group n name t) =
      at_length (both (Some 1) (static_count t)) (1 + length (groups_in t)) (suc (length (groups_in t))) (omega arith)
      (within_both (Some 1) (static_count t) 1 (length (groups_in t)) (omega arith) (count_within t))
  count_within (sequence ts) = sum_within ts
  count_within (alternation ts) = agreed_within ts

  sum_within : (ts : Trees) → Within (static_sum ts) (length (groups_in_all ts))
  sum_within no_tree = omega arith
  sum_within (tree_and t ts) =
      at_length (both (static_count t) (static_sum ts)) (length (groups_in t) + length (groups_in_all ts)) (length (groups_in t ++ groups_in_all ts))
      (sym (length-append (groups_in t) (groups_in_all ts))) (within_both (static_count t) (static_sum ts) (length (groups_in t)) (length (groups_in_all ts)) (count_within t) (sum_within ts))

  agreed_within : (ts : Trees) → Within (static_agreed ts) (length (groups_in_all ts))
  agreed_within no_tree = tt
  agreed_within (tree_and t no_tree) =
      within_more (static_count t) (length (groups_in t)) (length (groups_in t ++ [])) (omega (arith, length-append (groups_in t) [])) (count_within t)
  agreed_within (tree_and t (tree_and u ts)) =
      at_length (agreed (static_count t) (static_agreed (tree_and u ts))) (length (groups_in t) + length (groups_in_all (tree_and u ts)))
      (length (groups_in t ++ groups_in_all (tree_and u ts))) (sym (length-append (groups_in t) (groups_in_all (tree_and u ts))))
      (within_agreed (static_count t) (static_agreed (tree_and u ts)) (length (groups_in t)) (length (groups_in_all (tree_and u ts))) (count_within t) (agreed_within (tree_and u ts)))

-- the count of parts, where the first has one
abbrev pub agreed_with : ℕ → Trees → Option ℕ
agreed_with n no_tree = Some n
agreed_with n (tree_and t ts) = agreed (Some n) (static_agreed (tree_and t ts))

agreed_twice : (n : ℕ) (o : Option ℕ) → agreed (Some n) (agreed (Some n) o) ≡ agreed (Some n) o
agreed_twice n None = refl
agreed_twice n (Some m) = elim (cases_eq n m) [
  | inl e ↦ rw (eq-eqb n m e, eq-eqb n n refl) refl
  | inr e ↦ rw (ne_eqb n m e) refl
]

agreed_apart : (n m : ℕ) (o : Option ℕ) → (n ≡ m → ⊥) → agreed (Some n) (agreed (Some m) o) ≡ None
agreed_apart n m None apart = refl
agreed_apart n m (Some k) apart = elim (cases_eq m k) [
  | inl e ↦ rw (eq-eqb m k e, ne_eqb n m apart) refl
  | inr e ↦ rw (ne_eqb m k e) refl
]

-- a part with the same count
pub agreed_more : (n : ℕ) (t : Tree) (ts : Trees) → static_count t ≡ Some n → agreed_with n (tree_and t ts) ≡ agreed_with n ts
agreed_more n t no_tree e = ap (λ o. agreed (Some n) o) e ∙ (rw (eq-eqb n n refl) refl)
agreed_more n t (tree_and u ts) e =
    ap (λ o. agreed (Some n) (agreed o (static_agreed (tree_and u ts)))) e ∙ agreed_twice n (static_agreed (tree_and u ts))

-- a part with another count
pub agreed_other : (n m : ℕ) (t : Tree) (ts : Trees) → static_count t ≡ Some m → (n ≡ m → ⊥) → agreed_with n (tree_and t ts) ≡ None
agreed_other n m t no_tree e apart = ap (λ o. agreed (Some n) o) e ∙ (rw (ne_eqb n m apart) refl)
agreed_other n m t (tree_and u ts) e apart =
    ap (λ o. agreed (Some n) (agreed o (static_agreed (tree_and u ts)))) e ∙ agreed_apart n m (static_agreed (tree_and u ts)) apart

-- a part without a count
pub agreed_without : (n : ℕ) (t : Tree) (ts : Trees) → static_count t ≡ None → agreed_with n (tree_and t ts) ≡ None
agreed_without n t no_tree e = ap (λ o. agreed (Some n) o) e
agreed_without n t (tree_and u ts) e = ap (λ o. agreed (Some n) (agreed o (static_agreed (tree_and u ts)))) e

-- a sum that goes on
pub sum_more : (m n : ℕ) (o : Option ℕ) → both (Some m) (both (Some n) o) ≡ both (Some (m + n)) o
sum_more m n None = refl
sum_more m n (Some k) = ap Some (omega arith)

-- the others stand after the first part
pub rest_of_parts : (ts : List Tree) (t : Tree) → t ≡ get_or ts 0 t → 1 ≤ length ts → trees_of ts ≡ tree_and t (trees_of (take (length ts - 1) (drop 1 ts)))
rest_of_parts [] t e h = absurd (omega arith)
rest_of_parts (x ∷ ts) t e h =
    ap (λ y. tree_and y (trees_of ts)) (sym e) ∙ ap (λ us. tree_and t (trees_of us)) (sym (take_rest (x ∷ ts) 1))

-- the others are no taller
pub rest_height : (ts : List Tree) (t : Tree) → t ≡ get_or ts 0 t → 1 ≤ length ts →
    height (sequence (trees_of (take (length ts - 1) (drop 1 ts)))) ≤ height (sequence (trees_of ts))
rest_height ts t e h = let whole = ap (λ x. height (sequence x)) (rest_of_parts ts t e h) in omega (arith, whole)
