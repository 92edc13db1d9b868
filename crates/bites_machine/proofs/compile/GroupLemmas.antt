-- What is known of the groups of a tree, and of their size.
use Rattle.bites_machine.proofs.Library.{and_false, common_steps, ◌≡◌, ℕ, zero, suc, ◌+◌, ◌<◌, ◌≤◌, List, [], ◌∷◌, ◌++◌, length, map, drop, get_or, Option, None, refl, sym, ap, ◌∙◌, arith, slice_set, eq-eqb, replicate, length-set, get_or-set_same, get_or-set_other, get_or-replicate, length-replicate, ext_get_or, length-map-range_with_len, get_or-map-range_with_len, IsNew, AllApart, Tree, sequence, tree_and, trees_of, groups_in, groups_in_all, greatest, captures_len, groups_of, name_in, group_name, groups_left, filled, number, groups_in-map, greatest-append, ◌≢◌, ◌*◌, Some, inl, inr, sum_by, sum_by-append, sum_by-cons, sum_by-set, Among, Trees, repetition, group, alternation, no_tree, names_in, names_in_all, name_size, group_size, Among-number, left_has_groups, length-left, ap₂, option_map, count, IsReduced, AllAreReduced, both, agreed, repeated_count, groups_of_all, static_count, static_sum, static_agreed, static_captures_len}

pub length-filled : (gs : List (ℕ × Option (List ℕ))) (ns : List (Option (List ℕ))) → length (filled gs ns) ≡ length ns
length-filled [] ns = refl
length-filled (g ∷ gs) ns = length-filled gs (slice_set ns g.0 g.1) ∙ length-set ns g.0 g.1

filled-append : (gs hs : List (ℕ × Option (List ℕ))) (ns : List (Option (List ℕ))) → filled (gs ++ hs) ns ≡ filled hs (filled gs ns)
filled-append [] hs ns = refl
filled-append (g ∷ gs) hs ns = filled-append gs hs (slice_set ns g.0 g.1)

-- the groups of a part are among those of all parts
pub groups_at : (ts : List Tree) (i : ℕ) (t : Tree) → t ≡ get_or ts i t → i < length ts → greatest (groups_in t) ≤ greatest (groups_in_all (trees_of ts))
groups_at [] i t e h = absurd (omega arith)
groups_at (x ∷ ts) zero t e h = omega (arith, greatest-append (groups_in x) (groups_in_all (trees_of ts)), ap (λ (y : Tree). greatest (groups_in y)) e)
groups_at (x ∷ ts) (suc i) t e h = omega (arith, greatest-append (groups_in x) (groups_in_all (trees_of ts)), groups_at ts i t e (omega arith))

-- the names of one more part are written
pub filled-more : (ts : List Tree) (i : ℕ) (t : Tree) (old new all : List (Option (List ℕ))) → trees_of (drop i ts) ≡ tree_and t (trees_of (drop (i + 1) ts)) →
    filled (groups_of (sequence (trees_of (drop i ts)))) old ≡ all → new ≡ filled (groups_of t) old →
    filled (groups_of (sequence (trees_of (drop (i + 1) ts)))) new ≡ all
filled-more ts i t old new all e f g = grind (arith, common_steps, filled-append)

-- if no group has the number, its index is unchanged
filled_past : (gs : List (ℕ × Option (List ℕ))) (ns : List (Option (List ℕ))) (i : ℕ) → IsNew i (map number gs) → get_or (filled gs ns) i None ≡ get_or ns i None
filled_past [] ns i h = refl
filled_past (g ∷ gs) ns i h = grind (arith, common_steps, get_or-set_other, (filled_past gs (slice_set ns g.0 g.1) i))

filled_at : (gs : List (ℕ × Option (List ℕ))) (ns : List (Option (List ℕ))) (i : ℕ) → i < length ns → AllApart (map number gs) → get_or ns i None ≡ None →
    get_or (filled gs ns) i None ≡ name_in gs i
filled_at [] ns i h apart e = e
filled_at (g ∷ gs) ns i h apart e = grind (arith, common_steps, filled_past, number, get_or-set_same, eq-eqb, length-set, get_or-set_other, (filled_at gs (slice_set ns g.0 g.1) i))

-- The names that are written are those of the tree.
pub filled_groups_left : (t : Tree) → AllApart (groups_in t) → filled (groups_of t) (replicate (captures_len t) None) ≡ groups_left t
filled_groups_left t apart =
    let n = captures_len t in
    let none = replicate {A = Option (List ℕ)} n None in
    let len = length-filled (groups_of t) none ∙ length-replicate n None in
    let len' = length-map-range_with_len (group_name t) 0 n in
    ext_get_or None (filled (groups_of t) none) (groups_left t) (len ∙ sym len') (λ i below.
    filled_at (groups_of t) none i (omega (arith, len, length-filled (groups_of t) none)) (rw (← groups_in-map t) apart)
    (get_or-replicate n i None None (omega (arith, len))) ∙ sym (get_or-map-range_with_len (group_name t) 0 n i i None (omega (arith, len)) (omega arith)))

-- the size of a group's name, if it has one
abbrev named : Option (List ℕ) → ℕ
named None = 0
named (Some name) = name_size name

abbrev name_of_entry : ℕ × Option (List ℕ) → ℕ
name_of_entry g = named g.1

mutual
  names_have_size : (t : Tree) → sum_by name_size (names_in t) ≡ sum_by name_of_entry (groups_of t)
  names_have_size (repetition min most greedy t) = names_have_size t
  names_have_size (group k None t) = (let none : sum_by name_of_entry ((k, None) ∷ groups_of t) ≡ 0 + sum_by name_of_entry (groups_of t) = sum_by-cons name_of_entry (k, None) (groups_of t) in
      omega (arith, names_have_size t, none))
  names_have_size (group k (Some name) t) =
      sum_by-cons name_size name (names_in t) ∙ ap (λ n. name_size name + n) (names_have_size t)
      ∙ sym (sum_by-cons name_of_entry (k, Some name) (groups_of t))
  names_have_size (sequence ts) = all_names_have_size ts
  names_have_size (alternation ts) = all_names_have_size ts
  names_have_size _ = refl

  all_names_have_size : (ts : Trees) → sum_by name_size (names_in_all ts) ≡ sum_by name_of_entry (groups_of (sequence ts))
  all_names_have_size no_tree = refl
  all_names_have_size (tree_and t ts) =
      omega (
        arith,
        names_have_size t,
        all_names_have_size ts,
        sum_by-append name_size (names_in t) (names_in_all ts),
        sum_by-append name_of_entry (groups_of t) (groups_of (sequence ts)),
      )

-- a name that is written to an index without one
set_has_size : (ns : List (Option (List ℕ))) (i : ℕ) (o : Option (List ℕ)) → i < length ns → get_or ns i None ≡ None →
    sum_by group_size (slice_set ns i o) ≡ sum_by group_size ns + named o
set_has_size ns i o below none = grind (arith, common_steps, sum_by-set)

filled_has_size : (gs : List (ℕ × Option (List ℕ))) (ns : List (Option (List ℕ))) → AllApart (map number gs) →
    ((g : ℕ × Option (List ℕ)) → Among gs g → (g.0 < length ns) × (get_or ns g.0 None ≡ None)) →
    sum_by group_size (filled gs ns) ≡ sum_by group_size ns + sum_by name_of_entry gs
filled_has_size [] ns apart free = omega arith
filled_has_size (g ∷ gs) ns apart free =
    let own = free g (inl refl) in
    let rest = filled_has_size gs (slice_set ns g.0 g.1) apart.1 (λ h among.
    let there = free h (inr among) in
    let other : h.0 ≢ g.0 = λ (e : h.0 ≡ g.0). apart.0 (rw (← e) (Among-number _ _ among)) in
    (omega (arith, there.0, length-set ns g.0 g.1), get_or-set_other ns g.0 h.0 g.1 None other ∙ there.1)) in
    omega (arith, rest, set_has_size ns g.0 g.1 own.0 own.1, sum_by-cons name_of_entry g gs)

replicate_has_size : (n : ℕ) → sum_by group_size (replicate {A = Option (List ℕ)} n None) ≡ 16 * n
replicate_has_size h = grind (arith, common_steps, sum_by-cons)

-- 16 for each number up to the greatest, and the size of the names
pub left_have_size : (t : Tree) → AllApart (groups_in t) → sum_by group_size (groups_left t) ≡ 16 * captures_len t + sum_by name_size (names_in t)
left_have_size t apart =
    let none = replicate {A = Option (List ℕ)} (captures_len t) None in
    let filled_is = ap (sum_by group_size) (filled_groups_left t apart) in
    let sum = filled_has_size (groups_of t) none (rw (← groups_in-map t) apart) (λ g among.
    let below : g.0 < captures_len t = omega (arith, (left_has_groups t apart g among).0, length-left t) in
    (omega (arith, below, length-replicate {A = Option (List ℕ)} (captures_len t) None), get_or-replicate (captures_len t) g.0 None None below)) in
    omega (arith, filled_is, sum, replicate_has_size (captures_len t), names_have_size t)

mutual
  no_groups : (t : Tree) → IsReduced t → greatest (groups_in t) ≡ 0 → groups_of t ≡ []
  no_groups (repetition min most greedy t) reduced none = no_groups t reduced.1 none
  no_groups (group k name t) reduced none = absurd (omega (arith, reduced.0, none))
  no_groups (sequence ts) reduced none = no_groups_in_all ts reduced.1 none
  no_groups (alternation ts) reduced none = no_groups_in_all ts reduced.1 none
  no_groups _ reduced none = refl

  no_groups_in_all : (ts : Trees) → AllAreReduced ts → greatest (groups_in_all ts) ≡ 0 → groups_of_all ts ≡ []
  no_groups_in_all no_tree reduced none = refl
  no_groups_in_all (tree_and t ts) reduced none =
      let both_none = greatest-append (groups_in t) (groups_in_all ts) in
      ap₂ (λ xs ys. xs ++ ys) (no_groups t reduced.0 (omega (arith, both_none, none))) (no_groups_in_all ts reduced.1 (omega (arith, both_none, none)))

zero_repeated : (min : ℕ) → repeated_count min (Some 0) ≡ Some 0
zero_repeated min = grind (arith, common_steps, and_false)

mutual
  no_count : (t : Tree) → IsReduced t → greatest (groups_in t) ≡ 0 → static_count t ≡ Some 0
  no_count (repetition min most greedy t) reduced none = ap (repeated_count min) (no_count t reduced.1 none) ∙ zero_repeated min
  no_count (group k name t) reduced none = absurd (omega (arith, reduced.0, none))
  no_count (sequence ts) reduced none = no_sum ts reduced.1 none
  no_count (alternation ts) reduced none = none_agreed ts (omega (arith, reduced.0)) reduced.1 none
  no_count _ reduced none = refl

  no_sum : (ts : Trees) → AllAreReduced ts → greatest (groups_in_all ts) ≡ 0 → static_sum ts ≡ Some 0
  no_sum no_tree reduced none = refl
  no_sum (tree_and t ts) reduced none =
      let both_none = greatest-append (groups_in t) (groups_in_all ts) in
      ap₂ both (no_count t reduced.0 (omega (arith, both_none, none))) (no_sum ts reduced.1 (omega (arith, both_none, none)))

  none_agreed : (ts : Trees) → 1 ≤ count ts → AllAreReduced ts → greatest (groups_in_all ts) ≡ 0 → static_agreed ts ≡ Some 0
  none_agreed no_tree some reduced none = absurd (omega (arith, some))
  none_agreed (tree_and t no_tree) some reduced none = no_count t reduced.0 (omega (arith, greatest-append (groups_in t) [], none))
  none_agreed (tree_and t (tree_and u ts)) some reduced none =
      let both_none = greatest-append (groups_in t) (groups_in_all (tree_and u ts)) in
      ap₂ agreed (no_count t reduced.0 (omega (arith, both_none, none)))
      (none_agreed (tree_and u ts) (omega arith) reduced.1 (omega (arith, both_none, none)))

-- Where no group has a number above 0, group 0 alone is left, without a name.
pub groupless_left : (t : Tree) → IsReduced t → captures_len t ≤ 1 → groups_left t ≡ None ∷ []
groupless_left t reduced one = grind (arith, common_steps, no_groups)

-- It participates in each match.
pub groupless-count : (t : Tree) → IsReduced t → captures_len t ≤ 1 → static_captures_len t ≡ Some 1
groupless-count t reduced one = ap (option_map suc) (no_count t reduced (omega (arith, one)))
