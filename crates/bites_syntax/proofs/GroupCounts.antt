-- The groups of a tree are no more than the states that it takes.
use Rattle.std.proofs.Common.{ℕ, zero, suc, ◌*◌, ◌≤◌, Bool, true, false, length, Option, Some, None, arith, inl, inr, length-append, eq-eqb, ne_eqb, suc-mul}
use Rattle.std.proofs.lemmas.Bool.{cases_eq}
use Rattle.bites_spec.specs.Tree.{Tree, Trees, empty, char, class, look, repetition, group, sequence, alternation, no_tree, tree_and, groups_in, groups_in_all, is_nullable, IsCount, IsReduced, AllAreReduced}
use Rattle.bites_spec.specs.Measure.{Size, repeated_size, size_of, size_of_all}

at_least_one : (n x : ℕ) → 1 ≤ n → x ≤ n * x
at_least_one zero x h = absurd (omega (arith, h))
at_least_one (suc n) x h = rw (suc-mul n x) (omega arith)

pub repeated_more : (min : ℕ) (most : Option ℕ) (is_empty : Bool) (b : Size) → IsCount min most → b.states ≤ (repeated_size min most is_empty b).states
repeated_more zero None true b count = omega (arith, at_least_one 1 b.states (omega arith))
repeated_more zero None false b count = omega (arith, at_least_one 1 b.states (omega arith))
repeated_more (suc min) None is_empty b count =
    rw (ne_eqb (suc min) 0 (λ e. omega (arith, e))) (omega (arith, at_least_one (suc min) b.states (omega arith)))
repeated_more zero (Some max) is_empty b count = elim (cases_eq max 1) [
  | inl e ↦ rw (eq-eqb max 1 e) (omega (arith, at_least_one 1 b.states (omega arith)))
  | inr n ↦ rw (ne_eqb max 1 n) (omega (arith, at_least_one max b.states count.1))
]
repeated_more (suc min) (Some max) is_empty b count = elim (cases_eq (suc min) max) [
  | inl e ↦ rw (ne_eqb (suc min) 0 (λ z. omega (arith, z)), eq-eqb (suc min) max e) (omega (arith, at_least_one max b.states count.1))
  | inr n ↦ rw (ne_eqb (suc min) 0 (λ z. omega (arith, z)), ne_eqb (suc min) max n) (omega (arith, at_least_one max b.states count.1))
]

mutual
  -- no more groups than states
  pub groups_within_states : (t : Tree) → IsReduced t → length (groups_in t) ≤ (size_of t).states
  groups_within_states empty reduced = omega arith
  groups_within_states (char c) reduced = omega arith
  groups_within_states (class ranges) reduced = omega arith
  groups_within_states (look l) reduced = omega arith
  groups_within_states (repetition min most greedy t) reduced =
      omega (arith, groups_within_states t reduced.1, repeated_more min most (is_nullable t) (size_of t) reduced.0)
  groups_within_states (group n name t) reduced = omega (arith, groups_within_states t reduced.1, at_least_one 1 (size_of t).states (omega arith))
  groups_within_states (sequence ts) reduced = all_within_states ts reduced.1
  groups_within_states (alternation ts) reduced = omega (arith, all_within_states ts reduced.1)

  all_within_states : (ts : Trees) → AllAreReduced ts → length (groups_in_all ts) ≤ (size_of_all ts).states
  all_within_states no_tree reduced = omega arith
  all_within_states (tree_and t ts) reduced =
      omega (arith, length-append (groups_in t) (groups_in_all ts), groups_within_states t reduced.0, all_within_states ts reduced.1)
