use Rattle.bites_table.proofs.Library.{◌≡◌, [], ◌∷◌, ◌++◌, rules, subst, sym, Contains, IsStrictlyIncreasing, dedup_is, Contains-dedup_nat, Contains-permutation, IsStrictlyIncreasing-dedup, states_of}
use Rattle.bites_table.specs.Bounds.{bounds_of, bounds_of_kinds}
use Rattle.bites_table.proofs.BoundLemmas.{are_bounds, has_zero, first_is_zero}
use Rattle.bites_table.proofs.bounds.bounds.Goals as goal

pub returns-clause-bounds : goal.returns-clause-bounds
returns-clause-bounds c =
    let all : c.push_states.new.bounds.items ≡ ((0 ∷ []) ++ bounds_of_kinds c.args.kinds) ++ bounds_of (states_of c.args.states.now) = search rules in
    are_bounds (states_of c.args.states.now) c.args.kinds c.dedup.new.self.items
    (λ b h. rw (dedup_is _ _ _ c.dedup.ensures.filtered) (Contains-dedup_nat _ b (Contains-permutation _ _ b c.sort_unstable.ensures.permutation (subst (λ l. Contains l b) (sym all) h))))

pub returns-clause-begins : goal.returns-clause-begins
returns-clause-begins c =
    let all : c.push_states.new.bounds.items ≡ ((0 ∷ []) ++ bounds_of_kinds c.args.kinds) ++ bounds_of (states_of c.args.states.now) = search rules in
    let rising : IsStrictlyIncreasing c.dedup.new.self.items = rw (dedup_is _ _ _ c.dedup.ensures.filtered) (IsStrictlyIncreasing-dedup _ c.sort_unstable.ensures.sorted) in
    let zero = has_zero (states_of c.args.states.now) c.args.kinds c.dedup.new.self.items
    (λ b h. rw (dedup_is _ _ _ c.dedup.ensures.filtered) (Contains-dedup_nat _ b (Contains-permutation _ _ b c.sort_unstable.ensures.permutation (subst (λ l. Contains l b) (sym all) h)))) in
    let first = first_is_zero c.dedup.new.self.items rising zero in
    record { rising = rising; first = first.0; some = first.1 }
