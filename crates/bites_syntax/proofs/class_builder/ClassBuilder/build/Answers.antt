use Rattle.std.proofs.Common.{rules, ◌∙◌, sym, ap}
use Rattle.std.proofs.lemmas.List.Sorted.{All-permutation, IsNonDecreasingBy-from_sort_by_key, list_any-IsPermutation}
use Rattle.bites_spec.specs.Range.{in_range, in_ranges}
use Rattle.bites_spec.specs.Class.{IsRange}
use Rattle.bites_spec.proofs.classes.ClassLemmas.{lists_same}
use Rattle.bites_syntax.proofs.class_builder.ClassBuilder.build.Goals as goal

pub merge-requires-clause-ranges : goal.merge-requires-clause-ranges
merge-requires-clause-ranges c =
    rw c.deref.ensures.value (All-permutation IsRange c.self.inside.ranges.items c.sort_unstable_by_key.new.self.items c.sort_unstable_by_key.ensures.permutation c.self.invariant)

pub merge-requires-clause-sorted : goal.merge-requires-clause-sorted
merge-requires-clause-sorted c =
    rw c.deref.ensures.value (IsNonDecreasingBy-from_sort_by_key (λ r. r.0) c.sort_unstable_by_key.new.self.items c.sort_unstable_by_key.ensures.sorted (λ a r q k. search rules))

pub returns : goal.returns
returns c = rw (c.from_ranges.ensures, ← c.self.view_is)
    (lists_same (in_ranges c.deref.result.now) (in_ranges c.self.inside.ranges.items) c.in_ok-merge.field-0.items
    (λ d scalar. ap (λ items. in_ranges items d) c.deref.ensures.value
    ∙ sym (list_any-IsPermutation (λ r. in_range r d) c.self.inside.ranges.items c.sort_unstable_by_key.new.self.items c.sort_unstable_by_key.ensures.permutation)) c.in_ok-merge.ensures)
