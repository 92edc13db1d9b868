-- The groups of a match of a whole text.
use Rattle.std.proofs.Common.{◌≡◌, ℕ, ◌+◌, ◌<◌, ◌≤◌, ◌/◌, false, List, length, map, Some, sym, ap, ◌∙◌, arith, option_map, slice_get, IsSome}
use Rattle.std.proofs.lemmas.Option.{slice_get-map}
use Rattle.std.proofs.lemmas.List.{length-map}
use Rattle.std.specs.Borrow.{Bor}
use Rattle.bites_spec.specs.CallerLaws.{EachParticipates}
use Rattle.bites_spec.specs.Measure.{groups_left, static_captures_len}
use Rattle.bites_spec.specs.Slots.{group_in, participating}
use Rattle.bites_spec.specs.Pieces.{text_at}
use Rattle.bites_spec.specs.Regex.{Regex}
use Rattle.bites_spec.specs.Captured.{Captured, AreGroups}
use Rattle.bites_spec.specs.Full.{FindsGroupsFull}
use Rattle.bites_filter.specs.Parts.{HasGroups, AreParts}

-- each group participates
pub each_is_there : EachParticipates → (r : Regex) (n : ℕ) → HasGroups r (n + 1) →
    (r.keep_dropped_groups ≡ false → r.names ≡ groups_left r.tree) → (x : Captured) → x.regex ≡ r →
    (count : ℕ) → count ≡ length x.regex.names → count ≡ length x.slots / 2 → AreGroups x.regex x.haystack x.slots →
    (k : ℕ) → k < n → IsSome (group_in x.slots (k + 1))
each_is_there law r n (kept, groups, static) names x of count named slots are k lt =
    let all : length x.slots / 2 ≡ n + 1 = sym slots ∙ named ∙ ap (λ (q : Regex). length q.names) of ∙ ap length (names kept) ∙ groups in
    let enough : n + 1 ≤ length (participating x.slots) = are.enough (n + 1) (ap (λ (q : Regex). static_captures_len q.tree) of ∙ static) in
    law x.slots (omega (arith, all, enough)) (k + 1) (omega (arith, all, lt))

-- the texts of the groups are the parts
pub parts_found : (r : Regex) (text : List ℕ) (x : Captured) → x.haystack ≡ text → FindsGroupsFull r text (Some x.slots) →
    (parts : List (Bor (List ℕ))) (n : ℕ) → length parts ≤ n →
    ((j : ℕ) → j < n →
    option_map (λ p. p.now) (slice_get parts j) ≡ option_map (text_at x.haystack) (group_in x.slots (j + 1))) →
    AreParts r.tree text (map (λ p. p.now) parts)
parts_found r text x same found parts n all are = record {
  marks = found.found.marks;
  parse = found.found.parse;
  each = λ k lt.
      let within : k < n = omega (arith, simp length-map at lt, all) in
      slice_get-map (λ (p : Bor (List ℕ)). p.now) parts k ∙ are k within
      ∙ ap (λ h. option_map (text_at h) (group_in x.slots (k + 1))) same
      ∙ ap (option_map (text_at text)) (found.in_slots.1 (k + 1) ∙ found.found.groups (k + 1));
}
