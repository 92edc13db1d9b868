-- The list of groups left in a tree has each group's name, and dropped groups have no place.
use Rattle.std.proofs.lemmas.Grind.{common_steps}
use Rattle.std.proofs.Common.{◌≡◌, ◌≢◌, ℕ, zero, suc, ◌+◌, ◌*◌, ◌<◌, ◌≤◌, cond, List, [], ◌∷◌, ◌++◌, length, map, Option, None, option_map, refl, sym, ap, ap₂, ◌∙◌, subst, inl, inr, ⊎_elim, arith, eq-eqb, ne_eqb}
use Rattle.std.proofs.lemmas.List.{map-append}
use Rattle.std.proofs.lemmas.List.FromFn.{length-map-range_with_len, get_or-map-range_with_len}
use Rattle.bites_spec.specs.Walks.{Among, AllApart}
use Rattle.bites_spec.specs.Tree.{Tree, Trees, empty, char, class, look, repetition, group, sequence, alternation, no_tree, tree_and, groups_in, groups_in_all, greatest, captures_len}
use Rattle.bites_spec.specs.Match.{Mark, last_mark, groups}
use Rattle.bites_spec.specs.Measure.{groups_of, groups_left, name_in, group_name, HasItsGroups}
use Rattle.bites_spec.specs.Run.{slots}
use Rattle.bites_spec.specs.Slots.{slot_in, span_between}
use Rattle.bites_spec.specs.GroupLaws.{LeftAreKept, DroppedHaveNoPlace}
use Rattle.bites_spec.proofs.parses.EventLemmas.{Parse-Steps}
use Rattle.bites_spec.proofs.programs.SlotLemmas.{no_mark}
use Rattle.bites_spec.proofs.programs.BuiltLemmas.{run_is_parse}

abbrev pub number : (ℕ × Option (List ℕ)) → ℕ
number g = g.0

mutual
  pub groups_in-map : (t : Tree) → groups_in t ≡ map number (groups_of t)
  groups_in-map empty = refl
  groups_in-map (char c) = refl
  groups_in-map (class rs) = refl
  groups_in-map (look l) = refl
  groups_in-map (repetition min most greedy t) = groups_in-map t
  groups_in-map (group k name t) = ap (λ ks. k ∷ ks) (groups_in-map t)
  groups_in-map (sequence ts) = groups_in_all-map ts
  groups_in-map (alternation ts) = groups_in_all-map ts

  groups_in_all-map : (ts : Trees) → groups_in_all ts ≡ map number (groups_of (sequence ts))
  groups_in_all-map no_tree = refl
  groups_in_all-map (tree_and t ts) =
      ap₂ (λ xs ys. xs ++ ys) (groups_in-map t) (groups_in_all-map ts) ∙ sym (map-append number (groups_of t) (groups_of (sequence ts)))

pub Among-number : (gs : List (ℕ × Option (List ℕ))) (g : ℕ × Option (List ℕ)) → Among gs g → Among (map number gs) g.0
Among-number [] g among = absurd among
Among-number (h ∷ gs) g among = ⊎_elim (λ (e : h ≡ g). inl (ap number e)) (λ later. inr (Among-number gs g later)) among

-- the name found for a group's number is the group's name
name_found : (gs : List (ℕ × Option (List ℕ))) → AllApart (map number gs) → (g : ℕ × Option (List ℕ)) → Among gs g → name_in gs g.0 ≡ g.1
name_found [] apart g among = absurd among
name_found (h ∷ gs) apart g among =
    ⊎_elim
    (λ (e : h ≡ g). ap (λ b. cond b h.1 (name_in gs g.0)) (eq-eqb h.0 g.0 (ap number e)) ∙ ap (λ (x : ℕ × Option (List ℕ)). x.1) e)
    (λ later.
    let other : h.0 ≢ g.0 = λ (e : h.0 ≡ g.0). apart.0 (subst (λ k. Among (map number gs) k) (sym e) (Among-number gs g later)) in
    ap (λ b. cond b h.1 (name_in gs g.0)) (ne_eqb h.0 g.0 other) ∙ name_found gs apart.1 g later)
    among

below_greatest : (ks : List ℕ) (k : ℕ) → Among ks k → k ≤ greatest ks
below_greatest [] k among = absurd among
below_greatest (x ∷ ks) k among =
    ⊎_elim (λ (e : x ≡ k). omega arith) (λ later. let h = below_greatest ks k later in omega (arith, h)) among

greatest_below : (gs : List (ℕ × Option (List ℕ))) (n : ℕ) → 0 < n → ((g : ℕ × Option (List ℕ)) → Among gs g → g.0 < n) → greatest (map number gs) < n
greatest_below [] n some below = some
greatest_below (g ∷ gs) n some below =
    let own = below g (inl refl) in
    let others = greatest_below gs n some (λ h among. below h (inr among)) in
    omega (arith, own, others)

-- a list that has the groups of a tree is at least as long as the tree's greatest number asks
pub room_for_groups : (groups : List (Option (List ℕ))) (t : Tree) → 0 < length groups → HasItsGroups groups t → captures_len t ≤ length groups
room_for_groups groups t some has = grind (arith, common_steps, greatest_below, groups_in-map)

pub length-left : (t : Tree) → length (groups_left t) ≡ captures_len t
length-left t = length-map-range_with_len (group_name t) 0 (captures_len t)

pub left_has_groups : (t : Tree) → AllApart (groups_in t) → HasItsGroups (groups_left t) t
left_has_groups t apart g among =
    let number_is : g.0 ≤ greatest (groups_in t) =
    below_greatest (groups_in t) g.0 (subst (λ ks. Among ks g.0) (sym (groups_in-map t)) (Among-number (groups_of t) g among)) in (
      omega (arith, number_is, length-left t),
      get_or-map-range_with_len (group_name t) 0 (captures_len t) g.0 g.0 None (omega (arith, number_is)) (omega arith)
          ∙ name_found (groups_of t) (subst (λ ks. AllApart ks) (groups_in-map t) apart) g among,
    )

pub left_are_kept : LeftAreKept
left_are_kept t fit = (length-left t, left_has_groups t fit.numbers)

-- a group without a mark has no place in a parse
no_place : (ms : List Mark) (i j k : ℕ) → 1 ≤ k → last_mark ms k ≡ None → groups i j ms k ≡ None
no_place ms i j zero positive none = absurd (omega arith)
no_place ms i j (suc k) positive none = none

pub dropped_have_no_place : DroppedHaveNoPlace
dropped_have_no_place t p hay fit built r runs k positive new =
    let x = run_is_parse t p hay fit built r.start r.end r.configurations runs in
    let steps = Parse-Steps hay t r.start r.end x.0 x.1 in
    let none : groups r.start r.end x.0 k ≡ None =
    no_place x.0 r.start r.end k positive (ap (λ ms. last_mark ms k) (sym steps.2) ∙ no_mark hay t k new r.start r.end steps.0 steps.1) in
    let first : slot_in (slots p r) (2 * k) ≡ None = (x.2 k).0 ∙ ap (option_map (λ s. s.start)) none in
    let second : slot_in (slots p r) (2 * k + 1) ≡ None = (x.2 k).1 ∙ ap (option_map (λ s. s.end)) none in
    (first, second, ap (λ o. span_between o (slot_in (slots p r) (2 * k + 1))) first)
