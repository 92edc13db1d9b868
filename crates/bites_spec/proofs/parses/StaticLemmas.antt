-- If the form of a tree gives a count of groups, at least that many participate in each parse.
use Rattle.std.proofs.lemmas.Grind.{common_steps}
use Rattle.std.proofs.Common.{◌≡◌, ℕ, zero, suc, ◌+◌, ◌≤◌, List, [], ◌∷◌, ◌++◌, length, Option, Some, None, refl, sym, subst, ap, ap₂, ◌∙◌, inl, inr, ⊎_elim, ◌⊎◌, arith, eqb-true}
use Rattle.std.proofs.lemmas.List.{length-append}
use Rattle.bites_spec.specs.Walks.{Among, IsNew, AllApart}
use Rattle.bites_spec.specs.Tree.{Tree, Trees, empty, char, class, look, repetition, group, sequence, alternation, no_tree, tree_and, groups_in, groups_in_all}
use Rattle.bites_spec.specs.Measure.{static_count, static_sum, static_agreed, both, agreed, repeated_count}
use Rattle.bites_spec.specs.Match.{Mark, mark, Turns, Parse, ParseAll, ParseOne, IsMarked, MarksAtLeast}

among_left : (xs ys : List ℕ) (x : ℕ) → Among xs x → Among (xs ++ ys) x
among_left [] ys x h = absurd h
among_left (y ∷ xs) ys x h = ⊎_elim (λ (e : y ≡ x). inl e) (λ later. inr (among_left xs ys x later)) h

among_right : (xs ys : List ℕ) (x : ℕ) → Among ys x → Among (xs ++ ys) x
among_right [] ys x h = h
among_right (y ∷ xs) ys x h = inr (among_right xs ys x h)

among_append : (xs ys : List ℕ) (x : ℕ) → Among (xs ++ ys) x → Among xs x ⊎ Among ys x
among_append [] ys x h = inr h
among_append (y ∷ xs) ys x h = ⊎_elim (λ (e : y ≡ x). inl (inl e)) (λ later. ⊎_elim (λ a. inl (inr a)) inr (among_append xs ys x later)) h

-- two lists without a common element, each without repetition, have no repetition together
apart_append : (xs ys : List ℕ) → AllApart xs → AllApart ys → ((x : ℕ) → Among xs x → Among ys x → ⊥) → AllApart (xs ++ ys)
apart_append [] ys first second none = second
apart_append (x ∷ xs) ys first second none = (
  λ h. ⊎_elim (λ a. first.0 a) (λ b. none x (inl refl) b) (among_append xs ys x h),
  apart_append xs ys first.1 second (λ y a b. none y (inr a) b),
)

first_apart : (xs ys : List ℕ) → AllApart (xs ++ ys) → AllApart xs
first_apart [] ys h = tt
first_apart (x ∷ xs) ys h = (λ a. h.0 (among_left xs ys x a), first_apart xs ys h.1)

second_apart : (xs ys : List ℕ) → AllApart (xs ++ ys) → AllApart ys
second_apart [] ys h = h
second_apart (x ∷ xs) ys h = second_apart xs ys h.1

none_common : (xs ys : List ℕ) → AllApart (xs ++ ys) → (x : ℕ) → Among xs x → Among ys x → ⊥
none_common [] ys h x a b = a
none_common (y ∷ xs) ys h x a b =
    ⊎_elim (λ (e : y ≡ x). let P : ℕ → Type 0 = λ z. Among ys z in h.0 (among_right xs ys y (subst P (sym e) b)))
    (λ later. none_common xs ys h.1 x later b) a

marked_left : (ms ns : List Mark) (k : ℕ) → IsMarked ms k → IsMarked (ms ++ ns) k
marked_left [] ns k h = absurd h
marked_left (m ∷ ms) ns k h = ⊎_elim (λ (e : m.group ≡ k). inl e) (λ later. inr (marked_left ms ns k later)) h

marked_right : (ms ns : List Mark) (k : ℕ) → IsMarked ns k → IsMarked (ms ++ ns) k
marked_right [] ns k h = h
marked_right (m ∷ ms) ns k h = inr (marked_right ms ns k h)

-- n different groups participate, all of them from gs
pub record Witness (gs : List ℕ) (n : ℕ) (ms : List Mark) : Type 0 where
  pub ks : List ℕ
  pub many : length ks ≡ n
  pub apart : AllApart ks
  pub marked : (k : ℕ) → Among ks k → IsMarked ms k
  pub within : (k : ℕ) → Among ks k → Among gs k

no_group : (gs : List ℕ) (ms : List Mark) → Witness gs 0 ms
no_group gs ms = record { ks = []; many = refl; apart = tt; marked = λ k h. absurd h; within = λ k h. absurd h }

-- two parts, one after the other
joined : (gs hs : List ℕ) (m n : ℕ) (ms ns : List Mark) → AllApart (gs ++ hs) → Witness gs m ms → Witness hs n ns → Witness (gs ++ hs) (m + n) (ms ++ ns)
joined gs hs m n ms ns apart a b = record {
  ks = a.ks ++ b.ks;
  many = length-append a.ks b.ks ∙ ap₂ ◌+◌ a.many b.many;
  apart = apart_append a.ks b.ks a.apart b.apart (λ x u v. none_common gs hs apart x (a.within x u) (b.within x v));
  marked = λ k h. ⊎_elim (λ u. marked_left ms ns k (a.marked k u)) (λ v. marked_right ms ns k (b.marked k v)) (among_append a.ks b.ks k h);
  within = λ k h. ⊎_elim (λ u. among_left gs hs k (a.within k u)) (λ v. among_right gs hs k (b.within k v)) (among_append a.ks b.ks k h);
}

-- a part of a tree with other groups
wider : (gs hs : List ℕ) (n : ℕ) (ms : List Mark) → ((k : ℕ) → Among gs k → Among hs k) → Witness gs n ms → Witness hs n ms
wider gs hs n ms inside a = record { ks = a.ks; many = a.many; apart = a.apart; marked = a.marked; within = λ k h. inside k (a.within k h) }

-- marks added after those of a part
with_marks : (gs : List ℕ) (n : ℕ) (ms ns : List Mark) → Witness gs n ms → Witness gs n (ms ++ ns)
with_marks gs n ms ns a = record { ks = a.ks; many = a.many; apart = a.apart; marked = λ k h. marked_left ms ns k (a.marked k h); within = a.within }

-- a group around a part
around : (gs : List ℕ) (k i j n : ℕ) (ms : List Mark) → IsNew k gs → Witness gs n ms → Witness (k ∷ gs) (suc n) (ms ++ mark k i j ∷ [])
around gs k i j n ms new a = record {
  ks = k ∷ a.ks;
  many = ap suc a.many;
  apart = (λ h. new (a.within k h), a.apart);
  marked = λ x h. ⊎_elim (λ (e : k ≡ x). marked_right ms (mark k i j ∷ []) x (inl e)) (λ later. marked_left ms (mark k i j ∷ []) x (a.marked x later)) h;
  within = λ x h. ⊎_elim (λ (e : k ≡ x). inl e) (λ later. inr (a.within x later)) h;
}

one_more : (x y n : ℕ) → 1 ≡ x → x + y ≡ n → suc y ≡ n
one_more x y n one total = omega (arith, one, total)

some_is : (m n : ℕ) → Some m ≡ Some n → m ≡ n
some_is m n e = grind arith

none_is : {A : Type 0} (n : ℕ) → None ≡ Some n → A
none_is n e = cc

of_both : (a b : Option ℕ) (n : ℕ) → both a b ≡ Some n → (x : ℕ) × (y : ℕ) × (a ≡ Some x) × (b ≡ Some y) × (x + y ≡ n)
of_both (Some x) (Some y) n e = (x, y, refl, refl, some_is (x + y) n e)
of_both (Some x) None n e = none_is n e
of_both None b n e = none_is n e

of_agreed : (a b : Option ℕ) (n : ℕ) → agreed a b ≡ Some n → (a ≡ Some n) × (b ≡ Some n)
of_agreed (Some x) (Some y) n e = grind (arith, common_steps, eqb-true)
of_agreed (Some x) None n e = none_is n e
of_agreed None b n e = none_is n e

above_zero : (n : ℕ) → (n ≡ 0 → ⊥) → 1 ≤ n
above_zero zero ne = absurd (ne refl)
above_zero (suc n) ne = omega arith

-- the count of a repetition is that of its body, and it is 0 if the body may be left out
of_repeated : (min : ℕ) (a : Option ℕ) (n : ℕ) → repeated_count min a ≡ Some n → (a ≡ Some n) × ((n ≡ 0) ⊎ (1 ≤ min))
of_repeated min (Some m) n e = grind (arith, common_steps, some_is, eqb-true, none_is, above_zero)
of_repeated min None n e = none_is n e

no_groups : (n : ℕ) → Some 0 ≡ Some n → (ms : List Mark) → Witness [] n ms
no_groups n e ms = let P : ℕ → Type 0 = λ x. Witness [] x ms in subst P (some_is 0 n e) (no_group [] ms)

module _ (hay : List ℕ) where
  first_turn : (gs : List ℕ) (n : ℕ) (R : ℕ → ℕ → List Mark → Type 0) → ((i j : ℕ) (ms : List Mark) → R i j ms → Witness gs n ms) →
      (turns i j : ℕ) (ms : List Mark) → 1 ≤ turns → Turns R turns i j ms → Witness gs n ms
  first_turn gs n R f zero i j ms some h = absurd (omega (arith, some))
  first_turn gs n R f (suc turns) i j ms some (l, first, rest, one, more, e) =
      let P : List Mark → Type 0 = λ x. Witness gs n x in subst P (sym e) (with_marks gs n first rest (f i l first one))

  mutual
    pub witness : (t : Tree) → AllApart (groups_in t) → (n : ℕ) → static_count t ≡ Some n → (i j : ℕ) (ms : List Mark) → Parse hay t i j ms → Witness (groups_in t) n ms
    witness empty apart n e i j ms h = no_groups n e ms
    witness (char c) apart n e i j ms h = no_groups n e ms
    witness (class rs) apart n e i j ms h = no_groups n e ms
    witness (look l) apart n e i j ms h = no_groups n e ms
    witness (repetition min most greedy t) apart n e i j ms (turns, least, within, h) =
        let r = of_repeated min (static_count t) n e in
        ⊎_elim
        (λ (none : n ≡ 0). let P : ℕ → Type 0 = λ x. Witness (groups_in t) x ms in subst P (sym none) (no_group (groups_in t) ms))
        (λ some. first_turn (groups_in t) n (Parse hay t) (witness t apart n r.0) turns i j ms (omega (arith, some, least)) h)
        r.1
    witness (group k name t) apart n e i j ms (inner, h, is) =
        let r = of_both (Some 1) (static_count t) n e in
        let body = witness t apart.1 r.1 r.3 i j inner h in
        let whole = around (groups_in t) k i j r.1 inner apart.0 body in
        let P : List Mark → Type 0 = λ x. Witness (k ∷ groups_in t) n x in
        let Q : ℕ → Type 0 = λ x. Witness (k ∷ groups_in t) x (inner ++ mark k i j ∷ []) in
        subst P (sym is) (subst Q (one_more r.0 r.1 n (some_is 1 r.0 r.2) r.4) whole)
    witness (sequence ts) apart n e i j ms h = witness_all ts apart n e i j ms h
    witness (alternation ts) apart n e i j ms h = witness_one ts apart n e i j ms h

    witness_all : (ts : Trees) → AllApart (groups_in_all ts) → (n : ℕ) → static_sum ts ≡ Some n → (i j : ℕ) (ms : List Mark) → ParseAll hay ts i j ms → Witness (groups_in_all ts) n ms
    witness_all no_tree apart n e i j ms h =
        let P : ℕ → Type 0 = λ x. Witness [] x ms in subst P (some_is 0 n e) (no_group [] ms)
    witness_all (tree_and t ts) apart n e i j ms (l, first, rest, one, more, is) =
        let r = of_both (static_count t) (static_sum ts) n e in
        let gs = groups_in t in
        let hs = groups_in_all ts in
        let a = witness t (first_apart gs hs apart) r.0 r.2 i l first one in
        let b = witness_all ts (second_apart gs hs apart) r.1 r.3 l j rest more in
        let P : List Mark → Type 0 = λ x. Witness (gs ++ hs) n x in
        let Q : ℕ → Type 0 = λ x. Witness (gs ++ hs) x (first ++ rest) in
        subst P (sym is) (subst Q r.4 (joined gs hs r.0 r.1 first rest apart a b))

    witness_one : (ts : Trees) → AllApart (groups_in_all ts) → (n : ℕ) → static_agreed ts ≡ Some n → (i j : ℕ) (ms : List Mark) → ParseOne hay ts i j ms → Witness (groups_in_all ts) n ms
    witness_one no_tree apart n e i j ms h = absurd h
    witness_one (tree_and t no_tree) apart n e i j ms h =
        ⊎_elim (λ a. wider (groups_in t) (groups_in t ++ []) n ms (λ k b. among_left (groups_in t) [] k b) (witness t (first_apart (groups_in t) [] apart) n e i j ms a)) (λ b. absurd b) h
    witness_one (tree_and t (tree_and u ts)) apart n e i j ms h =
        let r = of_agreed (static_count t) (static_agreed (tree_and u ts)) n e in
        let gs = groups_in t in
        let hs = groups_in_all (tree_and u ts) in
        ⊎_elim
        (λ a. wider gs (gs ++ hs) n ms (λ k b. among_left gs hs k b) (witness t (first_apart gs hs apart) n r.0 i j ms a))
        (λ b. wider hs (gs ++ hs) n ms (λ k c. among_right gs hs k c) (witness_one (tree_and u ts) (second_apart gs hs apart) n r.1 i j ms b))
        h

-- at least as many different groups participate as the form gives
pub static_least : (hay : List ℕ) (t : Tree) → AllApart (groups_in t) → (n : ℕ) → static_count t ≡ Some n →
    (i j : ℕ) (ms : List Mark) → Parse hay t i j ms → MarksAtLeast n ms
static_least hay t apart n e i j ms h = let w = witness hay t apart n e i j ms h in (w.ks, w.many, w.apart, w.marked)
