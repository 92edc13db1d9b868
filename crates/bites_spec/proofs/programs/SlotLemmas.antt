-- What a run through a tree's program writes last to a group's slots is the group's last mark.
use Rattle.std.proofs.lemmas.Grind.{common_steps}
use Rattle.std.proofs.Common.{◌≡◌, ◌≢◌, ℕ, zero, suc, ◌+◌, ◌*◌, true, false, cond, List, [], ◌∷◌, ◌++◌, Option, Some, None, option_map, refl, sym, ap, ap₂, ◌∙◌, subst, inl, inr, ⊎_elim, true≢false, arith, eqb-true, eq-eqb, ne_eqb}
use Rattle.std.specs.Prelude.{◌==◌, if◌then◌else◌}
use Rattle.std.specs.Option.{option_or}
use Rattle.std.proofs.lemmas.Bool.{cases_Bool}
use Rattle.bites_spec.specs.Walks.{Among, IsNew, AllApart}
use Rattle.bites_spec.specs.Tree.{Tree, Trees, empty, char, class, look, repetition, group, sequence, alternation, no_tree, tree_and, groups_in, groups_in_all}
use Rattle.bites_spec.specs.Match.{Span, span, Mark, mark, Turns, last_mark}
use Rattle.bites_spec.specs.Run.{last_write}
use Rattle.bites_spec.proofs.parses.EventLemmas.{Event, opened, closed, writes_of, marks_of, writes_of-append, marks_of-append, Steps, StepsAll, StepsOne}
use Rattle.bites_spec.proofs.runs.WalkLemmas.{or_assoc}

pub Among-left : {A : Type 0} (xs ys : List A) (x : A) → Among xs x → Among (xs ++ ys) x
Among-left [] ys x h = absurd h
Among-left (y ∷ xs) ys x h = ⊎_elim inl (λ later. inr (Among-left xs ys x later)) h

pub Among-right : {A : Type 0} (xs ys : List A) (x : A) → Among ys x → Among (xs ++ ys) x
Among-right [] ys x h = h
Among-right (y ∷ xs) ys x h = inr (Among-right xs ys x h)

pub AllApart-append : {A : Type 0} (xs ys : List A) → AllApart (xs ++ ys) → AllApart xs × AllApart ys
AllApart-append [] ys h = (tt, h)
AllApart-append (x ∷ xs) ys h =
    let r = AllApart-append xs ys h.1 in ((λ among. h.0 (Among-left xs ys x among), r.0), r.1)

pub or_none : {A : Type 0} (o : Option A) → option_or o None ≡ o
or_none None = refl
or_none (Some x) = refl

pub last_write-append : (a b : List (ℕ × ℕ)) (s : ℕ) → last_write (a ++ b) s ≡ option_or (last_write b s) (last_write a s)
last_write-append [] b s = sym (or_none (last_write b s))
last_write-append (w ∷ a) b s =
    ap (λ o. option_or o (if w.0 == s then Some w.1 else None)) (last_write-append a b s) ∙ or_assoc (last_write b s) (last_write a s) _

last_mark-append : (a b : List Mark) (k : ℕ) → last_mark (a ++ b) k ≡ option_or (last_mark b k) (last_mark a k)
last_mark-append [] b k = sym (or_none (last_mark b k))
last_mark-append (m ∷ a) b k =
    ap (λ o. option_or o (if m.group == k then Some m.span else None)) (last_mark-append a b k) ∙ or_assoc (last_mark b k) (last_mark a k) _

-- the last writes to the slots of a group are where its last mark begins and ends
pub record Agree (es : List Event) (k : ℕ) : Type 0 where
  pub start : last_write (writes_of es) (2 * k) ≡ option_map (λ s. s.start) (last_mark (marks_of es) k)
  pub end : last_write (writes_of es) (2 * k + 1) ≡ option_map (λ s. s.end) (last_mark (marks_of es) k)

Agree-none : (k : ℕ) → Agree [] k
Agree-none k = record { start = refl; end = refl }

agree_part : (f : Span → ℕ) (a b : List Event) (k s : ℕ) → last_write (writes_of a) s ≡ option_map f (last_mark (marks_of a) k) →
    last_write (writes_of b) s ≡ option_map f (last_mark (marks_of b) k) →
    last_write (writes_of (a ++ b)) s ≡ option_map f (last_mark (marks_of (a ++ b)) k)
agree_part f a b k s one two = grind (arith, common_steps, writes_of-append, last_write-append, option_map, marks_of-append, last_mark-append, marks_of)

Agree-append : (a b : List Event) (k : ℕ) → Agree a k → Agree b k → Agree (a ++ b) k
Agree-append a b k x y = record {
  start = agree_part (λ s. s.start) a b k (2 * k) x.start y.start;
  end = agree_part (λ s. s.end) a b k (2 * k + 1) x.end y.end;
}

-- a group that is not in the tree has no mark
module _ (hay : List ℕ) where
  turns_no_mark : (R : ℕ → ℕ → List Event → Type 0) (k : ℕ) → ((i j : ℕ) (es : List Event) → R i j es → last_mark (marks_of es) k ≡ None) →
      (n i j : ℕ) (es : List Event) → Turns R n i j es → last_mark (marks_of es) k ≡ None
  turns_no_mark R k f zero i j es h = ap (λ es. last_mark (marks_of es) k) h.1
  turns_no_mark R k f (suc n) i j es (l, first, rest, one, more, e) = grind (arith, common_steps, marks_of, marks_of-append, last_mark-append, (turns_no_mark R k f n l j rest more))

  mutual
    pub no_mark : (t : Tree) (k : ℕ) → IsNew k (groups_in t) → (i j : ℕ) (es : List Event) → Steps hay t i j es → last_mark (marks_of es) k ≡ None
    no_mark empty k new i j es h = ap (λ es. last_mark (marks_of es) k) h.1
    no_mark (char c) k new i j es h = ap (λ es. last_mark (marks_of es) k) h.1
    no_mark (class rs) k new i j es h = ap (λ es. last_mark (marks_of es) k) h.1
    no_mark (look l) k new i j es h = ap (λ es. last_mark (marks_of es) k) h.2
    no_mark (repetition min most greedy t) k new i j es (n, least, within, turns) =
        turns_no_mark (Steps hay t) k (no_mark t k new) n i j es turns
    no_mark (group m name t) k new i j es (inner, h, e) =
        ap (λ es. last_mark (marks_of es) k) e ∙ ap (λ ms. last_mark ms k) (marks_of-append inner (closed m i j ∷ []))
        ∙ last_mark-append (marks_of inner) (mark m i j ∷ []) k
        ∙ ap₂ option_or (ap (λ b. cond b (Some (span i j)) None) (ne_eqb m k (λ e. new (inl e)))) (no_mark t k (λ a. new (inr a)) i j inner h)
    no_mark (sequence ts) k new i j es h = no_mark_all ts k new i j es h
    no_mark (alternation ts) k new i j es h = no_mark_one ts k new i j es h

    no_mark_all : (ts : Trees) (k : ℕ) → IsNew k (groups_in_all ts) → (i j : ℕ) (es : List Event) → StepsAll hay ts i j es → last_mark (marks_of es) k ≡ None
    no_mark_all no_tree k new i j es h = ap (λ es. last_mark (marks_of es) k) h.1
    no_mark_all (tree_and t ts) k new i j es (l, first, rest, one, more, e) =
        ap (λ es. last_mark (marks_of es) k) e ∙ ap (λ ms. last_mark ms k) (marks_of-append first rest)
        ∙ last_mark-append (marks_of first) (marks_of rest) k
        ∙ ap₂ option_or (no_mark_all ts k (λ a. new (Among-right (groups_in t) (groups_in_all ts) k a)) l j rest more)
        (no_mark t k (λ a. new (Among-left (groups_in t) (groups_in_all ts) k a)) i l first one)

    no_mark_one : (ts : Trees) (k : ℕ) → IsNew k (groups_in_all ts) → (i j : ℕ) (es : List Event) → StepsOne hay ts i j es → last_mark (marks_of es) k ≡ None
    no_mark_one no_tree k new i j es h = absurd h
    no_mark_one (tree_and t ts) k new i j es h =
        ⊎_elim (λ a. no_mark t k (λ x. new (Among-left (groups_in t) (groups_in_all ts) k x)) i j es a)
        (λ b. no_mark_one ts k (λ x. new (Among-right (groups_in t) (groups_in_all ts) k x)) i j es b) h

  turns_agree : (R : ℕ → ℕ → List Event → Type 0) (k : ℕ) → ((i j : ℕ) (es : List Event) → R i j es → Agree es k) →
      (n i j : ℕ) (es : List Event) → Turns R n i j es → Agree es k
  turns_agree R k f zero i j es h = subst (λ es. Agree es k) (sym h.1) (Agree-none k)
  turns_agree R k f (suc n) i j es (l, first, rest, one, more, e) =
      subst (λ es. Agree es k) (sym e) (Agree-append first rest k (f i l first one) (turns_agree R k f n l j rest more))

  -- a single write counts only for its own slot
  own_write : (s v : ℕ) → last_write ((s, v) ∷ []) s ≡ Some v
  own_write s v = ap (λ b. cond b (Some v) None) (eq-eqb s s refl)

  other_write : (s v q : ℕ) → s ≢ q → last_write ((s, v) ∷ []) q ≡ None
  other_write s v q apart = ap (λ b. cond b (Some v) None) (ne_eqb s q apart)

  -- the last write to one slot, among the writes of a group
  group_write : (k i j : ℕ) (inner : List Event) (s : ℕ) →
      last_write (writes_of (opened k i ∷ (inner ++ closed k i j ∷ []))) s
      ≡ option_or (option_or (last_write ((2 * k + 1, j) ∷ []) s) (last_write (writes_of inner) s)) (last_write ((2 * k, i) ∷ []) s)
  group_write k i j inner s = grind (arith, common_steps, last_write-append, closed, writes_of-append)

  pub group_mark : (k i j : ℕ) (inner : List Event) (q : ℕ) →
      last_mark (marks_of (opened k i ∷ (inner ++ closed k i j ∷ []))) q
      ≡ option_or (if k == q then Some (span i j) else None) (last_mark (marks_of inner) q)
  group_mark k i j inner q =
      ap (λ ms. last_mark ms q) (marks_of-append inner (closed k i j ∷ [])) ∙ last_mark-append (marks_of inner) (mark k i j ∷ []) q

  pub Agree-group : (k i j : ℕ) (inner : List Event) → last_mark (marks_of inner) k ≡ None → ((q : ℕ) → Agree inner q) → (q : ℕ) →
      Agree (opened k i ∷ (inner ++ closed k i j ∷ [])) q
  Agree-group k i j inner none agree q =
      ⊎_elim
      (λ (b : (k == q) ≡ true).
      let same = eqb-true k q b in
      subst (λ q. Agree (opened k i ∷ (inner ++ closed k i j ∷ [])) q) same (at_own k i j inner none (agree k)))
      (λ (b : (k == q) ≡ false).
      let apart : k ≢ q = (λ e. true≢false (sym (eq-eqb k q e) ∙ b)) in
      at_other k i j inner q apart (agree q))
      (cases_Bool (k == q))
    where
      at_own : (k i j : ℕ) (inner : List Event) → last_mark (marks_of inner) k ≡ None → Agree inner k → Agree (opened k i ∷ (inner ++ closed k i j ∷ [])) k
      at_own k i j inner none agree =
          let marked : last_mark (marks_of (opened k i ∷ (inner ++ closed k i j ∷ []))) k ≡ Some (span i j) =
          group_mark k i j inner k ∙ ap (λ b. option_or (cond b (Some (span i j)) None) (last_mark (marks_of inner) k)) (eq-eqb k k refl) in
          record {
            start = group_write k i j inner (2 * k)
                ∙ ap₂ option_or (ap₂ option_or (other_write (2 * k + 1) j (2 * k) (omega arith)) (agree.start ∙ ap (option_map (λ s. s.start)) none)) (own_write (2 * k) i)
                ∙ sym (ap (option_map (λ s. s.start)) marked);
            end = group_write k i j inner (2 * k + 1)
                ∙ ap (λ o. option_or (option_or o (last_write (writes_of inner) (2 * k + 1))) (last_write ((2 * k, i) ∷ []) (2 * k + 1))) (own_write (2 * k + 1) j)
                ∙ sym (ap (option_map (λ s. s.end)) marked);
          }

      at_other : (k i j : ℕ) (inner : List Event) (q : ℕ) → k ≢ q → Agree inner q → Agree (opened k i ∷ (inner ++ closed k i j ∷ [])) q
      at_other k i j inner q apart agree =
          let marked : last_mark (marks_of (opened k i ∷ (inner ++ closed k i j ∷ []))) q ≡ last_mark (marks_of inner) q =
          group_mark k i j inner q ∙ ap (λ b. option_or (cond b (Some (span i j)) None) (last_mark (marks_of inner) q)) (ne_eqb k q apart) in
          record {
            start = group_write k i j inner (2 * q)
                ∙ ap₂ option_or (ap₂ option_or (other_write (2 * k + 1) j (2 * q) (omega arith)) refl) (other_write (2 * k) i (2 * q) (omega (arith, apart)))
                ∙ or_none (last_write (writes_of inner) (2 * q)) ∙ agree.start ∙ sym (ap (option_map (λ s. s.start)) marked);
            end = group_write k i j inner (2 * q + 1)
                ∙ ap₂ option_or (ap₂ option_or (other_write (2 * k + 1) j (2 * q + 1) (omega (arith, apart))) refl) (other_write (2 * k) i (2 * q + 1) (omega arith))
                ∙ or_none (last_write (writes_of inner) (2 * q + 1)) ∙ agree.end ∙ sym (ap (option_map (λ s. s.end)) marked);
          }

  mutual
    -- No group stands twice in the tree: each group's last writes are its last mark.
    pub agrees : (t : Tree) → AllApart (groups_in t) → (i j : ℕ) (es : List Event) → Steps hay t i j es → (k : ℕ) → Agree es k
    agrees empty apart i j es h k = subst (λ es. Agree es k) (sym h.1) (Agree-none k)
    agrees (char c) apart i j es h k = subst (λ es. Agree es k) (sym h.1) (Agree-none k)
    agrees (class rs) apart i j es h k = subst (λ es. Agree es k) (sym h.1) (Agree-none k)
    agrees (look l) apart i j es h k = subst (λ es. Agree es k) (sym h.2) (Agree-none k)
    agrees (repetition min most greedy t) apart i j es (n, least, within, turns) k =
        turns_agree (Steps hay t) k (λ a b es h. agrees t apart a b es h k) n i j es turns
    agrees (group m name t) apart i j es (inner, h, e) k =
        subst (λ es. Agree es k) (sym e)
        (Agree-group m i j inner (no_mark t m apart.0 i j inner h) (λ q. agrees t apart.1 i j inner h q) k)
    agrees (sequence ts) apart i j es h k = agrees_all ts apart i j es h k
    agrees (alternation ts) apart i j es h k = agrees_one ts apart i j es h k

    agrees_all : (ts : Trees) → AllApart (groups_in_all ts) → (i j : ℕ) (es : List Event) → StepsAll hay ts i j es → (k : ℕ) → Agree es k
    agrees_all no_tree apart i j es h k = subst (λ es. Agree es k) (sym h.1) (Agree-none k)
    agrees_all (tree_and t ts) apart i j es (l, first, rest, one, more, e) k =
        let both = AllApart-append (groups_in t) (groups_in_all ts) apart in
        subst (λ es. Agree es k) (sym e) (Agree-append first rest k (agrees t both.0 i l first one k) (agrees_all ts both.1 l j rest more k))

    agrees_one : (ts : Trees) → AllApart (groups_in_all ts) → (i j : ℕ) (es : List Event) → StepsOne hay ts i j es → (k : ℕ) → Agree es k
    agrees_one no_tree apart i j es h k = absurd h
    agrees_one (tree_and t ts) apart i j es h k =
        let both = AllApart-append (groups_in t) (groups_in_all ts) apart in
        ⊎_elim (λ a. agrees t both.0 i j es a k) (λ b. agrees_one ts both.1 i j es b k) h
