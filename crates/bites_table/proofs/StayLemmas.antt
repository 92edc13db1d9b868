-- Lists that lead back to themselves.
use Rattle.bites_table.proofs.Library.{elements, slice_get, slice_index_or, Program, Walking, ◌≡◌, ℕ, ◌<◌, Bool, true, false, List, [], ◌∷◌, ◌++◌, map, length, Some, None, option_map, sym, ap, ◌∙◌, subst, ⊎_elim, arith, length-append, Among-append}
use Rattle.bites_table.proofs.Words.{Kind, leads_by, Classes, Thread, Source, threads_by, over, AssertsAs, ThreadList, Transition, IsTransition, begun, cuts_off, Table, IsTable, list_at, with_list, frame_of, kind_as, walking_of, Outcome, Graph, table_of, transition_in, transition_with, DoesNothing, AreAfter, LeadsBack, LeadsQuietly, Stays, EndsQuietly, IsStay, AreStays, HasOutcome, WalksSo, AllWalkSo, IsKept, Skip, Stay}
use Rattle.bites_table.specs.declared.kind.Kind as code
use Rattle.bites_table.proofs.GraphLemmas.{get-push}
use Rattle.bites_table.proofs.TakerLemmas.{walks_over}
use Rattle.bites_table.proofs.WalkLemmas.{one_end}

-- a transition visits what a walk of its list visits before a byte of a kind, before which assertions hold as over its class
module _ (p : Program) (k : Classes) (tab : Table) (is : IsTable p k tab) (n c : ℕ) (t : Transition ℕ) (known : tab.transition n c ≡ Some t)
    (a : Kind) (asserts : AssertsAs p (list_at tab n).kind a (k.member c)) (seen : List ℕ) (looks : ℕ) (so : WalksSo p (list_at tab n) a seen looks) where
  abbrev own : IsTransition p (leads_by (list_at tab n).kind (k.member c)) (list_at tab n) (with_list tab t)
  own = is.transition n c t known

  last-is : own.last ≡ over p (k.member c) (walking_of so.walk looks)
  last-is =
      one_end p (threads_by (cuts_off (list_at tab n).starts) (leads_by (list_at tab n).kind (k.member c))) (begun p (list_at tab n)) own.last (over p (k.member c) (walking_of so.walk looks)) own.walks own.over
      (walks_over (cuts_off (list_at tab n).starts) p (list_at tab n).kind a (k.member c) asserts (begun p (list_at tab n)) (walking_of so.walk looks) so.walked.walks)
      (ap (map frame_of) so.walked.over)

  pub seen-same : t.seen ≡ seen
  seen-same = sym own.seen ∙ ap (λ (w : Walking (Thread Source)). w.seen) last-is ∙ so.seen_is

  pub looks-same : t.looks ≡ looks
  looks-same = sym own.looks ∙ ap (λ (w : Walking (Thread Source)). w.looks) last-is

-- an outcome that does nothing but lead back
pub leads-back : (g : Graph) (n c : ℕ) (o : Outcome) → HasOutcome g n c o → o.next ≡ n → DoesNothing o (list_at (table_of g) n) → LeadsBack (table_of g) n c
leads-back g n c o has next does = record {
  transition = transition_with has.cell o;
  known = ap (transition_in g.outcomes) has.known ∙ ap (option_map (transition_with has.cell)) has.named;
  next = next;
  quiet = subst (λ m. DoesNothing o (list_at (table_of g) m)) (sym next) does;
}

-- an outcome that does nothing but lead on
pub leads-quietly : (g : Graph) (n c : ℕ) (o : Outcome) → HasOutcome g n c o → DoesNothing o (list_at (table_of g) o.next) → LeadsQuietly (table_of g) n c
leads-quietly g n c o has does = record { transition = transition_with has.cell o; known = grind (arith, option_map); quiet = does }

-- over the classes that are kept a list stays
pub stays-over : (p : Program) (k : Classes) (tab : Table) → IsTable p k tab → (n : ℕ) (kinds after : List code.Kind) (keeps : List Bool) → ((c : ℕ) → slice_index_or keeps c false ≡ true → IsKept tab n kinds after c) →
    AreAfter p k after → (seen : List ℕ) (looks : ℕ) → AllWalkSo p (list_at tab n) kinds seen looks →
    (c : ℕ) → slice_index_or keeps c false ≡ true → Stays tab n c seen looks
stays-over p k tab is n kinds after keeps kept are seen looks all c e =
    let own = kept c e in
    let asserts = are (list_at tab n).kind c own.within in
    record { back = own.leads_back; seen_is = grind (arith, seen-same); looks_is = grind (arith, looks-same) }

-- the end of a list that comes to no match
pub ends-so : (p : Program) (k : Classes) (g : Graph) → IsTable p k (table_of g) → (n : ℕ) (end : ℕ) → end ≡ k.class_of None → (o : Outcome) → HasOutcome g n end o → o.hit ≡ None →
    (kind : code.Kind) → AssertsAs p (list_at (table_of g) n).kind (kind_as kind) (k.member end) →
    (seen : List ℕ) (looks : ℕ) → WalksSo p (list_at (table_of g) n) (kind_as kind) seen looks → EndsQuietly (table_of g) k n seen looks
ends-so p k g is n end last o has hit kind asserts seen looks so =
    let t = transition_with has.cell o in
    let known : (table_of g).transition n end ≡ Some t = ap (transition_in g.outcomes) has.known ∙ ap (option_map (transition_with has.cell)) has.named in
    record {
      transition = t;
      known = cc;
      hit = ap (option_map frame_of) hit;
      seen_is = seen-same p k (table_of g) is n end t known (kind_as kind) asserts seen looks so;
      looks_is = looks-same p k (table_of g) is n end t known (kind_as kind) asserts seen looks so;
    }

-- one more kind
pub walk-push : (p : Program) (l : ThreadList) (kinds : List code.Kind) (k : code.Kind) (new : List code.Kind) (seen : List ℕ) (looks : ℕ) → new ≡ kinds ++ k ∷ [] →
    AllWalkSo p l kinds seen looks → WalksSo p l (kind_as k) seen looks → AllWalkSo p l new seen looks
walk-push p l kinds k new seen looks e all own a is = grind (arith, own, Among-append)

-- the first kind and others
pub walk-first : (p : Program) (l : ThreadList) (first : code.Kind) (kinds : List code.Kind) (seen : List ℕ) (looks : ℕ) →
    WalksSo p l (kind_as first) seen looks → AllWalkSo p l kinds seen looks → AllWalkSo p l (first ∷ kinds) seen looks
walk-first p l first kinds seen looks own all a is = ⊎_elim (λ e. subst (λ (b : code.Kind). WalksSo p l (kind_as b) seen looks) e own) (all a) is

pub get-left : {X : Type 0} (xs ys : List X) (i : ℕ) (x : X) → i < length xs → slice_get (xs ++ ys) i ≡ Some x → slice_get xs i ≡ Some x
get-left xs ys i x lt e = grind (arith, elements)

-- a stay is one of more skips
pub stay-more : (tab : Table) (k : Classes) (skips more : List Skip) (n : ℕ) (e : Stay) → IsStay tab k skips n e → IsStay tab k (skips ++ more) n e
stay-more tab k skips more n e is = record {
  within = grind (arith, length-append);
  skip = λ i s at there. is.skip i s at (get-left skips more i s (is.within i at) there);
  rest = is.rest;
}

-- one more list
pub stays-push : (tab : Table) (k : Classes) (skips more new : List Skip) (lists : List Stay) (e : Stay) → new ≡ skips ++ more → IsStay tab k new (length lists) e → AreStays tab k skips lists →
    AreStays tab k new (lists ++ e ∷ [])
stays-push tab k skips more new lists e is own are n d at =
    ⊎_elim (λ before. rw is (stay-more tab k skips more n d (are n d before)))
    (λ (last : (n ≡ length lists) × (e ≡ d)). rw (last.0, ← last.1) own)
    (get-push lists e n d at)
