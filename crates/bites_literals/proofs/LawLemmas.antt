-- The laws of searches that begin later.
use Rattle.std.proofs.Common.{◌≡◌, ℕ, zero, suc, ◌+◌, ◌<◌, ◌≤◌, Bool, true, false, cond, List, [], ◌∷◌, ◌++◌, length, Option, Some, None, refl, sym, ap, ◌∙◌, subst, ◌⊎◌, inl, inr, ⊎_elim, arith}
use Rattle.std.specs.Prelude.{nat_le}
use Rattle.bites_spec.specs.Walks.{Among}
use Rattle.bites_spec.specs.Utf8.{places, places_within, step_len}
use Rattle.bites_spec.specs.Tree.{Tree, IsPlain}
use Rattle.bites_spec.specs.Match.{Mark, Matches}
use Rattle.bites_spec.specs.Found.{Answer, FoundBy, head_of, first_ending, parse_to}
use Rattle.bites_spec.specs.Preference.{parses}
use Rattle.bites_spec.proofs.programs.BuiltLemmas.{Among-append}
use Rattle.bites_spec.proofs.programs.SlotLemmas.{Among-right}
use Rattle.bites_spec.proofs.runs.PlaceLemmas.{places_enough}
use Rattle.bites_spec.proofs.utf8.PieceLemmas.{Among-places_within, step_some}
pub use Rattle.bites_spec.proofs.programs.BuiltLemmas.{Among-append as among_one}
pub use Rattle.bites_spec.proofs.programs.SlotLemmas.{Among-right as among_back}
use Rattle.bites_literals.specs.declared.prefilter.Begin.{Begin}
use Rattle.bites_literals.specs.declared.prefilter.Begin.TheVariants.{Nowhere, From, Match}
use Rattle.bites_literals.specs.Begins.{BeginsBy, NoneBefore}
use Rattle.bites_literals.specs.Laws.{PlacesGoOn, FindsFromThere, LeastEndFromThere}

module _ (hay : List ℕ) where
  abbrev Tail : List ℕ → ℕ → ℕ → Type 0
  Tail all m p = (front : List ℕ) × (all ≡ front ++ places_within m hay p) × ((i : ℕ) → Among front i → i < p)

  tail_within : (n m s p : ℕ) → length hay < n + s → length hay < m + p → Among (places_within n hay s) p → Tail (places_within n hay s) m p
  tail_within zero m s p a b among = absurd among
  tail_within (suc n) m s p a b among =
      by (nat_le s (length hay)) among (places_enough (suc n) m hay s a) (λ more. tail_within n m (s + step_len hay s) p (omega (arith, step_some hay s)) b more)
    where
      later : Among (places_within n hay (s + step_len hay s)) p → s < p
      later more = omega (arith, (Among-places_within n hay (s + step_len hay s) p more).0, step_some hay s)

      by : (c : Bool) → Among (cond c (s ∷ places_within n hay (s + step_len hay s)) []) p →
          (length hay < m + s → cond c (s ∷ places_within n hay (s + step_len hay s)) [] ≡ places_within m hay s) →
          (Among (places_within n hay (s + step_len hay s)) p → Tail (places_within n hay (s + step_len hay s)) m p) →
          Tail (cond c (s ∷ places_within n hay (s + step_len hay s)) []) m p
      by false among same more = absurd among
      by true (inl here) same more = ([], same (omega (arith, here)) ∙ ap (λ k. places_within m hay k) here, λ i none. absurd none)
      by true (inr there) same more =
          let t = more there in
          (s ∷ t.0, ap (λ l. s ∷ l) t.1, in_front t.0 t.2 (later there))
        where
          in_front : (front : List ℕ) → ((i : ℕ) → Among front i → i < p) → s < p → (i : ℕ) → Among (s ∷ front) i → i < p
          in_front front less lt i (inl here) = omega (arith, here, lt)
          in_front front less lt i (inr there) = less i there

pub places_go_on : PlacesGoOn
unfolding places
places_go_on hay start p among = tail_within hay (suc (length hay)) (suc (length hay)) start p (omega arith) (omega arith) among

module _ (t : Tree) (hay : List ℕ) (start p : ℕ) (none : NoneBefore t hay start p) where
  back : (i : ℕ) → Among (places hay p) i → Among (places hay start) i
  back i h =
      let tail = places_go_on hay start p none.place in
      subst (λ (l : List ℕ). Among l i) (sym tail.1) (Among-right tail.0 (places hay p) i h)

  before_or : (i : ℕ) → Among (places hay start) i → (i < p) ⊎ Among (places hay p) i
  before_or i h =
      let tail = places_go_on hay start p none.place in
      ⊎_elim (λ f. inl (tail.2 i f)) (λ r. inr r) (Among-append tail.0 (places hay p) i (subst (λ (l : List ℕ). Among l i) tail.1 h))

  -- what holds of a match from p on holds of one from the start on
  by_later : {A : Type 0} → (i : ℕ) → Among (places hay start) i → (j : ℕ) → Matches hay t i j → (Among (places hay p) i → A) → A
  by_later i among j m later = ⊎_elim (λ less. absurd (none.none_before i among less j m)) later (before_or i among)

  found : (Q : (i j : ℕ) → List Mark → Type 0) (o : Option Answer) → FoundBy t hay Q (places hay p) o → FoundBy t hay Q (places hay start) o
  found Q None f = λ i among j m. by_later i among j m (λ later. f i later j m)
  found Q (Some a) f = record {
    first = record {
      place = back a.start f.first.place;
      matches = f.first.matches;
      none_before = λ k among lt j m. by_later k among j m (λ later. f.first.none_before k later lt j m);
    };
    marks = f.marks;
    parse = f.parse;
    groups = f.groups;
    chosen = f.chosen;
  }

pub finds_from_there : FindsFromThere
finds_from_there t hay start p none true o f =
    found t hay start p none (λ i j ms. ((l : ℕ) → Matches hay t i l → l ≤ j) × (IsPlain t → first_ending j (parses hay t i) ≡ Some (parse_to j ms))) o f
finds_from_there t hay start p none false o f = found t hay start p none (λ i j ms. IsPlain t → head_of (parses hay t i) ≡ Some (parse_to j ms)) o f

pub least_end_from_there : LeastEndFromThere
least_end_from_there t hay start p none None f = λ i among j m. by_later t hay start p none i among j m (λ later. f i later j m)
least_end_from_there t hay start p none (Some j) ((i, among, m), least) =
    ((i, back t hay start p none i among, m), λ k other l n. by_later t hay start p none k other l n (λ later. least k later l n))

-- what holds of a search from there on holds of one from the start on
pub begins_later : (with_end : Bool) (t : Tree) (hay : List ℕ) (start p : ℕ) → NoneBefore t hay start p → (b : Begin) → BeginsBy with_end t hay p b → BeginsBy with_end t hay start b
begins_later with_end t hay start p none Nowhere later = λ i among j m. by_later t hay start p none i among j m (λ there. later i there j m)
begins_later with_end t hay start p none (From q) later = record {
  place = back t hay start p none q later.place;
  none_before = λ i among lt j m. by_later t hay start p none i among j m (λ there. later.none_before i there lt j m);
}
begins_later with_end t hay start p none (Match i j) later = record {
  first = record {
    place = back t hay start p none i later.first.place;
    none_before = λ k among lt l m. by_later t hay start p none k among l m (λ there. later.first.none_before k there lt l m);
  };
  matches = later.matches;
  chosen = later.chosen;
}

-- what is the first match where its end is asked for is the first match
pub whatever_end : (with_end : Bool) (t : Tree) (hay : List ℕ) (start : ℕ) (b : Begin) → BeginsBy true t hay start b → BeginsBy with_end t hay start b
whatever_end with_end t hay start Nowhere is = is
whatever_end with_end t hay start (From p) is = is
whatever_end with_end t hay start (Match i j) is = record { first = is.first; matches = is.matches; chosen = λ asked. is.chosen refl }
