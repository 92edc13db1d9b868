-- An anchored search for p from the start of the haystack finds what a search for `\A(?:p)` finds.
use Rattle.std.proofs.lemmas.Grind.{common_steps}
use Rattle.std.proofs.Common.{◌≡◌, ◌↔◌, ℕ, ◌≤◌, Bool, true, false, ◌&&◌, List, [], ◌∷◌, map, Option, Some, None, refl, sym, ap, ap₂, ◌∙◌, subst, arith}
use Rattle.std.proofs.lemmas.List.{append-nil}
use Rattle.bites_spec.specs.Utf8.{places, start_alone}
use Rattle.bites_spec.specs.Look.{holds}
use Rattle.bites_spec.specs.Tree.{Tree, IsPlain}
use Rattle.bites_spec.specs.Match.{Mark, Matches, Parse}
use Rattle.bites_spec.specs.Preference.{ParseTo, here, joined, then_each, parses}
use Rattle.bites_spec.specs.Found.{Answer, IsFoundBy, Finds, NoMatch, head_of, first_ending, parse_to}
use Rattle.bites_spec.specs.CallerLaws.{begun, AnchoredIsBegun}
use Rattle.bites_spec.proofs.utf8.StartLemmas.{start_is_alone}
use Rattle.bites_spec.proofs.regex.CallerLemmas.{start_is_place, at_start, holds_start}
use Rattle.bites_spec.proofs.parses.EventLemmas.{Parse-Matches}

-- ## Matches, parses and their order

module _ (hay : List ℕ) (t : Tree) where
  matches_to : (i j : ℕ) → Matches hay (begun t) i j → (i ≡ 0) × Matches hay t 0 j
  matches_to i j (l, begins, (k, m, same)) = grind (arith, common_steps, at_start)

  matches_of : (j : ℕ) → Matches hay t 0 j → Matches hay (begun t) 0 j
  matches_of j m = (0, (holds_start hay, refl), (j, m, refl))

  parse_inside : (j : ℕ) (ms : List Mark) → Parse hay (begun t) 0 j ms → Parse hay t 0 j ms
  parse_inside j ms (l, none, rest, begins, (k, inner, last, p, ends, joins), all) = grind (arith, common_steps)

  parse_of : (j : ℕ) (ms : List Mark) → Parse hay t 0 j ms → Parse hay (begun t) 0 j ms
  parse_of j ms p = (0, [], ms, (holds_start hay, refl, refl), (j, ms, [], p, (refl, refl), sym (append-nil ms)), refl)

  and_here : (ws : List ParseTo) → then_each ws (λ i. here i ∷ []) ≡ ws
  and_here [] = refl
  and_here (w ∷ ws) = ap₂ (λ (ms : List Mark) (vs : List ParseTo). parse_to w.end ms ∷ vs) (append-nil w.marks) (and_here ws)

  behind_here : (i : ℕ) (ws : List ParseTo) → map (joined (here i)) ws ≡ ws
  behind_here i [] = refl
  behind_here i (w ∷ ws) = ap (λ (vs : List ParseTo). w ∷ vs) (behind_here i ws)

  same_parses : parses hay (begun t) 0 ≡ parses hay t 0
  unfolding parses holds
  same_parses = append-nil _ ∙ behind_here 0 _ ∙ and_here (parses hay t 0)

  plain_of : IsPlain t → IsPlain (begun t)
  plain_of plain = ap (λ (b : Bool). b && true) plain

  plain_to : IsPlain (begun t) → IsPlain t
  plain_to plain = grind arith

  -- ## What is found

  none_to : NoMatch t hay (start_alone hay 0) → NoMatch (begun t) hay (places hay 0)
  none_to none i place j m = none 0 ((start_is_alone hay 0 0).1 (refl, omega arith)) j (matches_to i j m).1

  none_of : NoMatch (begun t) hay (places hay 0) → NoMatch t hay (start_alone hay 0)
  none_of none i place j m =
      let alone = (start_is_alone hay 0 i).0 place in
      none 0 (start_is_place hay 0 (omega arith)) j (matches_of j (subst (λ (k : ℕ). Matches hay t k j) alone.0 m))

  -- the answer begins at 0 if it is that of either tree
  some_to : (Q R : (i j : ℕ) → List Mark → Type 0) → ((j : ℕ) (ms : List Mark) → Q 0 j ms → R 0 j ms) → (a : Answer) →
      IsFoundBy t hay Q (start_alone hay 0) a → IsFoundBy (begun t) hay R (places hay 0) a
  some_to Q R each a f = grind (arith, common_steps, start_is_alone, parse_of, start_is_place)

  some_of : (Q R : (i j : ℕ) → List Mark → Type 0) → ((j : ℕ) (ms : List Mark) → R 0 j ms → Q 0 j ms) → (a : Answer) →
      IsFoundBy (begun t) hay R (places hay 0) a → IsFoundBy t hay Q (start_alone hay 0) a
  some_of Q R each a f =
      let e : a.start ≡ 0 = (matches_to a.start f.first.matches.0 f.first.matches.1).0 in
      let parse = parse_inside a.end f.marks (subst (λ (i : ℕ). Parse hay (begun t) i a.end f.marks) e f.parse) in
      record {
        first = record {
          place = (start_is_alone hay 0 a.start).1 (e, omega arith);
          matches = (a.end, subst (λ (i : ℕ). Matches hay t i a.end) (sym e) (Parse-Matches hay t 0 a.end f.marks parse));
          none_before = λ k among lt. absurd (omega arith);
        };
        marks = f.marks;
        parse = subst (λ (i : ℕ). Parse hay t i a.end f.marks) (sym e) parse;
        groups = f.groups;
        chosen = subst (λ (i : ℕ). Q i a.end f.marks) (sym e) (each a.end f.marks (subst (λ (i : ℕ). R i a.end f.marks) e f.chosen));
      }

  -- the preferred parse, and the first of the longest, by either tree
  abbrev First : Tree → (i j : ℕ) → List Mark → Type 0
  First u i j ms = IsPlain u → head_of (parses hay u i) ≡ Some (parse_to j ms)

  abbrev Last : Tree → (i j : ℕ) → List Mark → Type 0
  Last u i j ms = ((l : ℕ) → Matches hay u i l → l ≤ j) × (IsPlain u → first_ending j (parses hay u i) ≡ Some (parse_to j ms))

  first_to : (j : ℕ) (ms : List Mark) → First t 0 j ms → First (begun t) 0 j ms
  first_to j ms chosen plain = ap head_of same_parses ∙ chosen (plain_to plain)

  first_of : (j : ℕ) (ms : List Mark) → First (begun t) 0 j ms → First t 0 j ms
  first_of j ms chosen plain = ap head_of (sym same_parses) ∙ chosen (plain_of plain)

  last_to : (j : ℕ) (ms : List Mark) → Last t 0 j ms → Last (begun t) 0 j ms
  last_to j ms chosen = grind (arith, common_steps, matches_to, same_parses)

  last_of : (j : ℕ) (ms : List Mark) → Last (begun t) 0 j ms → Last t 0 j ms
  last_of j ms chosen = (
    λ l m. chosen.0 l (matches_of l m),
    λ plain. ap (first_ending j) (sym same_parses) ∙ chosen.1 (plain_of plain),
  )

  both : (longest : Bool) (o : Option Answer) → Finds longest t hay (start_alone hay 0) o ↔ Finds longest (begun t) hay (places hay 0) o
  both true None = (none_to, none_of)
  both false None = (none_to, none_of)
  both true (Some a) = (some_to (Last t) (Last (begun t)) last_to a, some_of (Last t) (Last (begun t)) last_of a)
  both false (Some a) = (some_to (First t) (First (begun t)) first_to a, some_of (First t) (First (begun t)) first_of a)

pub anchored_is_begun : AnchoredIsBegun
anchored_is_begun longest t hay o = both hay t longest o
