-- A parse lies in the haystack, and its groups lie between its ends.
use Rattle.std.proofs.Common.{◌≡◌, ℕ, zero, suc, ◌≤◌, Bool, true, false, cond, List, [], ◌∷◌, ◌++◌, length, Some, None, sym, ◌∙◌, subst, ⊎_elim, arith}
use Rattle.std.specs.Prelude.{◌==◌, if◌then◌else◌}
use Rattle.std.proofs.lemmas.Option.{none-some, same_Some}
use Rattle.bites_spec.specs.Range.{in_ranges}
use Rattle.bites_spec.specs.Tree.{Tree, Trees, empty, char, class, look, repetition, group, sequence, alternation, no_tree, tree_and}
use Rattle.bites_spec.specs.Match.{Span, span, Mark, mark, Takes, Turns, Parse, ParseAll, ParseOne, last_mark, groups}
use Rattle.bites_spec.specs.Spans.{LiesFrom}
use Rattle.bites_spec.specs.FoundLaws.{FoundLies}
use Rattle.bites_spec.proofs.utf8.PieceLemmas.{piece_within}
use Rattle.bites_spec.proofs.utf8.StartLemmas.{start_lies}
use Rattle.bites_spec.proofs.runs.FirstLemmas.{or_cases}

-- all marks lie between two places
abbrev AllLie : ℕ → ℕ → List Mark → Type 0
AllLie i j [] = Unit {0}
AllLie i j (m ∷ ms) = LiesFrom j i m.span × AllLie i j ms

AllLie-wider : (i j k l : ℕ) (ms : List Mark) → k ≤ i → j ≤ l → AllLie i j ms → AllLie k l ms
AllLie-wider i j k l [] below above all = tt
AllLie-wider i j k l (m ∷ ms) below above all =
    let one = all.0 in ((omega (arith, below, one.0), one.1, omega (arith, above, one.2)), AllLie-wider i j k l ms below above all.1)

AllLie-append : (i j : ℕ) (ms ns : List Mark) → AllLie i j ms → AllLie i j ns → AllLie i j (ms ++ ns)
AllLie-append i j [] ns a b = b
AllLie-append i j (m ∷ ms) ns a b = (a.0, AllLie-append i j ms ns a.1 b)

-- the last mark of a group lies between the same two places
last_lies : (i j k : ℕ) (ms : List Mark) (g : Span) → AllLie i j ms → last_mark ms k ≡ Some g → LiesFrom j i g
last_lies i j k [] g all e = absurd (none-some g e)
last_lies i j k (m ∷ ms) g all e =
    ⊎_elim (λ later. last_lies i j k ms g all.1 later)
    (λ here. at_test (m.group == k) here.1)
    (or_cases (last_mark ms k) (if m.group == k then Some m.span else None) g e)
  where
    at_test : (b : Bool) → cond b (Some m.span) None ≡ Some g → LiesFrom j i g
    at_test true h = subst (λ (x : Span). LiesFrom j i x) (same_Some m.span g h) all.0
    at_test false h = absurd (none-some g h)

module _ (hay : List ℕ) where
  -- a parse goes forward within the haystack, and its marks lie in it
  record Lies (i j : ℕ) (ms : List Mark) : Type 0 where
    forward : i ≤ j
    within : j ≤ length hay
    marks : AllLie i j ms

  still : (i j : ℕ) (ms : List Mark) → i ≤ length hay → j ≡ i → ms ≡ [] → Lies i j ms
  still i j ms le same none = record {
    forward = omega (arith, same);
    within = omega (arith, le, same);
    marks = subst (λ x. AllLie i j x) (sym none) tt;
  }

  over_piece : (test : ℕ → Bool) (i j : ℕ) (ms : List Mark) → i ≤ length hay → Takes hay test i j → ms ≡ [] → Lies i j ms
  over_piece test i j ms le takes none = record {
    forward = omega (arith, takes.2);
    within = let fits = piece_within hay i le in omega (arith, fits, takes.2);
    marks = subst (λ x. AllLie i j x) (sym none) tt;
  }

  joined : (i l j : ℕ) (first rest ms : List Mark) → Lies i l first → Lies l j rest → ms ≡ first ++ rest → Lies i j ms
  joined i l j first rest ms a b e =
      let on = a.forward in let more = b.forward in record {
        forward = omega (arith, on, more);
        within = b.within;
        marks = subst (λ x. AllLie i j x) (sym e)
            (AllLie-append i j first rest (AllLie-wider i l i j first (omega arith) more a.marks) (AllLie-wider l j i j rest on (omega arith) b.marks));
      }

  turns_lie : (R : ℕ → ℕ → List Mark → Type 0) → ((i j : ℕ) (ms : List Mark) → i ≤ length hay → R i j ms → Lies i j ms) →
      (n i j : ℕ) (ms : List Mark) → i ≤ length hay → Turns R n i j ms → Lies i j ms
  turns_lie R f zero i j ms le h = still i j ms le h.0 h.1
  turns_lie R f (suc n) i j ms le (l, first, rest, one, more, e) =
      let a = f i l first le one in joined i l j first rest ms a (turns_lie R f n l j rest a.within more) e

  mutual
    parse_lies : (t : Tree) (i j : ℕ) (ms : List Mark) → i ≤ length hay → Parse hay t i j ms → Lies i j ms
    parse_lies empty i j ms le h = still i j ms le h.0 h.1
    parse_lies (char c) i j ms le h = over_piece (λ d. d == c) i j ms le h.0 h.1
    parse_lies (class rs) i j ms le h = over_piece (in_ranges rs) i j ms le h.0 h.1
    parse_lies (look l) i j ms le h = still i j ms le h.1 h.2
    parse_lies (repetition min most greedy t) i j ms le (n, least, bound, turns) = turns_lie (Parse hay t) (parse_lies t) n i j ms le turns
    parse_lies (group k name t) i j ms le (inner, h, e) =
        let a = parse_lies t i j inner le h in
        let forward = a.forward in record {
          forward = forward;
          within = a.within;
          marks = subst (λ x. AllLie i j x) (sym e) (AllLie-append i j inner (mark k i j ∷ []) a.marks ((omega arith, forward, omega arith), tt));
        }
    parse_lies (sequence ts) i j ms le h = all_lie ts i j ms le h
    parse_lies (alternation ts) i j ms le h = one_lies ts i j ms le h

    all_lie : (ts : Trees) (i j : ℕ) (ms : List Mark) → i ≤ length hay → ParseAll hay ts i j ms → Lies i j ms
    all_lie no_tree i j ms le h = still i j ms le h.0 h.1
    all_lie (tree_and t ts) i j ms le (l, first, rest, one, more, e) =
        let a = parse_lies t i l first le one in joined i l j first rest ms a (all_lie ts l j rest a.within more) e

    one_lies : (ts : Trees) (i j : ℕ) (ms : List Mark) → i ≤ length hay → ParseOne hay ts i j ms → Lies i j ms
    one_lies no_tree i j ms le h = absurd h
    one_lies (tree_and t ts) i j ms le h = ⊎_elim (λ a. parse_lies t i j ms le a) (λ b. one_lies ts i j ms le b) h

-- what is found lies in the haystack, and its groups lie in the match
pub found_lies : FoundLies
found_lies t hay s ps are a found =
    let from = start_lies hay s ps are a.start found.first.place in
    let lies = parse_lies hay t a.start a.end found.marks from.1 found.parse in (
      (from.0, lies.forward, lies.within),
      λ k g is. group_lies k g lies.forward lies.marks (sym (found.groups k) ∙ is),
    )
  where
    group_lies : (k : ℕ) (g : Span) → a.start ≤ a.end → AllLie a.start a.end found.marks → groups a.start a.end found.marks k ≡ Some g → LiesFrom a.end a.start g
    group_lies zero g forward all is =
        subst (λ (x : Span). LiesFrom a.end a.start x) (same_Some (span a.start a.end) g is) (omega arith, forward, omega arith)
    group_lies (suc k) g forward all is = last_lies a.start a.end (suc k) found.marks g all is
