-- In UTF-8, what a tree matches begins and ends at borders, and so do its groups.
use Rattle.std.proofs.Common.{arith, ◌≡◌, ℕ, zero, suc, ◌+◌, Bool, true, false, cond, List, [], ◌∷◌, ◌++◌, Some, None, sym, ◌∙◌, subst, ⊎_elim, IsUtf8, IsCharBoundary}
use Rattle.std.proofs.lemmas.Grind.{common_steps}
use Rattle.std.specs.Prelude.{◌==◌}
use Rattle.bites_spec.specs.Utf8.{piece, AreStarts}
use Rattle.bites_spec.specs.Tree.{Tree, Trees, empty, char, class, look, repetition, group, sequence, alternation, no_tree, tree_and}
use Rattle.bites_spec.specs.Match.{Mark, Span, span, Turns, Matches, Parse, ParseAll, ParseOne, last_mark, groups}
use Rattle.bites_spec.specs.Found.{Answer, FoundSome, IsLeastEnd}
use Rattle.bites_spec.specs.TextLaws.{HasBorders}
use Rattle.bites_spec.proofs.utf8.StartLemmas.{start_among}
use Rattle.bites_spec.proofs.parses.EventLemmas.{Matches-Parse}
use Rattle.bites_spec.proofs.parses.MarkPlaces.{or_cases}
use Rattle.bites_spec.proofs.parses.TextPlaces.{border_behind, places_are_borders}

-- a property of places that holds after a piece if it holds before it
module _ (hay : List ℕ) (P : ℕ → Type 0) (behind : (i : ℕ) → P i → P (i + (piece hay i).len)) where
  -- it holds at both ends of each mark
  abbrev pub AllHold : List Mark → Type 0
  AllHold [] = Unit {0}
  AllHold (m ∷ ms) = P m.span.start × P m.span.end × AllHold ms

  hold_append : (ms ns : List Mark) → AllHold ms → AllHold ns → AllHold (ms ++ ns)
  hold_append [] ns h k = k
  hold_append (m ∷ ms) ns h k = (h.0, h.1, hold_append ms ns h.2 k)

  -- it holds at the end, and at the ends of the marks
  abbrev pub Kept : ℕ → List Mark → Type 0
  Kept j ms = P j × AllHold ms

  kept_none : (i j : ℕ) (ms : List Mark) → P i → j ≡ i → ms ≡ [] → Kept j ms
  kept_none i j ms p is none = (subst P (sym is) p, subst AllHold (sym none) tt)

  kept_both : (j : ℕ) (ms first rest : List Mark) → AllHold first → Kept j rest → ms ≡ first ++ rest → Kept j ms
  kept_both j ms first rest a b is = (b.0, subst AllHold (sym is) (hold_append first rest a b.1))

  turns_keep : (R : ℕ → ℕ → List Mark → Type 0) → ((i j : ℕ) (ms : List Mark) → R i j ms → P i → Kept j ms) →
      (n i j : ℕ) (ms : List Mark) → Turns R n i j ms → P i → Kept j ms
  turns_keep R f zero i j ms h p = kept_none i j ms p h.0 h.1
  turns_keep R f (suc n) i j ms (l, first, rest, one, more, e) p =
      let a = f i l first one p in kept_both j ms first rest a.1 (turns_keep R f n l j rest more a.0) e

  mutual
    pub parse_keeps : (t : Tree) (i j : ℕ) (ms : List Mark) → Parse hay t i j ms → P i → Kept j ms
    parse_keeps empty i j ms h p = kept_none i j ms p h.0 h.1
    parse_keeps (char c) i j ms h p = (subst P (sym h.0.2) (behind i p), subst AllHold (sym h.1) tt)
    parse_keeps (class rs) i j ms h p = (subst P (sym h.0.2) (behind i p), subst AllHold (sym h.1) tt)
    parse_keeps (look l) i j ms h p = kept_none i j ms p h.1 h.2
    parse_keeps (repetition min most greedy t) i j ms (n, least, within, turns) p =
        turns_keep (Parse hay t) (λ a b ns one q. parse_keeps t a b ns one q) n i j ms turns p
    parse_keeps (group k name t) i j ms (inner, h, e) p = grind (arith, common_steps, hold_append, (parse_keeps t i j inner h p))
    parse_keeps (sequence ts) i j ms h p = all_keep ts i j ms h p
    parse_keeps (alternation ts) i j ms h p = one_keeps ts i j ms h p

    all_keep : (ts : Trees) (i j : ℕ) (ms : List Mark) → ParseAll hay ts i j ms → P i → Kept j ms
    all_keep no_tree i j ms h p = kept_none i j ms p h.0 h.1
    all_keep (tree_and t ts) i j ms (l, first, rest, one, more, e) p =
        let a = parse_keeps t i l first one p in kept_both j ms first rest a.1 (all_keep ts l j rest more a.0) e

    one_keeps : (ts : Trees) (i j : ℕ) (ms : List Mark) → ParseOne hay ts i j ms → P i → Kept j ms
    one_keeps no_tree i j ms h p = absurd h
    one_keeps (tree_and t ts) i j ms h p = ⊎_elim (λ a. parse_keeps t i j ms a p) (λ b. one_keeps ts i j ms b p) h

  -- it holds at both ends of a span
  abbrev pub Holds : Span → Type 0
  Holds g = P g.start × P g.end

  own_holds : (b : Bool) (s g : Span) → Holds s → cond b (Some s) None ≡ Some g → Holds g
  own_holds true s g h e = grind arith
  own_holds false s g h e = let never : None ≡ Some g = e in cc

  last_holds : (ms : List Mark) (k : ℕ) (g : Span) → AllHold ms → last_mark ms k ≡ Some g → Holds g
  last_holds [] k g h e = let never : None ≡ Some g = e in cc
  last_holds (m ∷ ms) k g h e =
      ⊎_elim (λ later. last_holds ms k g h.2 later) (λ now. own_holds (m.group == k) m.span g (h.0, h.1) now)
      (or_cases (last_mark ms k) (cond (m.group == k) (Some m.span) None) g e)

  pub group_holds : (i j : ℕ) (ms : List Mark) (k : ℕ) (g : Span) → P i → Kept j ms → groups i j ms k ≡ Some g → Holds g
  group_holds i j ms zero g p h e = own_holds true (span i j) g (p, h.0) e
  group_holds i j ms (suc k) g p h e = last_holds ms (suc k) g h.1 e

pub match_border : (hay : List ℕ) (t : Tree) (i j : ℕ) → IsUtf8 hay → IsCharBoundary hay i → Matches hay t i j → IsCharBoundary hay j
match_border hay t i j utf8 border m =
    let p = Matches-Parse hay t i j m in
    (parse_keeps hay (IsCharBoundary hay) (λ k b. border_behind hay k utf8 b) t i j p.0 p.1 border).0

pub group_borders : (hay : List ℕ) (t : Tree) (i j : ℕ) (ms : List Mark) → IsUtf8 hay → IsCharBoundary hay i → Parse hay t i j ms →
    (k : ℕ) (g : Span) → groups i j ms k ≡ Some g → HasBorders hay g
group_borders hay t i j ms utf8 border parse k g e =
    let step = λ (k : ℕ) (b : IsCharBoundary hay k). border_behind hay k utf8 b in
    group_holds hay (IsCharBoundary hay) step i j ms k g border (parse_keeps hay (IsCharBoundary hay) step t i j ms parse border) e

pub found_borders : (t : Tree) (hay : List ℕ) (s : ℕ) (ps : List ℕ) → AreStarts hay s ps → (a : Answer) → IsUtf8 hay → IsCharBoundary hay s →
    FoundSome t hay ps (Some a) →
    HasBorders hay (span a.start a.end) × ((k : ℕ) (g : Span) → a.group k ≡ Some g → HasBorders hay g)
found_borders t hay s ps are a utf8 border found =
    let start = ((places_are_borders hay s utf8 border a.start).0 (start_among hay s ps are a.start found.first.place)).1 in
    let step = λ (k : ℕ) (b : IsCharBoundary hay k). border_behind hay k utf8 b in (
      (start, (parse_keeps hay (IsCharBoundary hay) step t a.start a.end found.marks found.parse start).0),
      λ k g e. group_borders hay t a.start a.end found.marks utf8 start found.parse k g (sym (found.groups k) ∙ e),
    )

pub least_end_border : (t : Tree) (hay : List ℕ) (s : ℕ) (ps : List ℕ) → AreStarts hay s ps → (j : ℕ) → IsUtf8 hay → IsCharBoundary hay s →
    IsLeastEnd t hay ps (Some j) → IsCharBoundary hay j
least_end_border t hay s ps are j utf8 border least =
    let m = least.0 in
    match_border hay t m.0 j utf8 ((places_are_borders hay s utf8 border m.0).0 (start_among hay s ps are m.0 m.1)).1 m.2
