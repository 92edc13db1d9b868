-- Traced parses list each opening and closing of a group: the marks of a parse and the writes of a run are read off them.
use Rattle.std.proofs.Common.{◌≡◌, ℕ, zero, suc, ◌+◌, ◌*◌, ◌≤◌, List, [], ◌∷◌, ◌++◌, refl, sym, ap, ap₂, ◌∙◌, inl, inr, ⊎_elim, ◌⊎◌, append_assoc}
use Rattle.std.specs.Prelude.{◌==◌}
use Rattle.bites_spec.specs.Look.{Holds}
use Rattle.bites_spec.specs.Range.{in_ranges}
use Rattle.bites_spec.specs.Tree.{Tree, Trees, empty, char, class, look, repetition, group, sequence, alternation, no_tree, tree_and}
use Rattle.bites_spec.specs.Match.{Mark, mark, IsWithin, Chain, Turns, Takes, Matches, MatchesAll, MatchesOne, Parse, ParseAll, ParseOne}

pub data Event : Type 0 where
  -- the group, and where it begins
  opened : ℕ → ℕ → Event
  -- the group, where it began, and where it ends
  closed : ℕ → ℕ → ℕ → Event

abbrev pub write_for : Event → ℕ × ℕ
write_for (opened k i) = (2 * k, i)
write_for (closed k i j) = (2 * k + 1, j)

abbrev pub writes_of : List Event → List (ℕ × ℕ)
writes_of [] = []
writes_of (e ∷ es) = write_for e ∷ writes_of es

abbrev pub mark_for : Event → List Mark
mark_for (opened k i) = []
mark_for (closed k i j) = mark k i j ∷ []

abbrev pub marks_of : List Event → List Mark
marks_of [] = []
marks_of (e ∷ es) = mark_for e ++ marks_of es

pub writes_of-append : (a b : List Event) → writes_of (a ++ b) ≡ writes_of a ++ writes_of b
writes_of-append [] b = refl
writes_of-append (e ∷ a) b = ap (λ ws. write_for e ∷ ws) (writes_of-append a b)

pub marks_of-append : (a b : List Event) → marks_of (a ++ b) ≡ marks_of a ++ marks_of b
marks_of-append [] b = refl
marks_of-append (e ∷ a) b = ap (λ ms. mark_for e ++ ms) (marks_of-append a b) ∙ sym (append_assoc (mark_for e) (marks_of a) (marks_of b))

module _ (hay : List ℕ) where
  abbrev mutual
    -- a traced parse of the tree from i to j, with its events
    pub Steps : Tree → ℕ → ℕ → List Event → Type 0
    Steps empty i j es = (j ≡ i) × (es ≡ [])
    Steps (char c) i j es = Takes hay (λ d. d == c) i j × (es ≡ [])
    Steps (class rs) i j es = Takes hay (in_ranges rs) i j × (es ≡ [])
    Steps (look l) i j es = Holds l hay i × (j ≡ i) × (es ≡ [])
    Steps (repetition min most greedy t) i j es = (n : ℕ) × (min ≤ n) × IsWithin most n × Turns (Steps t) n i j es
    Steps (group k name t) i j es = (inner : List Event) × Steps t i j inner × (es ≡ opened k i ∷ (inner ++ closed k i j ∷ []))
    Steps (sequence ts) i j es = StepsAll ts i j es
    Steps (alternation ts) i j es = StepsOne ts i j es

    pub StepsAll : Trees → ℕ → ℕ → List Event → Type 0
    StepsAll no_tree i j es = (j ≡ i) × (es ≡ [])
    StepsAll (tree_and t ts) i j es =
        (l : ℕ) × (first : List Event) × (rest : List Event) × Steps t i l first × StepsAll ts l j rest × (es ≡ first ++ rest)

    pub StepsOne : Trees → ℕ → ℕ → List Event → Type 0
    StepsOne no_tree i j es = ⊥
    StepsOne (tree_and t ts) i j es = Steps t i j es ⊎ StepsOne ts i j es

  turns_parse : (R : ℕ → ℕ → List Event → Type 0) (Q : ℕ → ℕ → List Mark → Type 0) → ((i j : ℕ) (es : List Event) → R i j es → Q i j (marks_of es)) →
      (n i j : ℕ) (es : List Event) → Turns R n i j es → Turns Q n i j (marks_of es)
  turns_parse R Q f zero i j es h = (h.0, ap marks_of h.1)
  turns_parse R Q f (suc n) i j es (l, first, rest, one, more, e) =
      (l, marks_of first, marks_of rest, f i l first one, turns_parse R Q f n l j rest more, ap marks_of e ∙ marks_of-append first rest)

  mutual
    -- each traced parse is a parse, with the marks of its events
    pub Steps-Parse : (t : Tree) (i j : ℕ) (es : List Event) → Steps t i j es → Parse hay t i j (marks_of es)
    Steps-Parse empty i j es h = (h.0, ap marks_of h.1)
    Steps-Parse (char c) i j es h = (h.0, ap marks_of h.1)
    Steps-Parse (class rs) i j es h = (h.0, ap marks_of h.1)
    Steps-Parse (look l) i j es h = (h.0, h.1, ap marks_of h.2)
    Steps-Parse (repetition min most greedy t) i j es (n, least, within, turns) =
        (n, least, within, turns_parse (Steps t) (Parse hay t) (Steps-Parse t) n i j es turns)
    Steps-Parse (group k name t) i j es (inner, h, e) =
        (marks_of inner, Steps-Parse t i j inner h, ap marks_of e ∙ marks_of-append inner (closed k i j ∷ []))
    Steps-Parse (sequence ts) i j es h = Steps-ParseAll ts i j es h
    Steps-Parse (alternation ts) i j es h = Steps-ParseOne ts i j es h

    Steps-ParseAll : (ts : Trees) (i j : ℕ) (es : List Event) → StepsAll ts i j es → ParseAll hay ts i j (marks_of es)
    Steps-ParseAll no_tree i j es h = (h.0, ap marks_of h.1)
    Steps-ParseAll (tree_and t ts) i j es (l, first, rest, one, more, e) =
        (l, marks_of first, marks_of rest, Steps-Parse t i l first one, Steps-ParseAll ts l j rest more, ap marks_of e ∙ marks_of-append first rest)

    Steps-ParseOne : (ts : Trees) (i j : ℕ) (es : List Event) → StepsOne ts i j es → ParseOne hay ts i j (marks_of es)
    Steps-ParseOne no_tree i j es h = absurd h
    Steps-ParseOne (tree_and t ts) i j es h = ⊎_elim (λ a. inl (Steps-Parse t i j es a)) (λ b. inr (Steps-ParseOne ts i j es b)) h

  -- some traced parse whose events have these marks
  abbrev pub Marked : (ℕ → ℕ → List Event → Type 0) → ℕ → ℕ → List Mark → Type 0
  Marked R i j ms = (es : List Event) × R i j es × (marks_of es ≡ ms)

  parse_turns : (R : ℕ → ℕ → List Event → Type 0) (Q : ℕ → ℕ → List Mark → Type 0) → ((i j : ℕ) (ms : List Mark) → Q i j ms → Marked R i j ms) →
      (n i j : ℕ) (ms : List Mark) → Turns Q n i j ms → Marked (Turns R n) i j ms
  parse_turns R Q f zero i j ms h = ([], (h.0, refl), sym h.1)
  parse_turns R Q f (suc n) i j ms (l, first, rest, one, more, e) =
      let a = f i l first one in
      let b = parse_turns R Q f n l j rest more in
      (a.0 ++ b.0, (l, a.0, b.0, a.1, b.1, refl), marks_of-append a.0 b.0 ∙ ap₂ ◌++◌ a.2 b.2 ∙ sym e)

  mutual
    -- each parse is a traced parse with the same marks
    pub Parse-Steps : (t : Tree) (i j : ℕ) (ms : List Mark) → Parse hay t i j ms → Marked (Steps t) i j ms
    Parse-Steps empty i j ms h = ([], (h.0, refl), sym h.1)
    Parse-Steps (char c) i j ms h = ([], (h.0, refl), sym h.1)
    Parse-Steps (class rs) i j ms h = ([], (h.0, refl), sym h.1)
    Parse-Steps (look l) i j ms h = ([], (h.0, h.1, refl), sym h.2)
    Parse-Steps (repetition min most greedy t) i j ms (n, least, within, turns) =
        let r = parse_turns (Steps t) (Parse hay t) (Parse-Steps t) n i j ms turns in
        (r.0, (n, least, within, r.1), r.2)
    Parse-Steps (group k name t) i j ms (inner, h, e) =
        let r = Parse-Steps t i j inner h in (
          opened k i ∷ (r.0 ++ closed k i j ∷ []),
          (r.0, r.1, refl),
          marks_of-append r.0 (closed k i j ∷ []) ∙ ap (λ ms. ms ++ mark k i j ∷ []) r.2 ∙ sym e,
        )
    Parse-Steps (sequence ts) i j ms h = ParseAll-Steps ts i j ms h
    Parse-Steps (alternation ts) i j ms h = ParseOne-Steps ts i j ms h

    ParseAll-Steps : (ts : Trees) (i j : ℕ) (ms : List Mark) → ParseAll hay ts i j ms → Marked (StepsAll ts) i j ms
    ParseAll-Steps no_tree i j ms h = ([], (h.0, refl), sym h.1)
    ParseAll-Steps (tree_and t ts) i j ms (l, first, rest, one, more, e) =
        let a = Parse-Steps t i l first one in
        let b = ParseAll-Steps ts l j rest more in
        (a.0 ++ b.0, (l, a.0, b.0, a.1, b.1, refl), marks_of-append a.0 b.0 ∙ ap₂ ◌++◌ a.2 b.2 ∙ sym e)

    ParseOne-Steps : (ts : Trees) (i j : ℕ) (ms : List Mark) → ParseOne hay ts i j ms → Marked (StepsOne ts) i j ms
    ParseOne-Steps no_tree i j ms h = absurd h
    ParseOne-Steps (tree_and t ts) i j ms h =
        ⊎_elim (λ a. let r = Parse-Steps t i j ms a in (r.0, inl r.1, r.2)) (λ b. let r = ParseOne-Steps ts i j ms b in (r.0, inr r.1, r.2)) h

  chain_turns : (R : ℕ → ℕ → Type 0) (Q : ℕ → ℕ → List Mark → Type 0) → ((i j : ℕ) → R i j → (ms : List Mark) × Q i j ms) →
      (n i j : ℕ) → Chain R n i j → (ms : List Mark) × Turns Q n i j ms
  chain_turns R Q f zero i j h = ([], (h, refl))
  chain_turns R Q f (suc n) i j (l, one, more) =
      let a = f i l one in let b = chain_turns R Q f n l j more in (a.0 ++ b.0, (l, a.0, b.0, a.1, b.1, refl))

  turns_chain : (R : ℕ → ℕ → Type 0) (Q : ℕ → ℕ → List Mark → Type 0) → ((i j : ℕ) (ms : List Mark) → Q i j ms → R i j) →
      (n i j : ℕ) (ms : List Mark) → Turns Q n i j ms → Chain R n i j
  turns_chain R Q f zero i j ms h = h.0
  turns_chain R Q f (suc n) i j ms (l, first, rest, one, more, e) = (l, f i l first one, turns_chain R Q f n l j rest more)

  mutual
    -- the tree matches exactly where it has a parse
    pub Matches-Parse : (t : Tree) (i j : ℕ) → Matches hay t i j → (ms : List Mark) × Parse hay t i j ms
    Matches-Parse empty i j h = ([], (h, refl))
    Matches-Parse (char c) i j h = ([], (h, refl))
    Matches-Parse (class rs) i j h = ([], (h, refl))
    Matches-Parse (look l) i j h = ([], (h.0, h.1, refl))
    Matches-Parse (repetition min most greedy t) i j (n, least, within, chain) =
        let r = chain_turns (Matches hay t) (Parse hay t) (Matches-Parse t) n i j chain in (r.0, (n, least, within, r.1))
    Matches-Parse (group k name t) i j h = let r = Matches-Parse t i j h in (r.0 ++ mark k i j ∷ [], (r.0, r.1, refl))
    Matches-Parse (sequence ts) i j h = MatchesAll-Parse ts i j h
    Matches-Parse (alternation ts) i j h = MatchesOne-Parse ts i j h

    MatchesAll-Parse : (ts : Trees) (i j : ℕ) → MatchesAll hay ts i j → (ms : List Mark) × ParseAll hay ts i j ms
    MatchesAll-Parse no_tree i j h = ([], (h, refl))
    MatchesAll-Parse (tree_and t ts) i j (l, one, more) =
        let a = Matches-Parse t i l one in let b = MatchesAll-Parse ts l j more in (a.0 ++ b.0, (l, a.0, b.0, a.1, b.1, refl))

    MatchesOne-Parse : (ts : Trees) (i j : ℕ) → MatchesOne hay ts i j → (ms : List Mark) × ParseOne hay ts i j ms
    MatchesOne-Parse no_tree i j h = absurd h
    MatchesOne-Parse (tree_and t ts) i j h =
        ⊎_elim (λ a. let r = Matches-Parse t i j a in (r.0, inl r.1)) (λ b. let r = MatchesOne-Parse ts i j b in (r.0, inr r.1)) h

  mutual
    pub Parse-Matches : (t : Tree) (i j : ℕ) (ms : List Mark) → Parse hay t i j ms → Matches hay t i j
    Parse-Matches empty i j ms h = h.0
    Parse-Matches (char c) i j ms h = h.0
    Parse-Matches (class rs) i j ms h = h.0
    Parse-Matches (look l) i j ms h = (h.0, h.1)
    Parse-Matches (repetition min most greedy t) i j ms (n, least, within, turns) =
        (n, least, within, turns_chain (Matches hay t) (Parse hay t) (Parse-Matches t) n i j ms turns)
    Parse-Matches (group k name t) i j ms (inner, h, e) = Parse-Matches t i j inner h
    Parse-Matches (sequence ts) i j ms h = ParseAll-Matches ts i j ms h
    Parse-Matches (alternation ts) i j ms h = ParseOne-Matches ts i j ms h

    ParseAll-Matches : (ts : Trees) (i j : ℕ) (ms : List Mark) → ParseAll hay ts i j ms → MatchesAll hay ts i j
    ParseAll-Matches no_tree i j ms h = h.0
    ParseAll-Matches (tree_and t ts) i j ms (l, first, rest, one, more, e) = (l, Parse-Matches t i l first one, ParseAll-Matches ts l j rest more)

    ParseOne-Matches : (ts : Trees) (i j : ℕ) (ms : List Mark) → ParseOne hay ts i j ms → MatchesOne hay ts i j
    ParseOne-Matches no_tree i j ms h = absurd h
    ParseOne-Matches (tree_and t ts) i j ms h = ⊎_elim (λ a. inl (Parse-Matches t i j ms a)) (λ b. inr (ParseOne-Matches ts i j ms b)) h
