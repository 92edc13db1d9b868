-- All parses from a place, the preferred one first.
use Rattle.std.specs.Prelude.{ℕ, zero, suc, ◌+◌, ◌-◌, Bool, ◌&&◌, List, [], ◌∷◌, ◌++◌, length, map, flat_map, Option, Some, None, if◌then◌else◌, nat_lt, ◌==◌}
use Rattle.bites_spec.specs.Utf8.{piece, character}
use Rattle.bites_spec.specs.Look.{holds}
use Rattle.bites_spec.specs.Range.{in_ranges}
use Rattle.bites_spec.specs.Tree.{Tree, Trees, empty, char, class, look, repetition, group, sequence, alternation, no_tree, tree_and}
use Rattle.bites_spec.specs.Match.{Mark, mark}

-- a parse by its end and its marks
pub record ParseTo : Type 0 where
  pub end : ℕ
  pub marks : List Mark

-- the parse of the empty text
abbrev pub here : ℕ → ParseTo
here i = record { end = i; marks = [] }

-- a parse, and after it another
abbrev pub joined : ParseTo → ParseTo → ParseTo
joined w v = record { end = v.end; marks = w.marks ++ v.marks }

-- a parse with a mark of group k, which begins at i and ends where the parse does
abbrev pub grouped : ℕ → ℕ → ParseTo → ParseTo
grouped k i w = record { end = w.end; marks = w.marks ++ mark k i w.end ∷ [] }

-- each first parse, and after it each parse of the rest; the choice of the first counts first
abbrev pub then_each : List ParseTo → (ℕ → List ParseTo) → List ParseTo
then_each firsts rest = flat_map (λ w. map (joined w) (rest w.end)) firsts

-- n turns of the body, and then the rest
abbrev pub after_turns : ℕ → (ℕ → List ParseTo) → (ℕ → List ParseTo) → ℕ → List ParseTo
after_turns zero body rest i = rest i
after_turns (suc n) body rest i = then_each (body i) (after_turns n body rest)

-- up to n turns of the body; if more is preferred, one more turn comes before stopping, else after it
abbrev pub up_to : ℕ → Bool → (ℕ → List ParseTo) → ℕ → List ParseTo
up_to zero greedy body i = here i ∷ []
up_to (suc n) greedy body i =
    if greedy then then_each (body i) (up_to n greedy body) ++ here i ∷ []
    else here i ∷ then_each (body i) (up_to n greedy body)

module _ (hay : List ℕ) where
  -- the character at the place, if it passes the test
  abbrev pub taken : (ℕ → Bool) → ℕ → List ParseTo
  taken test i =
      if nat_lt 0 (piece hay i).len && test (character (piece hay i)) then here (i + (piece hay i).len) ∷ [] else []

  -- the turns of a repetition; without a greatest count each further turn takes at least a byte, so the haystack bounds them
  abbrev pub turns : ℕ → Option ℕ → Bool → (ℕ → List ParseTo) → ℕ → List ParseTo
  turns min None greedy body = after_turns min body (up_to (length hay) greedy body)
  turns min (Some most) greedy body = after_turns min body (up_to (most - min) greedy body)

  unfoldable mutual
    -- all parses of a plain tree from i, in Perl's order of preference
    pub parses : Tree → ℕ → List ParseTo
    parses empty i = here i ∷ []
    parses (char c) i = taken (λ d. d == c) i
    parses (class rs) i = taken (in_ranges rs) i
    parses (look l) i = if holds l hay i then here i ∷ [] else []
    parses (repetition min most greedy t) i = turns min most greedy (parses t) i
    parses (group k name t) i = map (grouped k i) (parses t i)
    parses (sequence ts) i = parses_of_all ts i
    parses (alternation ts) i = parses_of_one ts i

    -- all parses of the trees one after the other
    pub parses_of_all : Trees → ℕ → List ParseTo
    parses_of_all no_tree i = here i ∷ []
    parses_of_all (tree_and t ts) i = then_each (parses t i) (parses_of_all ts)

    -- all parses of a choice between trees; an earlier tree is preferred
    pub parses_of_one : Trees → ℕ → List ParseTo
    parses_of_one no_tree i = []
    parses_of_one (tree_and t ts) i = parses t i ++ parses_of_one ts i
