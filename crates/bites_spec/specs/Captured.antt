-- What contracts see of the parts of a haystack that a search returns.
use Rattle.std.specs.Prelude.{◌≡◌, ◌≤◌, ℕ, ◌+◌, ◌*◌, List, length, Option, Some, None, IsSome, is_some, option_map}
use Rattle.bites_spec.specs.Utf8.{AreStarts}
use Rattle.bites_spec.specs.Match.{Span, span}
use Rattle.bites_spec.specs.Pieces.{text_at}
use Rattle.bites_spec.specs.Measure.{static_captures_len}
use Rattle.bites_spec.specs.Slots.{group_in, participating, slot_in}
use Rattle.bites_spec.specs.Spans.{LiesFrom}
use Rattle.bites_spec.specs.Found.{Answer, NoMatch, Finds}
use Rattle.bites_spec.specs.Regex.{Regex, IsCompiled, slots_at, span_at}

-- a part of a haystack, by its span
pub record Excerpt : Type 0 where
  pub haystack : List ℕ
  pub span : Span

-- the part at a span
abbrev pub excerpt : List ℕ → Span → Excerpt
excerpt hay s = record { haystack = hay; span = s }

-- what stands there
abbrev pub text_of : Excerpt → List ℕ
text_of e = text_at e.haystack e.span

-- the groups of a match: the regex whose search found it, the haystack, and the slots
pub record Captured : Type 0 where
  pub regex : Regex
  pub haystack : List ℕ
  pub slots : List (Option ℕ)

-- a `Captured` by its parts
abbrev pub captured : Regex → List ℕ → List (Option ℕ) → Captured
captured r hay slots = record { regex = r; haystack = hay; slots = slots }

-- as many slots as the program has, both written or neither for each group; group 0 participated, each group that participated lies in the
-- haystack, and at least as many participated as the form of the pattern says
pub record AreGroups (r : Regex) (hay : List ℕ) (slots : List (Option ℕ)) : Type 0 where
  pub count : length slots ≡ r.program.slots
  pub both : (k : ℕ) → is_some (slot_in slots (2 * k)) ≡ is_some (slot_in slots (2 * k + 1))
  pub whole : IsSome (group_in slots 0)
  pub lie : (k : ℕ) (g : Span) → group_in slots k ≡ Some g → LiesFrom (length hay) 0 g
  pub enough : (n : ℕ) → static_captures_len r.tree ≡ Some n → n ≤ length (participating slots)

-- both are none, or the slots hold the answer: group 0 is its span, and each group is the answer's
abbrev pub IsInSlots : Option Answer → Option (List (Option ℕ)) → Type 0
IsInSlots None None = Unit {0}
IsInSlots None (Some slots) = ⊥
IsInSlots (Some a) None = ⊥
IsInSlots (Some a) (Some slots) =
    (group_in slots 0 ≡ Some (span a.start a.end)) × ((k : ℕ) → group_in slots k ≡ a.group k)

-- the slots hold the groups of a match that a search of the regex's tree from these starts finds
pub record AreGroupsFrom (r : Regex) (hay starts : List ℕ) (slots : List (Option ℕ)) : Type 0 where
  pub answer : Answer
  pub found : Finds r.leftmost_longest r.tree hay starts (Some answer)
  pub in_slots : IsInSlots (Some answer) (Some slots)

-- a search of the regex's tree finds nothing, or the groups in the slots
abbrev pub FindsGroups : Regex → List ℕ → List ℕ → Option (List (Option ℕ)) → Type 0
FindsGroups r hay starts None = NoMatch r.tree hay starts
FindsGroups r hay starts (Some slots) = AreGroupsFrom r hay starts slots

-- the span is that of a match that a search of the regex's tree from these starts finds
pub record IsMatchFrom (r : Regex) (hay starts : List ℕ) (g : Span) : Type 0 where
  pub answer : Answer
  pub found : Finds r.leftmost_longest r.tree hay starts (Some answer)
  pub is_span : g ≡ span answer.start answer.end

-- a search of the regex's tree finds nothing, or a match with this span
abbrev pub FindsSpan : Regex → List ℕ → List ℕ → Option Span → Type 0
FindsSpan r hay starts None = NoMatch r.tree hay starts
FindsSpan r hay starts (Some g) = IsMatchFrom r hay starts g

-- A search of the regex finds this part of the haystack, or none. It is the span of the program's run, and what a search of the
-- tree finds.
pub record FindsMatch (r : Regex) (hay starts : List ℕ) (m : Option Excerpt) : Type 0 where
  pub span : m ≡ option_map (excerpt hay) (span_at r hay starts)
  pub on_tree : FindsSpan r hay starts (option_map (λ x. x.span) m)

-- what a regex's search returns is what a search of its tree finds
abbrev pub SlotsAreFound : Type 0
SlotsAreFound =
    (r : Regex) → IsCompiled r → (hay : List ℕ) (s : ℕ) (starts : List ℕ) → AreStarts hay s starts →
    FindsGroups r hay starts (slots_at r hay starts) × FindsSpan r hay starts (span_at r hay starts)

-- the slots that a search returns hold groups of the regex
abbrev pub SlotsAreGroups : Type 0
SlotsAreGroups =
    (r : Regex) → IsCompiled r → (hay : List ℕ) (s : ℕ) (starts : List ℕ) → AreStarts hay s starts →
    (slots : List (Option ℕ)) → slots_at r hay starts ≡ Some slots → AreGroups r hay slots
