-- What stands in slots: a slice of them is a list of places, each known or not.
use Rattle.std.specs.Prelude.{◌≡◌, ℕ, ◌*◌, ◌+◌, ◌/◌, List, [], ◌∷◌, length, Option, Some, None, option_map, slice_index_or}
use Rattle.std.specs.List.{filter_map, range_with_len}
use Rattle.bites_spec.specs.Program.{Program}
use Rattle.bites_spec.specs.Run.{Run, slots}
use Rattle.bites_spec.specs.Match.{Span, span, Mark, groups}
use Rattle.bites_spec.specs.Preference.{ParseTo}
use Rattle.bites_spec.specs.Found.{Answer}

-- the place in the slot of this number; none past the last slot
abbrev pub slot_in : List (Option ℕ) → ℕ → Option ℕ
slot_in slots k = slice_index_or slots k None

-- the span between two places, if both are known
abbrev pub span_between : Option ℕ → Option ℕ → Option Span
span_between None o = None
span_between (Some i) None = None
span_between (Some i) (Some j) = Some (span i j)

-- group k: it begins at the place in slot 2 * k, and ends at the one in the next
abbrev pub group_in : List (Option ℕ) → ℕ → Option Span
group_in slots k = span_between (slot_in slots (2 * k)) (slot_in slots (2 * k + 1))

-- The run's slots hold the groups of a parse with these marks: slot 2 * k where group k begins, and the next slot where it ends.
abbrev pub HasGroups : Program → Run → List Mark → Type 0
HasGroups p r ms =
    (k : ℕ) →
    (slot_in (slots p r) (2 * k) ≡ option_map (λ s. s.start) (groups r.start r.end ms k))
    × (slot_in (slots p r) (2 * k + 1) ≡ option_map (λ s. s.end) (groups r.start r.end ms k))

-- the runs and parses pair up: each run ends where its parse does, and has the groups of that parse
abbrev pub Correspond : Program → List Run → List ParseTo → Type 0
Correspond p [] [] = Unit {0}
Correspond p [] (w ∷ ws) = ⊥
Correspond p (r ∷ rs) [] = ⊥
Correspond p (r ∷ rs) (w ∷ ws) = (r.end ≡ w.end) × HasGroups p r w.marks × Correspond p rs ws

-- the spans of group 0 and of the groups that participated, in the order of their numbers
abbrev pub participating : List (Option ℕ) → List Span
participating slots = filter_map (group_in slots) (range_with_len 0 (length slots / 2))

-- where a run begins and ends
abbrev pub span_of_run : Run → Span
span_of_run r = span r.start r.end

-- the answer that a run stands for: its groups are those in its slots
abbrev pub answer_of : Program → Run → Answer
answer_of p r = record { start = r.start; end = r.end; group = group_in (slots p r) }
