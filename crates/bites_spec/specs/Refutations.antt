-- Values for which a word of the promises is false, each proved: a weaker word, which holds of them, would not do.
use Rattle.std.specs.Prelude.{◌≡◌, ℕ, ◌+◌, ◌*◌, Bool, true, false, List, [], ◌∷◌, length, codes, Some, None, Ok, Err, if◌then◌else◌, ◌==◌}
use Rattle.bites_spec.specs.Utf8.{places}
use Rattle.bites_spec.specs.Tree.{Tree, empty, char, group, sequence, alternation, trees_of}
use Rattle.bites_spec.specs.Match.{span, groups}
use Rattle.bites_spec.specs.Program as program
use Rattle.bites_spec.specs.Program.{Program, at, targets}
use Rattle.bites_spec.specs.Run.{run, Answered}
use Rattle.bites_spec.specs.Counts.{Record, IsBounded, VisitedBy, IsWalked}
use Rattle.bites_spec.specs.Found.{Answer, Found, FoundLongest, IsLeastEnd}
use Rattle.bites_spec.specs.FoundLaws.{ParticipateAtLeast}
use Rattle.bites_spec.specs.Occurrence.{IsLeftmost}
use Rattle.bites_spec.specs.Spans.{EndsGrow, LiesFrom}
use Rattle.bites_spec.specs.Pieces.{AreInOrder}
use Rattle.bites_spec.specs.TextLaws.{HasBorders}
use Rattle.bites_spec.specs.Measure.{HasItsGroups}
use Rattle.bites_spec.specs.Refused.{AppendsUntilRefused}
use Rattle.bites_spec.specs.AllMatches.{LeaveNoneOut}

-- a state with three edges to the state that ends a run: at one place two visits and four looks are allowed
abbrev pub three_ways : Program
three_ways = record { states = program.splits (1 ∷ 1 ∷ 1 ∷ []) false ∷ program.match ∷ []; start = 0; slots = 2 }

-- a search on the empty haystack kept the bounds, by its visits and the number of its looks
abbrev pub KeepsBounds : List program.Configuration → ℕ → Type 0
KeepsBounds visits looks = IsBounded three_ways [] 0 (record { visits = visits; read = []; looks = looks })

-- the bound on looks can be reached; one more look, one more visit, a configuration twice, or fewer looks than visits is refused
abbrev pub BoundsAreReached : Type 0
BoundsAreReached = KeepsBounds (at 1 0 ∷ at 0 0 ∷ []) 4

abbrev pub BoundsRefuse : Type 0
BoundsRefuse =
    (KeepsBounds (at 1 0 ∷ at 0 0 ∷ []) 5 → ⊥) × (KeepsBounds (at 2 0 ∷ at 1 0 ∷ at 0 0 ∷ []) 4 → ⊥)
    × (KeepsBounds (at 0 0 ∷ at 0 0 ∷ []) 4 → ⊥) × (KeepsBounds (at 1 0 ∷ at 0 0 ∷ []) 1 → ⊥)

-- a state that leads to the last one
abbrev pub one_way : program.State → Program
one_way last = record { states = program.goto 1 None ∷ last ∷ []; start = 0; slots = 2 }

-- a state that leads to one that leads nowhere
abbrev pub dead_end : Program
dead_end = one_way program.fail

-- each search of it makes as many visits and as many looks as the bounds allow, whatever the haystack and the start
abbrev pub SearchesReachBounds : Type 0
SearchesReachBounds =
    (hay : List ℕ) (s : ℕ) (found : Bool) (c : Record) → IsWalked dead_end hay s (places hay s) found c →
    (length c.visits ≡ length dead_end.states * length (places hay s)) × (c.looks ≡ (targets dead_end + 1) * length (places hay s))

-- what a search on the empty haystack visited
abbrev pub Visited : program.State → Bool → List program.Configuration → Type 0
Visited last found visits = VisitedBy (one_way last) [] (places [] 0) found (record { visits = visits; read = []; looks = 2 })

-- if something is found, a whole run was visited; if nothing is, all that is reached was
abbrev pub VisitsRefuse : Type 0
VisitsRefuse =
    Visited program.match true (at 1 0 ∷ at 0 0 ∷ []) × (Visited program.match true (at 0 0 ∷ []) → ⊥)
    × (Visited program.fail true (at 1 0 ∷ at 0 0 ∷ []) → ⊥) × (Visited program.fail false (at 0 0 ∷ []) → ⊥)

-- a state that writes slot 0
abbrev pub one_write : Program
one_write = record { states = program.capture 1 0 ∷ program.match ∷ []; start = 0; slots = 2 }

-- a search says whether it found a run, and a slice has the slots of the run, or is unchanged
abbrev pub AnsweredRefuses : Type 0
AnsweredRefuses =
    (Answered one_write None true [] [] → ⊥) × (Answered one_write None false (None ∷ []) (Some 0 ∷ []) → ⊥)
    × (Answered one_write (Some (run 0 (at 1 0 ∷ []) 0)) false (None ∷ []) (None ∷ []) → ⊥)
    × (Answered one_write (Some (run 0 (at 1 0 ∷ []) 0)) true (None ∷ []) (None ∷ []) → ⊥)

-- an answer of a parse without marks
abbrev pub answer : ℕ → ℕ → Answer
answer i j = record { start = i; end = j; group = groups i j [] }

-- `a` on `aa`: something is found, not at 1, not up to 2, and with group 0
abbrev pub FoundRefuses : Type 0
FoundRefuses =
    (Found (char 97) (codes "aa") (places (codes "aa") 0) None → ⊥) × (Found (char 97) (codes "aa") (places (codes "aa") 0) (Some (answer 1 2)) → ⊥)
    × (Found (char 97) (codes "aa") (places (codes "aa") 0) (Some (answer 0 2)) → ⊥)
    × (Found (char 97) (codes "aa") (places (codes "aa") 0) (Some (record { start = 0; end = 1; group = λ k. None })) → ⊥)
    × (IsLeastEnd (char 97) (codes "aa") (places (codes "aa") 0) None → ⊥) × (IsLeastEnd (char 97) (codes "aa") (places (codes "aa") 0) (Some 2) → ⊥)

-- `a|ab`
abbrev pub a_or_ab : Tree
a_or_ab = alternation (trees_of (char 97 ∷ sequence (trees_of (char 97 ∷ char 98 ∷ [])) ∷ []))

-- on `ab` the preferred parse is not that to 2, and the longest not that to 1
abbrev pub PreferredRefuses : Type 0
PreferredRefuses =
    (Found a_or_ab (codes "ab") (places (codes "ab") 0) (Some (answer 0 2)) → ⊥) × (FoundLongest a_or_ab (codes "ab") (places (codes "ab") 0) (Some (answer 0 1)) → ⊥)

-- `a` stands in `aa`, first at 0, and ends at 1
abbrev pub LeftmostRefuses : Type 0
LeftmostRefuses =
    (IsLeftmost (codes "aa") (codes "a") 0 None → ⊥) × (IsLeftmost (codes "aa") (codes "a") 0 (Some (span 1 2)) → ⊥)
    × (IsLeftmost (codes "aa") (codes "a") 0 (Some (span 0 2)) → ⊥)

-- an end that does not rise, spans that overlap, an end past the haystack, and a start that is too early
abbrev pub SpansRefuse : Type 0
SpansRefuse =
    (EndsGrow 1 (span 0 1 ∷ []) → ⊥) × (AreInOrder 3 0 (span 0 2 ∷ span 1 3 ∷ []) → ⊥)
    × (AreInOrder 2 0 (span 0 3 ∷ []) → ⊥) × (LiesFrom 2 1 (span 0 1) → ⊥)

-- `a` on `aaa`: the match in the middle is not left out, nor the last, nor the first
abbrev pub LeavingOutRefuses : Type 0
LeavingOutRefuses =
    (LeaveNoneOut (char 97) (codes "aaa") (span 0 1 ∷ span 2 3 ∷ []) → ⊥)
    × (LeaveNoneOut (char 97) (codes "aaa") (span 0 1 ∷ span 1 2 ∷ []) → ⊥)
    × (LeaveNoneOut (char 97) (codes "aaa") (span 1 2 ∷ span 2 3 ∷ []) → ⊥)

-- no border lies within the three bytes of a snowman
abbrev pub BordersRefuse : Type 0
BordersRefuse = (HasBorders (0xE2 ∷ 0x98 ∷ 0x83 ∷ []) (span 0 1) → ⊥) × (HasBorders (0xE2 ∷ 0x98 ∷ 0x83 ∷ []) (span 2 3) → ⊥)

-- group 0 alone is not two groups
abbrev pub ParticipantsRefuse : Type 0
ParticipantsRefuse = ParticipateAtLeast 2 (λ k. if k == 0 then Some (span 0 0) else None) → ⊥

-- a group whose number or whose name is missing
abbrev pub ItsGroupsRefuse : Type 0
ItsGroupsRefuse =
    (HasItsGroups (None ∷ []) (group 1 None empty) → ⊥) × (HasItsGroups (None ∷ None ∷ []) (group 1 (Some (codes "n")) empty) → ⊥)

-- a text that is not appended; a refusal that loses the old text, or appends what is no prefix
abbrev pub AppendsRefuse : Type 0
AppendsRefuse =
    (AppendsUntilRefused {E = Unit {0}} (Ok tt) (codes "x") (codes "x") (codes "y") → ⊥)
    × (AppendsUntilRefused {E = Unit {0}} (Err tt) (codes "x") [] (codes "y") → ⊥)
    × (AppendsUntilRefused {E = Unit {0}} (Err tt) (codes "x") (codes "xz") (codes "y") → ⊥)
