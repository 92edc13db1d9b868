-- How the states of a tree are appended to others, from the end of the tree backwards.
use Rattle.std.specs.Prelude.{ℕ, zero, suc, ◌+◌, ◌-◌, ◌*◌, Bool, true, false, not, List, [], ◌∷◌, ◌++◌, length, slice_set, Option, Some, None}
use Rattle.bites_spec.specs.Tree.{Tree, Trees, empty, char, class, look, repetition, group, sequence, alternation, no_tree, tree_and, is_nullable}
use Rattle.bites_spec.specs.Program as program
use Rattle.bites_spec.specs.Program.{State}

-- the states so far, and the number of the one where what was written last is entered
pub record Emitted : Type 0 where
  pub states : List State
  pub from : ℕ

abbrev pub emitted : List State → ℕ → Emitted
emitted states from = record { states = states; from = from }

-- what is appended to the states, and leads on to the state with this number
abbrev pub Emitter : Type 0
Emitter = ℕ → List State → Emitted

-- one more state
abbrev pub pushed : List State → State → Emitted
pushed states s = emitted (states ++ s ∷ []) (length states)

-- written so that it leads on to what was written last
abbrev pub in_front : Emitter → Emitted → Emitted
in_front f e = f e.from e.states

-- a chain of n copies of the body
abbrev pub again : ℕ → Emitter → Emitter
again zero body to states = emitted states to
again (suc n) body to states = in_front body (again n body to states)

abbrev pub choice : Bool → ℕ → ℕ → State
choice greedy round leave = program.splits (round ∷ leave ∷ []) (not greedy)

-- a choice between what was written last and leaving
abbrev pub with_choice : Bool → ℕ → Emitted → Emitted
with_choice greedy out e = pushed e.states (choice greedy e.from out)

-- n times a choice between the body and leaving
abbrev pub options : ℕ → Bool → Emitter → Emitter
options zero greedy body out states = emitted states out
options (suc n) greedy body out states = with_choice greedy out (in_front body (options n greedy body out states))

-- options that all leave to one state
abbrev pub bounded : ℕ → Bool → Emitter → Emitter
bounded n greedy body to states = in_front (options n greedy body) (pushed states (program.goto to None))

-- the body that leads on to a state reserved for a choice
abbrev pub around : Emitter → List State → Emitted
around body states = body (length states) (states ++ program.fail ∷ [])

-- the choice is written to the reserved state, and the body is where it is entered
abbrev pub looped : Bool → ℕ → ℕ → Emitted → Emitted
looped greedy to place e = emitted (slice_set e.states place (choice greedy e.from to)) e.from

-- the body, then a choice between it again and leaving
abbrev pub loop : Bool → Emitter → Emitter
loop greedy body to states = looped greedy to (length states) (around body states)

-- the choice is written to the reserved state, which is where it is entered
abbrev pub starred : Bool → ℕ → ℕ → Emitted → Emitted
starred greedy to place e = emitted (slice_set e.states place (choice greedy e.from to)) place

-- a choice between the body, which leads back to it, and leaving
abbrev pub star : Bool → Emitter → Emitter
star greedy body to states = starred greedy to (length states) (around body states)

-- a choice between a loop and leaving, both to one state
abbrev pub optional_loop : Bool → Emitter → Emitter
optional_loop greedy body to states =
    with_choice greedy (length states) (in_front (loop greedy body) (pushed states (program.goto to None)))

-- n copies, one more, and up to the given number of further ones
abbrev pub copies_up_to : ℕ → ℕ → Bool → Emitter → Emitter
copies_up_to n zero greedy body to states = in_front (again n body) (body to states)
copies_up_to n (suc more) greedy body to states = in_front (again (suc n) body) (bounded (suc more) greedy body to states)

-- min, most, whether more is preferred, and whether the body is nullable
abbrev pub repeated : ℕ → Option ℕ → Bool → Bool → Emitter → Emitter
repeated zero None greedy true body to states = optional_loop greedy body to states
repeated zero None greedy false body to states = star greedy body to states
repeated (suc n) None greedy is_empty body to states = in_front (again n body) (loop greedy body to states)
repeated zero (Some zero) greedy is_empty body to states = pushed states (program.goto to None)
repeated zero (Some (suc zero)) greedy is_empty body to states = bounded 1 greedy body to states
repeated zero (Some (suc (suc m))) greedy is_empty body to states =
    in_front (λ next more. pushed more (program.goto next None)) (bounded (suc (suc m)) greedy body to states)
repeated (suc n) (Some most) greedy is_empty body to states = copies_up_to n (most - suc n) greedy body to states

abbrev pub class_state : List (ℕ × ℕ) → ℕ → State
class_state [] to = program.fail
class_state (r ∷ rs) to = program.ranges to (r ∷ rs)

-- the state that writes to the slot
abbrev pub writing : ℕ → Emitter
writing slot to states = pushed states (program.capture to slot)

-- a group around the body
abbrev pub grouped : ℕ → Emitter → Emitter
grouped k body to states = in_front (writing (2 * k)) (in_front body (writing (2 * k + 1) to states))

-- states, and where each branch is entered
pub record Branches : Type 0 where
  pub states : List State
  pub rounds : List ℕ

abbrev pub branches : List State → List ℕ → Branches
branches states rounds = record { states = states; rounds = rounds }

-- a branch before the others
abbrev pub with_branch : ℕ → Branches → Branches
with_branch round b = branches b.states (round ∷ b.rounds)

-- the choice between branches
abbrev pub split : Branches → Emitted
split b = pushed b.states (program.splits b.rounds false)

unfoldable mutual
  -- the states of a tree
  pub emit : Tree → Emitter
  emit empty to states = pushed states (program.goto to None)
  emit (char c) to states = pushed states (program.char to c)
  emit (class rs) to states = pushed states (class_state rs to)
  emit (look l) to states = pushed states (program.goto to (Some l))
  emit (repetition min most greedy t) to states = repeated min most greedy (is_nullable t) (emit t) to states
  emit (group k name t) to states = grouped k (emit t) to states
  emit (sequence ts) to states = emit_all ts to states
  emit (alternation ts) to states = split (emit_each ts (length states) (states ++ program.goto to None ∷ []))

  -- a chain of the parts, the last written first
  pub emit_all : Trees → Emitter
  emit_all no_tree to states = emitted states to
  emit_all (tree_and t ts) to states = in_front (emit t) (emit_all ts to states)

  -- the branches; each leads on to `out`
  pub emit_each : Trees → ℕ → List State → Branches
  emit_each no_tree out states = branches states []
  emit_each (tree_and t ts) out states = with_branch (emit t out states).from (emit_each ts out (emit t out states).states)
