-- The walk of one place: the closures of its threads, one after the other, in order of preference. What a thread is, is left open.
use Rattle.std.specs.Prelude.{◌≡◌, ℕ, suc, List, [], ◌∷◌, ◌++◌, Option, Some, if◌then◌else◌, ◌==◌}
use Rattle.std.specs.Fn.{iterate}
use Rattle.std.specs.List.{list_any}
use Rattle.std.specs.Option.{option_or}
use Rattle.bites_spec.specs.Program.{State, Program, state_at, char, ranges, match}

-- what threads do at a place
pub record Threads (T : Type 0) : Type 0 where
  -- the state that a thread continues from
  pub state : T → ℕ
  -- where a thread goes from its state, the preferred edge first
  pub moved : State → T → List T
  -- the threads that a match leaves, once there is one
  pub kept : Option T → List T → List T

-- a walk at a place
pub record Walking (T : Type 0) : Type 0 where
  -- the threads that are still to be walked, the preferred one first
  pub stack : List T
  -- the states that were visited here, the last one first
  pub seen : List ℕ
  -- the threads that took the piece, in order of preference
  pub next : List T
  -- the first thread that came to a match here
  pub first_match : Option T
  -- the number of looks so far
  pub looks : ℕ

-- the first thread of the stack is at a state that was visited here; the threads after it are given
abbrev pub dropped : {T : Type 0} → List T → Walking T → Walking T
dropped rest w = record { stack = rest; seen = w.seen; next = w.next; first_match = w.first_match; looks = suc w.looks }

module _ {T : Type 0} (threads : Threads T) where
  -- The first thread of the stack visits its state; the threads after it are given.
  unfoldable pub visited : State → T → List T → Walking T → Walking T
  visited match t rest w = record {
    stack = threads.kept (option_or w.first_match (Some t)) rest;
    seen = threads.state t ∷ w.seen;
    next = w.next;
    first_match = option_or w.first_match (Some t);
    looks = suc w.looks;
  }
  visited (char q c) t rest w = record {
    stack = rest;
    seen = threads.state t ∷ w.seen;
    next = w.next ++ threads.moved (char q c) t;
    first_match = w.first_match;
    looks = suc w.looks;
  }
  visited (ranges q rs) t rest w = record {
    stack = rest;
    seen = threads.state t ∷ w.seen;
    next = w.next ++ threads.moved (ranges q rs) t;
    first_match = w.first_match;
    looks = suc w.looks;
  }
  visited st t rest w = record {
    stack = threads.moved st t ++ rest;
    seen = threads.state t ∷ w.seen;
    next = w.next;
    first_match = w.first_match;
    looks = suc w.looks;
  }

  module _ (p : Program) where
    -- a walk continues with the first thread of the stack, and those after it
    unfoldable pub stepped : List T → Walking T → Walking T
    stepped [] w = w
    stepped (t ∷ rest) w =
        if list_any (λ q. q == threads.state t) w.seen then dropped rest w else visited (state_at p.states (threads.state t)) t rest w

    -- one step of a walk; where no thread is left it stays
    abbrev pub step : Walking T → Walking T
    step w = stepped w.stack w

    -- some steps lead from one to the other
    abbrev pub WalksTo : Walking T → Walking T → Type 0
    WalksTo w v = (k : ℕ) × (iterate step k w ≡ v)
