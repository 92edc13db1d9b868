-- The Pike VM on lists: threads in order of preference, walked place by place.
use Rattle.std.specs.Prelude.{◌≡◌, ℕ, zero, suc, ◌+◌, Bool, true, false, not, ◌||◌, ◌&&◌, List, [], ◌∷◌, ◌++◌, map, replicate, Option, Some, None, is_some, if◌then◌else◌, ◌==◌, nat_le, slice_set}
use Rattle.std.specs.List.{filter}
use Rattle.std.specs.Option.{option_or}
use Rattle.bites_spec.specs.Utf8.{piece}
use Rattle.bites_spec.specs.Program.{State, Program, Configuration, at, edges, capture}
use Rattle.bites_spec.specs.Closure as closure

-- a thread: the state that it continues from, the place where it was started, and its slots
pub record Thread : Type 0 where
  pub state : ℕ
  pub start : ℕ
  pub slots : List (Option ℕ)

-- a walk at one place
abbrev pub Walking : Type 0
Walking = closure.Walking Thread

-- a search between two places
pub record Searching : Type 0 where
  pub place : ℕ
  -- the threads that took the piece before this place, in order of preference
  pub threads : List Thread
  -- whether the start of the program is walked here, after the threads
  pub starts : Bool
  -- the thread at the best match so far
  pub best : Option Thread
  -- the configurations that were visited, the last one first
  pub visits : List Configuration
  -- the number of looks so far
  pub looks : ℕ

-- the slots, with what a state writes at a place
abbrev pub with_write : State → ℕ → List (Option ℕ) → List (Option ℕ)
with_write (capture q slot) i slots = slice_set slots slot (Some i)
with_write _ i slots = slots

-- a thread from that state on
abbrev pub thread_on : ℕ → List (Option ℕ) → Configuration → Thread
thread_on start slots s = record { state = s.state; start = start; slots = slots }

-- no thread is left
abbrev pub is_empty : List Thread → Bool
is_empty [] = true
is_empty (t ∷ ts) = false

-- a search begins at a place with the start of the program alone
abbrev pub at_start : ℕ → Searching
at_start start = record { place = start; threads = []; starts = true; best = None; visits = []; looks = 0 }

module _ (hay : List ℕ) (longest : Bool) where
  -- the threads that a match leaves: none, or for the longest run those that did not start later
  abbrev pub kept : Option Thread → List Thread → List Thread
  kept None ts = ts
  kept (Some first_match) ts = if longest then filter (λ t. nat_le t.start first_match.start) ts else []

  -- where a thread goes from its state, the preferred edge first
  abbrev pub moved : ℕ → State → Thread → List Thread
  moved i st t = map (thread_on t.start (with_write st i t.slots)) (edges hay st i)

  -- what threads do at a place
  abbrev pub threads_at : ℕ → closure.Threads Thread
  threads_at i = record { state = λ t. t.state; moved = moved i; kept = kept }

  -- The first thread of the stack visits its state; the threads after it are given.
  abbrev pub visited : ℕ → State → Thread → List Thread → Walking → Walking
  visited i = closure.visited (threads_at i)

  module _ (p : Program) where
    -- a walk continues with the first thread of the stack, and those after it
    abbrev pub stepped : ℕ → List Thread → Walking → Walking
    stepped i = closure.stepped (threads_at i) p

    -- one step of a walk at a place; where no thread is left it stays
    abbrev pub step : ℕ → Walking → Walking
    step i = closure.step (threads_at i) p

    -- some steps lead from one to the other
    abbrev pub WalksTo : ℕ → Walking → Walking → Type 0
    WalksTo i = closure.WalksTo (threads_at i) p

    -- the number of slots that are asked for
    module _ (width : ℕ) where
      -- a thread at the start
      abbrev pub started : ℕ → Thread
      started i = record { state = p.start; start = if longest then i else 0; slots = replicate width None }

      -- a walk begins with the threads of the place, and after them the start if it is walked here
      abbrev pub begun : Searching → Walking
      begun s = record {
        stack = s.threads ++ (if s.starts then started s.place ∷ [] else []);
        seen = [];
        next = [];
        first_match = None;
        looks = s.looks;
      }

      -- An anchored search walks the start at its first place alone, any other until something is found.
      module _ (anchored : Bool) where
        -- a walk that is over brings the search to the next place
        abbrev pub after : Searching → Walking → Searching
        after s w = record {
          place = s.place + (piece hay s.place).len;
          threads = w.next;
          starts = s.starts && not (anchored || is_some w.first_match);
          best = option_or w.first_match s.best;
          visits = map (λ q. at q s.place) w.seen ++ s.visits;
          looks = w.looks;
        }

        -- one place is searched
        pub record Searches (s t : Searching) : Type 0 where
          pub last : Walking
          pub walks : WalksTo s.place (begun s) last
          pub over : last.stack ≡ []
          pub is : after s last ≡ t

        module _ (earliest : Bool) where
          -- the search is over after a place: the end of the haystack was searched, the first match is enough, or no thread is left
          -- and none begins
          abbrev pub is_over : ℕ → Searching → Bool
          is_over i t = ((piece hay i).len == 0) || ((earliest && is_some t.best) || (not t.starts && is_empty t.threads))

          -- n places from the start on were searched, and the search is not over
          abbrev pub SearchedTo : ℕ → ℕ → Searching → Type 0
          SearchedTo start zero s = at_start start ≡ s
          SearchedTo start (suc n) t =
              (s : Searching) × SearchedTo start n s × Searches s t × (is_over s.place t ≡ false)

          -- the search from the start on ended in this state
          pub record Searched (start : ℕ) (t : Searching) : Type 0 where
            pub places : ℕ
            pub before : Searching
            pub searched : SearchedTo start places before
            pub last : Searches before t
            pub over : is_over before.place t ≡ true
