-- Walks that stop at the states which take characters, so that one walk serves every character before which the same assertions hold.
use Rattle.std.specs.Prelude.{◌≡◌, ℕ, Bool, List, [], ◌∷◌, ◌++◌, map, Option}
use Rattle.bites_spec.specs.Program.{State, Program, state_at, char, ranges}
use Rattle.bites_spec.specs.Closure as closure
use Rattle.bites_spec.specs.Closure.{Walking}
use Rattle.bites_machine.specs.Ends.{targets_over}
use Rattle.bites_table.specs.Kinds.{Kind, kind_of, leads_between}
use Rattle.bites_table.specs.Sources.{Thread, thread_with, Source, written_by, kept}

-- where a thread goes: at a state that takes characters it stays
abbrev pub goes : Kind → Kind → State → Thread Source → List (Thread Source)
goes k a (char q c) t = t ∷ []
goes k a (ranges q rs) t = t ∷ []
goes k a st t = map (thread_with (written_by st t.row)) (leads_between k a st)

-- what the threads of such a walk do between bytes of two kinds
abbrev pub takers_by : Bool → Kind → Kind → closure.Threads (Thread Source)
takers_by cuts k a = record { state = λ t. t.state; moved = goes k a; kept = kept cuts }

-- where the threads at such states go over a character
abbrev pub taken : Program → Option ℕ → List (Thread Source) → List (Thread Source)
taken p o [] = []
taken p o (t ∷ ts) = map (thread_with t.row) (targets_over o (state_at p.states t.state)) ++ taken p o ts

-- such a walk, as that of one character
abbrev pub over : Program → Option ℕ → Walking (Thread Source) → Walking (Thread Source)
over p o w = record { stack = w.stack; seen = w.seen; next = taken p o w.next; first_match = w.first_match; looks = w.looks }

-- the assertions of the program hold before the character as before a byte of the kind
abbrev pub AssertsAs : Program → Kind → Kind → Option ℕ → Type 0
AssertsAs p k a o = (q : ℕ) → leads_between k (kind_of o) (state_at p.states q) ≡ leads_between k a (state_at p.states q)
