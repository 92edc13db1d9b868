-- What the machine on lists returns, as contracts say it.
use Rattle.bites_machine.proofs.Library.{common_steps, ◌≡◌, ℕ, ◌<◌, ◌≤◌, Bool, true, false, List, [], length, take, Option, Some, None, option_map, refl, ap, subst, arith, is_some, none-some, Among, first_among, Program, Configuration, IsWellFormed, Run, Answered, LeastEnd, slots, first_run, first_run_from, longest_run, longest_run_below, Record, IsBounded, VisitedBy, MachineThread as Thread, Searching, Searched, left_in, starts_of, nothing_recorded}
use Rattle.bites_machine.proofs.model.MachineSearch.{starts-past}
use Rattle.bites_machine.proofs.model.MachineCounts.{search_bounded}
use Rattle.bites_machine.proofs.model.MachineClosed.{record_of, all_visited, some_visited, no_run, least_end}

pub is_nothing : (r : Record) → r.visits ≡ [] → r.read ≡ [] → r.looks ≡ 0 → r ≡ nothing_recorded
is_nothing r visits read looks = grind arith

pub answered : (p : Program) (width : ℕ) (o : Option Run) (best : Option Thread) (old : List (Option ℕ)) → length old ≡ width →
    option_map (λ (b : Thread). b.slots) best ≡ option_map (λ (r : Run). take width (slots p r)) o → Answered p o (is_some best) old (left_in best old)
answered p width h g old len e = grind (arith, common_steps, none-some)

module _ (p : Program) (hay : List ℕ) (well : IsWellFormed p) (width : ℕ) (fits : width ≤ p.slots) (anchored : Bool) (start : ℕ) (within : start ≤ length hay) where
  abbrev starts : List ℕ
  starts = starts_of hay anchored start

  module _ (t : Searching) (old : List (Option ℕ)) (len : length old ≡ width) where
    -- a run that ends before or with every other
    pub least_answered : Searched hay false p width anchored true start t → (o : Option Run) × LeastEnd p hay starts o × Answered p o (is_some t.best) old (left_in t.best old)
    least_answered end = by_best t.best refl
      where
        by_best : (best : Option Thread) → t.best ≡ best → (o : Option Run) × LeastEnd p hay starts o × Answered p o (is_some best) old (left_in best old)
        by_best None none = (None, no_run p hay false width fits anchored start within true t end none, (refl, refl))
        by_best (Some b) some =
            let least = least_end p hay false width fits anchored start within t end b some in
            (Some least.0, least.1, answered p width (Some least.0) (Some b) old len (ap (λ (l : List (Option ℕ)). Some l) least.2))

  module _ (longest earliest : Bool) (t : Searching) (end : Searched hay longest p width anchored earliest start t) (read : List Configuration) where
    -- what a search has visited
    pub search_visited : VisitedBy p hay starts (is_some t.best) (record_of read t)
    search_visited = by_best t.best refl
      where
        by_best : (best : Option Thread) → t.best ≡ best → VisitedBy p hay starts (is_some best) (record_of read t)
        by_best None none = all_visited p hay longest width fits anchored start within earliest t end none
        by_best (Some b) some = some_visited p hay longest width fits anchored start within earliest t end b some

    -- and within which bounds
    pub search_counted : ((v : Configuration) → Among read v → Among t.visits v) → IsBounded p hay start (record_of read t)
    search_counted = search_bounded p hay well longest width fits anchored earliest start within t end read

-- a start past the end of the haystack
module _ (p : Program) (hay : List ℕ) (anchored : Bool) (start : ℕ) (past : length hay < start) where
  pub past_first : first_run p hay (starts_of hay anchored start) ≡ None
  unfolding first_run
  past_first = ap (first_among (first_run_from p hay)) (starts-past hay anchored start past)

  pub past_longest : longest_run p hay (starts_of hay anchored start) ≡ None
  unfolding longest_run
  past_longest = ap (first_among (longest_run_below p hay _)) (starts-past hay anchored start past)

  pub past_least : LeastEnd p hay (starts_of hay anchored start) None
  past_least i among r j runs = subst (λ (l : List ℕ). Among l i) (starts-past hay anchored start past) among

  pub past_visited : VisitedBy p hay (starts_of hay anchored start) false nothing_recorded
  past_visited i among t reaches = absurd (subst (λ (l : List ℕ). Among l i) (starts-past hay anchored start past) among)
