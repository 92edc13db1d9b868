-- What a search of the code returns, by what the machine on lists returns.
use Rattle.bites_machine.proofs.model.MachineLongest.{longest_answer}
use Rattle.bites_machine.proofs.model.MachineFirst.{first_answer}
use Rattle.bites_machine.proofs.Library.{common_steps, ◌≡◌, ℕ, ◌<◌, ◌≤◌, ◌⊎◌, Bool, true, false, List, length, Option, None, refl, arith, is_some, Program, IsWellFormed, first_run, Run, Answered, LeastEnd, Record, IsBounded, VisitedBy, Searching, Searched, left_in, SearchResult, starts_of, is_longest, is_earliest, IsAnswer, ReadsVisits, nothing_recorded}
use Rattle.bites_machine.specs.declared.vm.MatchKind.{MatchKind}
use Rattle.bites_machine.specs.declared.vm.MatchKind.TheVariants.{First, Earliest, Longest}
use Rattle.bites_machine.proofs.model.MachineClosed.{record_of}
use Rattle.bites_machine.proofs.model.MachineAnswers.{least_answered, search_visited, search_counted, past_first, past_longest, past_least, past_visited, answered}

module _ (p : Program) (hay : List ℕ) (well : IsWellFormed p) (anchored : Bool) (start : ℕ) (answer : Bool) (old new : List (Option ℕ)) (walked : Record) (fits : length old ≤ p.slots) where
  abbrev starts : List ℕ
  starts = starts_of hay anchored start

  -- nothing was found, and nothing was done
  abbrev pub Rests : Type 0
  Rests = (answer ≡ false) × (new ≡ old) × (walked ≡ nothing_recorded)

  -- what a search did, if it began within the haystack, and else
  abbrev pub Did : Bool → Bool → Type 0
  Did longest earliest = (start ≤ length hay → SearchResult p hay longest anchored earliest start answer old new walked) × (length hay < start → Rests)

  -- what holds of the end of a search, and past the end of the haystack of nothing, holds of what the search did
  of_end : (Q : Bool → List (Option ℕ) → Record → Type 0) (longest earliest : Bool) →
      ((within : start ≤ length hay) (t : Searching) → Searched hay longest p (length old) anchored earliest start t → t.visits ≡ walked.visits → Q (is_some t.best) (left_in t.best old) (record_of walked.read t)) →
      (length hay < start → Q false old nothing_recorded) → Did longest earliest → Q answer new walked
  of_end Q longest earliest at_end nothing did = grind (arith, common_steps)

  -- the first run
  pub did_first : Did false false → Answered p (first_run p hay starts) answer old new
  did_first = grind (arith, common_steps, of_end, past_first, answered, first_answer)

  -- a run that ends before or with every other
  pub did_least : Did false true → (o : Option Run) × LeastEnd p hay starts o × Answered p o answer old new
  did_least =
      of_end (λ a l w. (o : Option Run) × LeastEnd p hay starts o × Answered p o a old l) _ _
      (λ within t end visits. least_answered _ _ well _ fits _ _ within _ _ refl end) (λ past. (None, past_least p _ _ _ past, (refl, refl)))

  -- the answer, by the kind of match that was asked for
  pub did_answer : (kind : MatchKind) → Did (is_longest kind) (is_earliest kind) → IsAnswer p hay starts kind answer old new
  did_answer First did = record { first = λ e. did_first did; least = λ e. cc; longest = λ e. cc }
  did_answer Earliest did = record { first = λ e. cc; least = λ e. did_least did; longest = λ e. cc }
  did_answer Longest did = record { first = λ e. cc; least = λ e. cc; longest = λ e. grind (arith, common_steps, of_end, past_longest, longest_answer, answered) }

  -- what was visited
  pub did_visit : (longest earliest : Bool) → Did longest earliest → VisitedBy p hay starts answer walked
  did_visit longest earliest =
      of_end (λ a l w. VisitedBy p hay starts a w) _ _ (λ within t end visits. search_visited p _ well (length old) fits _ _ within longest earliest t end _)
      (past_visited p _ _ _)

  -- and within which bounds
  pub did_bounded : (longest earliest : Bool) → ReadsVisits walked → Did longest earliest → IsBounded p hay start walked
  did_bounded longest earliest reads =
      of_end (λ a l w. IsBounded p hay start w) _ _ (λ within t end visits. search_counted _ _ well (length old) fits anchored _ within longest earliest t end _
      (λ v h. rw visits (reads v h))) (grind arith)

-- a slice that a search may fill
pub slots_fit : (n most : ℕ) → 2 ≤ most → (n ≡ 0) ⊎ (n ≡ 2) ⊎ (n ≡ most) → n ≤ most
slots_fit n most two h = grind (arith, common_steps)
