-- What a regex asks the machine for, and the run of the next match.
use Rattle.std.specs.Prelude.{◌≡◌, ◌⊎◌, ℕ, Bool, true, false, List, take, Option, Some, None, is_some, if◌then◌else◌}
use Rattle.bites_spec.specs.Utf8.{places}
use Rattle.bites_spec.specs.Tree.{Tree}
use Rattle.bites_spec.specs.Program.{Program}
use Rattle.bites_spec.specs.Run.{Run, Answered, LeastEnd, first_run, longest_run, slots}
use Rattle.bites_spec.specs.Slots.{span_of_run}
use Rattle.bites_spec.specs.Spans.{next_after}
use Rattle.bites_spec.specs.Regex.{Regex, IsCompiled, run_at}
use Rattle.bites_spec.specs.Captured.{Excerpt, excerpt}
use Rattle.bites_spec.specs.Counts.{Room}
use Rattle.bites_spec.specs.Full.{full_run}
use Rattle.bites_bytes.specs.Calls.{BeginsAt, FindsBy, Makes, MakesNext, ReadsBy, ReadsFullWith, Searched, SearchedBy, SearchedWithin, searches_for}
use Rattle.bites_literals.specs.Begins.{BeginsAtStart, IsFirstMatch, place_of}
use Rattle.bites_literals.specs.declared.prefilter.Begin.{Begin}
use Rattle.bites_literals.specs.declared.prefilter.Begin.TheVariants.{Match}
use Rattle.bites_machine.specs.Inputs.{is_longest, starts_of}
use Rattle.bites_machine.specs.declared.vm.Input.{Input}
use Rattle.bites_machine.specs.declared.vm.MatchKind.{MatchKind}
use Rattle.bites_machine.specs.declared.vm.MatchKind.TheVariants.{First, Earliest, Longest}

-- which match the searches of a regex ask for
abbrev pub kind_of : Regex → MatchKind
kind_of r = if r.leftmost_longest then Longest else First

-- where a match may begin
abbrev pub starts_in : Input → List ℕ
starts_in i = starts_of i.haystack.now i.anchored i.start

-- what a search that the input asks for has visited
abbrev pub SearchedAs : Regex → Input → Bool → Room → Room → Type 0
SearchedAs r i = SearchedBy i.anchored r i.haystack.now i.start

-- how many searches it takes at most
abbrev pub MakesAs : Input → Room → Room → Type 0
MakesAs i = Makes (searches_for (is_longest i.kind) i.anchored)

-- what a search returns, and leaves in slots, where the match may begin at these starts
pub record IsAnswered (r : Regex) (kind : MatchKind) (hay starts : List ℕ) (found : Bool) (old new : List (Option ℕ)) : Type 0 where
  pub first : kind ≡ First → Answered r.program (first_run r.program hay starts) found old new
  pub longest : kind ≡ Longest → Answered r.program (longest_run r.program hay starts) found old new
  pub least : kind ≡ Earliest → (o : Option Run) × LeastEnd r.program hay starts o × Answered r.program o found old new
  pub compiled : IsCompiled r

-- what exploring from the start of the input on returns, and leaves in slots and in the room
pub record IsExplored (r : Regex) (i : Input) (found : Bool) (old new : List (Option ℕ)) (before after : Room) : Type 0 where
  pub answered : IsAnswered r i.kind i.haystack.now (starts_in i) found old new
  pub searched : Searched r i.haystack.now i.start (starts_in i) found before after
  pub searches : MakesAs i before after

-- a search asks for no slot, or for two and not for those of the least end
abbrev pub AsksFew : MatchKind → ℕ → Type 0
AsksFew kind n = (n ≡ 0) ⊎ ((n ≡ 2) × (kind ≡ Earliest → ⊥))

-- whether a search asks where the match ends that the prefilter tells
abbrev pub asks_end : MatchKind → Bool
asks_end Earliest = false
asks_end First = true
asks_end Longest = true

-- a search from s on explores from i on, where the tree matches first, and to j; a table was made
pub record IsMatch (with_end : Bool) (r : Regex) (hay : List ℕ) (s i j : ℕ) : Type 0 where
  pub begins : BeginsAt r hay s i
  pub first : IsFirstMatch with_end r.tree hay s i j
  pub table : r.has_table ≡ true

-- a search from s on explores from there on, or this is its match
pub record BeginsFrom (with_end : Bool) (r : Regex) (hay : List ℕ) (s : ℕ) (b : Begin) : Type 0 where
  pub begins : BeginsAt r hay s (place_of hay b)
  pub found : (i j : ℕ) → b ≡ Match i j → IsMatch with_end r hay s i j

-- a search that is answered with a match is not anchored, and the match is its first
abbrev pub MatchesFirst : Regex → Input → Begin → Type 0
MatchesFirst r i b = (k l : ℕ) → b ≡ Match k l → (i.anchored ≡ false) × IsMatch (asks_end i.kind) r i.haystack.now i.start k l

-- from where a search explores that begins at s, by whether it is anchored
abbrev pub BeginsBy : Bool → Regex → List ℕ → ℕ → ℕ → Type 0
BeginsBy true r hay s p = p ≡ s
BeginsBy false r hay s p = BeginsAt r hay s p

-- whether a search explores at its start alone, by whether that was asked for: it may go on from there if each match of the tree begins
-- at the start of the haystack
abbrev pub ExploresAs : Tree → (asked explored : Bool) → Type 0
ExploresAs t asked explored = (explored ≡ asked) ⊎ ((asked ≡ true) × (explored ≡ false) × BeginsAtStart t)

-- what a search with the program of a regex returns, and leaves in slots and in the room
pub record IsSearched (r : Regex) (i : Input) (found : Bool) (old new : List (Option ℕ)) (before after : Room) : Type 0 where
  pub answered : IsAnswered r i.kind i.haystack.now (starts_in i) found old new
  pub searched : SearchedAs r i found before after
  pub searches : MakesAs i before after
  pub fits : after.fits ≡ before.fits

-- a search from s on, or at s, finds the match of a run, and leaves the first of the slots of that run
pub record FindsRun {A : Type 0} (view : A → Excerpt) (anchored : Bool) (r : Regex) (hay : List ℕ) (s : ℕ) (m : Option A)
    (old new : List (Option ℕ)) (before after : Room) : Type 0 where
  pub finds : FindsBy view anchored r hay s m before after
  pub answered : Answered r.program (run_at r hay (starts_of hay anchored s)) (is_some m) old new
  pub compiled : IsCompiled r
  pub fits : after.fits ≡ before.fits

-- the run of the next match after one that ends at a place, or of the first of all
abbrev pub next_run : Regex → List ℕ → Option ℕ → Option Run
next_run r hay None = run_at r hay (places hay 0)
next_run r hay (Some e) = next_after span_of_run hay (λ s. run_at r hay (places hay s)) e

-- the result is whether there is a run; if there is, the n slots are the first n of its slots
abbrev pub LeavesRun : Program → Option Run → Bool → ℕ → List (Option ℕ) → Type 0
LeavesRun p None found n new = found ≡ false
LeavesRun p (Some x) found n new = (found ≡ true) × (new ≡ take n (slots p x))

-- there is no next run, or the part of the haystack is that of the next run, whose first n slots are left
abbrev pub FindsNextRun : Regex → List ℕ → Option ℕ → Option Excerpt → ℕ → List (Option ℕ) → Type 0
FindsNextRun r hay last None n new = next_run r hay last ≡ None
FindsNextRun r hay last (Some m) n new =
    (x : Run) × (next_run r hay last ≡ Some x) × (m ≡ excerpt hay (span_of_run x)) × (new ≡ take n (slots r.program x))

-- a search finds the next match, and leaves its first n slots
pub record LeavesNext (r : Regex) (hay : List ℕ) (last : Option ℕ) (m : Option Excerpt) (n : ℕ) (new : List (Option ℕ)) (before after : Room) : Type 0 where
  pub next : FindsNextRun r hay last m n new
  pub compiled : IsCompiled r
  pub searches : MakesNext r last before after
  pub fits : after.fits ≡ before.fits

-- so many searches at most find the match of the whole haystack, if there is one, and leave its first n slots
pub record LeavesFull (most : ℕ) (r : Regex) (hay : List ℕ) (found : Bool) (n : ℕ) (new : List (Option ℕ)) (before after : Room) : Type 0 where
  pub full : LeavesRun r.program (full_run r hay) found n new
  pub compiled : IsCompiled r
  pub searched : SearchedWithin r hay 0 before after
  pub searches : Makes most before after

-- a search finds a match and writes its groups, with a program of the tree
pub record ReadsSlots {A : Type 0} (view : A → Excerpt) (anchored : Bool) (r : Regex) (hay : List ℕ) (s : ℕ) (m : Option A)
    (before after : List (Option ℕ)) (old new : Room) : Type 0 where
  pub reads : ReadsBy view anchored r hay s m before after old new
  pub compiled : IsCompiled r
  pub cache : new.fits ≡ old.fits

-- a search writes the groups of the match of the whole haystack, if there is one, with a program of the tree
pub record ReadsFull (r : Regex) (hay : List ℕ) (there : Bool) (before after : List (Option ℕ)) (old new : Room) : Type 0 where
  pub reads : ReadsFullWith r hay there before after old new
  pub compiled : IsCompiled r
