-- A match of the whole haystack.
use Rattle.std.specs.Prelude.{◌≡◌, ℕ, List, length, Option, Some, None, option_map}
use Rattle.bites_spec.specs.Tree.{Tree, IsPlain}
use Rattle.bites_spec.specs.Match.{Mark, Matches, Parse, groups}
use Rattle.bites_spec.specs.Preference.{parses}
use Rattle.bites_spec.specs.Run.{Run, first_run_to, slots}
use Rattle.bites_spec.specs.Found.{Answer, first_ending, parse_to}
use Rattle.bites_spec.specs.Captured.{IsInSlots}
use Rattle.bites_spec.specs.Regex.{Regex}

module _ (t : Tree) (hay : List ℕ) where
  -- the tree matches the whole haystack
  abbrev pub IsFullMatch : Type 0
  IsFullMatch = Matches hay t 0 (length hay)

  -- a parse of the whole haystack, and if the tree is plain the first such parse
  pub record IsFoundFull (a : Answer) : Type 0 where
    pub start : a.start ≡ 0
    pub end : a.end ≡ length hay
    pub marks : List Mark
    pub parse : Parse hay t 0 (length hay) marks
    pub groups : (k : ℕ) → a.group k ≡ groups 0 (length hay) marks k
    pub chosen : IsPlain t → first_ending (length hay) (parses hay t 0) ≡ Some (parse_to (length hay) marks)

  -- what a match of the whole haystack finds: nothing if there is none, else such an answer
  abbrev pub FoundFull : Option Answer → Type 0
  FoundFull None = IsFullMatch → ⊥
  FoundFull (Some a) = IsFoundFull a

-- the first run over the whole haystack
abbrev pub full_run : Regex → List ℕ → Option Run
full_run r hay = first_run_to r.program hay 0 (length hay)

-- the slots of that run
abbrev pub full_slots : Regex → List ℕ → Option (List (Option ℕ))
full_slots r hay = option_map (slots r.program) (full_run r hay)

-- the slots hold the groups of a match of the whole haystack by the regex's tree
pub record AreGroupsFull (r : Regex) (hay : List ℕ) (slots : List (Option ℕ)) : Type 0 where
  pub answer : Answer
  pub found : FoundFull r.tree hay (Some answer)
  pub in_slots : IsInSlots (Some answer) (Some slots)

-- the regex's tree does not match the whole haystack, or the slots hold the groups of such a match
abbrev pub FindsGroupsFull : Regex → List ℕ → Option (List (Option ℕ)) → Type 0
FindsGroupsFull r hay None = IsFullMatch r.tree hay → ⊥
FindsGroupsFull r hay (Some slots) = AreGroupsFull r hay slots
