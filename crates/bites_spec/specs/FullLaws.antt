-- Laws of a match of the whole haystack, each proved.
use Rattle.std.specs.Prelude.{◌≡◌, ◌↔◌, ℕ, List, Option, Some, option_map, IsSome}
use Rattle.bites_spec.specs.Utf8.{places}
use Rattle.bites_spec.specs.Tree.{Tree}
use Rattle.bites_spec.specs.Slots.{answer_of}
use Rattle.bites_spec.specs.Found.{Answer, FoundSome}
use Rattle.bites_spec.specs.Regex.{Regex, IsCompiled}
use Rattle.bites_spec.specs.Captured.{AreGroups}
use Rattle.bites_spec.specs.Full.{IsFullMatch, FoundFull, full_run, full_slots, FindsGroupsFull}

-- the first run over the whole haystack is what a match of the whole haystack finds, and so are its slots
abbrev pub FullRunIsFound : Type 0
FullRunIsFound =
    (r : Regex) → IsCompiled r → (hay : List ℕ) →
    FoundFull r.tree hay (option_map (answer_of r.program) (full_run r hay)) × FindsGroupsFull r hay (full_slots r hay)

-- the slots hold groups of the regex
abbrev pub FullSlotsAreGroups : Type 0
FullSlotsAreGroups =
    (r : Regex) → IsCompiled r → (hay : List ℕ) (slots : List (Option ℕ)) → full_slots r hay ≡ Some slots → AreGroups r hay slots

-- something is found exactly if the tree matches the whole haystack
abbrev pub FullFindsSome : Type 0
FullFindsSome = (t : Tree) (hay : List ℕ) (o : Option Answer) → FoundFull t hay o → IsSome o ↔ IsFullMatch t hay

-- a match of the whole haystack is one that a search may find
abbrev pub FullIsFound : Type 0
FullIsFound = (t : Tree) (hay : List ℕ) (a : Answer) → FoundFull t hay (Some a) → FoundSome t hay (places hay 0) (Some a)
