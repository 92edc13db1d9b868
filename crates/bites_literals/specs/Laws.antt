-- Laws of searches that begin later, each proved.
use Rattle.std.specs.Prelude.{◌≡◌, ℕ, ◌<◌, Bool, List, ◌++◌, Option}
use Rattle.bites_spec.specs.Walks.{Among}
use Rattle.bites_spec.specs.Utf8.{places}
use Rattle.bites_spec.specs.Tree.{Tree}
use Rattle.bites_spec.specs.Found.{Answer, Finds, IsLeastEnd}
use Rattle.bites_literals.specs.Begins.{NoneBefore}

-- the places from one of them on are the last of all, behind those before it
abbrev pub PlacesGoOn : Type 0
PlacesGoOn =
    (hay : List ℕ) (start p : ℕ) → Among (places hay start) p →
    (front : List ℕ) × (places hay start ≡ front ++ places hay p) × ((i : ℕ) → Among front i → i < p)

-- what a search finds from such a place on is what it finds from the start on
abbrev pub FindsFromThere : Type 0
FindsFromThere =
    (t : Tree) (hay : List ℕ) (start p : ℕ) → NoneBefore t hay start p →
    (longest : Bool) (o : Option Answer) → Finds longest t hay (places hay p) o → Finds longest t hay (places hay start) o

-- and so is the least end
abbrev pub LeastEndFromThere : Type 0
LeastEndFromThere =
    (t : Tree) (hay : List ℕ) (start p : ℕ) → NoneBefore t hay start p →
    (o : Option ℕ) → IsLeastEnd t hay (places hay p) o → IsLeastEnd t hay (places hay start) o
