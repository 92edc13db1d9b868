-- What iterators have left, as their contracts see them.
use Rattle.std.specs.Prelude.{ℕ, List, Option, option_map}
use Rattle.std.specs.Borrow.{Bor}

-- what is still to come, where a contract sees what is left: all of it
abbrev pub every : {B : Type 0} → List B → List B
every items = items

-- a name by its bytes
abbrev pub bytes_of : Option (Bor (List ℕ)) → Option (List ℕ)
bytes_of = option_map (λ text. text.now)
