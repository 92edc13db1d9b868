-- Methods that return the reference that they take.
use Rattle.std.specs.Prelude.{◌≡◌}
use Rattle.std.specs.Borrow.{MutBor}

-- the reference that was given is returned, and this is what it points to now
pub record HandsBack {A : Type 0} (given returned : MutBor A) (value : A) : Type 0 where
  pub same : returned.ghost_name ≡ given.ghost_name
  pub set : returned.now ≡ value
