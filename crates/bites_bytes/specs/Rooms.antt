-- Memory that is enough for a search.
use Rattle.std.specs.Prelude.{◌≡◌, ℕ, ◌⊎◌}
use Rattle.bites_spec.specs.Program.{Program}
use Rattle.bites_spec.specs.Counts.{Fit, fit_of, fit_with, IsSlotCount}

-- the room is that of the program, or that for n slots alone
abbrev pub HasRoom : Fit → Program → ℕ → Type 0
HasRoom fit p n = (fit ≡ fit_of p) ⊎ (fit ≡ fit_with p n)

-- a search may ask for n slots, which are none, two or all
pub record MayAsk (fit : Fit) (p : Program) (n : ℕ) : Type 0 where
  pub room : HasRoom fit p n
  pub slots : IsSlotCount p n

-- it may leave n slots, which are two or all
pub record MayLeave (fit : Fit) (p : Program) (n : ℕ) : Type 0 where
  pub room : HasRoom fit p n
  pub slots : (n ≡ 2) ⊎ (n ≡ p.slots)
