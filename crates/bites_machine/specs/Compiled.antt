-- The program of a tree, and when there is none.
use Rattle.std.specs.Prelude.{◌≡◌, ℕ, ◌*◌, ◌<◌, ◌≤◌, List, [], ◌∷◌, length, Option, sum_by}
use Rattle.bites_spec.specs.Tree.{Tree, groups_in, captures_len, IsReduced}
use Rattle.bites_spec.specs.Measure.{group_size, states, static_captures_len, TreeLimitsWith}
use Rattle.bites_spec.specs.Walks.{AllApart}
use Rattle.bites_spec.specs.Built.{Built, IsCompilable}
use Rattle.bites_spec.specs.Contents.{Contents}
use Rattle.bites_spec.specs.Program as program
use Rattle.bites_spec.specs.Program.{Program, IsWellFormed}
use Rattle.bites_machine.specs.Classes.{HasClasses}
use Rattle.bites_text.specs.declared.error.Error.{Error}
use Rattle.bites_text.specs.declared.error.Error.TheVariants.{TooBig, TooManyStates, TooManySlots, Memory}
use Rattle.bites_machine.specs.Emitted.{Emitted, emit, grouped}
use Rattle.bites_machine.specs.Sizes.{size_by}

-- the match, and group 0 around the tree, which leads on to it
abbrev pub whole : Tree → Emitted
whole t = grouped 0 (emit t) 0 (program.match ∷ [])

-- the program of a tree with n groups
abbrev pub program_of_tree : ℕ → Tree → Program
program_of_tree n t = record { states = (whole t).states; start = (whole t).from; slots = 2 * n }

-- the limits with this number of groups, of this size
pub record LimitsBy (size_limit captures groups_size : ℕ) (t : Tree) : Type 0 where
  pub light : size_by groups_size t ≤ size_limit
  pub few_states : states t ≤ 4294967295
  pub few_groups : captures ≤ 2147483648

-- when one of them is exceeded
abbrev pub RefusesBy : ℕ → ℕ → ℕ → Tree → Error → Type 0
RefusesBy size_limit captures groups_size t TooBig = size_limit < size_by groups_size t
RefusesBy size_limit captures groups_size t TooManyStates = (size_by groups_size t ≤ size_limit) × (4294967295 < states t)
RefusesBy size_limit captures groups_size t TooManySlots =
    (size_by groups_size t ≤ size_limit) × (states t ≤ 4294967295) × (2147483648 < captures)
RefusesBy size_limit captures groups_size t _ = ⊥

-- when an error is returned: the first limit that is exceeded, or out of memory if none is
abbrev pub RefusesTree : ℕ → List (Option (List ℕ)) → Tree → Error → Type 0
RefusesTree size_limit groups t Memory = TreeLimitsWith size_limit groups t
RefusesTree size_limit groups t e = RefusesBy size_limit (length groups) (sum_by group_size groups) t e

-- a program of the tree with n groups can be made
pub record CanBuild (n : ℕ) (t : Tree) : Type 0 where
  pub compilable : IsCompilable t
  pub classes : HasClasses t
  pub few_states : states t ≤ 4294967295
  pub few_groups : n ≤ 2147483648
  pub room : captures_len t ≤ n

-- the program was made of the tree, with this pattern and these names of groups
pub record IsMadeOf (t : Tree) (text : List ℕ) (groups : List (Option (List ℕ))) (p : Contents) : Type 0 where
  pub pattern : p.pattern ≡ text
  pub names : p.names ≡ groups
  pub slots : p.program.slots ≡ 2 * length groups
  pub static_len : p.static_captures_len ≡ static_captures_len t
  pub built : Built t p.program
  pub well_formed : IsWellFormed p.program

-- the groups that are left in the tree are so many, with distinct numbers
pub record AreLeft (n : ℕ) (t : Tree) : Type 0 where
  pub reduced : IsReduced t
  pub apart : AllApart (groups_in t)
  pub captures : n ≡ captures_len t
