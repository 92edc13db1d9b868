-- Trees whose matches are a byte of a class of ASCII each, or such bytes one after another.
use Rattle.std.specs.Prelude.{◌≡◌, ℕ, ◌<◌, Bool, true, false, not, List, None, slice_index_or, IfSome, if◌then◌else◌}
use Rattle.bites_spec.specs.Range.{Range, in_ranges}
use Rattle.bites_spec.specs.Tree.{Tree, class, repetition}
use Rattle.bites_literals.specs.declared.byte_run.ByteRun.{ByteRun}

-- the class, or its greedy repetition
abbrev pub class_or_run : List Range → (repeats : Bool) → Tree
class_or_run ranges repeats = if repeats then repetition 1 None true (class ranges) else class ranges

-- the bytes are those of the ranges, which are of ASCII; those of a repetition are there too
pub record IsByteRun (ranges : List Range) (repeats : Bool) (r : ByteRun) : Type 0 where
  pub ascii : (c : ℕ) → in_ranges ranges c ≡ true → c < 128
  pub others : (b : ℕ) → b < 256 → slice_index_or r.others b false ≡ not (in_ranges ranges b)
  pub once : r.own ≡ None → repeats ≡ false
  pub own : IfSome r.own (λ own. (repeats ≡ true) × ((b : ℕ) → b < 256 → slice_index_or own b false ≡ in_ranges ranges b))

-- the tree is such a class, or its repetition
abbrev pub IsByteRunOf : Tree → ByteRun → Type 0
IsByteRunOf t r = (ranges : List Range) × (repeats : Bool) × (t ≡ class_or_run ranges repeats) × IsByteRun ranges repeats r
