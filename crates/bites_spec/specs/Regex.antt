-- What contracts see of a regex, and what its searches return.
use Rattle.std.specs.Prelude.{◌≡◌, ℕ, ◌*◌, Bool, List, length, Option, option_map, chars}
use Rattle.bites_spec.specs.Pattern.{Flags}
use Rattle.bites_spec.specs.Tree.{Tree}
use Rattle.bites_spec.specs.Grammar.{Reading, Reads}
use Rattle.bites_spec.specs.Measure.{groups_kept, static_captures_len}
use Rattle.bites_spec.specs.Program.{Program, IsWellFormed}
use Rattle.bites_spec.specs.Built.{Built, IsCompilable}
use Rattle.bites_spec.specs.Match.{Span}
use Rattle.bites_spec.specs.Run.{Run, slots, chosen_run}
use Rattle.bites_spec.specs.Slots.{span_of_run}

-- the bytes of the pattern, the flags that it was read under, its tree, the program of that tree, the names of its groups, how
-- many of them participate in every match if that is known, whether groups that the tree dropped are kept, whether searches
-- return the longest match, whether a table of thread lists was made for them, and whether they look for a literal first
pub record Regex : Type 0 where
  pub pattern : List ℕ
  pub flags : Flags
  pub tree : Tree
  pub program : Program
  pub names : List (Option (List ℕ))
  pub static_captures_len : Option ℕ
  pub keep_dropped_groups : Bool
  pub leftmost_longest : Bool
  pub has_table : Bool
  pub prefilter : Bool

-- the regex with a table, or without one
abbrev pub with_table : Bool → Regex → Regex
with_table b r = record r { has_table = b }

-- the regex whose searches look for a literal first, or don't
abbrev pub with_prefilter : Bool → Regex → Regex
with_prefilter b r = record r { prefilter = b }

-- the tree is what the pattern is read as, and the program is built from it, with two slots for each group that is kept
pub record IsCompiled (regex : Regex) : Type 0 where
  pub reads : Reads (chars regex.pattern) regex.flags regex.tree
  pub compilable : IsCompilable regex.tree
  pub built : Built regex.tree regex.program
  pub well_formed : IsWellFormed regex.program
  pub names : regex.names ≡ groups_kept regex.keep_dropped_groups reads
  pub slots : regex.program.slots ≡ 2 * length regex.names
  pub static : regex.static_captures_len ≡ static_captures_len regex.tree

-- however the pattern is read, the names are those of the groups that are kept
pub record NamesAreKept (regex : Regex) : Type 0 where
  pub kept : (reading : Reading (chars regex.pattern) regex.flags regex.tree) → regex.names ≡ groups_kept regex.keep_dropped_groups reading

-- the run of a regex's program that a search returns
abbrev pub run_at : Regex → List ℕ → List ℕ → Option Run
run_at r hay starts = chosen_run r.leftmost_longest r.program hay starts

-- where that run begins and ends
abbrev pub span_at : Regex → List ℕ → List ℕ → Option Span
span_at r hay starts = option_map span_of_run (run_at r hay starts)

-- the slots of that run
abbrev pub slots_at : Regex → List ℕ → List ℕ → Option (List (Option ℕ))
slots_at r hay starts = option_map (slots r.program) (run_at r hay starts)
