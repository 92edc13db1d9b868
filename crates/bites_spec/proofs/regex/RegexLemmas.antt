-- The chosen run of a regex's program is what the chosen search of its tree finds.
use Rattle.std.proofs.Common.{ℕ, Bool, true, false, List, option_map}
use Rattle.bites_spec.specs.Utf8.{AreStarts}
use Rattle.bites_spec.specs.Program.{Program, IsWellFormed}
use Rattle.bites_spec.specs.Tree.{Tree}
use Rattle.bites_spec.specs.Built.{Built, IsCompilable}
use Rattle.bites_spec.specs.Run.{chosen_run, longest_run}
use Rattle.bites_spec.specs.Found.{Finds}
use Rattle.bites_spec.specs.Slots.{answer_of}
use Rattle.bites_spec.specs.RegexLaws.{RunIsFound}
use Rattle.bites_spec.proofs.programs.FoundLemmas.{first_run-Found, LongestRun-FoundLongest}
use Rattle.bites_spec.proofs.programs.LongestLemmas.{longest_run-LongestRun}

-- the chosen run of a tree's program is what a search of the tree finds by that choice
pub chosen_run_found : (t : Tree) (p : Program) (hay : List ℕ) → IsCompilable t → Built t p → IsWellFormed p → (longest : Bool) (s : ℕ) (ps : List ℕ) →
    AreStarts hay s ps → Finds longest t hay ps (option_map (answer_of p) (chosen_run longest p hay ps))
chosen_run_found t p hay fit built well true s ps are =
    LongestRun-FoundLongest t p hay fit built ps (longest_run p hay ps) (longest_run-LongestRun p hay well s ps are)
chosen_run_found t p hay fit built well false s ps are = first_run-Found t p hay fit built well s ps are

pub run_is_found : RunIsFound
run_is_found r is hay s ps are = chosen_run_found r.tree r.program hay is.compilable is.built is.well_formed r.leftmost_longest s ps are
