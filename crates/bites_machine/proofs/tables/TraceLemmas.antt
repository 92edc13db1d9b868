-- The record of a search, where places are passed by transitions.
use Rattle.bites_machine.proofs.Library.{common_steps, ℕ, List, [], ◌∷◌, arith, Record, Among-right, after_place, after_each, ReadsVisits}

-- what was read was visited still
pub reads_after : (seen : List ℕ) (looks : ℕ) (places : List ℕ) (r : Record) → ReadsVisits r → ReadsVisits (after_each seen looks places r)
reads_after seen looks [] r reads = reads
reads_after seen looks (i ∷ places) r reads = grind (arith, common_steps, Among-right, (reads_after seen looks places (after_place seen looks i r)))
