use Rattle.bites_table.proofs.Library.{◌≡◌, ◌<◌, ℕ, length, state_at, takes, states_of}
use Rattle.bites_table.specs.Blocks.{AreBlocks, PassAlike, AreSplitByKinds}
use Rattle.bites_table.proofs.classes.blocks_of.Given as goal

abbrev pub invariant-loop-state : goal.invariant-loop-state
invariant-loop-state l = record {
  blocks : AreBlocks l.blocks;
  len : length l.blocks.of.items ≡ length l.begins;
  states : (q : ℕ) → q < l.state-index → PassAlike l.begins l.blocks.of.items (takes (state_at (states_of l.states) q));
  kinds : AreSplitByKinds l.begins l.blocks.of.items l.fn.kinds;
}
