use Rattle.bites_table.proofs.Library.{ℕ, ◌<◌, state_at}
use Rattle.bites_table.specs.Distinctions.{IsWithin, before_state, after_state}
use Rattle.bites_table.proofs.alike_kinds.AlikeKinds.of.Given as goal

abbrev pub invariant-loop-state : goal.invariant-loop-state
invariant-loop-state l = record {
  before_place : (q : ℕ) → q < l.state-index → IsWithin (before_state (state_at l.program.program.states q)) l.kinds.before;
  after_place : (q : ℕ) → q < l.state-index → IsWithin (after_state (state_at l.program.program.states q)) l.kinds.after;
}
