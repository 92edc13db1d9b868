use Rattle.bites_table.proofs.Library.{◌≡◌, ◌<◌, ◌≤◌, ℕ, false, takes, has_bit, takes_by, state_of}
use Rattle.bites_table.specs.Classes.{classes_of}
use Rattle.bites_table.proofs.explore.taken.taken_among.Given as goal

abbrev pub invariant-loop-class : goal.invariant-loop-class
invariant-loop-class l = record {
  done : (c : ℕ) → c < l.class → has_bit l.bits c ≡ takes_by (takes (state_of l.state)) ((classes_of l.classes).member c);
  none : (c : ℕ) → l.class ≤ c → has_bit l.bits c ≡ false;
}
