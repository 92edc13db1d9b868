use Rattle.bites_table.proofs.Library.{◌≡◌, ℕ, ◌<◌, true, length, get_or, Some, None, if◌then◌else◌, has_bit}
use Rattle.bites_table.proofs.steps.write_places.Given as goal

abbrev pub invariant-left : goal.invariant-left
invariant-left l = record {
  len : length l.slots ≡ length l.fn.slots;
  of : (k : ℕ) → has_bit l.left k ≡ true → has_bit l.writes k ≡ true;
  slots : (k : ℕ) → k < length l.slots → get_or l.slots k None
      ≡ (if has_bit l.left k then get_or l.fn.slots k None else (if has_bit l.writes k then Some l.place else get_or l.fn.slots k None));
}

abbrev pub decreases-left : goal.decreases-left
decreases-left l = l.left
