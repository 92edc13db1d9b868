use Rattle.bites_table.proofs.Library.{◌≡◌, ℕ, true, map, take, Program, has_bit}
use Rattle.bites_table.proofs.Words.{Classes, taken, frame_of, AreTaken}
use Rattle.bites_table.proofs.explore.taken.alike_classes.Given as goal

abbrev pub invariant-loop-taker : goal.invariant-loop-taker
invariant-loop-taker l = (p : Program) (k : Classes) → AreTaken p k l.bits → (c : ℕ) → has_bit l.alike c ≡ true →
    taken p (k.member c) (map frame_of (take l.taker-index l.takers)) ≡ taken p (k.member l.class) (map frame_of (take l.taker-index l.takers))
