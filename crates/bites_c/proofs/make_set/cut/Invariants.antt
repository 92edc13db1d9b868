use Rattle.std.proofs.Common.{◌≡◌, ◌≤◌, map, take, length}
use Rattle.bites_c.specs.Sets.{AreEnds, cut_from}
use Rattle.bites_c.proofs.SetLemmas.{last_end}
use Rattle.bites_c.proofs.make_set.cut.Given as goal

-- the patterns so far are cut, and the next one begins where the last one ends
abbrev pub invariant-loop-size : goal.invariant-loop-size
invariant-loop-size l = record {
  start : l.start ≡ last_end 0 (take l.size l.ends);
  within : l.start ≤ length l.patterns;
  ends : AreEnds (length l.patterns) 0 (take l.size l.ends);
  cut : map (λ p. p.now) l.texts.items ≡ cut_from l.patterns 0 (take l.size l.ends);
}
