use Rattle.std.proofs.Common.{◌≡◌, ◌+◌, ◌<◌, ℕ, get_or}
use Rattle.bites_scan.specs.Literal.{folding}
use Rattle.bites_literals.proofs.text.Text.ends.Given as goal

-- the bytes so far stand there
abbrev pub invariant-loop-k : goal.invariant-loop-k
invariant-loop-k l = (i : ℕ) → i < l.k → folding l.self.caseless (get_or l.haystack (l.at + i) 0) ≡ folding l.self.caseless (get_or l.self.bytes i 0)
