use Rattle.std.proofs.Common.{◌≡◌, ◌-◌, length}
use Rattle.bites_filter.specs.Table.{IsFurthest}
use Rattle.clients.proofs.TokenLemmas.{IsSoFar}
use Rattle.clients.proofs.tokens.lexer.write_tokens.Given as goal

-- the rules are unchanged, the token is the next one, and what was written so far is right
abbrev pub invariant-loop-start : goal.invariant-loop-start
invariant-loop-start g l =
    (l.rules ≡ l.initial.rules) × IsFurthest l.initial.rules l.text l.start l.token.rule l.token.end
    × IsSoFar l.initial.rules l.text (g.W.Write.contents l.initial.out) l.start (g.W.Write.contents l.out)

abbrev pub decreases-loop-start : goal.decreases-loop-start
decreases-loop-start g l = length l.text - l.start
