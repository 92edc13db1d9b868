use Rattle.std.proofs.Common.{flat_map}
use Rattle.std.specs.Io.KnownBytes.{Appends}
use Rattle.clients.specs.Json.{written_char}
use Rattle.clients.proofs.explain.text.write_chars.Given as goal

-- what is written are the characters so far
abbrev pub invariant-loop-c : goal.invariant-loop-c
invariant-loop-c g l = Appends (g.W.Write.contents l.fn.out) (g.W.Write.contents l.out) (flat_map written_char l.yielded)
