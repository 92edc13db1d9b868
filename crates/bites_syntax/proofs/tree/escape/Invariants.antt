use Rattle.std.proofs.Common.{◌≡◌}
use Rattle.std.specs.Prelude.{string_bytes, encode_utf8_all}
use Rattle.bites_spec.specs.Escaped.{escaped}
use Rattle.bites_syntax.proofs.tree.escape.Given as goal

abbrev pub invariant-loop-c : goal.invariant-loop-c
invariant-loop-c l = string_bytes l.pattern ≡ encode_utf8_all (escaped l.yielded)
