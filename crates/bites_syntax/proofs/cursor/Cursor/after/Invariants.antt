use Rattle.std.proofs.Common.{◌≡◌, drop}
use Rattle.bites_spec.specs.Pattern.{begins}
use Rattle.bites_syntax.proofs.cursor.Cursor.after.Given as goal

abbrev pub invariant-loop-b : goal.invariant-loop-b
invariant-loop-b l = (begins (drop l.b-index l.text) l.ahead ≡ begins l.text l.self) × (l.ahead ≡ drop l.b-index l.self)
