use Rattle.std.proofs.Common.{◌≡◌, drop, map}
use Rattle.bites_syntax.specs.Members.{named_at}
use Rattle.bites_syntax.specs.View.{named_of}
use Rattle.bites_syntax.proofs.bracket.named_at.Given as goal

abbrev pub invariant-names : goal.invariant-names
invariant-names l = named_at l.cursor (map named_of (drop l.name-index l.names)) ≡ named_at l.cursor (map named_of l.names)
