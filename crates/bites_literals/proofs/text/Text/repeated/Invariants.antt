use Rattle.std.proofs.Common.{◌≡◌}
use Rattle.std.specs.List.{repeat}
use Rattle.bites_literals.specs.Texts.{bytes_of}
use Rattle.bites_literals.proofs.text.Text.repeated.Given as goal

abbrev pub invariant-loop : goal.invariant-loop
invariant-loop l = bytes_of l.text ≡ repeat l.counter (bytes_of l.self)
