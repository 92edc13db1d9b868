use Rattle.std.proofs.Common.{◌≡◌, map, take}
use Rattle.std.specs.Prelude.{string_bytes}
use Rattle.bites_bytes.proofs.bytes.set_builder.copies.Given as goal

-- the patterns so far are copied
abbrev pub invariant-loop-index : goal.invariant-loop-index
invariant-loop-index l = map string_bytes l.copies.items ≡ map (λ p. p.now) (take l.index l.patterns)
