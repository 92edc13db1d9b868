use Rattle.std.proofs.Common.{map, take}
use Rattle.std.specs.Prelude.{string_bytes}
use Rattle.bites_spec.specs.Set.{AreBuilt, set_settings}
use Rattle.bites_bytes.proofs.bytes.set_builder.built.Given as goal

-- there is a regex for each pattern so far
abbrev pub invariant-loop-index : goal.invariant-loop-index
invariant-loop-index l = AreBuilt (set_settings (map string_bytes (take l.index l.patterns)) l.all) l.regexes.items
