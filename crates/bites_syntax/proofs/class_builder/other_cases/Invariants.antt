use Rattle.std.proofs.Common.{◌≡◌, ℕ, take}
use Rattle.bites_spec.specs.Range.{in_ranges}
use Rattle.bites_syntax.specs.Cases.{other_case}
use Rattle.bites_syntax.proofs.class_builder.other_cases.Given as goal

abbrev pub invariant-ranges-2 : goal.invariant-ranges-2
invariant-ranges-2 l = (c : ℕ) → in_ranges l.others c ≡ other_case (in_ranges (take l.range-index l.ranges)) c
