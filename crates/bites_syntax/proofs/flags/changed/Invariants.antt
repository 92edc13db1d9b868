use Rattle.std.proofs.Common.{◌≡◌, drop, true}
use Rattle.bites_spec.specs.Group.{changed}
use Rattle.bites_syntax.specs.FlagsView.{flags_of}
use Rattle.bites_syntax.proofs.flags.changed.Given as goal

abbrev pub invariant-loop-c : goal.invariant-loop-c
invariant-loop-c l = changed l.on (drop l.c-index l.run) (flags_of l.flags) ≡ changed true l.fn.run (flags_of l.fn.flags)
