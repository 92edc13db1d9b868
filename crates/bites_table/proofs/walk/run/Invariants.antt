use Rattle.bites_spec.specs.Closure.{WalksTo}
use Rattle.bites_table.proofs.Words.{takers_by, cuts_off, starts_as, kind_as, walking_of}
use Rattle.bites_table.proofs.walk.run.Given as goal

abbrev pub invariant-loop-looks : goal.invariant-loop-looks
invariant-loop-looks l =
    WalksTo (takers_by (cuts_off (starts_as l.starts)) (kind_as l.here.before) (kind_as l.here.after)) l.program.program (walking_of l.initial.walk l.fn.looks) (walking_of l.walk l.looks)
