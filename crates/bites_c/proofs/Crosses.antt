-- What a handle holds says the same to every thread.
use mir.Raw.{raw}
use base.Fraction.{full_share}
use base.Shift.{Keyless}
use denote.RattleType.{RattleType}
use denote.Memory.{lone}
use denote.RawPtr.{Ptr, block_ptr, null_ptr}
use denote.Exit.{Exit, unchanged, leaves, hidden, under}
use denote.Param.Send.{IsSend, Quiet, part_keyless}
use Rattle.std.specs.declared.alloc.Global.{Global}
use Rattle.std.specs.declared.option.Option.{Option}
use Rattle.std.specs.declared.option.Option.TheVariants.{None, Some}
use Rattle.std.proofs.Crossing.{frees}
use Rattle.bites_c.specs.Holding.{holds}

pub holds_keyless : (R : RattleType) → IsSend R → (a : Global) (p : Ptr) (x : Option R.Denot) → Keyless (holds R a p x)
holds_keyless R s a p None = tt
holds_keyless R s a (block_ptr b o) (Some x) = (part_keyless R s full_share x b o, frees.frees a (raw (lone R.mir)) (block_ptr b o))
holds_keyless R s a null_ptr (Some x) = (tt, frees.frees a (raw (lone R.mir)) null_ptr)

-- what leaves with a field says so too
pub quiet : {D X : Type 0} (to : D → X) (e : Exit X) → Quiet e → Quiet (hidden (under to e))
quiet to unchanged q = λ x w. tt
quiet to (leaves L l S s r₀) q = λ d. q (to d)
