-- What a handle owns: a box, or nothing.
use base.Fml.{Fml, feq}
use denote.RattleType.{RattleType}
use denote.RawPtr.{Ptr, null_ptr}
use Rattle.std.specs.contracts.impls.GlobalAllocator.TheImpl.{ghosts}
use Rattle.std.specs.declared.alloc.Global.{Global}
use Rattle.std.specs.declared.option.Option.{Option}
use Rattle.std.specs.declared.option.Option.TheVariants.{None, Some}
use Rattle.std.specs.Box.Ownership.{box_owns}

-- a box of the value x at p, which the allocator may free
abbrev pub boxed : (R : RattleType) → Global → Ptr → R.Denot → Fml
boxed R a p x = box_owns (ghosts.dealloc_token a) R p x

-- that box, or nothing at null
abbrev pub holds : (R : RattleType) → Global → Ptr → Option R.Denot → Fml
holds R a p None = feq Ptr p null_ptr
holds R a p (Some x) = boxed R a p x
