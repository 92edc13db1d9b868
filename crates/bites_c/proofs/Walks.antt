-- What proofs by hand about handles and boxes use of the logic.
pub use Rattle.std.proofs.Common.{◌≡◌, ℕ, List, [], ◌∷◌, ◌++◌, refl, sym, ap, ◌∙◌, subst, lit<}
pub use mathlib.Core.Bool.{true, ◌&&◌}
pub use lib.Dec.{T}
pub use seplogic.Ra.Ura.{Ura}
pub use mir.Syntax.{Dict, impl, tnil, dnil}
pub use mir.Raw.{raw as bare}
pub use mir.Val.{Val, vptr, vstruct, vcons, vnil, of_list, has_ty, WT}
pub use base.Fraction.{full_share}
pub use base.Fml.{Fml, ftrue, fsep}
pub use base.Logic.{emp, never, fst∗, ent, id⊢}
pub use types.Logic.{Logic, sem}
pub use types.Kit.{Item, Goal, Seq, Step, step, ‵, raw, ◌⊛◌, some, ◌$◌, move, drop, split, join, fsplit, fpick, use0, feq_l, use1, fjoin, feq_i, ◌∵◌, !, qed, keep, by, suffices, later, at_ret, await}
pub use contract.Monad.{fact, fact_i}
pub use denote.RattleType.{RattleType, owns}
pub use denote.Builtin.{RawPtr}
pub use denote.RawPtr.{Ptr, block_ptr, null_ptr, ptr_val, in_a_block, tests_null}
pub use denote.Steps.{nothing}
pub use denote.Exit.{no}
pub use denote.Param.{layout, param}
pub use denote.Param.Laws.{arg_laws}
pub use denote.Struct.Tuple.{Tuple}
pub use Rattle.std.proofs.ResultValues.{and_tt}
pub use Rattle.std.proofs.alloc.Calls.{handle_tells, Goes-blank}
pub use Rattle.std.proofs.cell.Inside.{Good}
pub use Rattle.std.proofs.BoxSteps.Steps.{box_out, box_in}
pub use Rattle.std.specs.contracts.impls.GlobalAllocator.TheImpl.{ghosts, dict}
pub use Rattle.std.specs.declared.option.Option.TheVariants.{None, Some}
pub use contract.Running.{tables}
unfoldable pub use contract.Running.{tables_of}
pub use denote.Signature.{plain, types_at, Slot, type_at}
pub use denote.Triple.Entry.{alive}
pub use denote.Triple.Clauses.{Lasts, lasts}
pub use denote.Triple.Spec.{triple_of}
pub use denote.Triple.Table.{framed}
pub use prog.Wp.{WpFn}
pub use types.Run.{lit, no_more, and_then, returns, enter, stop, fld, of_opd, bin, first, branches, blocks, skips, exec, returns_within}
pub use types.ByLocal.{alloc_all, pass_all, free_all, look_at, get, sets, get_in, lands_last, env, lands_as}
pub use types.Part.{agg, sub, whole}
pub use denote.Triple.Walked.{Stays, stay_dropped, walk_of}
pub use Rattle.std.proofs.raw_atomic.Walks.{proved_at, leaves}
pub use Rattle.std.specs.contracts.alloc.Global.{the_row as Z}
pub use types.Match.{live}
pub use denote.Param.NoDrop.{glues}
pub use denote.Triple.Call.{calls_at_last, calls_at}
pub use Rattle.std.proofs.option.Made.{Some-of, none_of}
pub use Rattle.std.proofs.alloc.Shapes.{after}
pub use Rattle.std.proofs.impls.GlobalAllocator.TheImpl.Met.{passed}
