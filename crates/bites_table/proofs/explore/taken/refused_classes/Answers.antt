use Rattle.bites_table.proofs.Library.{ℕ, ◌<◌, ◌^◌, length, sym, ◌∙◌, arith, slice_index_or, None}
use Rattle.bites_table.specs.declared.thread_list.Frame.{Frame}
use Rattle.bites_table.proofs.TakenLemmas.{refused-bits, taken-none}
use Rattle.bites_table.proofs.explore.taken.refused_classes.Goals as goal

pub loop-taker-preserved : goal.loop-taker-preserved
loop-taker-preserved c p k are x bit =
    let none : Frame = record { state = 0; source = record { register = None; writes = 0 } } in
    let i = c.loop-taker.taker-index in
    let q = (slice_index_or c.args.takers.now i none).state in
    let own : ℕ = slice_index_or c.args.bits.now q 0 in
    let within : q < length c.args.bits.now = omega arith in
    let fits : own < 2 ^ 64 = (c.type_inv.bits q).fits in
    let both = refused-bits c.loop-taker.refused own x (omega arith) fits bit in
    taken-none p (k.member x) c.args.takers.now i none (omega arith) (sym (are q x within both.0) ∙ both.2) (c.loop-taker.invariant p k are x both.1)
