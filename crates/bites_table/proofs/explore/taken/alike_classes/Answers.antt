use Rattle.bites_table.proofs.Library.{◌≡◌, ℕ, ◌<◌, ◌⊎◌, ◌^◌, inl, inr, true, false, length, sym, ◌∙◌, arith, slice_index_or, None, w64, bit_not, has_bit}
use Rattle.bites_table.specs.declared.thread_list.Frame.{Frame}
use Rattle.bites_table.proofs.TakenLemmas.{alike-bits, taken-alike}
use Rattle.bites_table.proofs.explore.taken.alike_classes.Goals as goal
use Rattle.bites_table.proofs.explore.taken.alike_classes.Goals.{then-has_bit, else-has_bit}

pub loop-taker-preserved : goal.loop-taker-preserved
loop-taker-preserved c p k are x bit =
    let none : Frame = record { state = 0; source = record { register = None; writes = 0 } } in
    let i = c.loop-taker.taker-index in
    let q = (slice_index_or c.args.takers.now i none).state in
    let own : ℕ = slice_index_or c.args.bits.now q 0 in
    let m = c.if-has_bit.alike in
    let by : ((has_bit own c.args.class ≡ true) × (m ≡ own)) ⊎ ((has_bit own c.args.class ≡ false) × (m ≡ bit_not w64 own)) =
    elim c.if-has_bit.branch [ then-has_bit w ↦ inl (sym c.has_bit.ensures ∙ w.if-has_bit.true, w.alike-is) | else-has_bit w ↦ inr (sym c.has_bit.ensures ∙ w.if-has_bit.false, w.alike-is) ] in
    let within : q < length c.args.bits.now = omega arith in
    let fits : own < 2 ^ 64 = (c.type_inv.bits q).fits in
    let both = alike-bits c.loop-taker.alike own c.args.class m x (omega arith) fits by bit in
    taken-alike p (k.member x) (k.member c.args.class) c.args.takers.now i none (omega arith)
    (sym (are q x within both.0) ∙ both.2 ∙ are q c.args.class within (omega arith))
    (c.loop-taker.invariant p k are x both.1)
