use Rattle.bites_table.proofs.Library.{common_steps, ◌≡◌, ℕ, ◌<◌, ◌*◌, ◌%◌, ◌^◌, ◌⊎◌, inl, inr, Bool, true, false, ap, ◌∙◌, arith, bit_or, slice_get_past, takes, takes_by, state_of, cases_lt}
use Rattle.bites_table.specs.Classes.{classes_of}
use Rattle.bites_table.proofs.TakenLemmas.{bits-more}
use Rattle.bites_table.proofs.explore.taken.taken_among.Goals as goal
use Rattle.bites_table.proofs.explore.taken.taken_among.Goals.{then-takes, else-takes}

pub loop-class-preserved : goal.loop-class-preserved
loop-class-preserved c =
    let bits = c.loop-class.bits in
    let class = c.loop-class.class in
    let new = c.if-takes.bits in
    let f : ℕ → Bool = λ x. takes_by (takes (state_of c.args.state.now)) ((classes_of c.args.classes.now).member x) in
    let lt : class < 64 = omega arith in
    let by : ((c.takes.result ≡ true) × (new ≡ bit_or bits (1 * 2 ^ class % 18446744073709551616))) ⊎ ((c.takes.result ≡ false) × (new ≡ bits)) =
    elim c.if-takes.branch [ then-takes w ↦ inl (w.if-takes.true, w.bits-is) | else-takes w ↦ inr (w.if-takes.false, w.bits-is) ] in
    let more = bits-more bits new class c.takes.result f lt by (c.takes.ensures ∙ ap (takes_by (takes (state_of c.args.state.now))) c.member.ensures)
    c.loop-class.invariant.done c.loop-class.invariant.none in
    record { done = more.0; none = more.1 }

pub returns : goal.returns
returns c x few = grind (arith, common_steps, slice_get_past, cases_lt)
