use Rattle.bites_table.proofs.Library.{◌≡◌, ◌+◌, ◌<◌, ◌≤◌, ◌⊎◌, ap, ◌∙◌, inl, inr, arith, nat_le}
use Rattle.bites_table.specs.Blocks.{at}
use Rattle.bites_table.proofs.BlockLemmas.{rises, begins_up, marks_begin, marks_more, marks_end}
use Rattle.bites_table.proofs.blocks.Blocks.move_range.Goals as goal
use Rattle.bites_table.proofs.blocks.Blocks.move_range.Goals.{then-begins-interval, else-begins-interval}

pub loop-interval-init : goal.loop-interval-init
loop-interval-init c =
    let r = c.interval_of-interval.result in
    let i = c.if-begins-interval.interval in
    let by : ((at c.args.begins.now r < c.args.first) × (i ≡ r + 1)) ⊎ ((c.args.first ≤ at c.args.begins.now r) × (i ≡ r)) =
    elim c.if-begins-interval.branch [ then-begins-interval w ↦ inl (w.if-begins-interval.true, w.interval-is) | else-begins-interval w ↦ inr (w.if-begins-interval.false, w.interval-is) ] in
    let up = begins_up c.args.begins.now c.requires.begins.rising c.args.first r c.interval_of-interval.ensures i by in record {
      from_in = c.requires.from;
      moved = λ old h. h;
      len = c.requires.len;
      up_to = up.0;
      marks = λ k lt. marks_begin (nat_le c.args.from (at c.args.self.now.of.items k)) c.args.first c.args.last (at c.args.begins.now k) k i (up.1 k);
    }

pub loop-interval-preserved : goal.loop-interval-preserved
loop-interval-preserved c =
    let i = c.loop-interval.interval in
    let done = c.in_ok-move_interval.ensures in
    let inv = c.loop-interval.invariant in record {
      from_in = done.from;
      moved = λ old h. done.moved old (inv.moved old h);
      len = done.len ∙ inv.len;
      up_to = λ k le lt. inv.up_to k (omega arith) lt;
      marks = λ k lt.
          done.marks k (omega (arith, inv.len))
          ∙ marks_more (nat_le c.args.from (at c.args.self.now.of.items k)) (nat_le c.args.from (at c.loop-interval.self.of.items k)) c.args.first c.args.last (at c.args.begins.now k) k i
          (inv.marks k lt)
          (λ (e : k ≡ i). let n = ap (at c.args.begins.now) e in let low = inv.up_to k (omega arith) lt in (low, omega (arith, c.if-begins-interval-2.true)));
    }

pub returns-else-begins-interval-2-clause-marks : goal.returns-else-begins-interval-2-clause-marks
returns-else-begins-interval-2-clause-marks c =
    let i = c.loop-interval.interval in
    λ k lt.
    c.loop-interval.invariant.marks k lt
    ∙ marks_end (nat_le c.args.from (at c.args.self.now.of.items k)) c.args.first c.args.last (at c.args.begins.now k) k i
    (λ le. let up = rises c.args.begins.now c.requires.begins.rising i k le lt in omega (arith, c.if-begins-interval-2.false))
