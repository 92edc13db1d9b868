use Rattle.std.proofs.Common.{◌≡◌, ℕ, ◌+◌, List, cond, sym, ap, ◌∙◌, subst, arith, add-zero}
use Rattle.std.specs.Io.KnownBytes.{Appends}
use Rattle.bites_filter.specs.Lines.{ReadsLine}
use Rattle.bites_filter.proofs.LineLemmas.{IsSoFar, so_far_more, all_so_far}
use Rattle.bites_filter.proofs.SkipLemmas.{so_far_skipped}
use Rattle.bites_filter.proofs.lines.each_line.Goals as goal
use Rattle.bites_filter.proofs.lines.each_line.Goals.{then-branch, else-branch}

pub returns-then-not-branch : goal.returns-then-not-branch
returns-then-not-branch g c =
    let input = g.R.Read.remaining c.args.input.now in let old = g.W.Write.contents c.args.out.now in
    let left = g.R.Read.remaining c.skip_lines.new.input in let rest = g.R.Read.remaining c.next_line.new.input in
    let out = g.W.Write.contents c.lines.out in
    let skipped = so_far_skipped g.T.LineTask.does c.args.task.now input old c.lines.number c.lines.task (g.R.Read.remaining c.lines.input) out c.lines.count
    c.lines.invariant.1 c.in_ok-skip_lines.field-0 left c.in_ok-skip_lines.ensures in
    all_so_far g.T.LineTask.does c.args.task.now input old _ c.lines.task left out c.lines.count skipped c.next_line.new.line.items rest
    (subst (λ there. ReadsLine left there c.next_line.new.line.items rest) c.if-not-branch.true c.in_ok-next_line.ensures)

pub lines-preserved : goal.lines-preserved
lines-preserved g c =
    let input = g.R.Read.remaining c.args.input.now in let old = g.W.Write.contents c.args.out.now in
    let left = g.R.Read.remaining c.skip_lines.new.input in let rest = g.R.Read.remaining c.next_line.new.input in
    let out = g.W.Write.contents c.lines.out in let new = g.W.Write.contents c.do_line.new.out in
    let number = c.in_ok-number-2.number in
    let skipped = so_far_skipped g.T.LineTask.does c.args.task.now input old c.lines.number c.lines.task (g.R.Read.remaining c.lines.input) out c.lines.count
    c.lines.invariant.1 c.in_ok-skip_lines.field-0 left c.in_ok-skip_lines.ensures in
    let so_far = λ (n k : ℕ). IsSoFar g.T.LineTask.does c.args.task.now input old n c.do_line.new.task rest new k in
    let before = c.lines.number + c.in_ok-skip_lines.field-0 in
    let next : number ≡ before + 1 = omega (arith, c.in_ok-number-2.ensures, c.in_ok-number.ensures) in
    let more : so_far (before + 1) (c.lines.count + cond c.in_ok-do_line.field-0 1 0) =
    so_far_more g.T.LineTask.does c.args.task.now input old before c.lines.task left out c.lines.count skipped
    c.next_line.new.line.items rest
    (subst (λ there. ReadsLine left there c.next_line.new.line.items rest) c.if-not-branch.false c.in_ok-next_line.ensures) c.in_ok-do_line.field-0 c.do_line.new.task new
    (subst (λ n. (text : List ℕ) × g.T.LineTask.does c.lines.task n c.next_line.new.line.items text c.in_ok-do_line.field-0 c.do_line.new.task × Appends out new text) next
    (subst (λ l. (text : List ℕ) × g.T.LineTask.does c.lines.task number l text c.in_ok-do_line.field-0 c.do_line.new.task
    × Appends out new text) c.deref.ensures.value c.in_ok-do_line.ensures)) in
    let there : so_far number (c.lines.count + cond c.in_ok-do_line.field-0 1 0) = subst (λ n. so_far n (c.lines.count + cond c.in_ok-do_line.field-0 1 0)) (sym next) more in
    elim c.if-branch.branch [
      | then-branch w ↦ (omega (arith, w.count-is, c.lines.invariant.0), rw w.count-is (subst (so_far number) (ap (λ b. c.lines.count + cond b 1 0) w.if-branch.true) there))
      | else-branch w ↦ (omega (arith, w.count-is, c.lines.invariant.0), rw w.count-is (subst (so_far number) (ap (λ b. c.lines.count + cond b 1 0) w.if-branch.false ∙ add-zero c.lines.count) there))
    ]
