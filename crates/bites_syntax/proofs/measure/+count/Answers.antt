use Rattle.std.proofs.Common.{◌≡◌, suc, ◌+◌, ◌-◌, ◌≤◌, List, length, take, drop, Some, arith, sym, ap, ◌∙◌, subst}
use Rattle.bites_spec.specs.Tree.{Tree, groups_in, trees_of}
use Rattle.bites_spec.specs.Measure.{both, static_sum}
use Rattle.bites_syntax.proofs.TreeParts.{Within, agreed_with, read_below, rest_height, parts_from, groups_from, count_within, agreed_more, agreed_other, agreed_without, sum_more}
use Rattle.bites_syntax.proofs.measure.+count.Goals as goal

pub static_agreed-static_count-requires-in-loop-part : goal.static_agreed-static_count-requires-in-loop-part
static_agreed-static_count-requires-in-loop-part t c =
    let rest : List Tree = take (length c.args.parts.now - 1) (drop 1 c.args.parts.now) in
    let below = read_below rest c.loop-part.part-index c.part-item.result c.part-item.is c.loop-part-test.true in
    let lower = rest_height c.args.parts.now c.first-item.result c.first-item.is c.in-len1-up.len_at_least in
    let groups = groups_from rest c.loop-part.part-index c.part-item.result c.part-item.is c.loop-part-test.true in
    (omega (arith, c.decreases, below, lower), omega (arith, groups, c.loop-part.invariant.fits, c.requires))

pub static_agreed-returns-in_err-static_count : goal.static_agreed-returns-in_err-static_count
static_agreed-returns-in_err-static_count t c =
    let rest : List Tree = take (length c.args.parts.now - 1) (drop 1 c.args.parts.now) in
    let from = parts_from rest c.loop-part.part-index c.part-item.result c.part-item.is c.loop-part-test.true in
    c.from_residual-in_err-static_count.ensures
    ∙ sym (agreed_without c.in_ok-count.count c.part-item.result (trees_of (drop (c.loop-part.part-index + 1) rest)) (sym c.static_count-in-loop-part.ensures ∙ c.in_err-static_count.was))
    ∙ sym (ap (agreed_with c.in_ok-count.count) from) ∙ c.loop-part.invariant.agreed

pub static_agreed-returns-then-branch-count : goal.static_agreed-returns-then-branch-count
static_agreed-returns-then-branch-count t c =
    let rest : List Tree = take (length c.args.parts.now - 1) (drop 1 c.args.parts.now) in
    let from = parts_from rest c.loop-part.part-index c.part-item.result c.part-item.is c.loop-part-test.true in
    sym (agreed_other c.in_ok-count.count c.in_ok-static_count.field-0 c.part-item.result (trees_of (drop (c.loop-part.part-index + 1) rest)) (sym c.static_count-in-loop-part.ensures ∙ c.in_ok-static_count.was) (λ e. c.if-branch-count.true (sym e)))
    ∙ sym (ap (agreed_with c.in_ok-count.count) from) ∙ c.loop-part.invariant.agreed

pub static_agreed-loop-part-preserved : goal.static_agreed-loop-part-preserved
static_agreed-loop-part-preserved t c =
    let rest : List Tree = take (length c.args.parts.now - 1) (drop 1 c.args.parts.now) in
    let from = parts_from rest c.loop-part.part-index c.part-item.result c.part-item.is c.loop-part-test.true in
    let groups = groups_from rest c.loop-part.part-index c.part-item.result c.part-item.is c.loop-part-test.true in
    record {
      agreed = sym (agreed_more c.in_ok-count.count c.part-item.result (trees_of (drop (c.loop-part.part-index + 1) rest))
          (sym c.static_count-in-loop-part.ensures ∙ c.in_ok-static_count.was ∙ ap Some c.if-branch-count.false))
          ∙ sym (ap (agreed_with c.in_ok-count.count) from) ∙ c.loop-part.invariant.agreed;
      fits = omega (arith, groups, c.loop-part.invariant.fits);
    }

pub static_count-overflow_add-result : goal.static_count-overflow_add-result
static_count-overflow_add-result t c =
    let sub : Tree = c.deref-in-Capture.result.now in
    let within : c.in_ok-static_count-in-Capture.field-0 ≤ length (groups_in sub) =
    subst (λ o. Within o (length (groups_in sub))) (sym c.static_count-in-Capture.ensures ∙ c.in_ok-static_count-in-Capture.was) (count_within sub) in
    let whole : suc (length (groups_in c.in-Capture.sub.value)) ≡ length (groups_in c.args.tree.now) =
    rw c.in-Capture.is at (ap (λ x. length (groups_in x)) c.kind.ensures) in
    let same : length (groups_in sub) ≡ length (groups_in c.in-Capture.sub.value) = ap (λ x. length (groups_in x)) c.deref-in-Capture.ensures in
    omega (arith, whole, same, within, c.requires)

pub static_sum-static_count-requires : goal.static_sum-static_count-requires
static_sum-static_count-requires t c =
    let below = read_below c.args.parts.now c.loop-part.part-index c.part-item.result c.part-item.is c.loop-part-test.true in
    let groups = groups_from c.args.parts.now c.loop-part.part-index c.part-item.result c.part-item.is c.loop-part-test.true in
    (omega (arith, c.decreases, below), omega (arith, groups, c.loop-part.invariant.fits, c.requires))

pub static_sum-overflow_add-sum : goal.static_sum-overflow_add-sum
static_sum-overflow_add-sum t c =
    let groups = groups_from c.args.parts.now c.loop-part.part-index c.part-item.result c.part-item.is c.loop-part-test.true in
    let within : c.in_ok-sum.field-0 ≤ length (groups_in c.part-item.result) =
    subst (λ o. Within o (length (groups_in c.part-item.result))) (sym c.static_count.ensures ∙ c.in_ok-sum.was) (count_within c.part-item.result) in
    omega (arith, groups, within, c.loop-part.invariant.fits, c.requires)

pub static_sum-loop-part-preserved : goal.static_sum-loop-part-preserved
static_sum-loop-part-preserved t c =
    let from = parts_from c.args.parts.now c.loop-part.part-index c.part-item.result c.part-item.is c.loop-part-test.true in
    let groups = groups_from c.args.parts.now c.loop-part.part-index c.part-item.result c.part-item.is c.loop-part-test.true in
    let within : c.in_ok-sum.field-0 ≤ length (groups_in c.part-item.result) =
    subst (λ o. Within o (length (groups_in c.part-item.result))) (sym c.static_count.ensures ∙ c.in_ok-sum.was) (count_within c.part-item.result) in
    let later = static_sum (trees_of (drop (c.loop-part.part-index + 1) c.args.parts.now)) in
    record {
      sum = sym (sum_more c.loop-part.sum c.in_ok-sum.field-0 later)
          ∙ ap (λ o. both (Some c.loop-part.sum) (both o later)) (sym (sym c.static_count.ensures ∙ c.in_ok-sum.was))
          ∙ sym (ap (λ x. both (Some c.loop-part.sum) (static_sum x)) from) ∙ c.loop-part.invariant.sum;
      fits = omega (arith, groups, within, c.loop-part.invariant.fits);
    }
