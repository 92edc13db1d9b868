use Rattle.std.proofs.Common.{◌+◌, ◌*◌, ◌≤◌, ◌++◌, ◌∷◌, [], List, take, length, get_or, slice_set, ap₂, Some, sym, subst, ap, ◌∙◌, arith}
use Rattle.std.proofs.lemmas.List.{take_all}
use Rattle.bites_literals.specs.FixedWidth.{marks_of}
use Rattle.bites_literals.specs.declared.fixed_width.Group.{Group}
use Rattle.bites_bytes.specs.FixedGroups.{HoldsGroups}
use Rattle.bites_bytes.proofs.FixedGroupLemmas.{HoldsMarks, all_marks, mark_of, marks_more, one_mark_more, one_mark_past}
use Rattle.bites_bytes.proofs.bytes.fixed_groups.slots_of.Goals as goal
use Rattle.bites_bytes.proofs.bytes.fixed_groups.slots_of.Goals.{then-first-count, else-first-count}

pub loop-group-preserved : goal.loop-group-preserved
loop-group-preserved c =
    let gs = c.groups-group-items.result.now in
    let i = c.loop-group.group-index in
    let n = c.args.count in
    let old = c.loop-group.slots.items in
    let none : Group = record { number = 0; start = 0; end = 0 } in
    let group : Group = get_or gs i none in
    let before = subst (λ (gs : List Group). HoldsMarks (marks_of (take i gs)) n old) (sym c.groups-group-items.ensures) c.loop-group.invariant in
    subst (λ (gs : List Group). HoldsMarks (marks_of (take (i + 1) gs)) n c.if-first-count.slots.items) c.groups-group-items.ensures
    (subst (λ ms. HoldsMarks ms n c.if-first-count.slots.items) (sym (marks_more gs i none (omega arith)))
    (elim c.if-first-count.branch [
      | then-first-count w ↦
          subst (HoldsMarks (marks_of (take i gs) ++ mark_of group ∷ []) n)
          (ap₂ (λ a b. slice_set (slice_set old (2 * group.number) a) (2 * group.number + 1) b) (sym w.at.ensures)
          (sym w.at-then-first-count.ensures) ∙ sym (ap (λ v. v.items) w.slots-is))
          (one_mark_more (marks_of (take i gs)) n old group.number group.start group.end before (omega (arith, before.count)))
      | else-first-count w ↦
          subst (HoldsMarks (marks_of (take i gs) ++ mark_of group ∷ []) n) (sym (ap (λ v. v.items) w.slots-is))
          (one_mark_past (marks_of (take i gs)) n old group.number group.start group.end before (omega (arith, before.count)))
    ]))

pub returns : goal.returns
returns c =
    let f = c.args.fixed.now in
    let gs = f.groups.items in
    let over : length gs ≤ c.loop-group.group-index = omega (arith, ap length c.groups-group-items.ensures) in
    let marks = subst (λ (gs : List Group). HoldsMarks (marks_of gs) c.args.count c.loop-group.slots.items) (take_all c.loop-group.group-index gs over) c.loop-group.invariant in
    subst (HoldsGroups f c.args.count)
    (ap₂ (λ a b. slice_set (slice_set c.loop-group.slots.items 0 a) 1 b) (sym c.at-2.ensures) (sym (c.at-3.ensures ∙ ap Some c.len.ensures)))
    (all_marks f c.args.count c.loop-group.slots.items marks (omega (arith, marks.count, c.requires.some)))
