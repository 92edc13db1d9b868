use Rattle.std.proofs.Common.{IfSome, subst, sym, rules}
use Rattle.bites_literals.specs.FixedWidth.{IsFixedWidth}
use Rattle.bites_bytes.specs.FixedGroups.{AreFixed}
use Rattle.bites_bytes.proofs.bytes.prefilter_with_slots.PrefilterWithSlots.of.Goals as goal
use Rattle.bites_bytes.proofs.bytes.prefilter_with_slots.PrefilterWithSlots.of.Goals.{in-Some+in_ok-slots_of-in-Some, in-None}

pub returns : goal.returns
returns c =
    let t = c.args.tree.now in let n = c.args.count in
    record {
      prefilter = c.in_ok-prefilter.ensures;
      slots = elim c.match-fixed_width.branch [
        | in-Some+in_ok-slots_of-in-Some w ↦
            let fixed = subst (λ o. IfSome o (λ f. IsFixedWidth t f.now)) w.in-Some.is (c.fixed_width.ensures t c.in_ok-prefilter.ensures) in
            subst (λ o. IfSome o (λ s. AreFixed t n s.items)) (sym w.slots-is) (w.in-Some.fixed.now, fixed, w.in_ok-slots_of-in-Some.ensures)
        | in-None w ↦ subst (λ o. IfSome o (λ s. AreFixed t n s.items)) (sym w.slots-is) (search rules)
      ];
    }
