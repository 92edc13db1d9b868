use Rattle.std.proofs.Common.{◌≡◌, ◌+◌, ◌++◌, ◌∷◌, [], List, ℕ, ap, sym, ◌∙◌, subst, rules, arith}
use Rattle.bites_table.specs.Blocks.{at}
use Rattle.bites_table.proofs.BlockLemmas.{AreMembersOf, no_member_more, one_member_more}
use Rattle.bites_table.proofs.classes.members_of.Goals as goal
use Rattle.bites_table.proofs.classes.members_of.Goals.{then-block-len-2+in_ok-from_u32+in_ok-ok, else-block-len-2}

pub loop-interval-preserved : goal.loop-interval-preserved
loop-interval-preserved c =
    let n = c.loop-interval.interval in
    elim c.if-block-len-2.branch [
      | then-block-len-2+in_ok-from_u32+in_ok-ok w ↦
          let pushed : w.push.new.self.items ≡ c.loop-interval.members.items ++ w.in_ok-from_u32.field-0 ∷ [] = search rules in
          let is : w.in_ok-from_u32.field-0 ≡ at c.args.begins.now n = search rules in
          subst (λ (m : List ℕ). AreMembersOf c.args.begins.now c.args.blocks.now m (n + 1)) (sym pushed ∙ ap (λ v. v.items) (sym w.members-is))
          (one_member_more c.args.begins.now c.args.blocks.now c.loop-interval.members.items n w.in_ok-from_u32.field-0 (omega (arith, w.if-block-len-2.true, c.len-in-loop-interval.ensures)) is c.loop-interval.invariant)
      | else-block-len-2 w ↦
          subst (λ (m : List ℕ). AreMembersOf c.args.begins.now c.args.blocks.now m (n + 1)) (ap (λ v. v.items) (sym w.members-is))
          (no_member_more c.args.begins.now c.args.blocks.now c.loop-interval.members.items n (omega (arith, w.if-block-len-2.false, c.if-block-len.false, c.len.ensures, c.len-in-loop-interval.ensures)) c.loop-interval.invariant)
    ]

pub returns-clause-members : goal.returns-clause-members
returns-clause-members c =
    let inv = c.loop-interval.invariant in record {
      below = λ i lt. inv.below i (omega arith);
      is = λ m lt. let old = inv.is m lt in (old.0, omega (arith, old.1), old.2, old.3);
    }
