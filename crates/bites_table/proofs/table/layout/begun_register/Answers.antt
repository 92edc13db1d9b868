use Rattle.bites_table.proofs.Library.{rules, ◌≡◌, ◌<◌, inr, true, sym, subst, arith}
use Rattle.bites_table.proofs.Words.{most_registers, IsKeptOrBegun}
use Rattle.bites_table.specs.declared.thread_list.Thread.{Thread}
use Rattle.bites_table.proofs.LaidOutLemmas.{begun-kept, begun-last}
use Rattle.bites_table.proofs.table.layout.begun_register.Goals as goal
use Rattle.bites_table.proofs.table.layout.begun_register.Goals.{then-not-is_own+else-begins-ne-SPARE+else-not-is_begun, else-not-is_own}

pub loop-register-preserved : goal.loop-register-preserved
loop-register-preserved c =
    let n = c.loop-register.register in
    let moves = c.args.moves.now in
    let old = c.loop-register.invariant in
    let within = c.loop-register-test.true in
    elim c.if-not-is_own.branch [
      | then-not-is_own+else-begins-ne-SPARE+else-not-is_begun v ↦
          let spare : c.loop-register.begins ≡ most_registers = search rules in
          let yes : v.is_begun.result ≡ true = search rules in
          let first : (t : Thread) → t.register < n → IsKeptOrBegun moves most_registers t = λ t lt. subst (λ b. IsKeptOrBegun moves b t) spare (old.begun t lt) in
          let is : c.if-not-is_own.begins ≡ n = search rules in
          record {
            begun = λ t lt. subst (λ b. IsKeptOrBegun moves b t) (sym is) (begun-last moves n within c.requires.few first (v.is_begun.ensures yes) t lt);
            few = inr (omega arith);
          }
      | else-not-is_own v ↦
          let yes : c.is_own.result ≡ true = search rules in
          record {
            begun = λ t lt. subst (λ b. IsKeptOrBegun moves b t) (sym v.begins-is) (begun-kept moves c.loop-register.begins n old.few within c.requires.few old.begun (c.is_own.ensures yes) t lt);
            few = search rules;
          }
    ]
