use Rattle.bites_table.proofs.Library.{◌≡◌, ◌*◌, ◌%◌, ◌^◌, ◌||◌, sym, ap, ◌∙◌, arith, cases_eq, nat_tests, has_bit, ◌==◌}
use Rattle.std.specs.Int.Bits.{or_zero_l}
use Rattle.std.proofs.lemmas.Nat.Bits.{bit_at-zero}
use Rattle.bites_table.proofs.FrameLemmas.{has_bit-set}
use Rattle.bites_table.proofs.explore.taken.bit_of.Goals as goal

pub returns-then-class-lt-CLASSES : goal.returns-then-class-lt-CLASSES
returns-then-class-lt-CLASSES c k few =
    let class = c.args.class in
    let none : ((k == class) || has_bit 0 k) ≡ (k == class) = grind (arith, nat_tests, cases_eq, bit_at-zero) in
    ap (λ b. has_bit b k) (sym (or_zero_l (1 * 2 ^ class % 18446744073709551616))) ∙ has_bit-set 0 class k (omega arith) ∙ none
