use Rattle.bites_table.proofs.Library.{rules, arith, false}
use Rattle.bites_table.proofs.BlockLemmas.{repeated}
use Rattle.bites_table.proofs.classes.Classes.bytes.Goals as goal

pub loop-byte-init : goal.loop-byte-init
loop-byte-init c = record {
  len = search rules;
  done = λ b lt. absurd (omega arith);
  left = λ b le. repeated 256 false b;
}
