use Rattle.bites_machine.proofs.Library.{◌∙◌}
use Rattle.bites_machine.proofs.compile.BitLemmas.{has_bit-words}
use Rattle.bites_machine.proofs.ranges.words_of.Goals as goal

pub returns : goal.returns
returns c = λ n lt. has_bit-words c.ascii_of-bits.result n lt ∙ c.ascii_of-bits.ensures n lt
