use Rattle.bites_spec.proofs.classes.ClassLemmas.{ranges_of_list}
use Rattle.bites_syntax.specs.Ranges.{constant_set}
use Rattle.bites_syntax.proofs.class.Class.constant.Goals as goal

pub invariant_of-result : goal.invariant_of-result
invariant_of-result c = rw c.constant.ensures (ranges_of_list (constant_set c.args.set)).canonical

pub returns : goal.returns
returns c = rw c.constant.ensures (ranges_of_list (constant_set c.args.set))
