-- By the lemma on what `==` of two errors returns.
use Rattle.bites_text.proofs.ErrorLemmas.{same_errors}
use Rattle.bites_tests.proofs.errors.same.Goals as goal

pub returns : goal.returns
returns c = same_errors c.args.a.now c.args.b.now c.eq.result c.eq.ensures
