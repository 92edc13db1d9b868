use Rattle.bites_filter.specs.Lines.{lines_of}
use Rattle.bites_filter.proofs.TableLemmas.{all_longest}
use Rattle.bites_filter.proofs.table.read_rules.Goals as goal

pub returns-clause-longest : goal.returns-clause-longest
returns-clause-longest c = all_longest (lines_of c.args.table.now) c.in_ok-rules.rules.items c.in_ok-rules.ensures
