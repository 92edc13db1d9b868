use Rattle.std.proofs.Common.{rules}
use Rattle.bites_filter.proofs.SkipLemmas.{whole_up_to}
use Rattle.bites_filter.proofs.lines.len_of_lines.Goals as goal

pub returns-else-bytes-end-ne10-clause-whole : goal.returns-else-bytes-end-ne10-clause-whole
returns-else-bytes-end-ne10-clause-whole c = whole_up_to c.args.bytes.now c.bytes.end c.bytes.invariant.within (λ some. search rules)
