use Rattle.bites_bytes.proofs.TracedLemmas.{traced_by}
use Rattle.bites_bytes.proofs.bytes.cache.Cache.trace.Goals as goal

pub returns : goal.returns
returns c =
    let e = c.trace.ensures in
    traced_by c.args.regex.now c.program.result.now.program c.table.result c.args.input.now c.args.slots.now c.trace.new.slots c.trace.new.self.walked
    c.program.ensures.program c.table.ensures c.trace.result e.lead e.walked e.searched
