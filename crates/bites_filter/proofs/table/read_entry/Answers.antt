use Rattle.std.proofs.Common.{◌∙◌, sym, arith}
use Rattle.std.proofs.lemmas.Str.Pattern.{split_parts}
use Rattle.bites_filter.proofs.table.read_entry.Goals as goal

pub returns-in-Ok-read : goal.returns-in-Ok-read
returns-in-Ok-read g c =
    let parts = split_parts 32 c.in-Ok.text.now c.split_once.result c.split_once.ensures.cases (omega arith) in
    let text = rw c.in-Some.is at parts in
    record {
      name = c.in-Some.name.now;
      pattern = c.in-Some.pattern.now;
      line_is = sym c.in-Ok.ensures.cases.0 ∙ text.0;
      no_space = text.1;
      entry_is = c.in-Ok-read.ensures;
    }
