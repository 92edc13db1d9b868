use Rattle.std.proofs.Common.{◌≡◌, length}
use Rattle.bites_spec.specs.Counts.{fit_of}
use Rattle.bites_bytes.specs.Replacing.{OnByText, spans_to_replace}
use Rattle.bites_bytes.proofs.bytes.replace.Replacing.by_text.Given as goal

abbrev pub invariant-loop : goal.invariant-loop
invariant-loop l = record {
  on : OnByText l.text l.fn.self l.self;
  cache : l.cache.fits ≡ fit_of l.self.cursor.regex.now.program;
  kept : l.cache.fits ≡ l.fn.cache.fits;
}

abbrev pub decreases-loop : goal.decreases-loop
decreases-loop l = length (spans_to_replace l.self)
