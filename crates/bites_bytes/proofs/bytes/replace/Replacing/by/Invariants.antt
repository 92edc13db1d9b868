use Rattle.std.proofs.Common.{◌≡◌, length}
use Rattle.bites_spec.specs.Counts.{fit_of}
use Rattle.bites_bytes.specs.Replacing.{GoesOn, captures_to_replace}
use Rattle.bites_bytes.proofs.ReplacingLemmas.{ServesOn}
use Rattle.bites_bytes.proofs.bytes.replace.Replacing.by.Given as goal

abbrev pub invariant-loop : goal.invariant-loop
invariant-loop g l = record {
  served : ServesOn g.R.Replacer.replaces g.R.Replacer.answers g.R.Replacer.refuses (captures_to_replace l.fn.self) l.fn.replacer (captures_to_replace l.self) l.replacer;
  on : GoesOn g.R.Replacer.replaces g.R.Replacer.answers l.fn.self l.fn.replacer l.self l.replacer;
  fits : length l.locations ≡ l.self.cursor.regex.now.program.slots;
  cache : l.cache.fits ≡ fit_of l.self.cursor.regex.now.program;
  kept : l.cache.fits ≡ l.fn.cache.fits;
}

abbrev pub decreases-loop : goal.decreases-loop
decreases-loop g l = length (captures_to_replace l.self)
