use Rattle.bites_bytes.proofs.PartLemmas.{Written}
use Rattle.regex_bites.proofs.string.captures.Captures.extract.Given as goal

abbrev pub invariant-loop-group : goal.invariant-loop-group
invariant-loop-group l = Written l.self.slots l.self.haystack l.filled l.group l.parts
