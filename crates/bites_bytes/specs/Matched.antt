-- What contracts see of a match.
use Rattle.bites_spec.specs.Match.{span}
use Rattle.bites_spec.specs.Captured.{Excerpt, excerpt}
use Rattle.bites_bytes.specs.declared.bytes.matched.Match.{Match}

-- the part of the haystack that matched
abbrev pub excerpt_of : Match → Excerpt
excerpt_of m = excerpt m.haystack.now (span m.start m.end)
