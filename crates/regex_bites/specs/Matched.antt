-- What contracts see of a match in a text.
use Rattle.bites_spec.specs.Match.{span}
use Rattle.bites_spec.specs.Captured.{Excerpt, excerpt}
use Rattle.regex_bites.specs.declared.string.matched.Match.{Match}

-- the part of the haystack that matched
abbrev pub excerpt_of : Match → Excerpt
excerpt_of m = excerpt m.haystack.now (span m.start m.end)
