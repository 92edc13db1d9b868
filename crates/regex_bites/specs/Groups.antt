-- The groups that an iterator over them has left.
use Rattle.std.specs.Prelude.{List, Option, option_map}
use Rattle.bites_spec.specs.Captured.{Excerpt}
use Rattle.bites_bytes.specs.Groups.{groups_from}
use Rattle.regex_bites.specs.Matched.{excerpt_of}
use Rattle.regex_bites.specs.declared.string.matched.Match.{Match}
use Rattle.regex_bites.specs.declared.string.groups.SubCaptureMatches.{SubCaptureMatches}

-- the match of a group, if it participates
abbrev pub excerpt_if : Option Match → Option Excerpt
excerpt_if = option_map excerpt_of

-- the groups that are still to come
abbrev pub sub_captures_left : SubCaptureMatches → List (Option Excerpt)
sub_captures_left s = groups_from s.captures.now s.next
