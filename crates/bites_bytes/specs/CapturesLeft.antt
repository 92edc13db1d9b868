-- The captures that an iterator has left.
use Rattle.std.specs.Prelude.{Bool, cond, List, []}
use Rattle.bites_spec.specs.Captured.{Captured}
use Rattle.bites_bytes.specs.Matches.{captures_to_come, CapturesCome}
use Rattle.bites_bytes.specs.declared.bytes.capture_matches.CaptureMatches.{CaptureMatches}

-- the captures that are still to come: none after memory ran out
abbrev pub captures_left : CaptureMatches → List Captured
captures_left s = cond s.refused [] (captures_to_come s.matches.cursor)

-- a step to the next match, whose slots the locations have then
abbrev pub NextCaptures : CaptureMatches → Bool → CaptureMatches → Type 0
NextCaptures s found t = CapturesCome s.matches.cursor found t.matches.cursor t.locations
