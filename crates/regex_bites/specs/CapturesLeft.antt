-- The captures in a text that an iterator has left.
use Rattle.std.specs.Prelude.{ℕ, List}
use Rattle.bites_spec.specs.Captured.{Captured}
use Rattle.bites_bytes.specs.CapturesLeft as over_bytes
use Rattle.regex_bites.specs.declared.string.capture_matches.CaptureMatches.{CaptureMatches}

-- the captures that are still to come: none after memory ran out
abbrev pub captures_left : CaptureMatches → List Captured
captures_left s = over_bytes.captures_left s.matches

abbrev pub haystack_of_captures : CaptureMatches → List ℕ
haystack_of_captures s = s.haystack.now
