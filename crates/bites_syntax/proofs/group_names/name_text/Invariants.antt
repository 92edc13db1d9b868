use Rattle.std.proofs.Common.{◌≡◌, ◌≤◌, [], List, length, true}
use Rattle.std.specs.Prelude.{chars, string_bytes}
use Rattle.bites_spec.specs.Group.{is_name_front}
use Rattle.bites_spec.specs.Pattern.{Text}
use Rattle.bites_spec.specs.Reader.{name_from}
use Rattle.bites_syntax.proofs.group_names.name_text.Given as goal

abbrev pub invariant-loop-c : goal.invariant-loop-c
invariant-loop-c l =
    ((names : List Text) → name_from names [] l.fn.cursor ≡ name_from names (chars (string_bytes l.text)) l.cursor)
    × (is_name_front (chars (string_bytes l.text)) ≡ true) × (length l.cursor ≤ length l.fn.cursor)

abbrev pub decreases-loop-c : goal.decreases-loop-c
decreases-loop-c l = length l.cursor
