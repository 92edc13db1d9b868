use Rattle.std.proofs.Common.{◌≡◌, ◌≤◌, take}
use Rattle.bites_filter.specs.Lines.{line_feeds}
use Rattle.bites_filter.proofs.lines.count_line_feeds.Given as goal

abbrev pub invariant-loop-byte : goal.invariant-loop-byte
invariant-loop-byte l = record { counted : l.count ≡ line_feeds (take l.byte-index l.bytes); few : l.count ≤ l.byte-index }
