use Rattle.std.proofs.Common.{◌≡◌, ◌≤◌, length, take, ◌-◌}
use Rattle.bites_filter.specs.Lines.{line_feeds}
use Rattle.bites_filter.proofs.lines.count_lines.Given as goal

abbrev pub invariant-parts : goal.invariant-parts
invariant-parts l = record { within : l.at ≤ length l.bytes; counted : l.count ≡ line_feeds (take l.at l.bytes); few : l.count ≤ l.at }

abbrev pub decreases-parts : goal.decreases-parts
decreases-parts l = length l.bytes - l.at
