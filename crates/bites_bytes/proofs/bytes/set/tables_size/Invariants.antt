use Rattle.std.proofs.Common.{◌≡◌, take}
use Rattle.bites_bytes.specs.Set.{has_any_table}
use Rattle.bites_bytes.proofs.bytes.set.tables_size.Given as goal

-- it is known whether any of the regexes so far has a table
abbrev pub invariant-loop-regex : goal.invariant-loop-regex
invariant-loop-regex l = l.is_any ≡ has_any_table (take l.regex-index l.regexes)
