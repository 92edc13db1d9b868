use Rattle.std.proofs.Common.{◌≡◌, ◌++◌, ◌-◌, ◌/◌, ℕ, List, length}
use Rattle.std.specs.Io.KnownBytes.{Appends}
use Rattle.bites_filter.specs.Tabs.{tabbed_groups, groups_from}
use Rattle.bites_filter.proofs.tabs.write_groups.Given as goal

-- what is written so far and the groups that are left are all groups
abbrev pub invariant-loop-group : goal.invariant-loop-group
invariant-loop-group g l =
    (written : List ℕ) × Appends (g.W.Write.contents l.fn.out) (g.W.Write.contents l.out) written
    × (tabbed_groups l.groups.haystack l.groups.slots
    ≡ written ++ groups_from l.groups.haystack l.groups.slots l.group (length l.groups.slots / 2 - l.group))
