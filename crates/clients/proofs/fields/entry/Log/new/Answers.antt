use Rattle.std.proofs.Common.{◌≡◌, false, sym, subst}
use Rattle.std.specs.Str.{chars}
use Rattle.bites_spec.specs.Regex.{Regex}
use Rattle.bites_spec.specs.Settings.{no_flags}
use Rattle.clients.specs.Entry.{pattern, entry_tree}
use Rattle.clients.proofs.PatternLemmas.{pattern_read}
use Rattle.clients.proofs.fields.entry.Log.new.Goals as goal

pub invariant_of-result : goal.invariant_of-result
invariant_of-result c =
    let read = c.literal_is_read.ensures (chars pattern) no_flags 50 entry_tree pattern_read in
    subst (λ (r : Regex). (r.tree ≡ entry_tree) × (r.keep_dropped_groups ≡ false)) (sym c.in_ok-searcher.ensures)
    (read.1 c.in_ok-regex.regex.tree c.in_ok-regex.ensures.accepted.read.reading, c.in_ok-regex.ensures.kept.2)
