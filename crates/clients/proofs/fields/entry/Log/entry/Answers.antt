use Rattle.std.proofs.Common.{◌≡◌, ◌+◌, Some, length, ap, ◌∙◌, arith}
use Rattle.bites_spec.specs.Measure.{groups_left, static_captures_len}
use Rattle.clients.proofs.fields.entry.Log.entry.Goals as goal

pub extract_full_bytes-requires : goal.extract_full_bytes-requires
extract_full_bytes-requires c =
    let tree = c.self.invariant.0 in let count : 8 ≡ length c.args.into.now + 1 = omega arith in
    let groups : length (groups_left c.self.inside.searcher.tree) ≡ 8 = ap (λ t. length (groups_left t)) tree in
    let there : static_captures_len c.self.inside.searcher.tree ≡ Some 8 = ap static_captures_len tree in
    (c.self.invariant.1, groups ∙ count, there ∙ ap Some count)
