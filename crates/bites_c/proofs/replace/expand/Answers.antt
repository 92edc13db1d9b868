use Rattle.std.proofs.Common.{rules, option_map}
use Rattle.bites_spec.specs.Expansion.{index_in}
use Rattle.bites_spec.specs.Pieces.{text_at}
use Rattle.bites_c.specs.Replaced.{expanded_by, group_from_c}
use Rattle.bites_c.proofs.replace.expand.Goals as goal

pub returns : goal.returns
unfolding expanded_by
returns c =
    c.bytes.ensures.expanded (λ k. option_map (text_at c.args.haystack.now) (group_from_c c.args.groups.now k)) (index_in c.args.regex.now.names)
    (λ k r h p. search rules) (λ n r p. search rules)
