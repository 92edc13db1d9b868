use Rattle.std.proofs.Common.{◌≡◌, ◌∙◌, ap, rules}
use Rattle.bites_literals.specs.declared.fixed_width.FixedWidth.{FixedWidth}
use Rattle.bites_literals.proofs.FixedWidthLemmas.{is_whole}
use Rattle.bites_literals.proofs.fixed_width.FixedWidth.of.Goals as goal

pub returns : goal.returns
returns c =
    let old = c.deref_mut.result.now in
    let same : old ≡ c.empty.result = search rules in
    is_whole c.args.tree.now old c.add.new.self c.requires (ap (λ (f : FixedWidth). f.len) same ∙ c.empty.ensures.len)
    (ap (λ (f : FixedWidth). f.ends) same ∙ c.empty.ensures.ends) (ap (λ (f : FixedWidth). f.groups.items) same ∙ c.empty.ensures.groups) (c.add.ensures (search rules))
