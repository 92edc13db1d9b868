use Rattle.bites_table.proofs.Library.{rules, ◌≡◌, ◌∙◌, ◌++◌, ◌∷◌, [], ap, length, slice_get}
use Rattle.bites_table.proofs.explore.stays.find_skip.Goals as goal
use Rattle.bites_table.proofs.GraphLemmas.{get-pushed}

pub returns-clause-skip : goal.returns-clause-skip
returns-clause-skip c =
    let old = c.args.skips.now.items in
    let skip = c.in_ok-skip.skip in
    let pushed : c.push.new.self.items ≡ old ++ skip ∷ [] = search rules in
    let last : c.in_ok-number.number ≡ length old = search rules in (
      skip,
      ap (λ l. slice_get l c.in_ok-number.number) pushed ∙ get-pushed old skip c.in_ok-number.number last,
      c.in_ok-skip.ensures,
    )
