use Rattle.std.proofs.Common.{[], refl}
use Rattle.bites_table.specs.Graph.{NumberedList}
use Rattle.bites_table.proofs.StepLemmas.{if_some}
use Rattle.bites_table.proofs.GraphLemmas.{grows-any-list}
use Rattle.bites_table.proofs.ExploreLemmas.{none_held, made-any, root-is}
use Rattle.bites_table.proofs.explore.roots.add_root.Goals as goal

pub returns-clause-made : goal.returns-clause-made
returns-clause-made c p k made =
    let l : NumberedList = record { threads = []; registers = 0; starts = c.args.starts; kind = c.first_before.result } in
    made-any p k c.args.graph.now c.add_list.new.self l (none_held 0) made c.add_list.result c.add_list.ensures.added c.add_list.ensures.refused

pub returns-clause-root : goal.returns-clause-root
returns-clause-root c =
    let l : NumberedList = record { threads = []; registers = 0; starts = c.args.starts; kind = c.first_before.result } in
    if_some (λ n added p tells. root-is p c.args.graph.now c.add_list.new.self l _ n added refl (c.first_before.ensures p tells)) c.add_list.result c.add_list.ensures.added

pub returns-clause-grows : goal.returns-clause-grows
returns-clause-grows c =
    let l : NumberedList = record { threads = []; registers = 0; starts = c.args.starts; kind = c.first_before.result } in
    grows-any-list c.args.graph.now c.add_list.new.self l c.add_list.result c.add_list.ensures.added c.add_list.ensures.refused
