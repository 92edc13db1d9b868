use Rattle.bites_table.proofs.Library.{◌+◌, ◌<◌, ◌++◌, map, sym, ap, ◌∙◌, subst, arith, slice_get_within, append-nil, slice_get}
use Rattle.bites_table.proofs.Words.{taken, AssertsAs, kind_as, frame_of, registers_at, outcome_of, AreAssigned, program_in, classes_in}
use Rattle.bites_table.proofs.StepLemmas.{if_some}
use Rattle.bites_table.proofs.TakenLemmas.{taken-append}
use Rattle.bites_table.proofs.ExploreLemmas.{rest-taken}
use Rattle.bites_table.proofs.explore.assign.Goals as goal

pub outcome-outcome-requires : goal.outcome-outcome-requires
outcome-outcome-requires c =
    let names = c.in_ok-outcome_at-in-Some.ensures in
    let cell = c.requires.making.made.cells (names.row + c.args.class) names.cell names.known in
    slice_get_within c.args.graph.now.outcomes c.in_ok-outcome_at-in-Some.field-0 cell.outcome (ap (slice_get c.args.graph.now.outcomes) (sym names.named) ∙ cell.named)

pub returns-in-None-clause-assigned : goal.returns-in-None-clause-assigned
unfolding classes_in
returns-in-None-clause-assigned c is =
    let p = program_in c.args.context.now in
    let k = classes_in c.args.context.now in
    let frames = map frame_of c.args.memory.now.walk.takers.items in
    let own = subst (λ ch. AreAssigned c.assign.new.self (taken p ch frames)) c.member-ch.ensures
    (subst (λ ts. AreAssigned c.assign.new.self (taken p c.member-ch.result (map frame_of ts))) c.deref.ensures.value (c.in_ok-assign.ensures k c.requires.making.context.taken (sym c.member-ch.ensures))) in
    subst (λ ts. AreAssigned c.assign.new.self (taken p (k.member c.args.class) ts)) (sym (append-nil frames) ∙ ap (λ ts. frames ++ ts) (sym (is.alone c.in-None.is))) own

pub returns-in_ok-outcome_at-in-Some-clause-assigned : goal.returns-in_ok-outcome_at-in-Some-clause-assigned
unfolding classes_in
returns-in_ok-outcome_at-in-Some-clause-assigned c =
    let p = program_in c.args.context.now in
    let k = classes_in c.args.context.now in
    let g = c.args.graph.now in
    let frames = map frame_of c.args.memory.now.walk.takers.items in
    let own = subst (λ ch. AreAssigned c.assign.new.self (taken p ch frames)) c.member-ch.ensures
    (subst (λ ts. AreAssigned c.assign.new.self (taken p c.member-ch.result (map frame_of ts))) c.deref.ensures.value (c.in_ok-assign.ensures k c.requires.making.context.taken (sym c.member-ch.ensures))) in
    let lt : c.args.class < g.classes = let less = c.requires.class in let classes = c.requires.making.classes in omega arith in
    if_some (λ u pushed is.
    subst (AreAssigned c.push_moved.new.self)
    (ap (λ ts. taken p (k.member c.args.class) frames ++ ts)
    (rest-taken p k g c.requires.making.made c.args.memory.now.walk c.args.memory.now.seen.items c.args.row.now is c.args.class c.in_ok-outcome_at-in-Some.field-0 lt
    (λ b. subst (λ kind. AssertsAs p b (kind_as kind) (k.member c.args.class)) (sym c.requires.kind) (c.requires.making.context.after b c.args.class c.requires.class))
    c.in_ok-outcome_at-in-Some.ensures (outcome_of c.outcome-outcome.result) c.outcome-outcome.ensures c.list-rest.result (registers_at g c.outcome-outcome.result.next) c.list-rest.ensures)
    ∙ sym (taken-append p (k.member c.args.class) frames is.rest))
    (pushed (taken p (k.member c.args.class) frames) own)) c.push_moved.result c.push_moved.ensures
