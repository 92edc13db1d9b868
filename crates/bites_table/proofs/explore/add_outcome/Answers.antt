use Rattle.bites_table.proofs.Library.{slice_index_or, rules, ◌≡◌, arith, ◌++◌, length, map, refl, sym, ap, ◌∙◌, subst}
use Rattle.bites_table.proofs.Words.{frame_of, NumberedList, Outcome, AreHeld, AddsOutcome, IsRowOf, program_in, classes_in, IsMaking, Edge, Base}
use Rattle.bites_table.proofs.StepLemmas.{if_some}
use Rattle.bites_table.proofs.GraphLemmas.{grows-refl, grows-added, grows-any, grows-any-list, grows-trans}
use Rattle.bites_table.proofs.ExploreLemmas.{made-with, outcome-is, row-stays, making-stays}
use Rattle.bites_table.proofs.explore.add_outcome.Goals as goal

pub returns-then-class-context-clause-grows : goal.returns-then-class-context-clause-grows
returns-then-class-context-clause-grows c = grows-refl c.args.graph.now

pub returns-in_err-assign-clause-grows : goal.returns-in_err-assign-clause-grows
returns-in_err-assign-clause-grows c = grows-refl c.args.graph.now

pub returns-then-registers-gt-MOST_REGISTERS-clause-grows : goal.returns-then-registers-gt-MOST_REGISTERS-clause-grows
returns-then-registers-gt-MOST_REGISTERS-clause-grows c = grows-refl c.args.graph.now

pub returns-in_err-next-clause-grows : goal.returns-in_err-next-clause-grows
returns-in_err-next-clause-grows c =
    let l : NumberedList = record { threads = c.deref.result.now; registers = c.len-registers.result; starts = c.args.row.now.starts; kind = slice_index_or c.args.context.now.before.now c.args.class Edge } in
    grows-any-list c.args.graph.now c.add_list.new.self l c.add_list.result c.add_list.ensures.added c.add_list.ensures.refused

pub returns : goal.returns
returns c =
    let x = c.args.context.now in
    let p = program_in x in
    let k = classes_in x in
    let g = c.args.graph.now in
    let h = c.add_list.new.self in
    let f = c.add_outcome.new.self in
    let row = c.args.row.now in
    let w = c.assign.new.memory.walk in
    let seen = c.assign.new.memory.seen.items in
    let a = c.assign.new.memory.assigned in
    let l : NumberedList = record { threads = c.deref.result.now; registers = c.len-registers.result; starts = row.starts; kind = slice_index_or x.before.now c.args.class Edge } in
    let o : Outcome = record { next = c.in_ok-next.next; moves = c.deref-2.result.now; hit = w.hit } in
    let registers : c.len-registers.result ≡ length a.moves.items = search rules in
    let is : IsRowOf p g w seen row = subst (λ v. IsRowOf p g v seen row) (sym c.assign.ensures.walk) (subst (λ s. IsRowOf p g c.args.memory.now.walk s row) (sym c.assign.ensures.seen) c.requires.row) in
    let are = c.in_ok-assign.ensures.assigned is in
    let held : AreHeld c.len-registers.result c.deref.result.now = subst (λ ts. AreHeld c.len-registers.result ts) (sym c.deref.ensures.value) (subst (λ n. AreHeld n a.threads.items) (sym registers) are.held) in
    let grows = grows-trans g h f (grows-added g h l c.in_ok-next.next c.in_ok-next.ensures.added) (grows-any h f o c.add_outcome.result c.add_outcome.ensures.added c.add_outcome.ensures.refused) in
    let made = made-with p k g h f l c.in_ok-next.next o c.in_ok-next.ensures.added refl (ap length c.deref-2.ensures.value ∙ sym registers) held c.requires.making.made
    c.add_outcome.result c.add_outcome.ensures.added c.add_outcome.ensures.refused in
    record {
      making = subst (λ (b : Base). IsMaking x f b) (sym c.assign.ensures.base) (making-stays x g f c.args.memory.now.base grows made c.requires.making);
      grows = grows;
      cells = search rules;
      walk = c.assign.ensures.walk;
      seen = c.assign.ensures.seen;
      outcome = if_some (λ n adds. record {
        row_is = row-stays p g f grows w seen row c.requires.within is;
        outcome = outcome-is p k g h c.args.class (map frame_of w.takers.items ++ is.rest) w.hit a l c.in_ok-next.next c.in_ok-next.ensures.added c.deref.ensures.value are
            (c.requires.making.context.before c.args.class (omega arith)) n f
            (subst (λ ms. AddsOutcome h (record { next = c.in_ok-next.next; moves = ms; hit = w.hit }) n f) c.deref-2.ensures.value adds);
      }) c.add_outcome.result c.add_outcome.ensures.added;
    }
