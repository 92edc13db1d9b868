use Rattle.bites_table.proofs.Words.{table_of, outcome_of}
use Rattle.bites_table.proofs.RestLemmas.{leads-one, leads-next, grows-on}
use Rattle.bites_table.proofs.explore.rests.add_next.Goals as goal

pub loop-class-preserved : goal.loop-class-preserved
loop-class-preserved c =
    let g = c.args.graph.now in
    let n = c.args.number in
    let class = c.loop-class.class in
    let lists = c.loop-class.lists.items in
    let new = c.add_list.new.lists.items in
    let more = c.add_list.ensures.grows in
    record {
      grows = grows-on c.args.lists.now.items lists new c.loop-class.invariant.grows.0 c.loop-class.invariant.grows.1 more.0 more.1;
      closed = leads-next (table_of g) n class lists more.0 new more.1 c.loop-class.invariant.closed
          (leads-one g n class (outcome_of c.in_ok-next.field-0) c.in_ok-next.ensures new c.in_ok-add_list.ensures.added);
    }
