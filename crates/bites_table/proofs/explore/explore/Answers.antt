use Rattle.bites_table.proofs.Library.{rules, sym, ◌∙◌, subst, arith, common_steps}
use Rattle.bites_table.proofs.Words.{classes_of, ArePlain, classes_in, AreAfter, AreBefore, AreTaken}
use Rattle.bites_table.proofs.GraphLemmas.{made-graph}
use Rattle.bites_table.proofs.explore.explore.Goals as goal

pub follow_roots-followed-requires : goal.follow_roots-followed-requires
unfolding classes_in
follow_roots-followed-requires c =
    let p = c.args.program.now.program in
    let k = classes_of c.args.classes.now in
    record {
      context = record {
        after = subst (AreAfter p k) (sym c.deref-4.ensures.value) (c.in_ok-after.ensures p c.of-kinds.ensures);
        before = subst (AreBefore p k) (sym c.deref-5.ensures.value) (c.in_ok-before.ensures p c.of-kinds.ensures);
        plain = λ e. subst (λ l. ArePlain l c.deref-5.result.now) (c.deref-2.ensures.value ∙ sym c.deref-4.ensures.value) (subst (ArePlain c.deref-2.result.now) (c.deref-3.ensures.value ∙ sym c.deref-5.ensures.value) (c.are_plain-is_plain.ensures e));
        taken = subst (AreTaken p k) (sym c.deref-6.ensures.value) c.in_ok-taken.ensures;
      };
      classes = search rules;
      made = search rules;
      noted = c.in_ok-memory.ensures p c.in_ok-graph.graph;
    }

pub returns : goal.returns
unfolding classes_in
returns c = record {
  explored = record {
    graph = made-graph c.args.program.now.program (classes_of c.args.classes.now) c.follow_roots-followed.new.graph c.follow_roots-followed.ensures.making.made;
    walked_everywhere = c.in-Some.ensures.everywhere c.of-kinds.ensures;
    walked_here = c.in-Some.ensures.here c.of-kinds.ensures;
  };
  stays = c.in-Some-find_stays.ensures;
}

pub find_stays-requires : goal.find_stays-requires
unfolding classes_in
find_stays-requires c = grind (arith, common_steps, made-graph, c.follow_roots-followed.ensures.making.context, c.follow_roots-followed.ensures.making.made)
