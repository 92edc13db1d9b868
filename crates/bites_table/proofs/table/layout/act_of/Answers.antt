use Rattle.std.proofs.Common.{rules, ◌≡◌, true, length, refl, sym, subst}
use Rattle.bites_table.proofs.Words.{list_of, outcome_of, is_dead, IsAct, Act}
use Rattle.bites_table.proofs.LaidOutLemmas.{held-threads}
use Rattle.bites_table.proofs.table.layout.act_of.Goals as goal

pub returns-in-Some-clause-act : goal.returns-in-Some-clause-act
returns-in-Some-clause-act c =
    let o = outcome_of c.args.outcome.now in
    let l = list_of c.args.next.now in
    let new = c.push_steps.new.steps.items in
    let held : c.are_held.result ≡ true = search rules in
    let looks = c.looks_of.result in
    let a : Act = record { hit = o.hit; steps = c.in-Some.part; next = o.next; is_over = is_dead l; doing = looks.doing; begins = looks.begins; index = looks.index } in
    let own : IsAct c.args.slots new o l a = record {
      hit = refl;
      list = refl;
      over = refl;
      part = c.in-Some.ensures.part;
      moves = λ other. c.in-Some.ensures.moves;
      held = λ other u at. held-threads (length o.moves) c.args.next.now.threads.now (c.are_held.ensures held) u at;
      few = λ other. c.in-Some.ensures.few;
      passes = c.looks_of.ensures.passes;
      indices = c.looks_of.ensures.indices;
      hits = c.looks_of.ensures.hits;
      whole_hits = c.looks_of.ensures.whole_hits;
      goes = c.looks_of.ensures.goes;
      ends = c.looks_of.ensures.ends;
    } in
    subst (λ (x : Act). IsAct c.args.slots new o l x) (sym c.act_with-in-Some.ensures) own
