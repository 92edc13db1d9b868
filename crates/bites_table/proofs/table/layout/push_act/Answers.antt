use Rattle.bites_table.proofs.Library.{rules, ◌≡◌, ℕ, [], ◌∷◌, ◌++◌, length, Some, ap, sym, ◌∙◌, subst, arith, slice_get, length-append}
use Rattle.bites_table.proofs.Words.{ThreadList, registers_at, numbered, outcome_of, IsHeldHit, IsAct, IsActOf, Names}
use Rattle.bites_table.proofs.GraphLemmas.{list-there}
use Rattle.bites_table.proofs.LaidOutLemmas.{hits-push, acts-push, names-push}
use Rattle.bites_table.proofs.table.layout.push_act.Goals as goal

pub returns : goal.returns
returns c =
    let g = c.args.graph.now in
    let before = c.requires.first in
    let o = outcome_of c.outcome-outcome.result in
    let a = c.act_of-act.result in
    let new = c.act_of-act.new.steps.items in
    let acts = c.args.acts.now.acts.items in
    let names = c.args.acts.now.names.items in
    let does = c.act_of-act.ensures in
    let pushed : c.push.new.self.items ≡ acts ++ a ∷ [] = search rules in
    let more : c.push-2.new.self.items ≡ names ++ c.name_of.result ∷ [] = search rules in
    let list = list-there g c.outcome-outcome.result.next (numbered c.list-next.result (registers_at g c.outcome-outcome.result.next)) c.list-next.ensures in
    let own : IsActOf g c.args.slots new o a = record {
      within = omega arith;
      act = subst (λ (l : ThreadList). IsAct c.args.slots new o l a) (sym list) does.act;
    } in
    let there : slice_get g.outcomes (length acts) ≡ Some o = ap (slice_get g.outcomes) before.count ∙ c.outcome-outcome.ensures in
    let held : IsHeldHit c.outcome-outcome.result.hit = c.has_register.ensures (search rules) in
    let name : Names a (length acts) c.args.stride c.name_of.result = subst (λ (n : ℕ). Names a n c.args.stride c.name_of.result) (sym before.count) c.name_of.ensures in
    record {
      count = grind (arith, length-append);
      do_so = rw pushed (acts-push g c.args.slots c.args.acts.now.steps.items does.grows.0 new acts o a does.grows.1 before.do_so there own);
      hits = rw pushed (hits-push acts a before.hits (subst IsHeldHit (sym does.act.hit) held));
      names = does.names before.names;
      named = rw (pushed, more) (names-push c.args.stride acts a names c.name_of.result (before.count ∙ sym before.len) name before.named);
      len = grind (arith, length-append);
    }
