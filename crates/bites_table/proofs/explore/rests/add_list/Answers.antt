use Rattle.bites_table.proofs.Library.{◌==◌, ℕ, List, subst, sym, ◌∙◌, Among, Among-right, arith, common_steps}
use Rattle.std.proofs.lemmas.Bool.{eqb-true}
use Rattle.bites_table.proofs.RestLemmas.{among-any}
use Rattle.bites_table.proofs.explore.rests.add_list.Goals as goal

pub returns-in_ok-ok-clause-added : goal.returns-in_ok-ok-clause-added
returns-in_ok-ok-clause-added c = grind (arith, common_steps, Among-right)

pub returns-else-not-contains-clause-added : goal.returns-else-not-contains-clause-added
returns-else-not-contains-clause-added c =
    let P : List ℕ → Type 0 = λ l. Among l c.args.number in
    subst P c.deref.ensures.value (among-any ◌==◌ eqb-true c.deref.result.now c.args.number (sym c.contains.ensures.value ∙ c.if-not-contains.false))
