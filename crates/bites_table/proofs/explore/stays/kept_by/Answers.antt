use Rattle.bites_table.proofs.Library.{◌≡◌, ◌∙◌, true, false, rules, sym, arith, cases_eq, get_or-set_same, get_or-set_other, length-set, common_steps}
use Rattle.bites_table.proofs.BlockLemmas.{repeated}
use Rattle.bites_table.proofs.explore.stays.kept_by.Goals as goal

pub loop-class-init : goal.loop-class-init
loop-class-init c = record {
  len = search rules;
  kept = λ d e. absurd (let no : false ≡ true = sym (repeated 256 false d) ∙ e in cc);
}

pub loop-class-preserved : goal.loop-class-preserved
loop-class-preserved c = grind (arith, common_steps, length-set, get_or-set_same, get_or-set_other, cases_eq)
