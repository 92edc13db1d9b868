-- Steps that move rows to one register after another.
use Rattle.bites_table.proofs.Library.{common_steps, replicate, slice_set, get_or-set_same, get_or-set_other, get_or_past, ◌≡◌, ℕ, ◌<◌, true, false, List, [], ◌∷◌, ◌++◌, None, Some, refl, sym, ◌∙◌, arith}
use Rattle.bites_table.proofs.Words.{most_registers, with_spare, Source, row_of_register, after_step, NamesRegisters, sources_after, Gives, IsOrder, Step, Order}
use Rattle.bites_table.specs.declared.thread_list.Source as code
use Rattle.bites_table.proofs.BlockLemmas.{repeated}
use Rattle.bites_table.proofs.RowLemmas.{own-row, own-rows-length, steps-length, one-step-more, names-more}

-- one step more
pub gives-step : (old : List Step) (s : Step) (new : List Step) (to : ℕ) (v : Source) → new ≡ old ++ s ∷ [] → NamesRegisters s → to < with_spare →
    after_step s (sources_after old) ≡ slice_set (sources_after old) to v → Gives old new to v
gives-step old s new to v e names lt is = grind (arith, common_steps, one-step-more, steps-length, own-rows-length, names-more, get_or-set_same, get_or-set_other)

pub gives-more : (a b c : List Step) (to : ℕ) (s v : Source) → Gives a b to s → Gives b c to v → Gives a c to v
gives-more a b c to s v first then = grind (arith, common_steps)

-- before any step
pub order-begun : (moves : List code.Source) (users : List ℕ) → IsOrder moves (record { is_done = replicate most_registers false; users = users; spared = None }) []
order-begun moves users = record {
  names = λ s none. absurd none;
  rows = grind (arith, common_steps, own-row);
  done = λ r e. absurd (let no : false ≡ true = sym (repeated most_registers false r) ∙ e in cc);
  len = refl;
}

module _ (moves : List code.Source) (o : Order) (old : List Step) (is : IsOrder moves o old) (new : List Step) (p : Order) where
  -- the row of one that is left is copied to the spare register
  pub order-spared : (to : ℕ) → Gives old new most_registers (row_of_register to) → p.is_done ≡ o.is_done → p.spared ≡ Some to → IsOrder moves p new
  order-spared to gives done spared = grind (arith, common_steps, get_or_past)
