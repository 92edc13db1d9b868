use Rattle.bites_table.proofs.Library.{common_steps, ◌≡◌, ℕ, List, Option, arith, cases_eq, row_in, ne_eqb, eq-eqb}
use Rattle.bites_table.specs.Sources.{row_of_register, row_at}
use Rattle.bites_table.proofs.TransitionLemmas.{none_written}
use Rattle.bites_table.proofs.RowLemmas.{row-room, with_two, two-row, two-others, indexed-row}
use Rattle.bites_table.proofs.steps.pass_rows.Goals as goal

-- a row that stays
own : (place : ℕ) (registers : List (Option ℕ)) (width r : ℕ) → row_at width place (row_in registers width) (row_of_register r) ≡ row_in registers width r
own place registers width r = none_written place 0 (row_in registers width r)

pub returns-then-bit-eq-TWO : goal.returns-then-bit-eq-TWO
returns-then-bit-eq-TWO g c r lt = grind (arith, common_steps, with_two, row-room, two-row, eq-eqb, two-others, own, ne_eqb, cases_eq)

pub returns-then-bit-eq-WHOLE : goal.returns-then-bit-eq-WHOLE
returns-then-bit-eq-WHOLE g c r lt = grind (arith, common_steps, indexed-row, row-room)

pub returns-else-bit-eq-WHOLE : goal.returns-else-bit-eq-WHOLE
returns-else-bit-eq-WHOLE g c r lt = grind (arith, common_steps, own, ne_eqb)
