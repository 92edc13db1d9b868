-- The record after a lent state is given back.
use Rattle.std.specs.Prelude.{ℕ, ⊤, []}
use Rattle.std.specs.Borrow.{follows_so, MutBor, Fml}
use mathlib.Core.Option.{none}
use mir.Syntax.{named}
use Rattle.bites_spec.specs.Program.{at}
use Rattle.bites_machine.specs.Scratch.{CountsVisit}
use Rattle.bites_machine.specs.declared.vm.counted.Counted.{Counted}
use Rattle.bites_machine.specs.contracts.vm.counted.Counted as rows

-- the configuration was added to the visits and to what was read; the states and the number of looks are unchanged
abbrev pub Visits : MutBor Counted → ℕ → ℕ → Fml
Visits w state place =
    let row = rows.the_row (record { mir = named 0; lft = [] }) in
    follows_so row row w.ghost_name none (λ _ _. ⊤)
    (λ last. CountsVisit (at state place) w.now last)
