use Rattle.bites_table.proofs.Library.{common_steps, rules, arith, ◌≡◌, ◌<◌, true, None, length, ◌∙◌, length-map, get_or-map}
use Rattle.bites_table.proofs.Words.{unwritten, source_of}
use Rattle.bites_table.proofs.RowLemmas.{own-row}
use Rattle.bites_table.proofs.table.sequence.are_own.Goals as goal

pub loop-to-preserved : goal.loop-to-preserved
loop-to-preserved c r lt =
    let to = c.loop-to.to in
    let moves = c.args.moves.now in
    let yes : c.keeps_row.result ≡ true = search rules in
    let within : to < length moves = search rules in
    let is = get_or-map source_of moves to (record { register = None; writes = 0 }) unwritten within ∙ c.keeps_row.ensures yes in
    let before = c.loop-to.invariant in
    grind (arith, is, before)

pub returns-clause-moves : goal.returns-clause-moves
returns-clause-moves c is r lt = grind (arith, common_steps, own-row, length-map)
