use Rattle.bites_table.proofs.Library.{◌<◌, true, None, arith, get_or-map, common_steps}
use Rattle.bites_table.proofs.Words.{most_registers, source_of, unwritten}
use Rattle.bites_table.proofs.LaidOutLemmas.{written-kept, written-last}
use Rattle.bites_table.proofs.table.layout.only_written.Goals as goal

pub loop-number-preserved : goal.loop-number-preserved
loop-number-preserved c =
    let n = c.loop-number.number in
    let moves = c.args.moves.now in
    let old = c.loop-number.invariant in
    let few : n < most_registers = let len = c.requires.few in let lt = c.loop-number-test.true in omega arith in
    let at = get_or-map source_of moves n (record { register = None; writes = 0 }) unwritten c.loop-number-test.true in
    grind (arith, common_steps, written-last, written-kept)
