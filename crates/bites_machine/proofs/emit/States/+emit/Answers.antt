use Rattle.bites_machine.proofs.Library.{common_steps, length, arith, read_below, parts_from}
use Rattle.bites_machine.proofs.compile.EmittedLemmas.{reserved, part_reduced, emit_all-more, emit_all-end, emit_each-more, emit_each-end}
use Rattle.bites_machine.proofs.emit.States.+emit.Goals as goal

pub looped-put-requires : goal.looped-put-requires
looped-put-requires t c = reserved _ _ _ _ _ _ _ c.in_ok-again.ensures c.in_ok-from.ensures

pub star-put-requires : goal.star-put-requires
star-put-requires t c = reserved _ _ _ _ _ _ _ c.in_ok-from.ensures c.in_ok-round.ensures

pub sequence-loop-i-init : goal.sequence-loop-i-init
sequence-loop-i-init t c = emit_all-end c.args.parts.now (length c.args.parts.now) c.args.to c.args.self.now (omega arith)

pub sequence-emit-requires : goal.sequence-emit-requires
sequence-emit-requires t c = grind (arith, common_steps, read_below, part_reduced)

pub sequence-loop-i-preserved : goal.sequence-loop-i-preserved
sequence-loop-i-preserved t c =
    emit_all-more c.args.parts.now c.loop-i.i _ c.args.to c.args.self.now _ _ _ _ (omega arith) c.index-parts-i.is (omega arith) c.loop-i.invariant c.in_ok-from.ensures

pub alternation-emit-requires : goal.alternation-emit-requires
alternation-emit-requires t c = grind (arith, common_steps, read_below, part_reduced)

pub alternation-loop-part-preserved : goal.alternation-loop-part-preserved
alternation-loop-part-preserved t c = grind (arith, common_steps, parts_from, emit_each-more)

pub alternation-returns : goal.alternation-returns
alternation-returns t c = grind (arith, emit_each-end)
