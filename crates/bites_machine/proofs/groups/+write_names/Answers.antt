use Rattle.bites_machine.proofs.Library.{common_steps, option_map, arith, map-set, length-map, bytes_of, read_below, parts_from}
use Rattle.bites_machine.proofs.compile.EmittedLemmas.{tree_by_kind}
use Rattle.bites_machine.proofs.compile.GroupLemmas.{length-filled, groups_at, filled-more}
use Rattle.bites_machine.proofs.groups.+write_names.Goals as goal

pub write_names-returns-in_ok-names-in-Capture : goal.write_names-returns-in_ok-names-in-Capture
write_names-returns-in_ok-names-in-Capture t c = grind (arith, common_steps, tree_by_kind, map-set, option_map)

pub write_names_of_all-write_names-requires : goal.write_names_of_all-write_names-requires
write_names_of_all-write_names-requires t c = grind (arith, common_steps, read_below, groups_at)

pub write_names_of_all-loop-part-preserved : goal.write_names_of_all-loop-part-preserved
write_names_of_all-loop-part-preserved t c =
    let from = parts_from c.args.parts.now c.loop-part.part-index c.part-item.result c.part-item.is (omega arith) in
    let new = c.write_names.new.names.items in
    let old = c.loop-part.names.items in
    record {
      written = filled-more c.args.parts.now c.loop-part.part-index c.part-item.result (bytes_of old) (bytes_of new) _ from c.loop-part.invariant.written c.in_ok-write_names.ensures;
      len = grind (arith, length-map, length-filled);
    }
