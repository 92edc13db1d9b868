use Rattle.bites_machine.proofs.Library.{common_steps, arith, ◌≡◌, sym, ap, ◌∙◌, reverse, range_with_len, Record, after_each, record_of, record_step, Transitions, rolls-Transitions, History-F, fold-roll-History}
use Rattle.bites_machine.proofs.tables.TraceLemmas.{reads_after}
use Rattle.bites_machine.proofs.vm.counted.Counted.record_transitions.Goals as goal

pub invariant_of-self : goal.invariant_of-self
invariant_of-self c =
    let places = range_with_len c.args.place c.args.count in
    let opened : record_of (Transitions c.replace-earlier.result c.of-2.result c.of-3.result c.args.place c.args.count)
    ≡ after_each (reverse c.of-2.result.value.value.items) c.of-3.result.value.value places (record_of c.replace-earlier.result.value) =
    ap record_of (sym (rolls-Transitions c.replace-earlier.result c.of-2.result c.of-3.result c.args.place c.args.count))
    ∙ fold-roll-History Record record_step (History-F.Transitions c.replace-earlier.result c.of-2.result c.of-3.result c.args.place c.args.count) in
    grind (arith, common_steps, reads_after)
