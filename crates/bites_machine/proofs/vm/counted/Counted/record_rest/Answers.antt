use Rattle.bites_machine.proofs.Library.{common_steps, arith, ◌≡◌, sym, ap, ◌∙◌, reverse, places, Record, after_each, record_of, record_step, Rest, rolls-Rest, History-F, fold-roll-History}
use Rattle.bites_machine.proofs.tables.TraceLemmas.{reads_after}
use Rattle.bites_machine.proofs.vm.counted.Counted.record_rest.Goals as goal

pub invariant_of-self : goal.invariant_of-self
invariant_of-self c =
    let opened : record_of (Rest c.replace-earlier.result c.of-2.result c.of-3.result c.of-4.result c.args.place)
    ≡ after_each (reverse c.of-2.result.value.value.items) c.of-3.result.value.value (places c.of-4.result.bytes c.args.place) (record_of c.replace-earlier.result.value) =
    ap record_of (sym (rolls-Rest c.replace-earlier.result c.of-2.result c.of-3.result c.of-4.result c.args.place))
    ∙ fold-roll-History Record record_step (History-F.Rest c.replace-earlier.result c.of-2.result c.of-3.result c.of-4.result c.args.place) in
    grind (arith, common_steps, reads_after)
