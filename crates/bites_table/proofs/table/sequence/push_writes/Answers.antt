use Rattle.bites_table.proofs.Library.{rules, arith, ◌≡◌, ◌++◌, ◌∷◌, [], ap, sym, ◌∙◌, slice_set}
use Rattle.bites_table.proofs.Words.{write, source_of, sources_after, Write}
use Rattle.bites_table.proofs.SequenceLemmas.{gives-step, gives-more}
use Rattle.bites_table.proofs.table.sequence.push_writes.Goals as goal

pub loop-preserved : goal.loop-preserved
loop-preserved c =
    let old = c.loop.steps.items in
    let new = c.push.new.self.items in
    let r = c.args.register in
    let own = c.loop.own in
    let pushed : new ≡ old ++ Write r c.in_ok-slot.slot ∷ [] = search rules in
    gives-more c.args.steps.now.items old new r (source_of own) (source_of c.in_ok-own.own) c.loop.invariant
    (gives-step old (Write r c.in_ok-slot.slot) new r (source_of c.in_ok-own.own) pushed (omega arith) (omega arith)
    (ap (slice_set (sources_after old) r) (ap (write c.in_ok-slot.slot) c.loop.invariant.own ∙ ap (λ n. write n (source_of own)) (sym c.from.ensures) ∙ sym c.in_ok-own.ensures)))
