use Rattle.std.proofs.Common.{◌∙◌, ap, false, get_or, slice_set}
use Rattle.bites_c.proofs.SetLemmas.{byte_is, entry_put}
use Rattle.bites_c.proofs.held_set.put_entries.Goals as goal

pub loop-number-preserved : goal.loop-number-preserved
loop-number-preserved c =
    let l = c.loop-number in let entries = c.args.matched.now in
    ap (slice_set l.out l.number) (c.from.ensures ∙ byte_is (get_or entries l.number false))
    ∙ entry_put entries c.args.out.now l.out l.number false c.loop-number-test.true c.requires l.invariant
