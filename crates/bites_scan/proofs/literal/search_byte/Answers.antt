use Rattle.std.proofs.Common.{refl, arith}
use Rattle.bites_scan.proofs.LiteralLemmas.{byte_occurs, byte_fails}
use Rattle.bites_scan.proofs.literal.search_byte.Goals as goal

pub returns-then-start-haystack-clause-outcome : goal.returns-then-start-haystack-clause-outcome
returns-then-start-haystack-clause-outcome c =
    let first = c.first_stop-start.ensures in
    record {
      onward = first.onward;
      occurs = byte_occurs c.args.haystack.now c.args.byte c.first_stop-start.result (omega arith) (first.stopped (omega arith));
      ends = refl;
      none_before = λ p onward before. byte_fails c.args.haystack.now c.args.byte p (first.passed p onward before);
    }

pub returns-else-start-haystack-clause-outcome : goal.returns-else-start-haystack-clause-outcome
returns-else-start-haystack-clause-outcome c p onward o =
    let first = c.first_stop-start.ensures in
    byte_fails c.args.haystack.now c.args.byte p (first.passed p onward (omega (arith, o.room, first.within))) o
