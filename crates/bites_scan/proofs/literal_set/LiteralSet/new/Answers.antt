use Rattle.std.proofs.Common.{◌≡◌, length, get_or, subst, arith, refl}
use Rattle.std.proofs.lemmas.List.{get_or_read_under}
use Rattle.bites_scan.specs.Buckets.{Knows}
use Rattle.bites_scan.specs.Known.{AreAsLong}
use Rattle.bites_scan.specs.Shortlist.{Lists}
use Rattle.bites_scan.proofs.SetLemmas.{known_more}
use Rattle.bites_scan.proofs.literal_set.LiteralSet.new.Goals as goal

pub loop-number-preserved : goal.loop-number-preserved
loop-number-preserved c =
    let items = c.args.literals.items in
    let number = c.loop-number.number in
    known_more items number c.loop-number.fingerprints c.add.new.self c.loop-number.shortlist c.add-in-loop-number.new.self c.loop-number.invariant
    c.add.ensures.kept c.add-in-loop-number.ensures.kept (λ d.
    let one : c.index.result.now ≡ get_or items number d = get_or_read_under items number (length items) c.index.result.now d c.index.ensures (omega arith) refl in
    let other : c.index-in-loop-number.result.now ≡ get_or items number d = get_or_read_under items number (length items) c.index-in-loop-number.result.now d c.index-in-loop-number.ensures (omega arith) refl in
    (subst (Knows c.add.new.self) one c.add.ensures.added, subst (λ n. Lists c.add-in-loop-number.new.self n number) other c.add-in-loop-number.ensures.added))

pub invariant_of-result : goal.invariant_of-result
invariant_of-result c = (
  ∣ (λ k d lt. c.loop-number.invariant k d (omega arith)) ∣₁,
  (subst (λ l. AreAsLong l (length l) c.least_len-least.result) c.deref-2.ensures.value c.least_len-least.ensures, tt),
)
