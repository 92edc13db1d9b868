use Rattle.std.proofs.Common.{arith, length, subst}
use Rattle.bites_scan.specs.Known.{AreAsLong}
use Rattle.bites_scan.proofs.SetLemmas.{none_behind, some_stands}
use Rattle.bites_scan.specs.LiteralSet.{SomeOccursAt}
use Rattle.bites_scan.proofs.OffsetLemmas.{one_more}
use Rattle.bites_scan.proofs.literal_set.LiteralSet.search_by_one.Goals as goal

pub returns-in-Some : goal.returns-in-Some
returns-in-Some c = record {
  onward = c.offsets.invariant.onward;
  occurs = some_stands c.args.self.now c.args.haystack.now c.offsets.at c.in-Some.end c.in-Some.ensures.some;
  ends = c.in-Some.ensures.some;
  none_before = c.offsets.invariant.none;
}

pub offsets-preserved : goal.offsets-preserved
offsets-preserved c = record {
  onward = omega arith;
  none = one_more (SomeOccursAt c.args.self.now c.args.haystack.now) c.args.from c.offsets.at c.offsets.invariant.none (c.end_of_one.ensures.none c.in_default.is);
}

pub returns : goal.returns
returns c =
    let long : AreAsLong c.args.self.now (length c.args.self.now) c.self.inside.least = subst (λ l. AreAsLong l (length l) c.self.inside.least) c.self.view_is c.self.inside.long in
    none_behind c.args.self.now c.args.haystack.now c.self.inside.least long c.args.from c.offsets.at (omega (arith, c.offsets-test.false)) c.offsets.invariant.none

pub returns-then-are_too_many : goal.returns-then-are_too_many
returns-then-are_too_many c = record {
  onward = omega arith;
  within = omega arith;
  none_before = one_more (SomeOccursAt c.args.self.now c.args.haystack.now) c.args.from c.offsets.at c.offsets.invariant.none (c.end_of_one.ensures.none c.in_default.is);
}
