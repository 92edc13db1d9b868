use Rattle.std.proofs.Common.{◌≡◌, List, ℕ, length, arith, ◌∙◌}
use Rattle.bites_scan.specs.Lanes.{marks}
use Rattle.bites_scan.proofs.MarkLemmas.{mask_small, mask_of_parts, length_marks}
use Rattle.bites_scan.proofs.lanes.mask_of_four.Goals as goal

long : (z : List ℕ) → length z ≡ 16 → length (marks z) ≡ 16
long z e = length_marks z ∙ e

pub overflow_add-result : goal.overflow_add-result
overflow_add-result c = record { fits = omega (arith, c.mask_of.ensures.bits, c.mask_of-2.ensures.bits, mask_small _ (long c.args.a c.fits-a.0), mask_small _ (long c.args.b c.fits-b.0)) }

pub overflow_add-result-2 : goal.overflow_add-result-2
overflow_add-result-2 c = record { fits = omega (arith, c.mask_of.ensures.bits, c.mask_of-2.ensures.bits, c.mask_of-3.ensures.bits, mask_small _ (long c.args.a c.fits-a.0), mask_small _ (long c.args.b c.fits-b.0), mask_small _ (long c.args.c c.fits-c.0)) }

pub overflow_add-result-3 : goal.overflow_add-result-3
overflow_add-result-3 c = record { fits = omega (arith, c.mask_of.ensures.bits, c.mask_of-2.ensures.bits, c.mask_of-3.ensures.bits, c.mask_of-4.ensures.bits, mask_small _ (long c.args.a c.fits-a.0), mask_small _ (long c.args.b c.fits-b.0), mask_small _ (long c.args.c c.fits-c.0), mask_small _ (long c.args.d c.fits-d.0)) }

pub returns : goal.returns
returns c = omega (
  arith,
  c.mask_of.ensures.bits,
  c.mask_of-2.ensures.bits,
  c.mask_of-3.ensures.bits,
  c.mask_of-4.ensures.bits,
  mask_small _ (long c.args.a c.fits-a.0),
  mask_small _ (long c.args.b c.fits-b.0),
  mask_small _ (long c.args.c c.fits-c.0),
  mask_small _ (long c.args.d c.fits-d.0),
  mask_of_parts (marks c.args.a) (marks c.args.b) (marks c.args.c) (marks c.args.d) (long c.args.a c.fits-a.0) (long c.args.b c.fits-b.0) (long c.args.c c.fits-c.0) (long c.args.d c.fits-d.0),
)
