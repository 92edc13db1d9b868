use Rattle.std.proofs.Common.{◌∙◌, ap, sym}
use Rattle.bites_spec.proofs.classes.ClassLemmas.{lists_are_ranges_of}
use Rattle.bites_syntax.specs.Ranges.{constant_set, kept_ranges}
use Rattle.bites_syntax.proofs.range_list.RangeList.as_slice.Goals as goal

pub returns-in-Constant : goal.returns-in-Constant
returns-in-Constant c =
    lists_are_ranges_of (constant_set c.in-Constant.set) _ c.ranges-in-Constant.ensures ∙ ap kept_ranges (sym c.in-Constant.is) ∙ c.self.view_is
