use Rattle.std.proofs.lemmas.List.Elements.{All-append}
use Rattle.bites_spec.specs.Class.{IsRange}
use Rattle.bites_syntax.proofs.RangeLists.{all_are_ranges}
use Rattle.bites_syntax.proofs.class_builder.ClassBuilder.extend.Goals as goal

pub invariant_of-self-2 : goal.invariant_of-self-2
invariant_of-self-2 c =
    rw c.in_ok-extend_from_slice.ensures.items (All-append IsRange c.self.inside.ranges.items c.args.ranges.now c.self.invariant (all_are_ranges c.args.ranges.now c.requires))
