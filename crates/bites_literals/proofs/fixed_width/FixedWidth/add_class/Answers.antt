use Rattle.std.proofs.Common.{refl, inl, inr, ⊎_elim, rules}
use Rattle.bites_spec.specs.Range.{in_ranges}
use Rattle.bites_literals.proofs.FixedWidthLemmas.{adds_one}
use Rattle.bites_literals.proofs.fixed_width.FixedWidth.add_class.Goals as goal

pub returns : goal.returns
returns c told =
    adds_one (in_ranges c.args.ranges.now) c.args.self.now _ c.requires (c.has_room.ensures.short (search rules)) (c.has_room.ensures.goes_on (search rules)) refl refl refl
    (λ d e. c.allow_all.ensures.stand (search rules) d (search rules))
    (λ k b e. ⊎_elim inl (λ new. inr (new.0, search rules)) (c.allow_all.ensures.only k b e))
    c.allow_all.ensures.kept
