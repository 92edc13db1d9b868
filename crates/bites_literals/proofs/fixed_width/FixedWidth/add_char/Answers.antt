use Rattle.std.proofs.Common.{◌==◌, ◌<◌, refl, ⊎_elim, inl, inr, arith, rules}
use Rattle.std.proofs.lemmas.Bool.Decides.{nat_tests}
use Rattle.bites_literals.proofs.CharacterFacts.{is_this}
use Rattle.bites_literals.proofs.FixedWidthLemmas.{adds_one}
use Rattle.bites_literals.proofs.fixed_width.FixedWidth.add_char.Goals as goal

pub returns : goal.returns
returns c told =
    let low : c.args.c < 128 = grind (arith, nat_tests) in
    adds_one (λ d. d == c.args.c) c.args.self.now _ c.requires (c.has_room.ensures.short (search rules)) (c.has_room.ensures.goes_on (search rules)) refl refl refl
    (λ d e. let is = is_this c.args.c d e in (omega (arith, is, low), c.allow.ensures.stand d (omega (arith, is)) (omega (arith, is))))
    (λ k b e. ⊎_elim inl (λ new. inr (new.0, grind (arith, nat_tests))) (c.allow.ensures.only k b e))
    c.allow.ensures.kept
