use Rattle.std.proofs.Common.{◌++◌, List, ℕ, length, ap, sym, ◌∙◌, arith}
use Rattle.bites_literals.specs.Texts.{bytes_of}
use Rattle.bites_literals.proofs.TextLemmas.{repeated_fits, repeated_more}
use Rattle.bites_literals.proofs.text.Text.repeated.Goals as goal

pub loop-init : goal.loop-init
loop-init c = c.empty-text.ensures

pub followed_by-text-requires : goal.followed_by-text-requires
followed_by-text-requires c =
    let fits = repeated_fits c.loop.counter c.args.count (bytes_of c.args.self.now) c.loop-test.true c.requires in
    omega (arith, fits, ap length c.loop.invariant)

pub loop-preserved : goal.loop-preserved
loop-preserved c =
    c.followed_by-text.ensures.bytes ∙ ap (λ (xs : List ℕ). bytes_of c.args.self.now ++ xs) c.loop.invariant ∙ sym (repeated_more c.loop.counter (bytes_of c.args.self.now))
