use Rattle.std.proofs.Common.{List, refl, subst}
use Rattle.std.specs.List.{AllPairs}
use Rattle.bites_scan.specs.Literal.{Needle, DifferFrom}
use Rattle.bites_literals.proofs.ChoiceLemmas.{one_of}
use Rattle.bites_literals.proofs.choice.texts_alone.Goals as goal

pub returns : goal.returns
returns c =
    one_of c.args.tree.now _ c.in_ok-branches_of.ensures c.in_ok-texts.texts.items c.in_ok-texts.ensures
    (subst (λ (texts : List Needle). AllPairs DifferFrom texts) c.deref.ensures.value (c.if-not-are_apart.ensures.0 refl))
