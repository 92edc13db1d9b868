use Rattle.std.proofs.Common.{refl, sym}
use Rattle.bites_spec.specs.Escape.{characters}
use Rattle.bites_syntax.specs.Ranges.{constant_set}
use Rattle.bites_syntax.proofs.EscapeParts.{meaning_class}
use Rattle.bites_syntax.proofs.escape.meaning_alone.Goals as goal

pub returns-in-Some-perl_class : goal.returns-in-Some-perl_class
returns-in-Some-perl_class c =
    let set = constant_set c.in-Some-perl_class.set in
    (characters set, meaning_class c.args.c set (sym c.in_default.ensures) (sym c.in_default-assertion.ensures) (sym c.in-Some-perl_class.ensures), refl)
