use Rattle.std.proofs.Common.{◌∙◌, subst}
use Rattle.bites_syntax.specs.FlagsView.{flags_of}
use Rattle.bites_syntax.specs.Meanings.{IsMeaning}
use Rattle.bites_syntax.specs.Ranges.{constant_set}
use Rattle.bites_syntax.proofs.AtomLemmas.{class_meant}
use Rattle.bites_syntax.proofs.atom.escape_tree.Goals as goal

pub returns-in-Characters : goal.returns-in-Characters
returns-in-Characters c = λ m is.
    let set = constant_set c.in-Characters.set in
    c.class.ensures ∙ class_meant (flags_of c.args.flags) m c.constant.result (set, subst (λ x. IsMeaning x m) c.in-Characters.is is, c.constant.ensures)
