use Rattle.std.proofs.Common.{◌∙◌, ap}
use Rattle.bites_spec.specs.Grammar.{dot_set}
use Rattle.bites_spec.specs.Tree.{class}
use Rattle.bites_spec.proofs.classes.ClassLemmas.{lists_are_ranges_of}
use Rattle.bites_syntax.specs.FlagsView.{flags_of}
use Rattle.bites_syntax.proofs.atom.any.Goals as goal

pub returns : goal.returns
returns c = c.class.ensures ∙ ap class (lists_are_ranges_of (dot_set (flags_of c.args.flags)) _ c.dot.ensures)
