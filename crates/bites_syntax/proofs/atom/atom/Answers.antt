use Rattle.std.proofs.Common.{◌∙◌, ap, arith}
use Rattle.bites_spec.specs.RangesOf.{ranges_of}
use Rattle.bites_spec.specs.Reader.{node_of}
use Rattle.bites_spec.specs.Tree.{class}
use Rattle.bites_spec.proofs.classes.ClassLemmas.{lists_are_ranges_of}
use Rattle.bites_syntax.specs.FlagsView.{flags_of}
use Rattle.bites_syntax.proofs.AtomLemmas.{atom_class, atom_escape}
use Rattle.bites_syntax.proofs.PartLemmas.{no_longer}
use Rattle.bites_syntax.proofs.atom.atom.Goals as goal

pub returns-in_ok-class-in-91 : goal.returns-in_ok-class-in-91
returns-in_ok-class-in-91 c = no_longer (grind arith) λ n room.
    let r = c.in_ok-class-in-91.ensures.reads n (omega arith) in (
      class (ranges_of r.0),
      atom_class n (flags_of c.args.flags) c.args.c c.args.cursor.now c.skip.new.self c.bracket.new.cursor r.0 c.in-91.is c.skip.ensures.reads r.1,
      c.class.ensures ∙ ap class (lists_are_ranges_of r.0 _ r.2),
    )

pub returns-in_ok-meaning-in-92 : goal.returns-in_ok-meaning-in-92
returns-in_ok-meaning-in-92 c = no_longer (grind arith) λ n room.
    let r = c.in_ok-meaning-in-92.ensures.reads n room in (
      node_of ranges_of 0 (flags_of c.args.flags) r.0,
      atom_escape n (flags_of c.args.flags) c.args.c c.args.cursor.now c.escape.new.cursor r.0 c.in-92.is r.1,
      c.escape_tree.ensures r.0 r.2,
    )
