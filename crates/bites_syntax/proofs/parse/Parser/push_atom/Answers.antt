use Rattle.std.proofs.Common.{◌≡◌, ◌∷◌, ◌++◌, [], ◌∙◌, arith, ap, sym, subst, length, Ok}
use Rattle.bites_spec.specs.Measure.{height}
use Rattle.bites_spec.specs.RangesOf.{ranges_of}
use Rattle.bites_spec.specs.Reader.{and_then, inner}
use Rattle.bites_syntax.specs.Atoms.{atom}
use Rattle.bites_syntax.specs.FlagsView.{flags_of}
use Rattle.bites_syntax.proofs.AtomLemmas.{IsLow, atom_low}
use Rattle.bites_syntax.proofs.NodeLemmas.{nodes_push}
use Rattle.bites_syntax.proofs.PartLemmas.{no_longer}
use Rattle.bites_syntax.proofs.parse.Parser.push_atom.Goals as goal

pub leaf-requires : goal.leaf-requires
leaf-requires c =
    let n = length c.args.self.now.cursor in
    let read = c.in_ok-tree.ensures.reads n (omega arith) in
    let low : height read.0 ≡ 0 = subst IsLow read.1 (atom_low n (flags_of c.args.self.now.state.flags) c.args.c c.args.self.now.cursor) in
    rw read.2 low

pub returns : goal.returns
returns c = no_longer (grind arith) λ limit g bs ts is depth n room.
    let read = c.in_ok-tree.ensures.reads n room in
    let reads : atom n g.flags c.args.c c.args.self.now.cursor ≡ Ok (read.0, c.atom.new.cursor) =
    subst (λ f. atom n f c.args.c c.args.self.now.cursor ≡ Ok (read.0, c.atom.new.cursor)) is.state.flags read.1 in
    record {
      g = g;
      branches = bs;
      nodes = ts ++ c.in_ok-tree.tree ∷ [];
      is_at = record {
        limit_is = is.limit_is;
        state = is.state;
        branches_are = is.branches_are;
        nodes_are = rw c.in_ok-push.ensures.items (nodes_push limit c.args.branches.now.nodes.items c.leaf.result ts c.in_ok-tree.tree is.nodes_are (c.leaf.ensures limit));
      };
      same = ap (λ a. and_then a (λ node rest. inner ranges_of limit n depth g bs (ts ++ node ∷ []) rest)) reads
          ∙ ap (λ t. inner ranges_of limit n depth g bs (ts ++ t ∷ []) c.atom.new.cursor) (sym read.2);
    }
