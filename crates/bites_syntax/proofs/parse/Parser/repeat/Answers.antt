use Rattle.std.proofs.Common.{◌≡◌, ◌<◌, ◌∷◌, ◌≢◌, arith, sym, subst, Ok, length}
use Rattle.std.specs.Prelude.{vec_len}
use Rattle.std.proofs.lemmas.Bool.{eqb-false}
use Rattle.bites_spec.specs.Message as message
use Rattle.bites_spec.specs.RangesOf.{ranges_of}
use Rattle.bites_spec.specs.Reader.{inner, lazy, plain_operator, repeat_last}
use Rattle.bites_syntax.specs.Nodes.{AreNodes}
use Rattle.bites_syntax.specs.Operators.{bounds_of}
use Rattle.bites_syntax.proofs.ProgressLemmas.{some_of, operator_goes}
use Rattle.bites_syntax.proofs.PartLemmas.{no_longer}
use Rattle.bites_syntax.proofs.parse.Parser.repeat.Goals as goal

pub returns : goal.returns
returns c = no_longer (grind arith) λ g bs ts is depth n.
    let some : vec_len c.args.branches.now.nodes ≢ 0 = eqb-false (vec_len c.args.branches.now.nodes) 0 (sym c.if-is_empty.ensures) in
    let filled : 0 < length c.args.branches.now.nodes.items = omega (arith, c.args.branches.now.nodes.ok.0) in
    let one = some_of c.args.self.now.limit c.args.branches.now.nodes.items ts filled is.nodes_are in
    let are : AreNodes c.args.self.now.limit c.args.branches.now.nodes.items (one.first ∷ one.more) = subst (λ x. AreNodes c.args.self.now.limit c.args.branches.now.nodes.items x) one.are is.nodes_are in
    let reads : plain_operator g.flags c.args.min c.args.max (lazy c.args.self.now.cursor) ≡ Ok (bounds_of c.plain_operator-bounds.result, c.plain_operator-bounds.new.cursor) =
    subst (λ f. plain_operator f c.args.min c.args.max (lazy c.args.self.now.cursor) ≡ Ok (bounds_of c.plain_operator-bounds.result, c.plain_operator-bounds.new.cursor))
    is.state.flags c.plain_operator-bounds.ensures.reads in
    record {
      g = g;
      branches = bs;
      nodes = repeat_last (bounds_of c.plain_operator-bounds.result) one.first one.more;
      is_at = record {
        limit_is = is.limit_is;
        state = is.state;
        branches_are = rw c.in_ok-repeat.ensures.complete is.branches_are;
        nodes_are = c.in_ok-repeat.ensures.nodes one.first one.more are;
      };
      same = operator_goes c.args.self.now.limit (inner ranges_of c.args.self.now.limit n) depth g bs ts one.more one.first message.nothing_to_repeat c.args.start.now c.plain_operator-bounds.new.cursor _ _ one.are reads;
    }
