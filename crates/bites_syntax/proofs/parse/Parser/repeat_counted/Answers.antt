use Rattle.std.proofs.Common.{◌<◌, ◌∷◌, ◌≢◌, ◌∙◌, arith, sym, ap, subst, inr, length}
use Rattle.std.specs.Prelude.{vec_len}
use Rattle.std.proofs.lemmas.Bool.{eqb-false}
use Rattle.std.proofs.lemmas.Result.{err_from_is_err_and}
use Rattle.bites_spec.specs.Message as message
use Rattle.bites_spec.specs.RangesOf.{ranges_of}
use Rattle.bites_spec.specs.Reader.{inner, repeat_last}
use Rattle.bites_syntax.specs.FlagsView.{flags_of}
use Rattle.bites_syntax.specs.Nodes.{AreNodes}
use Rattle.bites_syntax.specs.Operators.{bounds_of}
use Rattle.bites_syntax.specs.Parts.{fault_in}
use Rattle.bites_syntax.proofs.ProgressLemmas.{some_of, operator_goes, operator_fault, counted_at}
use Rattle.bites_syntax.proofs.PartLemmas.{no_longer}
use Rattle.bites_syntax.proofs.parse.Parser.repeat_counted.Goals as goal

pub returns-in_err-bounds : goal.returns-in_err-bounds
returns-in_err-bounds c = no_longer (grind arith) λ g bs ts is depth n room.
    let p = err_from_is_err_and c.from_residual.result c.from_residual.ensures.1 in
    let some : vec_len c.args.branches.now.nodes ≢ 0 = eqb-false (vec_len c.args.branches.now.nodes) 0 (sym c.if-is_empty.ensures) in
    let filled : 0 < length c.args.branches.now.nodes.items = omega (arith, c.args.branches.now.nodes.ok.0) in
    let one = some_of c.args.self.now.limit c.args.branches.now.nodes.items ts filled is.nodes_are in
    let same = counted_at n (flags_of c.args.self.now.state.flags) g.flags c.args.self.now.cursor c.skip.new.self is.state.flags c.skip.ensures.reads in
    rw (p.1, p.2)
    (inr (operator_fault c.args.self.now.limit (inner ranges_of c.args.self.now.limit n) depth g bs ts one.more one.first message.nothing_to_count c.args.start.now _ _ one.are
    (ap fault_in same ∙ c.in_err-bounds.ensures.reads n (omega arith))))

pub returns : goal.returns
returns c = no_longer (grind arith) λ g bs ts is depth n room.
    let some : vec_len c.args.branches.now.nodes ≢ 0 = eqb-false (vec_len c.args.branches.now.nodes) 0 (sym c.if-is_empty.ensures) in
    let filled : 0 < length c.args.branches.now.nodes.items = omega (arith, c.args.branches.now.nodes.ok.0) in
    let one = some_of c.args.self.now.limit c.args.branches.now.nodes.items ts filled is.nodes_are in
    let are : AreNodes c.args.self.now.limit c.args.branches.now.nodes.items (one.first ∷ one.more) = subst (λ x. AreNodes c.args.self.now.limit c.args.branches.now.nodes.items x) one.are is.nodes_are in
    let same = counted_at n (flags_of c.args.self.now.state.flags) g.flags c.args.self.now.cursor c.skip.new.self is.state.flags c.skip.ensures.reads in
    record {
      g = g;
      branches = bs;
      nodes = repeat_last (bounds_of c.in_ok-bounds.bounds) one.first one.more;
      is_at = record {
        limit_is = is.limit_is;
        state = is.state;
        branches_are = rw c.in_ok-repeat.ensures.complete is.branches_are;
        nodes_are = c.in_ok-repeat.ensures.nodes one.first one.more are;
      };
      same = operator_goes c.args.self.now.limit (inner ranges_of c.args.self.now.limit n) depth g bs ts one.more one.first message.nothing_to_count c.args.start.now c.counted.new.cursor _ _ one.are
          (same ∙ c.in_ok-bounds.ensures.reads n (omega arith));
    }
