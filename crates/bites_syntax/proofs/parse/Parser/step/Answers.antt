use Rattle.std.proofs.Common.{◌∙◌, ap, sym, inr, Some}
use Rattle.bites_spec.specs.RangesOf.{ranges_of}
use Rattle.bites_spec.specs.Reader.{inner}
use Rattle.bites_syntax.proofs.CursorLemmas.{peeked}
use Rattle.bites_syntax.proofs.ProgressLemmas.{closing_of, end_in_group, end_of_all, close_none, close_one, opening_under, opens_here, steps_at}
use Rattle.bites_syntax.proofs.parse.Parser.step.Goals as goal

pub returns-then-depth-gt0-clause-steps : goal.returns-then-depth-gt0-clause-steps
returns-then-depth-gt0-clause-steps c = λ limit parsed g bs ts is n.
    inr (end_in_group limit (inner ranges_of limit n) n g bs ts c.args.depth c.args.self.now.cursor c.in_default.ensures c.if-depth-gt0.true ∙ ap Some (sym c.fault.ensures))

pub returns-in_default-clause-steps : goal.returns-in_default-clause-steps
returns-in_default-clause-steps c = λ limit parsed g bs ts is n. record {
  branches = bs;
  nodes = ts;
  limit_is = is.limit_is;
  state = is.state;
  branches_are = is.branches_are;
  nodes_are = is.nodes_are;
  same = end_of_all limit (inner ranges_of limit n) n g bs ts c.args.depth c.args.self.now.cursor c.in_default.ensures c.if-depth-gt0.false;
}

pub returns-then-c-eq40-clause-steps : goal.returns-then-c-eq40-clause-steps
returns-then-c-eq40-clause-steps c = λ limit parsed g bs ts is n.
    let at = peeked _ c.bump.new.self c.in-Some.c c.in-Some.ensures c.bump.ensures.rest.reads in
    steps_at limit c.args.depth n g bs ts c.open.result c.open.new.self parsed _ _
    (opens_here limit (inner ranges_of limit n) n g bs ts c.args.depth c.args.self.now.cursor c.bump.new.self c.in-Some.c at c.if-c-eq40.true)
    (opening_under limit c.args.depth (record { alloc = c.args.self.now.alloc; limit = c.args.self.now.limit; cursor = c.bump.new.self; state = c.args.self.now.state }) c.open.result c.open.new.self is.limit_is c.open.ensures.steps.reads
    parsed g bs ts (record { limit_is = is.limit_is; state = is.state; branches_are = is.branches_are; nodes_are = is.nodes_are }) n)

pub returns-then-depth-eq0-clause-steps : goal.returns-then-depth-eq0-clause-steps
returns-then-depth-eq0-clause-steps c = λ limit parsed g bs ts is n.
    inr (close_none limit (inner ranges_of limit n) n g bs ts c.args.depth c.args.self.now.cursor _ c.in-Some.c c.in-Some.ensures
    (closing_of c.args.self.now.cursor _ c.in-Some.c c.in-Some.ensures c.requires c.if-c-eq40.false) c.if-depth-eq0.true ∙ ap Some (sym c.fault-then-depth-eq0.ensures))

pub returns-clause-steps : goal.returns-clause-steps
returns-clause-steps c = λ limit parsed g bs ts is n. record {
  branches = bs;
  nodes = ts;
  limit_is = is.limit_is;
  state = is.state;
  branches_are = is.branches_are;
  nodes_are = is.nodes_are;
  same = close_one limit (inner ranges_of limit n) n g bs ts c.args.depth c.args.self.now.cursor _ c.in-Some.c c.in-Some.ensures
      (closing_of c.args.self.now.cursor _ c.in-Some.c c.in-Some.ensures c.requires c.if-c-eq40.false) c.if-depth-eq0.false;
}
