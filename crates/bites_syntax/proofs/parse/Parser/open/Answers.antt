use Rattle.std.proofs.Common.{◌∙◌, ap, subst, refl, arith}
use Rattle.bites_spec.specs.Group.{numbered, unnumbered}
use Rattle.bites_spec.specs.RangesOf.{ranges_of}
use Rattle.bites_spec.specs.Reader.{inner, and_then, at_opened}
use Rattle.bites_syntax.specs.declared.group.Opened.TheVariants.{Directive, Unnumbered, Numbered}
use Rattle.bites_syntax.specs.FlagsView.{flags_of}
use Rattle.bites_syntax.specs.Openings.{IsOpened}
use Rattle.bites_syntax.specs.Parts.{fault_in}
use Rattle.bites_syntax.proofs.ProgressLemmas.{directive_goes, group_enters, group_stops, enter_steps, opened_at}
use Rattle.bites_syntax.proofs.PartLemmas.{no_longer}
use Rattle.bites_syntax.proofs.parse.Parser.open.Goals as goal

pub returns-in-Directive-clause-steps : goal.returns-in-Directive-clause-steps
returns-in-Directive-clause-steps c = no_longer (grind arith) λ parsed g bs ts is n.
    let read = c.in_ok-open_group.ensures.reads g is.state in
    let read_as : IsOpened Directive c.open_group.new.state g read.0 = subst (λ o. IsOpened o c.open_group.new.state g read.0) c.in-Directive.is read.2 in
    let same = opened_at (flags_of c.args.self.now.state.flags) g c.args.self.now.cursor c.skip.new.self is.state.flags c.skip.ensures.reads in
    record {
      g = record g { flags = read_as.0 };
      branches = bs;
      nodes = ts;
      is_at = record { limit_is = is.limit_is; state = read_as.2; branches_are = is.branches_are; nodes_are = is.nodes_are };
      same = ap (λ a. and_then a (at_opened ranges_of c.args.self.now.limit (inner ranges_of c.args.self.now.limit n) c.args.depth g bs ts)) same
          ∙ directive_goes c.args.self.now.limit (inner ranges_of c.args.self.now.limit n) c.args.depth g bs ts c.skip.new.self c.open_group.new.cursor read.0 read_as.0 read.1 read_as.1;
    }

pub returns-in-Unnumbered-clause-steps : goal.returns-in-Unnumbered-clause-steps
returns-in-Unnumbered-clause-steps c = no_longer (grind arith) λ parsed g bs ts is n.
    let read = c.in_ok-open_group.ensures.reads g is.state in
    let read_as : IsOpened Unnumbered c.open_group.new.state g read.0 = subst (λ o. IsOpened o c.open_group.new.state g read.0) c.in-Unnumbered.is read.2 in
    let same = ap (λ a. and_then a (at_opened ranges_of c.args.self.now.limit (inner ranges_of c.args.self.now.limit n) c.args.depth g bs ts))
    (opened_at (flags_of c.args.self.now.state.flags) g c.args.self.now.cursor c.skip.new.self is.state.flags c.skip.ensures.reads) in
    enter_steps c.args.self.now.limit c.args.depth n (record { alloc = c.args.self.now.alloc; limit = c.args.self.now.limit; cursor = c.open_group.new.cursor; state = c.open_group.new.state }) parsed g bs ts _ c.enter.result _ c.enter.ensures.enters
    (λ room. record {
      opening = unnumbered;
      inside = read_as.0;
      limit_is = is.limit_is;
      state = read_as.2;
      outer = is.state.flags;
      numbered = refl;
      same = same ∙ group_enters c.args.self.now.limit (inner ranges_of c.args.self.now.limit n) c.args.depth g bs ts c.skip.new.self c.open_group.new.cursor read.0 unnumbered read_as.0 read.1 read_as.1 room;
    })
    (λ full. ap fault_in same ∙ group_stops c.args.self.now.limit (inner ranges_of c.args.self.now.limit n) c.args.depth g bs ts c.skip.new.self c.open_group.new.cursor read.0 unnumbered read_as.0 read.1 read_as.1 full)
    is.branches_are is.nodes_are

pub returns-in-Numbered-clause-steps : goal.returns-in-Numbered-clause-steps
returns-in-Numbered-clause-steps c = no_longer (grind arith) λ parsed g bs ts is n.
    let read = c.in_ok-open_group.ensures.reads g is.state in
    let read_as : IsOpened (Numbered c.in-Numbered.name) c.open_group.new.state g read.0 = subst (λ o. IsOpened o c.open_group.new.state g read.0) c.in-Numbered.is read.2 in
    let same = ap (λ a. and_then a (at_opened ranges_of c.args.self.now.limit (inner ranges_of c.args.self.now.limit n) c.args.depth g bs ts))
    (opened_at (flags_of c.args.self.now.state.flags) g c.args.self.now.cursor c.skip.new.self is.state.flags c.skip.ensures.reads) in
    enter_steps c.args.self.now.limit c.args.depth n (record { alloc = c.args.self.now.alloc; limit = c.args.self.now.limit; cursor = c.open_group.new.cursor; state = c.open_group.new.state }) parsed g bs ts _ c.enter-in-Numbered.result _ c.enter-in-Numbered.ensures.enters
    (λ room. record {
      opening = numbered read_as.0;
      inside = read_as.1;
      limit_is = is.limit_is;
      state = read_as.5;
      outer = is.state.flags;
      numbered = (read_as.0, refl, read_as.5.groups ∙ read_as.4, read_as.3);
      same = same ∙ group_enters c.args.self.now.limit (inner ranges_of c.args.self.now.limit n) c.args.depth g bs ts c.skip.new.self c.open_group.new.cursor read.0 (numbered read_as.0) read_as.1 read.1 read_as.2 room;
    })
    (λ full. ap fault_in same ∙ group_stops c.args.self.now.limit (inner ranges_of c.args.self.now.limit n) c.args.depth g bs ts c.skip.new.self c.open_group.new.cursor read.0 (numbered read_as.0) read_as.1 read.1 read_as.2 full)
    is.branches_are is.nodes_are
