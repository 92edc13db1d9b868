use Rattle.std.proofs.Common.{chars, sym, ap, ◌∙◌, if◌then◌else◌}
use Rattle.bites_machine.specs.declared.vm.MatchKind.TheVariants.{First, Longest}
use Rattle.bites_syntax.specs.FlagsView.{flags_of}
use Rattle.clients.proofs.explain.subject.Subject.read.Goals as goal

pub returns : goal.returns
returns c =
    let options = c.args.options.now in let reading = c.in_ok-tree.ensures.read.reading in
    record {
      reads = reading;
      built = c.in_ok-program.ensures.built;
      tree = c.patterns_have_one_tree.ensures (chars options.pattern.now) (flags_of options.flags) _ _ c.in_ok-regex_of.ensures.tree.read.reading reading;
      kind = c.kind_of.ensures ∙ ap (λ b. if b then Longest else First) (sym c.in_ok-regex_of.ensures.longest);
    }
