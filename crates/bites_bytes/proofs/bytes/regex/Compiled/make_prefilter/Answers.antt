use Rattle.std.proofs.Common.{IfSome, subst, ap, ◌∙◌}
use Rattle.std.specs.Prelude.{chars}
use Rattle.bites_spec.specs.Measure.{Limits}
use Rattle.bites_spec.specs.Regex.{Regex}
use Rattle.bites_syntax.specs.FlagsView.{flags_of}
use Rattle.bites_bytes.specs.FixedGroups.{IsPrefilterWithSlots}
use Rattle.bites_bytes.specs.Parts.{regex_of}
use Rattle.bites_bytes.proofs.SettingsLemmas.{its_tree}
use Rattle.bites_bytes.proofs.bytes.regex.Compiled.make_prefilter.Goals as goal

pub returns : goal.returns
returns c =
    let x = c.self.inside in
    let r = regex_of (flags_of x.flags) x.tree.value x.keep_dropped_groups.value x.leftmost_longest x.program in
    let read = subst (λ p. Limits (chars p) (flags_of x.flags) 50 c.in-Ok.tree) c.pattern.ensures c.in-Ok.ensures.read in
    let same = its_tree r c.self.invariant.0 50 c.in-Ok.tree read ∙ ap (λ (s : Regex). s.tree) c.self.view_is in
    subst (λ t. IfSome c.prefilter_of.result (λ known. IsPrefilterWithSlots t c.args.self.now.program.slots known.value)) same
    (subst (λ n. IfSome c.prefilter_of.result (λ known. IsPrefilterWithSlots c.in-Ok.tree n known.value)) (c.slots.ensures ∙ ap (λ (s : Regex). s.program.slots) c.self.view_is) c.prefilter_of.ensures)
