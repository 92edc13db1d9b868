use Rattle.std.proofs.Common.{◌≡◌, ◌∙◌, sym, ap, subst, refl, arith, suc, length, [], Ok}
use Rattle.std.specs.Prelude.{chars}
use Rattle.bites_spec.specs.Grammar.{at_front}
use Rattle.bites_spec.specs.RangesOf.{ranges_of}
use Rattle.bites_spec.specs.Reader.{inner}
use Rattle.bites_spec.specs.Measure.{opened_by}
use Rattle.bites_spec.specs.Tree.{alternation_of}
use Rattle.bites_spec.proofs.classes.ClassLemmas.{ranges_of_list}
use Rattle.bites_spec.proofs.grammar.WholeLaws.{behind_found}
use Rattle.bites_syntax.specs.declared.node.Node.TheVariants.{Kept}
use Rattle.bites_syntax.specs.FlagsView.{flags_of}
use Rattle.bites_syntax.specs.Nodes.{IsNodeOf}
use Rattle.bites_syntax.proofs.ReachedLemmas.{read_is}
use Rattle.bites_syntax.proofs.parse.read_pattern.Goals as goal

pub returns-in-Kept-clause-reads : goal.returns-in-Kept-clause-reads
returns-in-Kept-clause-reads c =
    let text = chars c.args.pattern.now in
    let reads = c.in_ok-tree.ensures.reads c.args.nest_limit refl (at_front (flags_of c.args.flags)) (record { flags = refl; groups = refl; names = c.new.ensures; opened = c.new-2.ensures }) (length text)
    (omega (arith, ap length c.new-cursor.ensures)) in
    let stands : IsNodeOf c.args.nest_limit (Kept c.in-Kept.tree c.in-Kept.height) (alternation_of reads.found.branches) =
    subst (λ x. IsNodeOf c.args.nest_limit x (alternation_of reads.found.branches)) c.in-Kept.is reads.node_is in
    let same : inner ranges_of c.args.nest_limit (suc (length text)) 0 (at_front (flags_of c.args.flags)) [] [] text ≡ Ok reads.found =
    ap (inner ranges_of c.args.nest_limit (suc (length text)) 0 (at_front (flags_of c.args.flags)) [] []) (sym c.new-cursor.ensures) ∙ reads.same in
    (read_is c.args.nest_limit text (flags_of c.args.flags) reads.found same ∙ ap Ok (sym stands.0), rw stands.0 stands.2, rw stands.0 stands.3)

pub returns-in-Kept-clause-groups : goal.returns-in-Kept-clause-groups
returns-in-Kept-clause-groups c = λ t reading.
    let text = chars c.args.pattern.now in
    let reads = c.in_ok-tree.ensures.reads c.args.nest_limit refl (at_front (flags_of c.args.flags)) (record { flags = refl; groups = refl; names = c.new.ensures; opened = c.new-2.ensures }) (length text)
    (omega (arith, ap length c.new-cursor.ensures)) in
    let same : inner ranges_of c.args.nest_limit (suc (length text)) 0 (at_front (flags_of c.args.flags)) [] [] text ≡ Ok reads.found =
    ap (inner ranges_of c.args.nest_limit (suc (length text)) 0 (at_front (flags_of c.args.flags)) [] []) (sym c.new-cursor.ensures) ∙ reads.same in
    reads.state.opened ∙ sym (ap opened_by (behind_found ranges_of ranges_of_list c.args.nest_limit reading reads.found same))
