use Rattle.std.proofs.Common.{map, sym, ap, ◌∙◌}
use Rattle.std.proofs.lemmas.List.{drop_all}
use Rattle.bites_syntax.specs.Members.{named_at}
use Rattle.bites_syntax.specs.View.{named_of}
use Rattle.bites_syntax.proofs.NamedParts.{named_elsewhere, named_from, named_here, named_nowhere, not_named_here}
use Rattle.bites_syntax.proofs.bracket.named_at.Goals as goal

pub returns-in-Some : goal.returns-in-Some
returns-in-Some c =
    sym c.names.invariant ∙ named_from named_of c.args.cursor.now c.args.names.now c.names.name-index _ c.names-test.true
    ∙ named_here c.args.cursor.now _ _ _ c.in-Some.ensures.0 c.in-Some.ensures.1

pub returns-in-Some-after_name : goal.returns-in-Some-after_name
returns-in-Some-after_name c =
    sym c.names.invariant ∙ named_from named_of c.args.cursor.now c.args.names.now c.names.name-index _ c.names-test.true
    ∙ not_named_here c.args.cursor.now _ _ _ c.in_default.ensures c.in-Some-after_name.ensures.0 c.in-Some-after_name.ensures.1

pub names-preserved : goal.names-preserved
names-preserved c =
    sym (named_from named_of c.args.cursor.now c.args.names.now c.names.name-index _ c.names-test.true
    ∙ named_elsewhere c.args.cursor.now _ _ c.in_default.ensures c.in_default-after_name.ensures) ∙ c.names.invariant

pub returns : goal.returns
returns c =
    sym c.names.invariant ∙ ap (λ xs. named_at c.args.cursor.now (map named_of xs)) (drop_all c.names.name-index c.args.names.now c.names-test.false)
    ∙ named_nowhere c.args.cursor.now
