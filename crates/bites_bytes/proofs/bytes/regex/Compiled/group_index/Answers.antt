use Rattle.std.proofs.Common.{◌∙◌, ap}
use Rattle.bites_spec.specs.Expansion.{index_in}
use Rattle.bites_spec.proofs.templates.ExpansionLemmas.{index_is}
use Rattle.bites_bytes.proofs.bytes.regex.Compiled.group_index.Goals as goal

pub returns : goal.returns
returns c =
    index_is c.self.inside.program.names c.args.name.now c.index_of.result c.index_of.ensures.found c.index_of.ensures.first c.index_of.ensures.absent
    ∙ ap (λ r. index_in r.names c.args.name.now) c.self.view_is
