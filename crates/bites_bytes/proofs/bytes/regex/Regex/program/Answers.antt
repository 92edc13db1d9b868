use Rattle.std.proofs.Common.{ap, subst, ◌∙◌}
use Rattle.std.specs.Prelude.{is_some}
use Rattle.bites_spec.specs.Regex.{with_prefilter, with_table}
use Rattle.bites_bytes.specs.Parts.{HoldsProgram}
use Rattle.bites_bytes.proofs.SettingsLemmas.{program_with}
use Rattle.bites_bytes.proofs.bytes.regex.Regex.program.Goals as goal

pub returns : goal.returns
returns c =
    let f = c.self.inside.prefilter in let b = is_some c.self.inside.table in
    subst (λ r. HoldsProgram r c.program.result.now) (ap (λ r. with_prefilter f (with_table b r)) c.deref.ensures ∙ c.self.view_is)
    (program_with f b c.deref.result.now c.program.result.now c.program.ensures)
