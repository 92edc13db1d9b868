use Rattle.std.proofs.Common.{refl}
use Rattle.bites_c.specs.Put.{PutsMade, PutsNone}
use Rattle.bites_c.specs.Replaced.{expanded_by}
use Rattle.bites_c.proofs.TextLemmas.{wrong}
use Rattle.bites_c.proofs.replace.put_expanded.Goals as goal

pub returns-in-Some : goal.returns-in-Some
returns-in-Some c =
    let held = c.args.held.now in let hay = c.args.haystack.now in let groups = c.args.groups.now in let template = c.args.template.now in
    let out = c.args.out.now in
    wrong held.is_text hay groups template (λ number. PutsNone number c.refused.result out out)
    (PutsMade (expanded_by held.regex.names groups hay template) c.refused.result out out) c.in-Some.code
    c.in-Some.ensures.wrong (c.refused.ensures.0, c.refused.ensures.1, refl)
