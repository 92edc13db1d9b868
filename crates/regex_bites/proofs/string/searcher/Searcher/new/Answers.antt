use Rattle.std.proofs.Common.{◌∙◌, None, ap, length, refl}
use Rattle.std.proofs.lemmas.List.{length-replicate}
use Rattle.regex_bites.proofs.string.searcher.Searcher.new.Goals as goal

pub invariant_of-result : goal.invariant_of-result
invariant_of-result c =
    (c.in_ok-cache.ensures, ap length c.in_ok-locations.ensures ∙ length-replicate c.args.regex.program.slots None)

pub returns : goal.returns
returns c = refl
