use Rattle.std.proofs.Common.{◌∙◌}
use Rattle.bites_scan.proofs.ShortlistLemmas.{hash_there}
use Rattle.bites_scan.proofs.shortlist.Shortlist.at.Goals as goal

pub returns : goal.returns
returns c n k listed o =
    listed.by_hash c.hash.result c.hash.ensures.within (λ long. c.hash.ensures.same ∙ hash_there c.args.haystack.now c.args.at n (λ i. (c.type_inv.haystack i).fits) o long)
