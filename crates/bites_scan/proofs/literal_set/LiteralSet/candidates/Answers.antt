use Rattle.bites_scan.proofs.SetLemmas.{candidates_of}
use Rattle.bites_scan.proofs.literal_set.LiteralSet.candidates.Goals as goal

pub returns : goal.returns
returns c =
    let set = c.self.inside in
    candidates_of c.args.self.now c.args.haystack.now set.literals.items c.self.view_is set.fingerprints set.shortlist set.known c.args.at _ c.at.ensures
