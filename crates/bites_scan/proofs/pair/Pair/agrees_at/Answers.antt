use Rattle.bites_scan.proofs.LiteralLemmas.{byte_at}
use Rattle.bites_scan.proofs.pair.Pair.agrees_at.Goals as goal

pub returns : goal.returns
returns g c o =
    let pair = c.args.self.now in
    c.agree.ensures (byte_at g.F.Folding.fold c.args.haystack.now pair.needle.now c.args.at pair.first o pair.first_within)
