use Rattle.bites_bytes.proofs.MatchLemmas.{next_finds}
use Rattle.bites_bytes.proofs.bytes.regex.Regex.find_next_with.Goals as goal

pub returns : goal.returns
returns c =
    let e = c.find_next.ensures in record { found = next_finds c.args.self.now e.compiled c.args.haystack.now c.args.last _ _ _ e.next; fits = e.fits; searches = e.searches }
