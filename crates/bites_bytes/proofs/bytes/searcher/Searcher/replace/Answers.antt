use Rattle.bites_bytes.proofs.bytes.searcher.Searcher.replace.Goals as goal

pub returns : goal.returns
returns g c = c.replacen.ensures
