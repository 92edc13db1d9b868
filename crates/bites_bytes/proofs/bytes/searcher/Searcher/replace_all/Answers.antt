use Rattle.bites_bytes.proofs.bytes.searcher.Searcher.replace_all.Goals as goal

pub returns : goal.returns
returns g c = c.replacen.ensures
