use Rattle.bites_scan.proofs.MarkLemmas.{are_words}
use Rattle.bites_scan.proofs.form.words_of.Goals as goal

pub returns : goal.returns
returns g c = are_words (g.S.Stops.stops c.args.set.now) _ _ _ _ c.word.ensures c.word-2.ensures c.word-3.ensures c.word-4.ensures
