use Rattle.clients.proofs.PageTextLemmas.{stays}
use Rattle.clients.proofs.explain.text.texts_stay_in_place.Goals as goal

pub returns : goal.returns
returns c = stays
