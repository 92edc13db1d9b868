use Rattle.bites_spec.proofs.escaped_texts_match_their_text.Goals as goal
use Rattle.bites_spec.proofs.EscapedMatches.{escaped_matches}

pub returns : goal.returns
returns c = escaped_matches
