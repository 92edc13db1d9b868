use Rattle.std.proofs.Common.{true}
use Rattle.regex_bites.specs.Matched.{excerpt_of}
use Rattle.bites_theorems.proofs.HeadlineLemmas.{text_search_headline}
use Rattle.bites_theorems.proofs.calls.over_texts.search_anchored.Goals as goal

pub returns : goal.returns
returns c =
    text_search_headline c.args.regex.now c.as_str.ensures.compiled excerpt_of c.args.haystack.now true c.args.start c.captures_read_anchored_at_with.result _ _ _ _
    c.captures_read_anchored_at_with.ensures
