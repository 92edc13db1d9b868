use Rattle.std.proofs.Common.{false}
use Rattle.regex_bites.specs.Matched.{excerpt_of}
use Rattle.bites_theorems.proofs.HeadlineLemmas.{text_search_headline}
use Rattle.bites_theorems.proofs.headline.over_texts.search.Goals as goal

pub returns : goal.returns
returns c =
    text_search_headline c.args.regex.now c.as_str.ensures.compiled excerpt_of c.args.haystack.now false c.args.start c.captures_read_at_with.result _ _ _ _
    c.captures_read_at_with.ensures
