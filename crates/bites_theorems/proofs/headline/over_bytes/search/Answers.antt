use Rattle.std.proofs.Common.{false}
use Rattle.bites_bytes.specs.Matched.{excerpt_of}
use Rattle.bites_theorems.proofs.HeadlineLemmas.{search_headline}
use Rattle.bites_theorems.proofs.headline.over_bytes.search.Goals as goal

pub returns : goal.returns
returns c =
    search_headline c.args.regex.now c.as_str.ensures.compiled excerpt_of c.args.haystack.now false c.args.start c.captures_read_at_with.result _ _ _ _
    c.captures_read_at_with.ensures.read c.captures_read_at_with.ensures.searched c.captures_read_at_with.ensures.searches
