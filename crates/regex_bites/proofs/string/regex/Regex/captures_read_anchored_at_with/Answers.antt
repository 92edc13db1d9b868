use Rattle.std.proofs.Common.{true}
use Rattle.bites_bytes.specs.Matched.{excerpt_of}
use Rattle.regex_bites.specs.Matched as text
use Rattle.regex_bites.proofs.BorderLemmas.{part_found, text_read}
use Rattle.regex_bites.proofs.string.regex.Regex.captures_read_anchored_at_with.Goals as goal

pub of_found-requires : goal.of_found-requires
of_found-requires c =
    let call = c.captures_read_anchored_at_with-found in
    part_found _ _ _ _ c.over_bytes.ensures.same c.as_bytes.ensures.value c.utf8.haystack c.over_bytes.ensures.compiled true c.args.start c.requires.border
    excerpt_of call.result call.ensures.read.found

pub returns : goal.returns
returns c =
    let call = c.captures_read_anchored_at_with-found in
    text_read _ _ _ _ c.over_bytes.ensures.same c.as_bytes.ensures.value c.utf8.haystack c.over_bytes.ensures.compiled true c.args.start c.requires.border
    excerpt_of text.excerpt_of call.result c.of_found.result c.of_found.ensures _ _ _ c.locations.view_is _ _ _ c.cache.view_is call.ensures
