use Rattle.regex_bites.proofs.BorderLemmas.{text_read_full}
use Rattle.regex_bites.proofs.string.regex.Regex.captures_read_full_with.Goals as goal

pub returns : goal.returns
returns c =
    text_read_full _ _ _ _ c.over_bytes.ensures.same c.as_bytes.ensures.value c.utf8.haystack c.over_bytes.ensures.compiled _ _ _ _ c.locations.view_is _ _ _
    c.cache.view_is c.captures_read_full_with.ensures
