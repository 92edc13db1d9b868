use Rattle.bites_spec.proofs.Laws as laws
use Rattle.regex_bites.specs.Matched.{excerpt_of}
use Rattle.bites_theorems.proofs.AnswerLemmas.{text_answers}
use Rattle.bites_theorems.proofs.calls.over_texts.anchored_searches.Goals as goal

pub returns : goal.returns
returns c =
    text_answers c.args.regex.now c.args.haystack.now c.args.start _ (laws.searches_have_starts c.args.haystack.now c.args.start).1 excerpt_of c.as_str.ensures.compiled _
    c.is_match_anchored_at.ensures c.find_anchored_at.ensures c.captures_anchored_at.ensures c.static_captures_len.ensures c.utf8.haystack c.requires
