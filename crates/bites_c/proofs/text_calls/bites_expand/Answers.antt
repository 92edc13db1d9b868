use Rattle.bites_c.proofs.TextLemmas.{of_held}
use Rattle.bites_c.proofs.text_calls.bites_expand.Goals as goal

pub returns : goal.returns
returns c =
    of_held _ _ c.args.regex.now _ c.in-Some.held.value c.deref.result.now c.in-Some.ensures.taken c.of.ensures
    c.deref.ensures c.put_expanded-answer.ensures
