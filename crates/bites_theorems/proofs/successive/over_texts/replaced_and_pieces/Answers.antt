use Rattle.std.proofs.Common.{ap, sym, ◌∙◌}
use Rattle.std.specs.Prelude.{Ok}
use Rattle.std.specs.Cow.{cow_str_bytes}
use Rattle.std.proofs.lemmas.Iterator.Consumers.{YieldsList-from_first, map_from_collect}
use Rattle.bites_spec.specs.Pieces.{joined_by}
use Rattle.bites_spec.specs.Iteration.{captures_in, pieces_in}
use Rattle.regex_bites.specs.Split.{pieces_left, text_now}
use Rattle.regex_bites.specs.contracts.string.replacer.NoExpandReplacer.TheImpl.{replaces-value, answers-value}
use Rattle.bites_theorems.proofs.SuccessiveLemmas.{replaced_is_joined, text_served}
use Rattle.bites_theorems.proofs.successive.over_texts.replaced_and_pieces.Goals as goal

pub returns : goal.returns
returns c =
    let r = c.args.regex.now in let hay = c.args.haystack.now in let text = c.args.text.now in
    let h = c.in_ok-replaced.ensures.replaces in
    let asked = h.1.1 in
    let texts = text_served replaces-value.it answers-value.it asked.0 text asked.1 (captures_in r hay) h.1.0 h.0 asked.2.0 asked.3 in
    let pieces = map_from_collect {E = Unit {0}} (Ok c.in_ok-pieces.pieces) c.in_ok-pieces.ensures.ran
    (YieldsList-from_first text_now pieces_left (pieces_in r hay) c.in_ok-split.ensures) in
    replaced_is_joined r c.as_str.ensures.compiled hay text (cow_str_bytes c.in_ok-replaced.replaced) h.1.0 texts h.1.2
    ∙ ap (joined_by text) (sym pieces)
