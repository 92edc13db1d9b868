use Rattle.std.proofs.Common.{refl, inl, inr}
use Rattle.bites_bytes.proofs.ReplacedLemmas.{on_err, if_refused}
use Rattle.regex_bites.proofs.string.replace.ReplacedText.by.Goals as goal

pub returns-in_err-keep_up_to-clause-stops : goal.returns-in_err-keep_up_to-clause-stops
returns-in_err-keep_up_to-clause-stops g c = on_err c.from_residual.result _ (λ rest. inl refl)

pub returns-clause-stops : goal.returns-clause-stops
returns-clause-stops g c =
    if_refused c.replace_append.result _ _ c.replace_append.ensures.refused
    (λ a rest. inr (c.args.captures.now, rest, refl, a.0, a.1))
