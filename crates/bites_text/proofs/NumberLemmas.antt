-- The errors in the order of their numbers.
use Rattle.std.proofs.Common.{◌≡◌, ℕ, ◌+◌, ◌<◌, List, map, length, get_or, sym, ap, ◌∙◌, subst}
use Rattle.std.proofs.lemmas.List.{get_or-map, length-map}
use Rattle.std.proofs.lemmas.List.FromFn.{get_or-range_with_len, length-range_with_len}
use Rattle.std.specs.List.{range_with_len}
use Rattle.bites_text.specs.declared.error.Error.{Error}
use Rattle.bites_text.specs.Texts.{code_of}

pub number_at : (es : List Error) (d : Error) (n : ℕ) → map code_of es ≡ range_with_len 1 58 → n < 58 → code_of (get_or es n d) ≡ 1 + n
number_at es d n are within =
    let long : n < length es = subst (λ k. n < k) (sym (length-range_with_len 1 58) ∙ (ap length (sym are) ∙ length-map es code_of)) within in
    sym (get_or-map code_of es n d 0 long) ∙ (ap (λ cs. get_or cs n 0) are ∙ get_or-range_with_len 1 58 n 0 within)
