use Rattle.std.proofs.Common.{◌≡◌, ℕ, ◌+◌, get_or, bit_or, ap, ◌∙◌, arith}
use Rattle.bites_scan.proofs.ShortlistLemmas.{letter_there}
use Rattle.bites_scan.proofs.trigrams.trigram.Goals as goal

pub returns-clause-there : goal.returns-clause-there
returns-clause-there c haystack from n are o =
    let bytes = c.args.bytes.now in
    let at = c.args.at in
    let second : from + (at + 1) ≡ from + at + 1 = omega arith in
    let third : from + (at + 2) ≡ from + at + 2 = omega arith in
    let letter = λ (i : ℕ). letter_there haystack from n bytes are o i in
    let a = letter at (omega arith) (c.type_inv.bytes at).fits in
    let b = letter (at + 1) (omega arith) (c.type_inv.bytes (at + 1)).fits ∙ ap (λ p. bit_or (get_or haystack p 0) 32) second in
    let d = letter (at + 2) (omega arith) (c.type_inv.bytes (at + 2)).fits ∙ ap (λ p. bit_or (get_or haystack p 0) 32) third in
    omega (arith, a, b, d, c.next.ensures.is, c.next-2.ensures.is, c.next-3.ensures.is)
