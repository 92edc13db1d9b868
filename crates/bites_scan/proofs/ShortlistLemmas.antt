-- Literals listed under the hash of their first three bytes.
use Rattle.std.proofs.Common.{◌≡◌, ℕ, ◌+◌, ◌*◌, ◌%◌, ◌<◌, ◌≤◌, leb, Bool, true, false, List, length, get_or, bit_or, refl, sym, ap, ap₂, ◌∙◌, arith, inl, inr, leb-true}
use Rattle.std.proofs.lemmas.Bool.{agree_below_at, cases_lt}
use Rattle.std.proofs.lemmas.Str.Ascii.{lowercase_is}
use Rattle.std.specs.Char.{to_ascii_lowercase}
use Rattle.bites_scan.specs.Literal.{Needle, folding, NeedleOccursAt}
use Rattle.bites_scan.specs.Shortlist.{hash_at}
use Rattle.bites_scan.proofs.LiteralLemmas.{fold_bit, byte_at}

lowercase_byte : (x : ℕ) → x < 256 → to_ascii_lowercase x < 256
lowercase_byte x h = let small : to_ascii_lowercase x ≤ 255 = leb-true _ _ (agree_below_at (λ x. leb (to_ascii_lowercase x) 255) (λ _. true) 256 x refl h) in omega arith

-- a number that folds to what a byte folds to is a byte
byte_by_fold : (c : Bool) (x y : ℕ) → x < 256 → folding c x ≡ folding c y → y < 256
byte_by_fold true x y h e =
    elim (cases_lt y 256) [
      | inl l ↦ l
      | inr g ↦ absurd (omega (arith, lowercase_byte x h, (lowercase_is y).2, e))
    ]
byte_by_fold false x y h e = omega arith

-- bytes that fold to one have the same hash
pub alike : (c : Bool) (x y : ℕ) → x < 256 → folding c x ≡ folding c y → bit_or x 32 ≡ bit_or y 32
alike true x y h e = fold_bit x h ∙ ap (λ z. bit_or z 32) e ∙ sym (fold_bit y (byte_by_fold true x y h e))
alike false x y h e = ap (λ z. bit_or z 32) e

-- a byte of the literal, in whichever case, where the literal occurs
pub letter_there : (haystack : List ℕ) (from : ℕ) (n : Needle) (bytes : List ℕ) → n.bytes ≡ bytes → NeedleOccursAt haystack from n →
    (i : ℕ) → i < length bytes → get_or bytes i 0 < 256 → bit_or (get_or bytes i 0) 32 ≡ bit_or (get_or haystack (from + i) 0) 32
letter_there haystack from n bytes are o i lt small =
    alike n.caseless (get_or bytes i 0) (get_or haystack (from + i) 0) small
    (ap (λ (l : List ℕ). folding n.caseless (get_or l i 0)) (sym are) ∙ sym (byte_at (folding n.caseless) haystack n.bytes from i o (omega (arith, ap length are, lt))))

-- the hash at an offset of a literal is that of its first three bytes
pub hash_there : (haystack : List ℕ) (at : ℕ) (n : Needle) → ((k : ℕ) → get_or haystack k 0 < 256) → NeedleOccursAt haystack at n → 3 ≤ length n.bytes → hash_at haystack at ≡ hash_at n.bytes 0
hash_there haystack at n bytes o long =
    let fold = folding n.caseless in
    let start : at + 0 ≡ at = omega arith in
    let a = alike n.caseless (get_or haystack at 0) (get_or n.bytes 0 0) (bytes at) (ap (λ i. fold (get_or haystack i 0)) (sym start) ∙ byte_at fold haystack n.bytes at 0 o (omega arith)) in
    let b = alike n.caseless (get_or haystack (at + 1) 0) (get_or n.bytes 1 0) (bytes (at + 1)) (byte_at fold haystack n.bytes at 1 o (omega arith)) in
    let c = alike n.caseless (get_or haystack (at + 2) 0) (get_or n.bytes 2 0) (bytes (at + 2)) (byte_at fold haystack n.bytes at 2 o (omega arith)) in
    ap₂ (λ s z. (s + 25 * z) % 256) (ap₂ (λ x y. x + 5 * y) a b) c
