-- Names that differ as characters differ as bytes.
use Rattle.std.proofs.lemmas.Grind.{common_steps}
use Rattle.std.proofs.Common.{◌≡◌, ℕ, ◌+◌, ◌-◌, ◌*◌, ◌<◌, ◌≤◌, List, [], ◌∷◌, ◌++◌, Option, Some, None, unwrap_or, refl, sym, ap, ap₂, ◌∙◌, arith, le-ltb, lt-ltb}
use Rattle.std.specs.Prelude.{nat_lt, encode_utf8_all, if◌then◌else◌}
use Rattle.std.proofs.lemmas.Option.{none-some}
use lib.Utf8.{encode}

-- a character and the bytes after it
abbrev Decoded : Type 0
Decoded = Option (ℕ × List ℕ)

abbrev after_four : ℕ → List ℕ → Decoded
after_four n [] = None
after_four n (b ∷ bytes) = Some (n * 64 + (b - 128), bytes)

abbrev after_three : ℕ → List ℕ → Decoded
after_three n [] = None
after_three n (b ∷ bytes) = after_four (n * 64 + (b - 128)) bytes

abbrev after_two : ℕ → List ℕ → Decoded
after_two n [] = None
after_two n (b ∷ bytes) = after_three (n * 64 + (b - 128)) bytes

-- the first character of the bytes, without checks
abbrev decoded : List ℕ → Decoded
decoded [] = None
decoded (b ∷ bytes) =
    if nat_lt b 128 then Some (b, bytes) else if nat_lt b 224 then after_four (b - 192) bytes
    else if nat_lt b 240 then after_three (b - 224) bytes else after_two (b - 240) bytes

of_one : (c : ℕ) (bytes : List ℕ) → c < 128 → decoded (encode c ++ bytes) ≡ Some (c, bytes)
unfolding encode
of_one c bytes low = rw (lt-ltb c 128 low, lt-ltb c 128 low) refl

of_two : (c : ℕ) (bytes : List ℕ) → 128 ≤ c → c < 2048 → decoded (encode c ++ bytes) ≡ Some (c, bytes)
unfolding encode
of_two c bytes low high = grind (arith, common_steps, le-ltb)

of_three : (c : ℕ) (bytes : List ℕ) → 2048 ≤ c → c < 65536 → decoded (encode c ++ bytes) ≡ Some (c, bytes)
unfolding encode
of_three c bytes low high = grind (arith, common_steps, le-ltb)

of_four : (c : ℕ) (bytes : List ℕ) → 65536 ≤ c → decoded (encode c ++ bytes) ≡ Some (c, bytes)
unfolding encode
of_four c bytes low = grind (arith, common_steps)

of_any : (c : ℕ) (bytes : List ℕ) → decoded (encode c ++ bytes) ≡ Some (c, bytes)
of_any c bytes = grind (arith, common_steps, of_one, of_two, of_three, of_four)

-- texts with the same bytes are equal
pub same_text : (a b : List ℕ) → encode_utf8_all a ≡ encode_utf8_all b → a ≡ b
same_text [] [] e = refl
same_text [] (d ∷ b) e = absurd (none-some _ (ap decoded e ∙ of_any d (encode_utf8_all b)))
same_text (c ∷ a) [] e = absurd (none-some _ (sym (sym (of_any c (encode_utf8_all a)) ∙ ap decoded e)))
same_text (c ∷ a) (d ∷ b) e =
    let same : Some (c, encode_utf8_all a) ≡ Some (d, encode_utf8_all b) = sym (of_any c (encode_utf8_all a)) ∙ ap decoded e ∙ of_any d (encode_utf8_all b) in
    let parts : (c, encode_utf8_all a) ≡ (d, encode_utf8_all b) = ap (λ o. unwrap_or o (0, [])) same in
    ap₂ ◌∷◌ (ap (λ p. p.0) parts) (same_text a b (ap (λ p. p.1) parts))
