-- Hexadecimal numbers.
use Rattle.std.proofs.Common.{◌≡◌, ◌≤◌, ◌<◌, ◌+◌, ◌*◌, ◌⊎◌, ℕ, zero, suc, min, Bool, ◌&&◌, true, false, [], ◌∷◌, length, ap, sym, ◌∙◌, refl, arith, inl, inr, ⊎_elim, Option, Some, None, Result, Ok, Err}
use Rattle.std.specs.Prelude.{nat_le, MatchOption}
use Rattle.std.specs.Option.{ok_or}
use Rattle.std.specs.Char.{digit_value}
use Rattle.std.proofs.lemmas.Bool.{cases_lt, le-ltb, lt-leb, false≢true}
use Rattle.bites_spec.specs.Class.{is_scalar}
use Rattle.bites_spec.specs.Escape.{is_hex_digit}
use Rattle.bites_spec.specs.Message as message
use Rattle.bites_spec.specs.Message.{Message}
use Rattle.bites_spec.specs.Pattern.{Text, Flags, next_is, number, left_brace, right_brace, skip}
use Rattle.bites_spec.specs.Reader.{ReadResult, and_then, answer, stop, exactly, between_digits, hexadecimal, in_braces, scalar}
use Rattle.bites_spec.proofs.characters.EachLemmas.{skip_shorter}
use Rattle.bites_text.specs.Messages.{error_of}
use Rattle.bites_syntax.specs.declared.refusal.Refusal.{Refusal}
use Rattle.bites_text.specs.declared.error.Error.TheVariants.{FixedHexUnfinished, FixedHexDigit}
use Rattle.bites_syntax.specs.Hexadecimal.{fixed_number}
use Rattle.bites_syntax.specs.Numbers.{AgreeBelow}
use Rattle.bites_syntax.specs.Operators.{Answers}
use Rattle.bites_syntax.specs.Parts.{fault_at, fault_in}
use Rattle.bites_syntax.specs.Steps.{each_of}
use Rattle.bites_syntax.proofs.CursorLemmas.{each_by, each_more, each_ends}
use Rattle.bites_syntax.proofs.NumberLemmas.{number_from, AgreeBelow_digits}

-- the number after a part of the digits
by_digit : (v c : ℕ) (a : ReadResult Text) →
    and_then (and_then a (λ digits rest. answer (c ∷ digits) rest)) (λ digits rest. answer (number_from 16 v digits) rest)
    ≡ and_then a (λ digits rest. answer (number_from 16 (v * 16 + digit_value c) digits) rest)
by_digit v c (Ok x) = refl
by_digit v c (Err s) = refl

-- one digit more
pub fixed_more : (v k : ℕ) (flags : Flags) (t u w : Text) (c : ℕ) → t ≡ c ∷ u → is_hex_digit c ≡ true → w ≡ between_digits k flags u →
    fixed_number v (suc k) flags t ≡ fixed_number (v * 16 + digit_value c) k flags w
fixed_more v k flags t u w c at is behind = rw (at, is, behind) (by_digit v c (exactly k flags (between_digits k flags u)))

-- the gap between two digits
pub between_some : (k : ℕ) (flags : Flags) (u w : Text) → 0 < k → w ≡ skip flags u → w ≡ between_digits k flags u
between_some zero flags u w some at = absurd (omega (arith, some))
between_some (suc k) flags u w some at = at

pub between_none : (k : ℕ) (flags : Flags) (u w : Text) → k ≤ 0 → w ≡ u → w ≡ between_digits k flags u
between_none zero flags u w none at = at
between_none (suc k) flags u w none at = absurd (omega (arith, none))

AgreeBelow_capped : (bound v m n : ℕ) → v ≡ min bound m → AgreeBelow bound m n → AgreeBelow bound v n
AgreeBelow_capped bound v m n is (inl e) =
    ⊎_elim (λ h. inl (omega (arith, h, e, is))) (λ h. inr (omega (arith, h, is), omega (arith, h, e))) (cases_lt m bound)
AgreeBelow_capped bound v m n is (inr h) = inr (omega (arith, h.0, is), h.1)

-- a step of the loop that reads the digits
pub fixed_step : (n left v new k d : ℕ) (flags : Flags) (t u w : Text) (c : ℕ) (whole : ReadResult ℕ) → left ≡ suc k → t ≡ c ∷ u → is_hex_digit c ≡ true →
    d ≡ digit_value c → w ≡ between_digits k flags u → new ≡ min 4294967296 (v * 16 + d) → fixed_number n left flags t ≡ whole →
    AgreeBelow 4294967296 v n → (m : ℕ) × (fixed_number m k flags w ≡ whole) × AgreeBelow 4294967296 new m
fixed_step n left v new k d flags t u w c whole more at is value behind capped so_far agree =
    let begun : fixed_number n (suc k) flags t ≡ whole = rw (← more) so_far in (
      n * 16 + digit_value c,
      sym (fixed_more n k flags t u w c at is behind) ∙ begun,
      AgreeBelow_capped 4294967296 new (v * 16 + digit_value c) _ (rw (← value) capped)
          (AgreeBelow_digits 4294967296 16 (omega arith) (c ∷ []) v n agree),
    )

-- another character, or the end, stops the digits
pub fixed_fault : (n left k : ℕ) (flags : Flags) (t u : Text) (e : Refusal) (whole : ReadResult ℕ) → left ≡ suc k →
    ((t ≡ []) × (e ≡ fault_at FixedHexUnfinished t)) ⊎ ((c : ℕ) × (t ≡ c ∷ u) × (is_hex_digit c ≡ false) × (e ≡ fault_at FixedHexDigit t)) →
    fixed_number n left flags t ≡ whole → fault_in whole ≡ Some e
fixed_fault n left k flags t u e whole more (inl h) so_far = rw (← so_far) (rw (more, h.1, h.0) refl)
fixed_fault n left k flags t u e whole more (inr h) so_far = rw (← so_far) (rw (more, h.3, h.1) (rw h.2 refl))

-- no number is read in braces that are empty
pub braces_empty : (flags : Flags) (t rest : Text) → next_is is_hex_digit t ≡ false → (each_of flags is_hex_digit t).1 ≡ right_brace ∷ rest →
    in_braces (each_of flags is_hex_digit t).0 (each_of flags is_hex_digit t).1 ≡ stop message.brace_hex_empty (right_brace ∷ rest)
braces_empty flags t rest none at =
    rw at (rw (each_ends flags is_hex_digit t none) refl)

-- the number in other braces
pub braces_closed : (flags : Flags) (t rest : Text) → next_is is_hex_digit t ≡ true → (each_of flags is_hex_digit t).1 ≡ right_brace ∷ rest →
    in_braces (each_of flags is_hex_digit t).0 (each_of flags is_hex_digit t).1 ≡ scalar message.brace_hex_invalid (each_of flags is_hex_digit t).0 rest
braces_closed flags [] rest some at = absurd (false≢true some)
braces_closed flags (c ∷ t) rest some at = rw at (rw (each_more flags is_hex_digit (c ∷ t) t c refl some) refl)

above_scalars : (n : ℕ) → 4294967296 ≤ n → is_scalar n ≡ false
above_scalars n above =
    rw (le-ltb n 0xD800 (omega (arith, above)), lt-leb n 0x10_FFFF (omega (arith, above))) (and_false (nat_le 0xE000 n))
  where
    and_false : (a : Bool) → (a && false) ≡ false
    and_false true = refl
    and_false false = refl

is_scalar_agrees : (v n : ℕ) → AgreeBelow 4294967296 v n → is_scalar v ≡ is_scalar n
is_scalar_agrees v n (inl e) = ap is_scalar e
is_scalar_agrees v n (inr h) = above_scalars v h.0 ∙ sym (above_scalars n h.1)

-- the character of a number that agrees with the digits, or the error
pub scalar_answers : (m : Message) (e : Refusal) (digits rest : Text) (v : ℕ) (found : Option ℕ) (r : Result ℕ Refusal) →
    AgreeBelow 4294967296 v (number 16 digits) → MatchOption found (is_scalar v ≡ false) (λ c. (is_scalar v ≡ true) × (c ≡ v)) → r ≡ ok_or found e →
    fault_at (error_of m) rest ≡ e → Answers (λ c. c) r rest (scalar m digits rest)
scalar_answers m e digits rest v None r agree is made names =
    rw (made, ← names) (rw (sym (is_scalar_agrees v (number 16 digits) agree) ∙ is) refl)
scalar_answers m e digits rest v (Some c) r (inl same) is made names =
    rw made (rw (← same) (rw is.0 (ap (λ x. Ok (x, rest)) (sym is.1))))
scalar_answers m e digits rest v (Some c) r (inr h) is made names = absurd (false≢true (sym (above_scalars v h.0) ∙ is.0))

-- a number in braces, read with any number of steps
pub hexadecimal_braced : (n k : ℕ) (flags : Flags) (t u w : Text) (c : ℕ) → length t ≤ n → t ≡ c ∷ u → c ≡ left_brace → w ≡ skip flags u →
    hexadecimal n flags k t ≡ in_braces (each_of flags is_hex_digit w).0 (each_of flags is_hex_digit w).1
hexadecimal_braced n k flags t u w c room at brace gap =
    let enough : length (skip flags u) ≤ n = omega (arith, room, ap length at, skip_shorter flags u) in
    rw (at, brace, gap) (ap (λ r. in_braces r.0 r.1) (each_by n flags is_hex_digit (skip flags u) enough))
