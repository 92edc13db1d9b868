-- Hexadecimal numbers with a fixed number of digits.
use Rattle.std.specs.Prelude.{◌≡◌, ℕ, ◌+◌, ◌*◌, ◌<◌, ◌⊎◌, true, false, [], ◌∷◌, fold, Result, Ok, Some, MatchResult}
use Rattle.std.specs.Char.{digit_value}
use Rattle.bites_spec.specs.Escape.{is_hex_digit}
use Rattle.bites_spec.specs.Pattern.{Text, Flags}
use Rattle.bites_spec.specs.Reader.{ReadResult, and_then, answer, exactly}
use Rattle.bites_syntax.specs.declared.refusal.Refusal.{Refusal}
use Rattle.bites_text.specs.declared.error.Error.TheVariants.{FixedHexUnfinished, FixedHexDigit}
use Rattle.bites_syntax.specs.Numbers.{AgreeBelow}
use Rattle.bites_syntax.specs.Parts.{fault_in, fault_at}

-- the number of k digits, after those that wrote the number v
abbrev pub fixed_number : ℕ → ℕ → Flags → Text → ReadResult ℕ
fixed_number v k flags t = and_then (exactly k flags t) (λ digits rest. answer (fold (λ n d. n * 16 + digit_value d) v digits) rest)

-- the number that the reader returns, or one that is too large as well; or the reader's error
abbrev pub AnswersNumber : ℕ → Result ℕ Refusal → Text → ReadResult ℕ → Type 0
AnswersNumber bound result rest a = MatchResult result (λ m. (n : ℕ) × (a ≡ Ok (n, rest)) × AgreeBelow bound m n) (λ e. fault_in a ≡ Some e)

-- the value of the digit that comes next, or why there is none
abbrev pub AnswersDigit : Result ℕ Refusal → Text → Text → Type 0
AnswersDigit result rest t =
    MatchResult result (λ d. (c : ℕ) × (t ≡ c ∷ rest) × (is_hex_digit c ≡ true) × (d ≡ digit_value c) × (d < 16))
    (λ e. ((t ≡ []) × (e ≡ fault_at FixedHexUnfinished t)) ⊎ ((c : ℕ) × (t ≡ c ∷ rest) × (is_hex_digit c ≡ false) × (e ≡ fault_at FixedHexDigit t)))
