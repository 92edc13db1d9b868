-- Numbers that are read up to a bound.
use Rattle.std.proofs.Common.{Some, Ok, lt-ltb, true, drop, length, ◌≡◌, ◌≤◌, ◌<◌, ◌+◌, ◌*◌, ℕ, [], ◌∷◌, min, ap, sym, ◌∙◌, refl, arith, inl, inr, ⊎_elim, fold}
use Rattle.std.specs.Prelude.{nat_lt}
use Rattle.std.specs.Char.{digit_value, is_ascii_digit, is_whitespace}
use Rattle.std.proofs.lemmas.Bool.{cases_lt, le-ltb, false≢true}
use Rattle.std.proofs.Math.Nat.{mul-le-mul_left}
use Rattle.bites_spec.specs.Class.{Set}
use Rattle.bites_spec.specs.Message as message
use Rattle.bites_spec.specs.OperatorFault.{greatest_number}
use Rattle.bites_spec.specs.Pattern.{Text, Flags, number, next_is, skip, skip_white}
use Rattle.bites_spec.specs.Reader.{decimal, decimal_by, choose, answer, stop}
use Rattle.bites_spec.proofs.characters.EachLemmas.{each_shorter, each_sound, skip_white_shorter}
use Rattle.bites_text.specs.declared.error.Error.TheVariants.{InvalidDecimal}
use Rattle.bites_syntax.specs.Parts.{fault_at, fault_in}
use Rattle.bites_syntax.specs.Steps.{each_of}
use Rattle.bites_syntax.proofs.CursorLemmas.{each_by, each_more}
use Rattle.bites_syntax.specs.Numbers.{AgreeBelow}

-- the number that digits write after those that wrote this number
abbrev pub number_from : ℕ → ℕ → Text → ℕ
number_from base n digits = fold (λ n d. n * base + digit_value d) n digits

-- one digit more
AgreeBelow_more : (bound base m n d : ℕ) → 0 < base → AgreeBelow bound m n → AgreeBelow bound (m * base + d) (n * base + d)
AgreeBelow_more bound base m n d some agree =
    ⊎_elim (λ e. inl (ap (λ x. x * base + d) e))
    (λ p. inr (omega (arith, mul-le-mul_left m some, p.0), omega (arith, mul-le-mul_left n some, p.1))) agree

-- digits keep what agrees
pub AgreeBelow_digits : (bound base : ℕ) → 0 < base → (digits : Text) (m n : ℕ) → AgreeBelow bound m n →
    AgreeBelow bound (number_from base m digits) (number_from base n digits)
AgreeBelow_digits bound base some [] m n agree = agree
AgreeBelow_digits bound base some (d ∷ digits) m n agree =
    AgreeBelow_digits bound base some digits (m * base + digit_value d) (n * base + digit_value d) (AgreeBelow_more bound base m n (digit_value d) some agree)

AgreeBelow-min : (bound m : ℕ) → AgreeBelow bound (min bound m) m
AgreeBelow-min bound m =
    ⊎_elim (λ h. inl (omega (arith, h))) (λ h. inr (omega (arith, h), h)) (cases_lt m bound)

AgreeBelow_trans : (bound m n k : ℕ) → AgreeBelow bound m n → AgreeBelow bound n k → AgreeBelow bound m k
AgreeBelow_trans bound m n k (inl e) q = rw e q
AgreeBelow_trans bound m n k (inr h) (inl e) = inr (h.0, omega (arith, h.1))
AgreeBelow_trans bound m n k (inr h) (inr g) = inr (h.0, g.1)

-- the number so far, one digit later
pub number_more : (bound base : ℕ) (flags : Flags) (set : Set) (t u : Text) (c m v n : ℕ) → 0 < base → set c ≡ true → t ≡ c ∷ drop 1 t → u ≡ skip flags (drop 1 t) →
    v ≡ min bound (m * base + digit_value c) → AgreeBelow bound (number_from base m (each_of flags set t).0) n →
    AgreeBelow bound (number_from base v (each_of flags set u).0) n
number_more bound base flags set t u c m v n some has at rest value so_far =
    let more : (each_of flags set t).0 ≡ c ∷ (each_of flags set u).0 = ap (λ r. r.0) (each_more flags set t (drop 1 t) c at has) ∙ rw rest refl in
    let begun : AgreeBelow bound (number_from base m (c ∷ (each_of flags set u).0)) n = rw (← more) so_far in
    AgreeBelow_trans bound _ _ n
    (AgreeBelow_digits bound base some (each_of flags set u).0 v (m * base + digit_value c) (rw value (AgreeBelow-min bound (m * base + digit_value c)))) begun

each_of_shorter : (flags : Flags) (set : Set) (t : Text) → length (each_of flags set t).1 ≤ length t
unfolding each_of
each_of_shorter flags set t = each_shorter (each_sound (length t) flags set t (omega arith))

-- the digits of a decimal, and what stands after it
abbrev pub digits_of : Flags → Text → Text
digits_of flags t = (each_of flags is_ascii_digit (skip_white t)).0

abbrev pub behind_digits : Flags → Text → Text
behind_digits flags t = (each_of flags is_whitespace (each_of flags is_ascii_digit (skip_white t)).1).1

by_digits : (n : ℕ) (flags : Flags) (at digits behind : Text) → next_is is_ascii_digit at ≡ true → (digits, behind) ≡ each_of flags is_ascii_digit at →
    length behind ≤ n →
    decimal_by n flags at digits behind ≡ choose (nat_lt greatest_number (number 10 digits)) (λ _. stop message.invalid_decimal (each_of flags is_whitespace behind).1)
    (λ _. answer (number 10 digits) (each_of flags is_whitespace behind).1)
by_digits n flags at [] behind some are room = absurd (none at some (sym (ap (λ r. r.0) are)))
  where
    none : (at : Text) → next_is is_ascii_digit at ≡ true → (each_of flags is_ascii_digit at).0 ≡ [] → ⊥
    none [] some is = false≢true some
    none (c ∷ at) some is = (let e : c ∷ (each_of flags is_ascii_digit (skip flags at)).0 ≡ [] = sym (ap (λ r. r.0) (each_more flags is_ascii_digit (c ∷ at) at c refl some)) ∙ is in cc)
by_digits n flags at (d ∷ digits) behind some are room = rw (each_by n flags is_whitespace behind room) refl

-- a decimal that begins with a digit is a number, or too large
decimal_reads : (n : ℕ) (flags : Flags) (t : Text) → length t ≤ n → next_is is_ascii_digit (skip_white t) ≡ true →
    decimal n flags t ≡ choose (nat_lt greatest_number (number 10 (digits_of flags t))) (λ _. stop message.invalid_decimal (behind_digits flags t))
    (λ _. answer (number 10 (digits_of flags t)) (behind_digits flags t))
decimal_reads n flags t room some =
    let enough : length (skip_white t) ≤ n = omega (arith, skip_white_shorter t) in
    ap (λ r. decimal_by n flags (skip_white t) r.0 r.1) (each_by n flags is_ascii_digit (skip_white t) enough)
    ∙ by_digits n flags (skip_white t) _ _ some refl (omega (arith, each_of_shorter flags is_ascii_digit (skip_white t)))

-- a decimal within the bound
decimal_small : (n : ℕ) (flags : Flags) (t rest : Text) (v : ℕ) → length t ≤ n → next_is is_ascii_digit (skip_white t) ≡ true →
    AgreeBelow 4294967296 v (number 10 (digits_of flags t)) → v < 4294967296 → rest ≡ behind_digits flags t → decimal n flags t ≡ Ok (v, rest)
decimal_small n flags t rest v room some (inl e) small at =
    decimal_reads n flags t room some ∙ rw (← e, le-ltb greatest_number v (omega (arith, small)), at) refl
decimal_small n flags t rest v room some (inr h) small at = absurd (omega (arith, h.0, small))

-- a decimal above it
decimal_large : (n : ℕ) (flags : Flags) (t : Text) (v : ℕ) → length t ≤ n → next_is is_ascii_digit (skip_white t) ≡ true →
    AgreeBelow 4294967296 v (number 10 (digits_of flags t)) → 4294967296 ≤ v → decimal n flags t ≡ stop message.invalid_decimal (behind_digits flags t)
decimal_large n flags t v room some agree large =
    let above : greatest_number < number 10 (digits_of flags t) = ⊎_elim (λ e. omega (arith, e)) (λ h. omega (arith, h.1)) agree in
    decimal_reads n flags t room some ∙ rw (lt-ltb greatest_number (number 10 (digits_of flags t)) above) refl

-- both decimals, by the texts in between: after white space, after the digits, and after the last white space
pub small_decimal : (n : ℕ) (flags : Flags) (t u d rest : Text) (v : ℕ) → length t ≤ n → u ≡ skip_white t → next_is is_ascii_digit u ≡ true →
    AgreeBelow 4294967296 v (number 10 (each_of flags is_ascii_digit u).0) → v < 4294967296 → d ≡ (each_of flags is_ascii_digit u).1 →
    rest ≡ (each_of flags is_whitespace d).1 → decimal n flags t ≡ Ok (v, rest)
small_decimal n flags t u d rest v room at some agree small behind ends =
    decimal_small n flags t rest v room (rw at at some) (rw at at agree) small
    (ends ∙ ap (λ x. (each_of flags is_whitespace x).1) (behind ∙ ap (λ x. (each_of flags is_ascii_digit x).1) at))

pub large_decimal : (n : ℕ) (flags : Flags) (t u d rest : Text) (v : ℕ) → length t ≤ n → u ≡ skip_white t → next_is is_ascii_digit u ≡ true →
    AgreeBelow 4294967296 v (number 10 (each_of flags is_ascii_digit u).0) → 4294967296 ≤ v → d ≡ (each_of flags is_ascii_digit u).1 →
    rest ≡ (each_of flags is_whitespace d).1 → fault_in (decimal n flags t) ≡ Some (fault_at InvalidDecimal rest)
large_decimal n flags t u d rest v room at some agree large behind ends =
    let behind_all : rest ≡ behind_digits flags t = ends ∙ ap (λ x. (each_of flags is_whitespace x).1) (behind ∙ ap (λ x. (each_of flags is_ascii_digit x).1) at) in
    ap fault_in (decimal_large n flags t v room (rw at at some) (rw at at agree) large) ∙ ap (λ x. Some (fault_at InvalidDecimal x)) (sym behind_all)
