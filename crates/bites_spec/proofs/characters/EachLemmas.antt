-- Runs of characters and decimals: the reader agrees with the grammar's relations.
use Rattle.std.proofs.lemmas.Grind.{common_steps}
use Rattle.std.proofs.Common.{◌≡◌, ℕ, zero, suc, ◌<◌, ◌≤◌, Bool, false, ◌||◌, ◌==◌, [], ◌∷◌, length, refl, sym, ap, ap₂, ◌∙◌, ⊎_elim, arith, Ok, Err, ltb-true, ltb-false, lt-ltb}
use Rattle.std.specs.Prelude.{nat_lt, not, if◌then◌else◌}
use Rattle.std.specs.Char.{is_whitespace, is_ascii_digit}
use Rattle.std.proofs.lemmas.Bool.{cases_Bool}
use Rattle.bites_spec.specs.Message as message
use Rattle.bites_spec.specs.Message.{Message}
use Rattle.bites_spec.specs.Class.{Set}
use Rattle.bites_spec.specs.Pattern.{Text, Flags, skip, skip_blank, skip_white, hash, line_feed, next_is, number, ReadsEach, none, more, ReadsDecimal}
use Rattle.bites_spec.specs.Pattern as pattern
use Rattle.bites_spec.specs.OperatorFault.{StuckDecimal, no_digit, too_large, greatest_number}
use Rattle.bites_spec.specs.Reader.{each, decimal, decimal_by, ReadResult, answer, stop, choose}

skip_blank_shorter : (inside : Bool) (t : Text) → length (skip_blank inside t) ≤ length t
unfolding skip_blank
skip_blank_shorter inside [] = omega arith
skip_blank_shorter inside (c ∷ t) =
    ⊎_elim (λ b. rw b (omega (arith, skip_blank_shorter (if inside then not (c == line_feed) else c == hash) t))) (λ b. rw b (omega arith))
    (cases_Bool (inside || is_whitespace c || (c == hash)))

pub skip_shorter : (flags : Flags) (t : Text) → length (skip flags t) ≤ length t
skip_shorter flags t =
    ⊎_elim (λ b. rw b (skip_blank_shorter false t)) (λ b. rw b (omega arith)) (cases_Bool flags.ignore_whitespace)

pub each_complete : {flags : Flags} {set : Set} {t chars rest : Text} → ReadsEach flags set t chars rest → (n : ℕ) → length t ≤ n →
    each n flags set t ≡ (chars, rest)
each_complete (none t chars rest ends is same) zero room = rw (is, same) refl
each_complete (none [] chars rest ends is same) (suc n) room = rw (is, same) refl
each_complete (none (c ∷ t) chars rest ends is same) (suc n) room = rw (ends, is, same) refl
each_complete (more c t next chars others rest is pass r same) zero room = absurd (omega (arith, ap length is))
each_complete {flags} {set} (more c t next chars others rest is pass r same) (suc n) room =
    let go = each_complete r n (omega (arith, ap length is, skip_shorter flags next)) in
    ap (each (suc n) flags set) is ∙ rw (pass, go, same) refl

pub each_sound : (n : ℕ) (flags : Flags) (set : Set) (t : Text) → length t ≤ n → ReadsEach flags set t (each n flags set t).0 (each n flags set t).1
each_sound zero flags set [] room = none [] [] [] refl refl refl
each_sound zero flags set (c ∷ t) room = absurd (omega arith)
each_sound (suc n) flags set [] room = none [] [] [] refl refl refl
each_sound (suc n) flags set (c ∷ t) room =
    ⊎_elim (λ b. rw b (more c (c ∷ t) t _ _ _ refl b (each_sound n flags set (skip flags t) (omega (arith, skip_shorter flags t))) refl))
    (λ b. rw b (none _ _ _ b refl refl)) (cases_Bool (set c))

pub each_shorter : {flags : Flags} {set : Set} {t chars rest : Text} → ReadsEach flags set t chars rest → length rest ≤ length t
each_shorter (none t chars rest ends is same) = omega (arith, ap length same)
each_shorter {flags} (more c t next chars others rest is pass r same) = omega (arith, each_shorter r, ap length is, skip_shorter flags next)

pub skip_white_shorter : (t : Text) → length (skip_white t) ≤ length t
unfolding skip_white
skip_white_shorter [] = omega arith
skip_white_shorter (c ∷ t) = ⊎_elim (λ b. rw b (omega (arith, skip_white_shorter t))) (λ b. rw b (omega arith)) (cases_Bool (is_whitespace c))

-- what a result of the function claims of the relation
abbrev pub Means : Flags → Text → ReadResult ℕ → Type 0
Means flags t (Ok x) = ReadsDecimal flags t x.0 x.1 × (x.0 ≤ greatest_number)
Means flags t (Err e) = StuckDecimal flags t e.message e.place

no_chars : {flags : Flags} {set : Set} {t rest : Text} (chars : Text) → ReadsEach flags set t chars rest → chars ≡ [] → next_is set t ≡ false
no_chars chars (none t _ rest ends is same) empty = ends
no_chars chars (more c t next _ others rest is pass r same) empty = absurd (omega (arith, ap length empty, ap length same))

by_means : (n : ℕ) (flags : Flags) (t digits behind : Text) → ReadsEach flags is_ascii_digit (skip_white t) digits behind → length behind ≤ n →
    Means flags t (decimal_by n flags (skip_white t) digits behind)
by_means n flags t [] behind r room = no_digit t _ _ refl (no_chars [] r refl) refl
by_means n flags t (d ∷ digits) behind r room =
    let read : ReadsDecimal flags t (number 10 (d ∷ digits)) (each n flags is_whitespace behind).1 =
    pattern.decimal _ t behind (d ∷ digits) _ _ r (omega arith) (each_sound n flags is_whitespace behind room) refl in
    ⊎_elim (λ b. rw b (too_large _ t _ _ read (ltb-true _ _ b) refl)) (λ b. rw b (read, ltb-false _ _ b))
    (cases_Bool (nat_lt greatest_number (number 10 (d ∷ digits))))

-- the function reads a decimal as the relation does, or stops where the relation does
pub decimal_means : (n : ℕ) (flags : Flags) (t : Text) → length t ≤ n → Means flags t (decimal n flags t)
decimal_means n flags t room = grind (arith, common_steps, each_sound, skip_white_shorter, by_means, each_shorter)

-- the result for a whole decimal: its value, or the stop at its end if it is too large
abbrev whole : ℕ → Text → ReadResult ℕ
whole v rest = choose (nat_lt greatest_number v) (λ _. stop message.invalid_decimal rest) (λ _. answer v rest)

by_complete : (n : ℕ) (flags : Flags) (at digits behind white rest : Text) (v : ℕ) → 0 < length digits →
    each n flags is_whitespace behind ≡ (white, rest) → v ≡ number 10 digits → decimal_by n flags at digits behind ≡ whole v rest
by_complete n flags at [] behind white rest v some w value = absurd (omega arith)
by_complete n flags at (d ∷ digits) behind white rest v some w value = rw (w, value) refl

-- the function reads each decimal that the relation reads, or stops at its end if it is too large
pub decimal_complete : {flags : Flags} {t rest : Text} {v : ℕ} → ReadsDecimal flags t v rest → (n : ℕ) → length t ≤ n → decimal n flags t ≡ whole v rest
decimal_complete {flags} (pattern.decimal v t behind digits white rest r some w value) n room = grind (arith, common_steps, each_complete, skip_white_shorter, by_complete, each_shorter)

-- where the relation stops at a decimal, the function stops
pub stuck_decimal : {flags : Flags} {t place : Text} {m : Message} → StuckDecimal flags t m place → (n : ℕ) → length t ≤ n → decimal n flags t ≡ stop m place
stuck_decimal {flags} (no_digit t place m is ends names) n room =
    let nothing : next_is is_ascii_digit (skip_white t) ≡ false = rw is at ends in
    ap (λ p. decimal_by n flags (skip_white t) p.0 p.1)
    (each_complete {flags = flags} (none (skip_white t) [] (skip_white t) nothing refl refl) n (omega (arith, skip_white_shorter t)))
    ∙ ap₂ stop (sym names) (sym is)
stuck_decimal (too_large v t place m reads above names) n room = decimal_complete reads n room ∙ rw (lt-ltb greatest_number v above, names) refl

-- reading a decimal never goes back
pub decimal_shorter : {flags : Flags} {t rest : Text} {v : ℕ} → ReadsDecimal flags t v rest → length rest ≤ length t
decimal_shorter (pattern.decimal v t behind digits white rest r some w value) = omega (arith, each_shorter r, each_shorter w, skip_white_shorter t)
