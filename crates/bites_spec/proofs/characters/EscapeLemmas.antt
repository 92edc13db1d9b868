-- What the reader returns for an escape, the grammar's relations read.
use Rattle.std.proofs.lemmas.Grind.{common_steps}
use Rattle.std.proofs.Common.{◌≡◌, ℕ, zero, suc, ◌<◌, ◌≤◌, Bool, true, false, ◌==◌, [], ◌∷◌, ◌++◌, length, refl, sym, ap, ◌∙◌, subst, ⊎_elim, arith, Option, Some, None, Ok, Err, eqb-true, true≢false}
use Rattle.std.specs.Prelude.{codes, unwrap_or, option_map, if◌then◌else◌}
use Rattle.std.proofs.lemmas.Option.{none-some}
use Rattle.std.specs.Char.{is_ascii_digit}
use Rattle.std.proofs.lemmas.Bool.{cases_Bool}
use Rattle.bites_spec.specs.Message as message
use Rattle.bites_spec.specs.Message.{Message}
use Rattle.bites_spec.specs.Look.{Look}
use Rattle.bites_spec.specs.Class.{Set, is_scalar}
use Rattle.bites_spec.specs.Pattern.{Text, Flags, skip, next_is, one_of, number, backslash, left_brace, right_brace, ReadsEach, ReadsExactly, last, more}
use Rattle.bites_spec.specs.Escape as escape
use Rattle.bites_spec.specs.Escape.{Meaning, character, characters, assertion, is_hex_digit, is_boundary_letter, boundary_of, may_name_boundary, digits_of, control_of, assertion_of, class_of, escapes_itself, ReadsHexadecimal, ReadsEscape}
use Rattle.bites_spec.specs.EscapeFault as stuck
use Rattle.bites_spec.specs.EscapeFault.{begins_escape, StuckExactly, StuckHexadecimal, StuckEscape}
use Rattle.bites_spec.specs.Reader as reading
use Rattle.bites_spec.specs.Reader.{ReadResult, answer, choose, and_then, each, exactly, scalar, closed_hexadecimal, in_braces, hexadecimal}
use Rattle.bites_spec.proofs.characters.EachLemmas.{skip_shorter, each_sound}

-- a result is a reading, or a place where reading stops
abbrev pub Means : {A : Type 0} → (A → Text → Type 0) → (Message → Text → Type 0) → ReadResult A → Type 0
Means R S (Ok x) = R x.0 x.1
Means R S (Err e) = S e.message e.place

-- one digit more before the others
one_more : (k c : ℕ) (flags : Flags) (t next : Text) (a : ReadResult Text) → next ≡ skip flags t → is_hex_digit c ≡ true →
    Means (ReadsExactly flags is_hex_digit (suc k) next) (StuckExactly flags (suc k) next) a →
    Means (ReadsExactly flags is_hex_digit (suc (suc k)) (c ∷ t)) (StuckExactly flags (suc (suc k)) (c ∷ t))
    (and_then a (λ digits rest. answer (c ∷ digits) rest))
one_more k c flags t next (Ok x) is hex means =
    more c _ (suc k) (c ∷ t) t _ x.0 x.1 (omega arith) (omega arith) refl hex
    (subst (λ u. ReadsExactly flags is_hex_digit (suc k) u x.0 x.1) is means) refl
one_more k c flags t next (Err e) is hex means =
    stuck.later c _ (suc k) (c ∷ t) t _ _ refl hex (omega arith) (omega arith) (subst (λ u. StuckExactly flags (suc k) u e.message e.place) is means)

behind_digit : (k c : ℕ) (flags : Flags) (t next : Text) →
    ((d : ℕ) (u : Text) → Means (ReadsExactly flags is_hex_digit (suc k) (d ∷ u)) (StuckExactly flags (suc k) (d ∷ u)) (exactly (suc k) flags (d ∷ u))) →
    next ≡ skip flags t → is_hex_digit c ≡ true →
    Means (ReadsExactly flags is_hex_digit (suc (suc k)) (c ∷ t)) (StuckExactly flags (suc (suc k)) (c ∷ t))
    (and_then (exactly (suc k) flags next) (λ digits rest. answer (c ∷ digits) rest))
behind_digit k c flags t [] go is hex = stuck.ends c _ (c ∷ t) t [] _ refl hex (omega arith) (sym is) refl refl
behind_digit k c flags t (d ∷ next) go is hex = one_more k c flags t (d ∷ next) (exactly (suc k) flags (d ∷ next)) is hex (go d next)

exactly_means : (k c : ℕ) (flags : Flags) (t : Text) →
    Means (ReadsExactly flags is_hex_digit (suc k) (c ∷ t)) (StuckExactly flags (suc k) (c ∷ t)) (exactly (suc k) flags (c ∷ t))
exactly_means zero c flags t =
    ⊎_elim (λ b. rw b (last c 1 (c ∷ t) _ t refl refl b refl)) (λ b. rw b (stuck.strange c 1 (c ∷ t) t _ _ refl b refl refl)) (cases_Bool (is_hex_digit c))
exactly_means (suc k) c flags t =
    ⊎_elim (λ b. rw b (behind_digit k c flags t (skip flags t) (λ d u. exactly_means k d flags u) refl b))
    (λ b. rw b (stuck.strange c _ (c ∷ t) t _ _ refl b refl refl)) (cases_Bool (is_hex_digit c))

no_chars : {flags : Flags} {set : Set} {t rest : Text} (chars : Text) → ReadsEach flags set t chars rest → chars ≡ [] → rest ≡ t
no_chars chars (ReadsEach.none t _ rest ends is same) empty = same
no_chars chars (ReadsEach.more c t next _ others rest is pass r same) empty = absurd (omega (arith, ap length empty, ap length same))

-- a hexadecimal number that is a scalar value
abbrev ReadsScalar : Flags → ℕ → Text → ℕ → Text → Type 0
ReadsScalar flags k t value rest = ReadsHexadecimal flags k t value rest × (is_scalar value ≡ true)

fixed_means : (flags : Flags) (k c : ℕ) (t : Text) (a : ReadResult Text) → (c == left_brace) ≡ false →
    Means (ReadsExactly flags is_hex_digit k (c ∷ t)) (StuckExactly flags k (c ∷ t)) a →
    Means (ReadsScalar flags k (c ∷ t)) (StuckHexadecimal flags k (c ∷ t)) (and_then a (scalar message.fixed_hex_invalid))
fixed_means flags k c t (Ok x) other means =
    ⊎_elim (λ b. rw b (escape.fixed k _ (c ∷ t) x.0 x.1 means refl, b)) (λ b. rw b (stuck.fixed_no_scalar (c ∷ t) x.0 x.1 _ means b refl))
    (cases_Bool (is_scalar (number 16 x.0)))
fixed_means flags k c t (Err e) other means = stuck.fixed (c ∷ t) _ _ other means

closed_means : (flags : Flags) (k d : ℕ) (t next digits rest : Text) → t ≡ left_brace ∷ next → d ≡ right_brace →
    ReadsEach flags is_hex_digit (skip flags next) digits (d ∷ rest) →
    Means (ReadsScalar flags k t) (StuckHexadecimal flags k t) (closed_hexadecimal digits (d ∷ rest) rest)
closed_means flags k d t next [] rest is closes r =
    let behind = ap (λ x. x ∷ rest) closes in
    stuck.empty_braces t next rest _ _ is (sym (no_chars [] r refl) ∙ behind) behind refl
closed_means flags k d t next (x ∷ digits) rest is closes r =
    let reads : ReadsEach flags is_hex_digit (skip flags next) (x ∷ digits) (right_brace ∷ rest) =
    subst (λ y. ReadsEach flags is_hex_digit (skip flags next) (x ∷ digits) (y ∷ rest)) closes r in
    ⊎_elim (λ b. rw b (escape.in_braces k _ t next (x ∷ digits) rest is reads (omega arith) refl, b))
    (λ b. rw b (stuck.no_scalar t next (x ∷ digits) rest _ is reads (omega arith) b refl)) (cases_Bool (is_scalar (number 16 (x ∷ digits))))

braces_mean : (flags : Flags) (k : ℕ) (t next digits behind : Text) → t ≡ left_brace ∷ next → ReadsEach flags is_hex_digit (skip flags next) digits behind →
    Means (ReadsScalar flags k t) (StuckHexadecimal flags k t) (in_braces digits behind)
braces_mean flags k t next digits [] is r = stuck.ends_in_braces t next digits [] _ is r refl refl
braces_mean flags k t next digits (d ∷ rest) is r =
    ⊎_elim (λ b. rw b (closed_means flags k d t next digits rest is (eqb-true d right_brace b) r))
    (λ b. rw b (stuck.strange_in_braces d t next digits rest _ _ is r refl b refl)) (cases_Bool (d == right_brace))

-- what the function returns after x, u or U and a gap, the relation reads
pub hexadecimal_means : (n : ℕ) (flags : Flags) (k : ℕ) (t : Text) → length t ≤ n →
    Means (ReadsScalar flags (suc k) t) (StuckHexadecimal flags (suc k) t) (hexadecimal n flags (suc k) t)
hexadecimal_means n flags k [] room = stuck.ends_at_once [] [] _ refl refl refl
hexadecimal_means n flags k (c ∷ t) room =
    ⊎_elim
    (λ b. rw b (braces_mean flags (suc k) (c ∷ t) t _ _ (ap (λ x. x ∷ t) (eqb-true c left_brace b))
    (each_sound n flags is_hex_digit (skip flags t) (omega (arith, room, skip_shorter flags t)))))
    (λ b. rw b (fixed_means flags (suc k) c t (exactly (suc k) flags (c ∷ t)) b (exactly_means k c flags t))) (cases_Bool (c == left_brace))

-- what a result for an escape claims of the relation, from the backslash on
abbrev EscapeMeans : Flags → Text → ReadResult Meaning → Type 0
EscapeMeans flags t = Means (ReadsEscape flags t) (StuckEscape flags t)

spelled_means : (flags : Flags) (t next name rest : Text) (o : Option Look) → t ≡ codes "\\b{" ++ next →
    ReadsEach flags is_boundary_letter (skip flags next) name (right_brace ∷ rest) → 0 < length name → boundary_of name ≡ o →
    EscapeMeans flags t (reading.spelled o (right_brace ∷ rest) rest)
spelled_means flags t next name rest (Some l) is r some spells = escape.named_boundary l t next name rest _ is r spells refl
spelled_means flags t next name rest None is r some spells = stuck.boundary_unknown t next name rest _ _ is r some refl spells refl

name_means : (flags : Flags) (t next name behind : Text) → t ≡ codes "\\b{" ++ next → ReadsEach flags is_boundary_letter (skip flags next) name behind →
    0 < length name → EscapeMeans flags t (reading.boundary_name name behind)
name_means flags t next name [] is r some = stuck.boundary_ends t next name [] _ is r some refl refl
name_means flags t next name (c ∷ rest) is r some =
    ⊎_elim
    (λ b. rw b
    (let closes = eqb-true c right_brace b in
    subst (λ x. EscapeMeans flags t (reading.spelled (boundary_of name) (x ∷ rest) rest)) (sym closes)
    (spelled_means flags t next name rest (boundary_of name) is
    (subst (λ x. ReadsEach flags is_boundary_letter (skip flags next) name (x ∷ rest)) closes r) some refl)))
    (λ b. rw b (stuck.boundary_ends t next name (c ∷ rest) _ is r some b refl)) (cases_Bool (c == right_brace))

some_chars : {flags : Flags} {set : Set} {t rest : Text} (c : ℕ) (u chars : Text) → ReadsEach flags set t chars rest → t ≡ c ∷ u → set c ≡ true → 0 < length chars
some_chars {set = set} c u chars (ReadsEach.none t _ rest ends is same) begins pass =
    absurd (true≢false (sym (subst (λ x. next_is set x ≡ true) (sym begins) pass) ∙ ends))
some_chars c u chars (ReadsEach.more d t next _ others rest is pass r same) begins holds = omega (arith, ap length same)

braced_means : (n : ℕ) (flags : Flags) (t next inside : Text) → length next ≤ n → t ≡ codes "\\b{" ++ next → inside ≡ skip flags next →
    EscapeMeans flags t (reading.braced n flags (left_brace ∷ next) inside)
braced_means n flags t next [] room is at = stuck.boundary_begins t next [] _ is (sym at) refl refl
braced_means n flags t next (c ∷ u) room is at =
    ⊎_elim
    (λ b. rw b
    (let r = each_sound n flags is_boundary_letter (c ∷ u) (omega (arith, room, ap length at, skip_shorter flags next)) in
    name_means flags t next (each n flags is_boundary_letter (c ∷ u)).0 (each n flags is_boundary_letter (c ∷ u)).1 is
    (subst (λ x. ReadsEach flags is_boundary_letter x (each n flags is_boundary_letter (c ∷ u)).0 (each n flags is_boundary_letter (c ∷ u)).1) at r)
    (some_chars c u _ r refl b)))
    (λ b. rw b (escape.word_boundary t (left_brace ∷ next) _ is (ap may_name_boundary (sym at) ∙ b) refl)) (cases_Bool (is_boundary_letter c))

boundary_means : (n : ℕ) (flags : Flags) (t rest : Text) → length rest ≤ n → t ≡ codes "\\b" ++ rest → EscapeMeans flags t (reading.boundary n flags rest)
boundary_means n flags t [] room is = escape.word_boundary t [] _ is refl refl
boundary_means n flags t (c ∷ next) room is =
    ⊎_elim
    (λ b. rw b
    (let opens = eqb-true c left_brace b in
    subst (λ x. EscapeMeans flags t (reading.braced n flags (x ∷ next) (skip flags next))) (sym opens)
    (braced_means n flags t next (skip flags next) (omega (arith, room)) (is ∙ ap (λ x. codes "\\b" ++ x ∷ next) opens) refl)))
    (λ b. rw b (escape.word_boundary t (c ∷ next) _ is (rw b refl) refl)) (cases_Bool (c == left_brace))

some_injective : {a b : Meaning} → Some a ≡ Some b → a ≡ b
some_injective {a} {b} e = ap (λ o. unwrap_or o a) e

-- a character that means something alone makes an escape after a backslash
meaning_reads : (flags : Flags) (c : ℕ) (t : Text) (meaning : Meaning) → reading.meaning_of c ≡ Some meaning → ReadsEscape flags (backslash ∷ c ∷ t) meaning t
meaning_reads flags c t meaning means = by_control (control_of c) refl means
  where
    by_itself : (b : Bool) → escapes_itself c ≡ b → (if b then Some (character c) else None) ≡ Some meaning → ReadsEscape flags (backslash ∷ c ∷ t) meaning t
    by_itself true e m = escape.itself c _ t meaning refl e (sym (some_injective m))
    by_itself false e m = absurd (none-some meaning m)

    by_class : (o : Option Set) → class_of c ≡ o →
        reading.or_else (option_map characters o) (if escapes_itself c then Some (character c) else None) ≡ Some meaning → ReadsEscape flags (backslash ∷ c ∷ t) meaning t
    by_class (Some set) e m = escape.class c set _ t meaning refl e (sym (some_injective m))
    by_class None e m = by_itself (escapes_itself c) refl m

    by_anchor : (o : Option Look) → assertion_of c ≡ o →
        reading.or_else (option_map assertion o)
        (reading.or_else (option_map characters (class_of c)) (if escapes_itself c then Some (character c) else None)) ≡ Some meaning →
        ReadsEscape flags (backslash ∷ c ∷ t) meaning t
    by_anchor (Some l) e m = escape.anchor c l _ t meaning refl e (sym (some_injective m))
    by_anchor None e m = by_class (class_of c) refl m

    by_control : (o : Option ℕ) → control_of c ≡ o →
        reading.or_else (option_map character o)
        (reading.or_else (option_map assertion (assertion_of c))
        (reading.or_else (option_map characters (class_of c)) (if escapes_itself c then Some (character c) else None))) ≡ Some meaning →
        ReadsEscape flags (backslash ∷ c ∷ t) meaning t
    by_control (Some v) e m = escape.control c v _ t meaning refl e (sym (some_injective m))
    by_control None e m = by_anchor (assertion_of c) refl m

-- a character that means nothing alone, opens no number and is no b begins no escape
begins_nothing : (c : ℕ) → reading.meaning_of c ≡ None → digits_of c ≡ None → (c == 98) ≡ false → begins_escape c ≡ false
begins_nothing c nothing no_digits other = grind (arith, common_steps)

some_zero : (o : Option ℕ) → o ≡ Some zero → unwrap_or o 1 ≡ 0
some_zero o e = ap (λ x. unwrap_or x 1) e

digits_not_zero : (c : ℕ) → digits_of c ≡ Some zero → ⊥
digits_not_zero c e = grind (arith, common_steps, some_zero)

number_means : (flags : Flags) (c k : ℕ) (t : Text) (a : ReadResult ℕ) → digits_of c ≡ Some k →
    Means (ReadsScalar flags k (skip flags t)) (StuckHexadecimal flags k (skip flags t)) a →
    EscapeMeans flags (backslash ∷ c ∷ t) (and_then a (λ value rest. answer (character value) rest))
number_means flags c k t (Ok x) digits means = escape.hexadecimal c k x.0 _ t x.1 _ refl digits means.0 means.1 refl
number_means flags c k t (Err e) digits means = stuck.hexadecimal c k _ t _ _ refl digits means

simple_means : (n : ℕ) (flags : Flags) (c : ℕ) (t : Text) (m : Option Meaning) (k : Option ℕ) → length t ≤ n →
    reading.meaning_of c ≡ m → digits_of c ≡ k → is_ascii_digit c ≡ false → one_of (codes "pP") c ≡ false → (c == 98) ≡ false →
    EscapeMeans flags (backslash ∷ c ∷ t) (reading.simple_by n flags c t m k)
simple_means n flags c t (Some meaning) k room means digits digit property other = meaning_reads flags c t meaning means
simple_means n flags c t None (Some zero) room means digits digit property other = absurd (digits_not_zero c digits)
simple_means n flags c t None (Some (suc k)) room means digits digit property other = grind (arith, common_steps, number_means, hexadecimal_means, skip_shorter)
simple_means n flags c t None None room means digits digit property other =
    stuck.strange c _ t _ _ refl digit property (begins_nothing c means digits other) refl refl

-- a property of a choice holds if it holds of each side
pub either_side : {A : Type 0} (P : A → Type 0) (b : Bool) (f g : Unit {0} → A) → (b ≡ true → P (f tt)) → (b ≡ false → P (g tt)) → P (choose b f g)
either_side P true f g first second = first refl
either_side P false f g first second = second refl

-- what the function returns for an escape, the relation reads
pub escape_means : (n : ℕ) (flags : Flags) (t : Text) → length t ≤ n → EscapeMeans flags (backslash ∷ t) (reading.escape n flags t)
escape_means n flags [] room = stuck.ends _ _ _ refl refl refl
escape_means n flags (c ∷ t) room =
    either_side (EscapeMeans flags (backslash ∷ c ∷ t)) (is_ascii_digit c) _ _ (λ d. stuck.digit c _ t _ _ refl d refl refl)
    (λ d. either_side (EscapeMeans flags (backslash ∷ c ∷ t)) (one_of (codes "pP") c) _ _ (λ p. stuck.property c _ t _ _ refl p refl refl)
    (λ p. either_side (EscapeMeans flags (backslash ∷ c ∷ t)) (c == 98) _ _
    (λ b. boundary_means n flags _ t (omega arith) (ap (λ x. backslash ∷ x ∷ t) (eqb-true c 98 b)))
    (λ b. simple_means n flags c t (reading.meaning_of c) (digits_of c) (omega arith) refl refl d p b)))
