-- What the reader returns for operators in braces, the grammar's relations read.
use Rattle.std.proofs.Common.{◌≡◌, ℕ, ◌≤◌, Bool, true, false, ◌==◌, [], ◌∷◌, length, refl, sym, ap, ◌∙◌, subst, arith, Ok, Err, eqb-true, ltb-true, ltb-false}
use Rattle.std.specs.Prelude.{nat_lt}
use Rattle.bites_spec.specs.Class.{single}
use Rattle.bites_spec.specs.Pattern.{Text, Flags, skip, next_is, question, left_brace, right_brace, comma, ReadsDecimal, ReadsLazy}
use Rattle.bites_spec.specs.Operator as operator
use Rattle.bites_spec.specs.Operator.{ReadsOperator}
use Rattle.bites_spec.specs.OperatorFault as stuck
use Rattle.bites_spec.specs.OperatorFault.{StuckCount}
use Rattle.bites_spec.specs.Reader as reading
use Rattle.bites_spec.specs.Reader.{ReadResult, Bounds, and_then, decimal, lazy}
use Rattle.bites_spec.proofs.characters.EachLemmas.{skip_shorter, decimal_means, decimal_shorter}
use Rattle.bites_spec.proofs.characters.EachLemmas as each
use Rattle.bites_spec.proofs.characters.EscapeLemmas.{Means, either_side}

-- what the function returns for a lazy mark, or for none, the relation reads
pub lazy_reads : (t : Text) → ReadsLazy t (lazy t).0 (lazy t).1
lazy_reads [] = ReadsLazy.none [] [] false refl refl refl
lazy_reads (c ∷ t) =
    either_side {A = Bool × Text} (λ x. ReadsLazy (c ∷ t) x.0 x.1) (c == question) _ _ (λ b. ReadsLazy.lazy _ t true (ap (λ x. x ∷ t) (eqb-true c question b)) refl)
    (λ b. ReadsLazy.none _ _ false b refl refl)

-- what a result for an operator in braces claims of the relations, from the brace on
abbrev CountMeans : Flags → Text → ReadResult Bounds → Type 0
CountMeans flags t = Means (λ b rest. ReadsOperator flags t b.0 b.1 b.2 rest) (StuckCount flags t)

behind_max : (flags : Flags) (t next more u : Text) (min most : ℕ) → t ≡ left_brace ∷ next → ReadsDecimal flags (skip flags next) min (comma ∷ more) →
    ReadsDecimal flags (skip flags more) most u → CountMeans flags t (reading.after_max flags min most u)
behind_max flags t next more [] min most is first second = stuck.ends_after_max min most t next more [] _ is first second refl refl
behind_max flags t next more (c ∷ u) min most is first second =
    either_side (CountMeans flags t) (c == right_brace) _ _
    (λ b.
    let closed = subst (λ x. ReadsDecimal flags (skip flags more) most (x ∷ u)) (eqb-true c right_brace b) second in
    let mark = lazy_reads (skip flags u) in
    either_side (CountMeans flags t) (nat_lt most min) _ _
    (λ l. stuck.crossed min most t next more u _ _ _ is first closed mark (ltb-true most min l) refl)
    (λ l. operator.between t next more u _ min most _ _ _ is first closed (ltb-false most min l) mark refl refl))
    (λ b. stuck.strange_after_max min most c t next more u (c ∷ u) _ is first second refl b refl)

-- the maximum and what follows it
max_means : (flags : Flags) (t next more : Text) (min : ℕ) (a : ReadResult ℕ) → t ≡ left_brace ∷ next → ReadsDecimal flags (skip flags next) min (comma ∷ more) →
    next_is (single right_brace) (skip flags more) ≡ false → each.Means flags (skip flags more) a → CountMeans flags t (and_then a (reading.after_max flags min))
max_means flags t next more min (Ok x) is first open_ended means = behind_max flags t next more x.1 min x.0 is first means.0
max_means flags t next more min (Err e) is first open_ended means = stuck.in_max min t next more e.place e.message is first open_ended means

behind_comma : (n : ℕ) (flags : Flags) (t next more u : Text) (min : ℕ) → length u ≤ n → t ≡ left_brace ∷ next →
    ReadsDecimal flags (skip flags next) min (comma ∷ more) → u ≡ skip flags more → CountMeans flags t (reading.after_comma n flags min u)
behind_comma n flags t next more [] min room is first at = stuck.ends_after_comma min t next more [] _ is first (sym at) refl refl
behind_comma n flags t next more (c ∷ u) min room is first at =
    either_side (CountMeans flags t) (c == right_brace) _ _
    (λ b. operator.at_least t next more u _ min _ _ _ is first (sym at ∙ ap (λ x. x ∷ u) (eqb-true c right_brace b)) (lazy_reads (skip flags u)) refl refl)
    (λ b. max_means flags t next more min (decimal n flags (c ∷ u)) is first (ap (next_is (single right_brace)) (sym at) ∙ b)
    (subst (λ x. each.Means flags x (decimal n flags (c ∷ u))) at (decimal_means n flags (c ∷ u) room)))

behind_min : (n : ℕ) (flags : Flags) (t next u : Text) (min : ℕ) → length u ≤ n → t ≡ left_brace ∷ next →
    ReadsDecimal flags (skip flags next) min u → CountMeans flags t (reading.after_min n flags min u)
behind_min n flags t next [] min room is first = stuck.ends_after_min min t next [] _ is first refl refl
behind_min n flags t next (c ∷ u) min room is first =
    either_side (CountMeans flags t) (c == right_brace) _ _
    (λ b.
    let closed = subst (λ x. ReadsDecimal flags (skip flags next) min (x ∷ u)) (eqb-true c right_brace b) first in
    either_side (CountMeans flags t) (nat_lt min min) _ _ (λ l. absurd (omega (arith, ltb-true min min l)))
    (λ l. operator.exactly t next u _ min _ _ _ is closed (lazy_reads (skip flags u)) refl refl))
    (λ b. either_side (CountMeans flags t) (c == comma) _ _
    (λ d.
    let parted = subst (λ x. ReadsDecimal flags (skip flags next) min (x ∷ u)) (eqb-true c comma d) first in
    behind_comma n flags t next u (skip flags u) min (omega (arith, skip_shorter flags u)) is parted refl)
    (λ d. stuck.strange_after_min min c t next u (c ∷ u) _ is first refl (rw (d, b) refl) refl))

min_means : (n : ℕ) (flags : Flags) (t next : Text) (a : ReadResult ℕ) → t ≡ left_brace ∷ next → length next ≤ n → each.Means flags (skip flags next) a →
    CountMeans flags t (and_then a (reading.after_min n flags))
min_means n flags t next (Ok x) is room means =
    behind_min n flags t next x.1 x.0 (omega (arith, decimal_shorter means.0, skip_shorter flags next)) is means.0
min_means n flags t next (Err e) is room means = stuck.in_min t next e.place e.message is means

counted_by : (n : ℕ) (flags : Flags) (t next u : Text) → length next ≤ n → t ≡ left_brace ∷ next → u ≡ skip flags next → CountMeans flags t (reading.counted n flags u)
counted_by n flags t next [] room is at = stuck.ends_at_once t next [] _ is (sym at) refl refl
counted_by n flags t next (c ∷ u) room is at =
    min_means n flags t next (decimal n flags (c ∷ u)) is room
    (subst (λ x. each.Means flags x (decimal n flags (c ∷ u))) at (decimal_means n flags (c ∷ u) (omega (arith, ap length at, skip_shorter flags next))))

-- what the function returns for an operator in braces, the relations read
pub count_means : (n : ℕ) (flags : Flags) (t : Text) → length t ≤ n → CountMeans flags (left_brace ∷ t) (reading.counted n flags (skip flags t))
count_means n flags t room = counted_by n flags (left_brace ∷ t) t (skip flags t) room refl refl
