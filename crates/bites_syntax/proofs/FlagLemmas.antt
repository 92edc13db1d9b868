-- Runs of flags.
use Rattle.std.proofs.Common.{◌≡◌, ◌+◌, ℕ, Bool, true, false, ◌==◌, [], ◌∷◌, ◌++◌, refl, sym, ◌∙◌, Some, eqb-true, eq-eqb, inl, inr, ◌⊎◌, ⊎_elim}
use Rattle.std.specs.Prelude.{codes, if◌then◌else◌}
use Rattle.std.specs.List.{list_any}
use Rattle.std.proofs.lemmas.Bool.{false≢true}
use Rattle.bites_spec.specs.Message as message
use Rattle.bites_spec.specs.Pattern.{Text, Front, dash, one_of}
use Rattle.bites_spec.specs.Group.{is_flag_mark}
use Rattle.bites_spec.specs.Reader.{flags_from, stop}
use Rattle.bites_text.specs.Messages.{error_of}
use Rattle.bites_text.specs.declared.error.Error.{Error}
use Rattle.bites_text.specs.declared.error.Error.TheVariants.{RepeatedNegation, DuplicateFlag}
use Rattle.bites_syntax.specs.Parts.{fault_at, fault_in}

-- the run goes on
pub flags_from_more : (front : Front) (run t u : Text) (c : ℕ) → t ≡ c ∷ u → one_of (codes ":)") c ≡ false → is_flag_mark c ≡ true → one_of run c ≡ false →
    flags_from front run t ≡ flags_from front (run ++ c ∷ []) u
flags_from_more front run t u c at goes_on mark new = rw at (rw goes_on (rw mark (rw new refl)))

pub flags_from_again : (front : Front) (run t u : Text) (c : ℕ) → t ≡ c ∷ u → one_of (codes ":)") c ≡ false → is_flag_mark c ≡ true → one_of run c ≡ true →
    flags_from front run t ≡ stop (if c == dash then message.repeated_negation else message.duplicate_flag) (c ∷ u)
flags_from_again front run t u c at goes_on mark again = rw at (rw goes_on (rw mark (rw again refl)))

same_test : (a b : ℕ) → (a == b) ≡ (b == a)
same_test a b = ⊎_elim (λ e. e ∙ sym (eq-eqb b a (sym (eqb-true a b e)))) (λ e. ⊎_elim (λ f. absurd (false≢true (sym e ∙ eq-eqb a b (sym (eqb-true b a f))))) (λ f. e ∙ sym f) (either (b == a))) (either (a == b))
  where
    either : (x : Bool) → (x ≡ true) ⊎ (x ≡ false)
    either true = inl refl
    either false = inr refl

-- whether a mark stands in the run, by the test from either side
pub contains_one_of : (run : Text) (c : ℕ) → list_any (λ y. y == c) run ≡ one_of run c
contains_one_of [] c = refl
contains_one_of (d ∷ run) c = rw (same_test d c, contains_one_of run c) refl

-- a mark that stands a second time
pub repeated_fault : (front : Front) (run t u start : Text) (c : ℕ) (e : Error) → flags_from front [] start ≡ flags_from front run t → t ≡ c ∷ u → one_of (codes ":)") c ≡ false →
    is_flag_mark c ≡ true → one_of run c ≡ true → e ≡ (if c == dash then RepeatedNegation else DuplicateFlag) → fault_in (flags_from front [] start) ≡ Some (fault_at e t)
repeated_fault front run t u start c e so_far at goes_on mark again is =
    rw (so_far, flags_from_again front run t u c at goes_on mark again, is, at) (by_dash (c == dash))
  where
    by_dash : (b : Bool) → Some (fault_at (error_of (if b then message.repeated_negation else message.duplicate_flag)) (c ∷ u)) ≡ Some (fault_at (if b then RepeatedNegation else DuplicateFlag) (c ∷ u))
    by_dash true = refl
    by_dash false = refl
