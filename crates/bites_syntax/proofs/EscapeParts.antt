-- Escapes, part by part.
use Rattle.std.proofs.Common.{◌≡◌, ◌≤◌, ◌<◌, ◌++◌, ℕ, true, [], ◌∷◌, List, length, drop, Some, None, refl, sym, ap, ◌∙◌, arith, append_assoc}
use Rattle.std.proofs.lemmas.Bool.{false≢true}
use Rattle.std.proofs.lemmas.Bool.Decides.{nat_tests}
use Rattle.bites_spec.specs.Class.{Set, single}
use Rattle.bites_spec.specs.Escape.{assertion_of, characters, class_of, control_of, is_boundary_letter}
use Rattle.bites_spec.specs.Pattern.{Text, Flags, next_is, skip, left_brace}
use Rattle.bites_spec.specs.Reader.{boundary, boundary_name, escape, meaning_of}
use Rattle.bites_spec.proofs.characters.EachLemmas.{skip_shorter}
use Rattle.bites_syntax.specs.Steps.{each_of}
use Rattle.bites_syntax.proofs.CursorLemmas.{each_by, each_more}

-- the meaning of a character that stands for a class
pub meaning_class : (c : ℕ) (set : Set) → control_of c ≡ None → assertion_of c ≡ None → class_of c ≡ Some set → meaning_of c ≡ Some (characters set)
meaning_class c set no_control no_look is = rw (no_control, no_look, is) refl

-- the letters of names are of ASCII
pub letter_small : (c : ℕ) → is_boundary_letter c ≡ true → c < 128
letter_small c is = grind (arith, nat_tests)

-- one more character of a run, after those that came before it
pub run_more : (flags : Flags) (set : Set) (t u : Text) (c : ℕ) (before bytes behind whole : List ℕ) → set c ≡ true → t ≡ c ∷ drop 1 t → u ≡ skip flags (drop 1 t) →
    behind ≡ before ++ bytes → bytes ≡ c ∷ [] → before ++ (each_of flags set t).0 ≡ whole → behind ++ (each_of flags set u).0 ≡ whole
run_more flags set t u c before bytes behind whole has at rest is one so_far =
    let first : (each_of flags set t).0 ≡ c ∷ (each_of flags set u).0 = ap (λ r. r.0) (each_more flags set t (drop 1 t) c at has) ∙ rw rest refl in
    rw (is, one) (append_assoc before (c ∷ []) (each_of flags set u).0 ∙ ap (λ x. before ++ x) (sym first) ∙ so_far)

-- the name of a boundary is read, with any number of steps
pub boundary_spelled : (n : ℕ) (flags : Flags) (t w v : Text) (c : ℕ) → length t ≤ n → next_is (single left_brace) t ≡ true → w ≡ skip flags (drop 1 t) → w ≡ c ∷ v →
    is_boundary_letter c ≡ true →
    boundary n flags t ≡ boundary_name (each_of flags is_boundary_letter w).0 (each_of flags is_boundary_letter w).1
boundary_spelled n flags [] w v c room brace gap at letter = absurd (false≢true brace)
boundary_spelled n flags (d ∷ t) w v c room brace gap at letter =
    let enough : length (c ∷ v) ≤ n = omega (arith, room, ap length (sym gap ∙ at), skip_shorter flags t) in
    rw (brace, sym gap ∙ at) (rw letter (ap (λ r. boundary_name r.0 r.1) (each_by n flags is_boundary_letter (c ∷ v) enough) ∙ rw at refl))

-- a word boundary begins
pub escape_boundary : (n : ℕ) (flags : Flags) (t u : Text) (c : ℕ) → t ≡ c ∷ u → c ≡ 98 → escape n flags t ≡ boundary n flags u
escape_boundary n flags t u c at is = rw (at, is) refl
