-- The characters of a text, one after another.
use Rattle.std.proofs.Common.{◌≡◌, ◌≤◌, ◌<◌, ◌+◌, ℕ, zero, suc, Bool, true, false, ◌||◌, ◌==◌, [], ◌∷◌, ◌++◌, List, length, drop, get_or, ap, sym, ◌∙◌, refl, arith, add-one, eqb-true, eq-eqb}
use Rattle.std.specs.Prelude.{not, if◌then◌else◌}
use Rattle.std.specs.Str.{chars, is_utf8}
use Rattle.std.specs.Char.{encode_utf8, is_whitespace}
use Rattle.std.proofs.lemmas.Str.{chars_past_char, IsUtf8-from_is_utf8}
use Rattle.std.proofs.Math.Seq.{drop-cons}
use Rattle.std.proofs.lemmas.Bool.{false≢true}
use Rattle.bites_spec.specs.Class.{Set, single}
use Rattle.bites_spec.specs.Pattern.{Text, Flags, begins, next_is, skip, skip_blank, skip_white, hash, line_feed}
use Rattle.bites_spec.specs.Reader.{each, choose}
use Rattle.bites_spec.proofs.characters.EachLemmas.{skip_shorter}
use Rattle.bites_syntax.specs.Steps.{each_of}

-- the first character comes off
pub chars_bumped : (bytes rest : List ℕ) (c : ℕ) → is_utf8 bytes ≡ true → bytes ≡ encode_utf8 c ++ rest → chars bytes ≡ c ∷ chars rest
chars_bumped bytes rest c is e = chars_past_char bytes rest c (IsUtf8-from_is_utf8 bytes is) e

-- the character that comes next, and the text after it
pub peeked : (t u : Text) (c : ℕ) → t ≡ c ∷ drop 1 t → u ≡ drop 1 t → t ≡ c ∷ u
peeked t u c at rest = at ∙ ap (λ x. c ∷ x) (sym rest)

-- a text that begins with a character, seen after that character
pub begins_behind : (text t u : Text) (b : ℕ) → next_is (single b) t ≡ true → u ≡ drop 1 t → begins (b ∷ text) t ≡ begins text u
begins_behind text [] u b found rest = absurd (false≢true found)
begins_behind text (d ∷ t) u b found rest = rw (eqb-true d b found, eq-eqb b b refl, rest) refl

-- one more character of the text is there
pub begins_more : (text t u start : Text) (i : ℕ) → i < length text → next_is (single (get_or text i 0)) t ≡ true → u ≡ drop 1 t →
    begins (drop i text) t ≡ begins text start → begins (drop (i + 1) text) u ≡ begins text start
begins_more text t u start i below found rest so_far =
    rw add-one (sym (begins_behind (drop (suc i) text) t u (get_or text i 0) found rest) ∙ rw (← drop-cons text i 0 below) so_far)

-- the text after one more character
pub drop_more : (t u : Text) (i : ℕ) → u ≡ drop 1 t → (start : Text) → t ≡ drop i start → u ≡ drop (i + 1) start
drop_more t u i rest start at = rest ∙ ap (drop 1) at ∙ rw add-one (drop_one start i)
  where
    drop_one : (s : Text) (i : ℕ) → drop 1 (drop i s) ≡ drop (suc i) s
    drop_one [] zero = refl
    drop_one [] (suc i) = refl
    drop_one (c ∷ s) zero = refl
    drop_one (c ∷ s) (suc i) = drop_one s i

-- white space or a part of a comment is passed over
pub skip_blank_more : (inside : Bool) (t u : Text) (c : ℕ) → t ≡ c ∷ u → (inside || is_whitespace c || (c == hash)) ≡ true →
    skip_blank inside t ≡ skip_blank (if inside then not (c == line_feed) else c == hash) u
unfolding skip_blank
skip_blank_more inside t u c at passes = rw at (rw passes refl)

-- another character is not
pub skip_blank_stops : (inside : Bool) (t u : Text) (c : ℕ) → t ≡ c ∷ u → (inside || is_whitespace c || (c == hash)) ≡ false → skip_blank inside t ≡ t
unfolding skip_blank
skip_blank_stops inside t u c at passes = rw at (rw passes refl)

-- nothing is left to pass over
pub skip_blank-nil : (inside : Bool) (t : Text) → t ≡ [] → skip_blank inside t ≡ t
unfolding skip_blank
skip_blank-nil inside t at = rw at refl

pub skip_white_more : (t u : Text) (c : ℕ) → t ≡ c ∷ u → is_whitespace c ≡ true → skip_white t ≡ skip_white u
unfolding skip_white
skip_white_more t u c at passes = rw at (rw passes refl)

pub skip_white_stops : (t u : Text) (c : ℕ) → t ≡ c ∷ u → is_whitespace c ≡ false → skip_white t ≡ t
unfolding skip_white
skip_white_stops t u c at passes = rw at (rw passes refl)

pub skip_white-nil : (t : Text) → t ≡ [] → skip_white t ≡ t
unfolding skip_white
skip_white-nil t at = rw at refl

each_enough : (n m : ℕ) (flags : Flags) (set : Set) (t : Text) → length t ≤ n → length t ≤ m → each n flags set t ≡ each m flags set t
each_enough zero zero flags set t room other = refl
each_enough zero (suc m) flags set [] room other = refl
each_enough zero (suc m) flags set (c ∷ t) room other = absurd (omega arith)
each_enough (suc n) zero flags set [] room other = refl
each_enough (suc n) zero flags set (c ∷ t) room other = absurd (omega arith)
each_enough (suc n) (suc m) flags set [] room other = refl
each_enough (suc n) (suc m) flags set (c ∷ t) room other =
    ap (λ r. choose (set c) (λ _. (c ∷ r.0, r.1)) (λ _. ([], c ∷ t)))
    (each_enough n m flags set (skip flags t) (omega (arith, skip_shorter flags t)) (omega (arith, skip_shorter flags t)))

-- any number of steps that is enough for the text gives the same run
pub each_by : (n : ℕ) (flags : Flags) (set : Set) (t : Text) → length t ≤ n → each n flags set t ≡ each_of flags set t
unfolding each_of
each_by n flags set t room = each_enough n (length t) flags set t room (omega arith)

-- a character of the set begins the run
pub each_more : (flags : Flags) (set : Set) (t u : Text) (c : ℕ) → t ≡ c ∷ u → set c ≡ true →
    each_of flags set t ≡ (c ∷ (each_of flags set (skip flags u)).0, (each_of flags set (skip flags u)).1)
each_more flags set t u c at passes =
    sym (each_by (suc (length u)) flags set t (omega (arith, ap length at)))
    ∙ rw at (rw (passes, each_by (length u) flags set (skip flags u) (skip_shorter flags u)) refl)

-- another character, or the end, ends it
pub each_ends : (flags : Flags) (set : Set) (t : Text) → next_is set t ≡ false → each_of flags set t ≡ ([], t)
unfolding each_of
each_ends flags set [] none = refl
each_ends flags set (c ∷ t) none = rw none refl
