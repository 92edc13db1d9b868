-- Names of groups.
use Rattle.std.proofs.Common.{◌≡◌, Ok, drop, ℕ, Bool, true, false, cond, ◌&&◌, ◌||◌, ◌==◌, List, [], ◌∷◌, ◌++◌, length, refl, sym, ap, ◌∙◌, Some, arith, eqb-true, append-nil}
use Rattle.std.specs.Prelude.{String, encode_utf8_all, string_bytes, string_len}
use Rattle.std.specs.List.{list_all}
use Rattle.std.specs.BTreeSet.{contains_text}
use Rattle.std.specs.Char.{encode_utf8}
use Rattle.std.specs.Str.{chars, IsUtf8}
use Rattle.std.proofs.lemmas.Bool.{false≢true, and_parts}
use Rattle.std.proofs.lemmas.Str.{chars-nil, chars_from_encodes, encodes-append, encodes-chars, IsUtf8-string_bytes}
use Rattle.bites_spec.specs.Class.{Set, single}
use Rattle.bites_spec.specs.Group.{is_used, is_name_front, is_name_start, is_name_part}
use Rattle.bites_spec.specs.Message as message
use Rattle.bites_spec.specs.Pattern.{Text, next_is, right_angle}
use Rattle.bites_spec.specs.Reader.{name_from, name_end, name_unclosed, stop}
use Rattle.bites_text.specs.Messages.{error_of}
use Rattle.bites_text.specs.declared.error.Error.TheVariants.{MissingName, UnclosedName, EmptyName, DuplicateName}
use Rattle.bites_syntax.specs.declared.group_names.Names.{Names}
use Rattle.bites_syntax.specs.Groups.{AreNames}
use Rattle.bites_syntax.specs.Parts.{fault_at, fault_in}

-- a text of no byte has no character
pub chars_none : (bytes : Text) → (length bytes == 0) ≡ true → chars bytes ≡ []
chars_none [] none = chars-nil
chars_none (b ∷ bytes) none = absurd (omega (arith, eqb-true (length (b ∷ bytes)) 0 none))

-- a text of some bytes has some
pub chars_some : (bytes : Text) → IsUtf8 bytes → (length bytes == 0) ≡ false → chars bytes ≡ [] → ⊥
chars_some [] utf8 some none = false≢true (sym some)
chars_some (b ∷ bytes) utf8 some none = let e : [] ≡ b ∷ bytes = sym (ap encode_utf8_all none) ∙ encodes-chars (b ∷ bytes) utf8 in cc

unclosed_by : (name : Text) → (name ≡ [] → ⊥) → UnclosedName ≡ error_of (name_unclosed name)
unclosed_by [] some = absurd (some refl)
unclosed_by (c ∷ name) some = refl

pub unclosed_none : (bytes : Text) → (length bytes == 0) ≡ true → MissingName ≡ error_of (name_unclosed (chars bytes))
unclosed_none bytes none = rw (chars_none bytes none) refl

pub unclosed_some : (bytes : Text) → IsUtf8 bytes → (length bytes == 0) ≡ false → UnclosedName ≡ error_of (name_unclosed (chars bytes))
unclosed_some bytes utf8 some = unclosed_by (chars bytes) (chars_some bytes utf8 some)

with_true : (b : Bool) → (b && true) ≡ b
with_true true = refl
with_true false = refl

module _ (first part : Set) where
  abbrev front : Text → Bool
  front [] = true
  front (c ∷ name) = first c && list_all part name

  all_push : (name : Text) (c : ℕ) → list_all part name ≡ true → list_all part (name ++ c ∷ []) ≡ part c
  all_push [] c all = with_true (part c)
  all_push (d ∷ name) c all =
      let both = and_parts (part d) (list_all part name) all in
      rw both.0 (all_push name c both.1)

  front_first : (name : Text) (c : ℕ) → name ≡ [] → front (name ++ c ∷ []) ≡ first c
  front_first name c none = rw none (with_true (first c))

  front_push : (name : Text) (c : ℕ) → (name ≡ [] → ⊥) → front name ≡ true → front (name ++ c ∷ []) ≡ part c
  front_push [] c some is = absurd (some refl)
  front_push (d ∷ name) c some is =
      let both = and_parts (first d) (list_all part name) is in
      rw both.0 (all_push name c both.1)

-- the first character of a name
pub may_begin : (bytes : Text) (c : ℕ) → (length bytes == 0) ≡ true → is_name_start c ≡ is_name_front (chars bytes ++ c ∷ [])
may_begin bytes c none = sym (front_first is_name_start is_name_part (chars bytes) c (chars_none bytes none))

-- another character
pub may_go_on : (bytes : Text) (c : ℕ) → IsUtf8 bytes → (length bytes == 0) ≡ false → is_name_front (chars bytes) ≡ true →
    is_name_part c ≡ is_name_front (chars bytes ++ c ∷ [])
may_go_on bytes c utf8 some is = sym (front_push is_name_start is_name_part (chars bytes) c (chars_some bytes utf8 some) is)

-- a character after a text
pub chars_push : {Z : Type 0} (old new : String Z) (c : ℕ) → string_bytes new ≡ string_bytes old ++ encode_utf8 c → chars (string_bytes new) ≡ chars (string_bytes old) ++ c ∷ []
chars_push old new c pushed =
    sym (chars_from_encodes (chars (string_bytes old) ++ c ∷ []) (string_bytes new) (IsUtf8-string_bytes new)
    (encodes-append (chars (string_bytes old)) (c ∷ []) ∙ sym (pushed ∙ rw (encodes-chars (string_bytes old) (IsUtf8-string_bytes old), append-nil) refl)))

-- the name goes on
pub name_from_more : (names : List Text) (name t u : Text) (c : ℕ) → t ≡ c ∷ u → (c == right_angle) ≡ false → is_name_front (name ++ c ∷ []) ≡ true →
    name_from names name t ≡ name_from names (name ++ c ∷ []) u
name_from_more names name t u c at other is = rw at (rw other (rw is refl))

pub or_is_cond : (b x : Bool) → cond b true x ≡ (b || x)
or_is_cond true x = refl
or_is_cond false x = refl

-- the closing bracket of a name stands after its characters
closed : (t : Text) → next_is (single right_angle) t ≡ true → t ≡ right_angle ∷ drop 1 t
closed [] is = absurd (false≢true is)
closed (c ∷ t) is = ap (λ x. x ∷ t) (eqb-true c right_angle is)

pub name_empty : (all : List Text) (start t bytes : Text) → name_from all [] start ≡ name_from all (chars bytes) t → next_is (single right_angle) t ≡ true →
    (length bytes == 0) ≡ true → fault_in (name_from all [] start) ≡ Some (fault_at EmptyName t)
name_empty all start t bytes so_far is none = rw (so_far, chars_none bytes none, closed t is) refl

ends_used : (all : List Text) (name at t : Text) → (name ≡ [] → ⊥) → is_used all name ≡ true → name_end all name at t ≡ stop message.duplicate_name t
ends_used all [] at t some used = absurd (some refl)
ends_used all (c ∷ name) at t some used = rw used refl

ends_new : (all : List Text) (name at t : Text) → (name ≡ [] → ⊥) → is_used all name ≡ false → name_end all name at t ≡ Ok (name, t)
ends_new all [] at t some used = absurd (some refl)
ends_new all (c ∷ name) at t some used = rw used refl

at_close : (all : List Text) (name t : Text) → t ≡ right_angle ∷ drop 1 t → name_from all name t ≡ name_end all name t (drop 1 t)
at_close all name t is = let e : name_from all name (right_angle ∷ drop 1 t) ≡ name_end all name (right_angle ∷ drop 1 t) (drop 1 t) = refl in
    ap (name_from all name) is ∙ e ∙ ap (λ x. name_end all name x (drop 1 t)) (sym is)

-- whether a text is used, by its bytes
used_by : (names : Names) (all : List Text) (bytes : Text) (b : Bool) → IsUtf8 bytes → AreNames names all → b ≡ contains_text names.texts bytes → is_used all (chars bytes) ≡ b
used_by names all bytes b utf8 are found = sym (are (chars bytes)) ∙ rw encodes-chars (sym found)

pub name_taken : (names : Names) (all : List Text) (start t bytes : Text) → AreNames names all → name_from all [] start ≡ name_from all (chars bytes) t → next_is (single right_angle) t ≡ true →
    IsUtf8 bytes → (length bytes == 0) ≡ false → true ≡ contains_text names.texts bytes → fault_in (name_from all [] start) ≡ Some (fault_at DuplicateName (drop 1 t))
name_taken names all start t bytes are so_far is utf8 some found =
    ap fault_in (so_far ∙ at_close all (chars bytes) t (closed t is)
    ∙ ends_used all (chars bytes) t (drop 1 t) (chars_some bytes utf8 some) (used_by names all bytes true utf8 are found))

pub name_new : (names : Names) (all : List Text) (start t u bytes : Text) → AreNames names all → name_from all [] start ≡ name_from all (chars bytes) t → next_is (single right_angle) t ≡ true →
    IsUtf8 bytes → (length bytes == 0) ≡ false → false ≡ contains_text names.texts bytes → u ≡ drop 1 t → name_from all [] start ≡ Ok (chars bytes, u)
name_new names all start t u bytes are so_far is utf8 some found rest =
    so_far ∙ at_close all (chars bytes) t (closed t is)
    ∙ ends_new all (chars bytes) t (drop 1 t) (chars_some bytes utf8 some) (used_by names all bytes false utf8 are found) ∙ ap (λ x. Ok (chars bytes, x)) (sym rest)

-- whether a string is empty, by its bytes
pub no_bytes : {Z : Type 0} (s : String Z) (b : Bool) → b ≡ (string_len s == 0) → (length (string_bytes s) == 0) ≡ b
no_bytes s b is = ap (λ n. n == 0) (same s) ∙ sym is
  where
    same : {Z : Type 0} (s : String Z) → length (string_bytes s) ≡ string_len s
    same s = omega (arith, s.bytes.ok.0)
