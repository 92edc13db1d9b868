-- An escaped text is read as its characters.
use Rattle.std.proofs.lemmas.Grind.{common_steps}
use Rattle.std.proofs.Common.{◌≡◌, ℕ, ◌≤◌, max, Bool, true, false, ◌==◌, ◌&&◌, ◌||◌, cond, List, [], ◌∷◌, ◌++◌, map, refl, sym, ap, ◌∙◌, subst, ⊎_elim, true≢false, arith, append_assoc, eqb-true}
use Rattle.std.specs.Prelude.{codes, IsUtf8, chars, encode_utf8_all}
use Rattle.std.specs.List.{list_all}
use Rattle.std.proofs.lemmas.List.{append-nil}
use Rattle.std.proofs.lemmas.Str.{chars-encodes}
use Rattle.std.proofs.Math.Utf8.{scalar, scalars}
use Rattle.std.proofs.lemmas.Bool.{and_parts, cases_Bool}
use Rattle.bites_spec.specs.Pattern.{Text, Front, one_of}
use Rattle.bites_spec.specs.Tree.{Tree, char, sequence_of, trees_of, groups_in, groups_in_all}
use Rattle.bites_spec.specs.Escape.{escapes_itself, character, itself}
use Rattle.bites_spec.specs.Grammar.{is_special, ReadsAtom, literal, escaped_character, atom, ReadsSequence, ends, goes_on, one, at_front}
use Rattle.bites_spec.specs.Measure.{Limits, height, tallest, program_size, open_in_sequence, count_in_sequence}
use Rattle.bites_spec.specs.Settings.{no_flags, by_default, Accepts}
use Rattle.bites_spec.specs.Escaped.{is_marked, escaped, text_tree}

-- what holds of each character of a text holds of one of them
one_passes : (p : ℕ → Bool) (text : List ℕ) (c : ℕ) → list_all p text ≡ true → one_of text c ≡ true → p c ≡ true
one_passes p [] c all is = absurd (true≢false (sym is))
one_passes p (d ∷ text) c all is =
    let both = and_parts (p d) (list_all p text) all in
    ⊎_elim (λ (e : (c == d) ≡ true). ap p (eqb-true c d e) ∙ both.0)
    (λ (e : (c == d) ≡ false). one_passes p text c both.1 (sym (ap (λ (b : Bool). b || one_of text c) e) ∙ is))
    (cases_Bool (c == d))

marked_escapes : (c : ℕ) → is_marked c ≡ true → escapes_itself c ≡ true
marked_escapes c is = one_passes escapes_itself (codes "\\.+*?()|[]{}^$#&-~") c refl is

unmarked_is_plain : (c : ℕ) → is_marked c ≡ false → is_special c ≡ false
unmarked_is_plain c not_marked = grind (arith, common_steps, true≢false, one_passes)

reads_character : (c : ℕ) (text : Text) → ReadsAtom no_flags (escaped (c ∷ text)) (char c) (escaped text)
reads_character c text = by_mark (is_marked c) refl
  where
    by_mark : (d : Bool) → is_marked c ≡ d → ReadsAtom no_flags (cond d (92 ∷ c ∷ escaped text) (c ∷ escaped text)) (char c) (escaped text)
    by_mark true e =
        escaped_character c (92 ∷ c ∷ escaped text) (escaped text) (char c)
        (itself c (92 ∷ c ∷ escaped text) (escaped text) (character c) refl (marked_escapes c e) refl) refl
    by_mark false e = literal c (c ∷ escaped text) (escaped text) (char c) refl (unmarked_is_plain c e) refl

-- before the first character and after each, the front is the same
abbrev front : Front
front = at_front no_flags

-- a reading that opens no group and counts nothing
abbrev ReadsFlat : Text → List Tree → List Tree → Type 0
ReadsFlat t nodes all = (r : ReadsSequence front t nodes all front []) × (open_in_sequence r ≡ 0) × (count_in_sequence r ≡ 0)

reads_each : (text : Text) (nodes all : List Tree) → all ≡ nodes ++ map char text → ReadsFlat (escaped text) nodes all
reads_each [] nodes all e = (ends front front [] [] nodes all refl refl (e ∙ append-nil nodes) refl, refl, refl)
reads_each (c ∷ text) nodes all e =
    let later = reads_each text (nodes ++ char c ∷ []) all (e ∙ sym (append_assoc nodes (char c ∷ []) (map char text))) in (
      goes_on front front front (escaped (c ∷ text)) (escaped text) [] nodes (nodes ++ char c ∷ []) all
          (atom front front (escaped (c ∷ text)) (escaped text) nodes (nodes ++ char c ∷ []) (char c) (reads_character c text) refl refl)
          later.0,
      ap (max 0) later.1,
      ap (max 0) later.2,
    )

flat_all : (text : Text) → (tallest (trees_of (map char text)) ≡ 0) × (groups_in_all (trees_of (map char text)) ≡ [])
flat_all [] = (refl, refl)
flat_all (c ∷ text) = let later = flat_all text in (ap (max 0) later.0, later.1)

pub escaped_is_flat : (text : Text) → (groups_in (text_tree text) ≡ []) × (height (text_tree text) ≤ 1)
unfolding text_tree
escaped_is_flat [] = (refl, omega arith)
escaped_is_flat (c ∷ []) = (refl, omega arith)
escaped_is_flat (c ∷ d ∷ text) = let flat = flat_all (c ∷ d ∷ text) in (flat.1, omega (arith, flat.0))

pub escaped_is_read : (text : Text) (nest_limit : ℕ) → height (text_tree text) ≤ nest_limit → Limits (escaped text) no_flags nest_limit (text_tree text)
unfolding text_tree
escaped_is_read text nest_limit le =
    let read = reads_each text [] (map char text) refl in
    let flat = escaped_is_flat text in
    record {
      reading = record {
        branches = sequence_of (map char text) ∷ [];
        behind = front;
        reads = one front front (escaped text) [] (map char text) (sequence_of (map char text) ∷ []) read.0 refl;
        is_choice = refl;
      };
      open_groups = omega (arith, read.1);
      low = le;
      counted_height = omega (arith, flat.1);
      group_number = omega arith;
      counts = omega (arith, read.2);
    }

-- the characters of an escaped text are scalar values if the text's are
escaped_scalars : (text : Text) → scalars text ≡ true → scalars (escaped text) ≡ true
escaped_scalars [] s = refl
escaped_scalars (c ∷ text) s = by_mark (is_marked c) (escaped_scalars text both.1)
  where
    both : (scalar c ≡ true) × (scalars text ≡ true)
    both = and_parts (scalar c) (scalars text) s

    by_mark : (d : Bool) → scalars (escaped text) ≡ true → scalars (cond d (92 ∷ c ∷ escaped text) (c ∷ escaped text)) ≡ true
    by_mark true later = ap (λ (b : Bool). b && scalars (escaped text)) both.0 ∙ later
    by_mark false later = ap (λ (b : Bool). b && scalars (escaped text)) both.0 ∙ later

-- the characters of UTF-8 are scalar values
pub chars_are_scalars : (text : List ℕ) → IsUtf8 text → scalars (chars text) ≡ true
chars_are_scalars text (cs, h) = subst (λ (l : List ℕ). scalars l ≡ true) (sym (chars-encodes cs h.0) ∙ ap chars h.1) h.0

-- decoding the UTF-8 of an escaped text gives the escaped text
pub escaped_chars : (text : List ℕ) → IsUtf8 text → chars (encode_utf8_all (escaped (chars text))) ≡ escaped (chars text)
escaped_chars text utf8 = chars-encodes (escaped (chars text)) (escaped_scalars (chars text) (chars_are_scalars text utf8))

pub escaped_is_accepted : (text : List ℕ) → IsUtf8 text → program_size (text_tree (chars text)) ≤ 10485760 →
    Accepts (by_default (encode_utf8_all (escaped (chars text)))) (text_tree (chars text))
escaped_is_accepted text utf8 light = grind (arith, common_steps, escaped_chars, escaped_is_read, escaped_is_flat)
