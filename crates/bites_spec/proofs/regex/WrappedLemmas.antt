-- A pattern p between `\A(?:` and `)\z` is read as its tree between the two anchors.
use Rattle.std.proofs.Common.{◌≡◌, ℕ, false, ◌||◌, List, [], ◌∷◌, ◌++◌, refl, sym, subst, ⊎_elim}
use Rattle.std.specs.Prelude.{codes, ◌==◌}
use Rattle.std.specs.Char.{is_whitespace}
use Rattle.std.proofs.lemmas.Bool.{cases_Bool}
use Rattle.bites_spec.specs.Look.{start, end}
use Rattle.bites_spec.specs.Tree.{Tree, look, alternation_of, sequence_of}
use Rattle.bites_spec.specs.Pattern.{Text, Flags, Front, skip, skip_blank, hash}
use Rattle.bites_spec.specs.Escape.{anchor}
use Rattle.bites_spec.specs.Group as opening
use Rattle.bites_spec.specs.Group.{unnumbered, with_flags}
use Rattle.bites_spec.specs.Grammar.{ReadsChoice, ReadsSequence, ReadsItem, one, ends, goes_on, atom, group, escaped_assertion, at_front, Reads}
use Rattle.bites_spec.specs.CallerLaws.{anchored, AnchoredIsRead}
use Rattle.bites_spec.proofs.brackets.BracketText.{skip_nil}
use Rattle.bites_spec.proofs.grammar.WholeOnce.{reads_once}

blank_stays : (c : ℕ) (t : Text) → (is_whitespace c || (c == hash)) ≡ false → skip_blank false (c ∷ t) ≡ c ∷ t
unfolding skip_blank
blank_stays c t b = rw b refl

-- no gap begins at a character that is neither white space nor a hash
skip_stays : (flags : Flags) (c : ℕ) (t : Text) → (is_whitespace c || (c == hash)) ≡ false → skip flags (c ∷ t) ≡ c ∷ t
skip_stays flags c t b = ⊎_elim (λ x. rw x (blank_stays c t b)) (λ x. rw x refl) (cases_Bool flags.ignore_whitespace)

module _ (pattern : Text) (flags : Flags) (branches : List Tree) (behind : Front)
    (reads : ReadsChoice (at_front flags) (pattern ++ codes ")\\z") branches behind (codes ")\\z")) where
  abbrev inside : Text
  inside = pattern ++ codes ")\\z"

  abbrev front : Front
  front = at_front flags

  abbrev back : Front
  back = record behind { flags = flags }

  abbrev first : List Tree
  first = look start ∷ []

  abbrev second : List Tree
  second = look start ∷ alternation_of branches ∷ []

  abbrev third : List Tree
  third = look start ∷ alternation_of branches ∷ look end ∷ []

  begins : ReadsItem front (codes "\\A(?:" ++ inside) [] first front (codes "(?:" ++ inside)
  begins =
      atom front front (codes "\\A(?:" ++ inside) (codes "(?:" ++ inside) [] first (look start)
      (escaped_assertion start (codes "\\A(?:" ++ inside) (codes "(?:" ++ inside) (look start)
      (anchor 65 start (codes "\\A(?:" ++ inside) (codes "(?:" ++ inside) _ refl refl refl) refl) refl refl

  wraps : ReadsItem front (codes "(?:" ++ inside) first second back (codes "\\z")
  wraps =
      group front front behind back (codes "(?:" ++ inside) inside (codes "\\z") first second branches unnumbered
      (with_flags (codes "(?:" ++ inside) (codes "?:" ++ inside) (codes ":" ++ inside) [] inside unnumbered front
      refl (skip_stays flags 63 (codes ":" ++ inside) refl) (opening.flags (codes ":" ++ inside) [] (codes ":" ++ inside) refl refl refl) refl refl)
      reads refl refl

  closes : ReadsItem back (codes "\\z") second third back []
  closes =
      atom back back (codes "\\z") [] second third (look end)
      (escaped_assertion end (codes "\\z") [] (look end) (anchor 122 end (codes "\\z") [] _ refl refl refl) refl) refl refl

  all : ReadsSequence front (codes "\\A(?:" ++ inside) [] third back []
  all =
      goes_on front front back (codes "\\A(?:" ++ inside) (codes "(?:" ++ inside) [] [] first third
      (subst (λ (t : Text). ReadsItem front t [] first front (codes "(?:" ++ inside)) (sym (skip_stays flags 92 (codes "A(?:" ++ inside) refl)) begins)
      (goes_on front back back (codes "(?:" ++ inside) (codes "\\z") [] first second third
      (subst (λ (t : Text). ReadsItem front t first second back (codes "\\z")) (sym (skip_stays flags 40 (codes "?:" ++ inside) refl)) wraps)
      (goes_on back back back (codes "\\z") [] [] second third third
      (subst (λ (t : Text). ReadsItem back t second third back []) (sym (skip_stays flags 92 (codes "z") refl)) closes)
      (ends back back [] [] third third (sym (skip_nil flags)) refl refl refl)))

  pub wrapped : Reads (codes "\\A(?:" ++ inside) flags (anchored (alternation_of branches))
  wrapped = record {
    branches = sequence_of third ∷ [];
    behind = back;
    reads = one front back (codes "\\A(?:" ++ inside) [] third (sequence_of third ∷ []) all refl;
    is_choice = refl;
  }

pub anchored_is_read : AnchoredIsRead
anchored_is_read pattern flags branches behind reads =
    let reading = wrapped pattern flags branches behind reads in
    (reading, λ u other. reads_once (codes "\\A(?:" ++ pattern ++ codes ")\\z") flags u (anchored (alternation_of branches)) other reading)
