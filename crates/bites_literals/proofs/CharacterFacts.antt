-- Facts of one character: of a letter of ASCII, and of any class.
use Rattle.std.proofs.Common.{◌≡◌, ℕ, zero, suc, ◌+◌, ◌<◌, ◌≤◌, Bool, true, false, List, [], ◌∷◌, length, get_or, Some, sym, ap, ◌∙◌, subst, inl, inr, arith, eqb-true, true≢false}
use Rattle.std.specs.Prelude.{◌==◌}
use Rattle.std.proofs.lemmas.Bool.{cases_lt}
use Rattle.bites_spec.specs.Utf8.{piece, character}
use Rattle.bites_spec.specs.Match.{Takes}
use Rattle.bites_spec.proofs.utf8.PieceLemmas.{piece_none, piece_some}
use Rattle.bites_scan.specs.Literal.{folding}
use Rattle.bites_literals.specs.declared.ascii.AsciiSet.{AsciiSet}
use Rattle.bites_literals.specs.declared.facts.Facts.{Facts}
use Rattle.bites_literals.specs.declared.text.Text.{Text}
use Rattle.bites_literals.specs.Ascii.{Has}
use Rattle.bites_literals.specs.Facts.{IsMost, HoldsOnly, IsHeld, IsOneByte, IsWithoutText, AreFactsOf}
use Rattle.bites_literals.specs.Texts.{EndsWith, Stands, bytes_of}
use Rattle.bites_spec.proofs.utf8.AsciiPieces.{ascii_character, ascii_byte, piece_short}
use Rattle.bites_literals.proofs.FactLemmas.{ends_nowhere, facts_without_text}

-- a character that is taken is one byte, if all that hold are ASCII
module _ (holds : ℕ → Bool) (ascii : (c : ℕ) → holds c ≡ true → c < 128) (hay : List ℕ) (i : ℕ) where
  pub takes_byte : (j : ℕ) → Takes hay holds i j → (i < length hay) × (holds (get_or hay i 0) ≡ true) × (j ≡ i + 1)
  takes_byte j (some, test, over) =
      let is = ascii_character hay i some (ascii (character (piece hay i)) test) in
      (is.within, ap holds is.byte ∙ test, omega (arith, is.one, over))

  pub byte_takes : i < length hay → holds (get_or hay i 0) ≡ true → Takes hay holds i (i + 1)
  byte_takes within test =
      let some = piece_some hay i within in
      let byte = ascii_byte hay i i (omega (arith, within)) (omega arith) (omega (arith, some)) (ascii (get_or hay i 0) test) in
      (some, ap holds byte.character_is ∙ test, omega (arith, byte.one))

module _ (p : ℕ → Bool) where
  abbrev pub OneOf : List ℕ → ℕ → ℕ → Type 0
  OneOf hay i j = Takes hay p i j

  one_onward : (hay : List ℕ) (i j : ℕ) → OneOf hay i j → i ≤ j
  one_onward hay i j (some, test, end) = omega (arith, end)

  starts_within : (hay : List ℕ) (i : ℕ) → 0 < (piece hay i).len → i ≤ length hay
  starts_within hay i some =
      elim (cases_lt (length hay) i) [
        | inl past ↦ let none = piece_none hay i (omega (arith, past)) in absurd (omega (arith, some, none))
        | inr le ↦ le
      ]

  abbrev pub HasEach : AsciiSet → Type 0
  HasEach set = (c : ℕ) → c < 128 → p c ≡ true → Has set c

  one_ascii : (set : AsciiSet) → HasEach set → HoldsOnly OneOf set
  one_ascii set has hay i j (some, test, end) k a b low =
      let is = ascii_byte hay i k (starts_within hay i some) a (omega (arith, end)) low in
      has (get_or hay k 0) low (ap p (sym is.character_is) ∙ test)

  -- any character
  pub character_facts : (set : AsciiSet) (r : Facts) → HasEach set → IsWithoutText (Some 4) false set r → AreFactsOf OneOf r
  character_facts set r ascii is =
      facts_without_text OneOf (Some 4) false set r is one_onward (λ hay i j (some, test, end). omega (arith, piece_short hay i, end)) (λ e. absurd (true≢false (sym e))) (one_ascii set ascii)

  -- a character of ASCII
  pub ascii_facts : ((c : ℕ) → p c ≡ true → c < 128) → (set : AsciiSet) (r : Facts) → HasEach set → IsWithoutText (Some 1) false set r → AreFactsOf OneOf r
  ascii_facts low set r ascii is =
      facts_without_text OneOf (Some 1) false set r is one_onward
      (λ hay i j (some, test, end). omega (arith, (ascii_character hay i some (low (character (piece hay i)) test)).one, end)) (λ e. absurd (true≢false (sym e))) (one_ascii set ascii)

  -- a letter
  module _ (letter : ℕ) (caseless : Bool) (is : (c : ℕ) → p c ≡ true → (c < 128) × (folding caseless c ≡ folding caseless letter))
      (both : (c : ℕ) → folding caseless c ≡ folding caseless letter → p c ≡ true) where
    letter_stands : (hay : List ℕ) (i j : ℕ) → OneOf hay i j → Stands caseless (letter ∷ []) hay i × (j ≡ i + 1)
    letter_stands hay i j takes =
        let byte = takes_byte p (λ c e. (is c e).0) hay i j takes in
        (at byte.0 (is (get_or hay i 0) byte.1).1, byte.2)
      where
        at : i < length hay → folding caseless (get_or hay i 0) ≡ folding caseless letter → Stands caseless (letter ∷ []) hay i
        at within e zero h = let same : i ≡ i + 0 = omega arith in (omega arith, ap (λ k. folding caseless (get_or hay k 0)) (sym same) ∙ e)
        at within e (suc k) h = absurd (omega arith)

    -- where the letter stands, such a character is taken
    letter_is : (hay : List ℕ) (i : ℕ) → Stands caseless (letter ∷ []) hay i → OneOf hay i (i + 1)
    letter_is hay i s =
        let one = s 0 (omega arith) in
        let here : i + 0 ≡ i = omega arith in
        let within : i < length hay = subst (λ k. k < length hay) here one.0 in
        let test = both (get_or hay i 0) (ap (λ k. folding caseless (get_or hay k 0)) (sym here) ∙ one.1) in
        byte_takes p (λ c e. (is c e).0) hay i within test

    pub letter_facts : (text : Text) (set : AsciiSet) (r : Facts) → HasEach set → bytes_of text ≡ letter ∷ [] → text.caseless ≡ caseless → IsOneByte text set r → AreFactsOf OneOf r
    letter_facts text set r ascii bytes case is_one = record {
      onward = one_onward;
      most = subst (IsMost OneOf) (sym is_one.most) (λ hay i j m. omega (arith, (letter_stands hay i j m).1));
      ends = ends_nowhere OneOf r.ends is_one.ends;
      ascii = subst (HoldsOnly OneOf) (sym is_one.ascii) (one_ascii set ascii);
      front = λ hay i j m. (stands hay i j m, omega (arith, ap length front, (letter_stands hay i j m).1));
      whole = λ e hay i j m. omega (arith, ap length front, (letter_stands hay i j m).1);
      exact = λ e hay i s.
          subst (OneOf hay i) (ap (λ xs. i + length xs) (sym front))
          (letter_is hay i (subst (λ b. Stands b (letter ∷ []) hay i) same (subst (λ (l : List ℕ). Stands r.front.caseless l hay i) front s)));
      back = λ hay i j m. subst (λ (t : Text). EndsWith t.caseless (bytes_of t) hay i j) (is_one.front ∙ sym is_one.back) (record {
        at = i;
        onward = omega arith;
        end = omega (arith, ap length front, (letter_stands hay i j m).1);
        stands = stands hay i j m;
      });
      needed = subst (IsHeld OneOf) (sym is_one.needed) tt;
    }
      where
        front : bytes_of r.front ≡ letter ∷ []
        front = ap bytes_of is_one.front ∙ bytes

        same : r.front.caseless ≡ caseless
        same = ap (λ (t : Text). t.caseless) is_one.front ∙ case

        stands : (hay : List ℕ) (i j : ℕ) → OneOf hay i j → Stands r.front.caseless (bytes_of r.front) hay i
        stands hay i j m =
            subst (λ b. Stands b (bytes_of r.front) hay i) (sym same) (subst (λ (l : List ℕ). Stands caseless l hay i) (sym front) (letter_stands hay i j m).0)

-- a character that is asked for
pub is_this : (c d : ℕ) → (d == c) ≡ true → d ≡ c
is_this c d e = eqb-true d c e
