-- What a template gives for the matches of a haystack.
use Rattle.std.proofs.Common.{◌≡◌, ℕ, Bool, true, false, List, [], ◌∷◌, map, refl, sym, ap, ap₂, ◌∙◌}
use Rattle.std.specs.Prelude.{not, ◌==◌}
use Rattle.std.proofs.lemmas.Bool.{and_parts, eq-eqb}
use Rattle.bites_spec.specs.Code.{code}
use Rattle.bites_spec.specs.Pieces.{limited, replaced}
use Rattle.bites_spec.specs.Regex.{Regex}
use Rattle.bites_spec.specs.Captured.{Captured}
use Rattle.bites_spec.specs.Iteration.{captures_in}
use Rattle.bites_spec.specs.Template.{byte, plain, expansion}
use Rattle.bites_spec.specs.Replaced.{span_in}
use Rattle.bites_spec.specs.Replacer.{expanded, is_plain}
use Rattle.bites_spec.proofs.templates.TemplateLemmas.{expansion_front, expansion_end}
use Rattle.bites_c.specs.Replaced.{with_template, with_text}

-- a plain template stands for itself
plain_stands : (names : _) (slots : _) (hay text : List ℕ) → is_plain text ≡ true →
    expansion false 0xFFFF_FFFF_FFFF_FFFF names slots text ≡ text
plain_stands names slots hay [] e = expansion_end false 0xFFFF_FFFF_FFFF_FFFF names slots
plain_stands names slots hay (b ∷ text) e =
    let parts = and_parts (not (b == code "$")) (is_plain text) e in
    expansion_front false 0xFFFF_FFFF_FFFF_FFFF names slots (b ∷ text) text (byte b ∷ [])
    (λ ps cuts. plain b text ps (λ same. other (b == code "$") (eq-eqb b (code "$") same) parts.0) cuts)
    ∙ ap (λ xs. b ∷ xs) (plain_stands names slots hay text parts.1)
  where
    other : (x : Bool) → x ≡ true → not x ≡ true → ⊥
    other true h k = cc
    other false h k = cc

same_text : (text : List ℕ) (cs : List Captured) → is_plain text ≡ true → map (λ (c : Captured). text) cs ≡ map (λ c. expanded c text) cs
same_text text [] e = refl
same_text text (c ∷ cs) e = ap₂ (λ y ys. y ∷ ys) (sym (plain_stands _ _ c.haystack text e)) (same_text text cs e)

-- so a plain template may be taken as a text
pub plain_template : (r : Regex) (hay : List ℕ) (n : ℕ) (text : List ℕ) → is_plain text ≡ true → with_text r hay n text ≡ with_template r hay n text
unfolding with_text with_template
plain_template r hay n text e =
    ap (replaced hay n (map span_in (captures_in r hay))) (same_text text (limited n (captures_in r hay)) e)
