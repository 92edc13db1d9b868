-- Matches replaced by a template, on the tree.
use Rattle.std.proofs.Common.{◌≡◌, ◌≢◌, ℕ, zero, suc, true, false, not, cond, List, [], ◌∷◌, map, Option, Some, None, refl, ap, ◌∙◌, subst, inl, inr, eq-eqb}
use Rattle.std.proofs.lemmas.Bool.{cases_Bool, and_parts}
use Rattle.std.specs.Prelude.{◌==◌, flat_map}
use Rattle.bites_spec.specs.Code.{code}
use Rattle.bites_spec.specs.Found.{NoMatch}
use Rattle.bites_spec.specs.Regex.{Regex, IsCompiled}
use Rattle.bites_spec.specs.Captured.{Captured}
use Rattle.bites_spec.specs.Iteration.{captures_in}
use Rattle.bites_spec.specs.AllMatches.{GroupsAreSuccessive, CapturesAreMatches, NoneIsLeftOut, AreCaptures}
use Rattle.bites_spec.specs.Pieces.{limited, replaced}
use Rattle.bites_spec.specs.Replaced.{span_in, ReplacesIn}
use Rattle.bites_spec.specs.Replace.{Gave, Served}
use Rattle.bites_spec.specs.Replacer.{expanded, is_plain, plain_text, GivesExpansion, AnswersPlain}
use Rattle.bites_spec.specs.Template.{byte, Cuts, plain, ends, stands_for}
use Rattle.bites_spec.specs.Expansion.{text_in, index_in}
use Rattle.bites_spec.specs.TemplateLaws.{ExpandsOnce}
use Rattle.bites_spec.specs.Utf8.{places}
use Rattle.bites_filter.specs.Substituted.{Substitutes}

nothing_replaced : (text template : List ℕ) (n : ℕ) →
    replaced text n (map span_in []) (map (λ c. expanded c template) (limited n [])) ≡ text
nothing_replaced text template zero = refl
nothing_replaced text template (suc n) = refl

-- if nothing matches, nothing is replaced
pub unchanged : CapturesAreMatches → NoneIsLeftOut → (r : Regex) (template text new : List ℕ) (n : ℕ) →
    Substitutes r template n text new → NoMatch r.tree text (places text 0) → new ≡ text
unchanged matches left_out r template text new n s none = by s.found s.all s.new_is
  where
    by : (cs : List Captured) → AreCaptures r text cs →
        new ≡ replaced text n (map span_in cs) (map (λ c. expanded c template) (limited n cs)) → new ≡ text
    by [] all is = is ∙ nothing_replaced text template n
    by (c ∷ cs) all is =
        let first = left_out r text (map span_in (c ∷ cs)) (matches r text (c ∷ cs) all) in
        absurd (none (span_in c).start first.0.place (span_in c).end first.1)

is_other : (b : ℕ) → not (b == code "$") ≡ true → b ≢ code "$"
is_other b e = λ same. let equal : (b == code "$") ≡ true = eq-eqb b (code "$") same in
    let never : not true ≡ true = subst (λ x. not x ≡ true) equal e in absurd (cc)

plain_answer : (template x : List ℕ) → Some x ≡ plain_text template → (x ≡ template) × (is_plain template ≡ true)
plain_answer template x e = elim (cases_Bool (is_plain template)) [
  | inl is ↦ let some : Some x ≡ Some template = e ∙ ap (λ b. cond b (Some template) None) is in (cc, is)
  | inr is ↦ let never : Some x ≡ None = e ∙ ap (λ b. cond b (Some template) None) is in absurd (cc)
]

-- a text without a `$` is cut into its bytes
plain_cuts : (text : List ℕ) → is_plain text ≡ true → Cuts false text (map byte text)
plain_cuts [] e = ends
plain_cuts (b ∷ bs) e =
    let both = and_parts (not (b == code "$")) (is_plain bs) e in
    plain b bs (map byte bs) (is_other b both.0) (plain_cuts bs both.1)

bytes_stand : (largest : ℕ) (text_of : ℕ → Option (List ℕ)) (index_of : List ℕ → Option ℕ) (text : List ℕ) →
    text ≡ flat_map (stands_for largest text_of index_of) (map byte text)
bytes_stand largest text_of index_of [] = refl
bytes_stand largest text_of index_of (b ∷ bs) = ap (λ l. b ∷ l) (bytes_stand largest text_of index_of bs)

module _ (law : ExpandsOnce) (template : List ℕ) where
  -- so it stands for itself
  plain_expanded : (c : Captured) → is_plain template ≡ true → template ≡ expanded c template
  plain_expanded c e =
      let of = text_in c.slots c.haystack in let named = index_in c.regex.names in
      (law false 0xFFFF_FFFF_FFFF_FFFF of named template template).0
      (map byte template, plain_cuts template e, bytes_stand 0xFFFF_FFFF_FFFF_FFFF of named template)

  all_expanded : (cs : List Captured) → is_plain template ≡ true → map (λ c. template) cs ≡ map (λ c. expanded c template) cs
  all_expanded [] e = refl
  all_expanded (c ∷ cs) e =
      ap (λ t. t ∷ map (λ d. template) cs) (plain_expanded c e) ∙ ap (λ l. expanded c template ∷ l) (all_expanded cs e)

module _ {S : Type 0} (template_of : S → List ℕ) where
  -- what is given for each match in turn is what the template stands for
  gave_expanded : (s t : S) (template : List ℕ) → template_of s ≡ template → (cs : List Captured) (texts : List (List ℕ)) →
      Gave (GivesExpansion template_of) (AnswersPlain template_of) s cs texts t → texts ≡ map (λ c. expanded c template) cs
  gave_expanded s t template e [] [] g = refl
  gave_expanded s t template e [] (x ∷ xs) g = absurd g
  gave_expanded s t template e (c ∷ cs) [] g = absurd g
  gave_expanded s t template e (c ∷ cs) (x ∷ xs) (m, (text_is, same), g) =
      let others : xs ≡ map (λ d. expanded d template) cs =
      gave_expanded m t template (ap template_of same ∙ e) cs xs g in
      ap (λ l. l ∷ xs) (text_is ∙ ap (expanded c) e) ∙ ap (λ l. expanded c template ∷ l) others

  served_expanded : ExpandsOnce → (s t m : S) (answer : Option (List ℕ)) → AnswersPlain template_of s answer m →
      (cs : List Captured) (texts : List (List ℕ)) →
      Served (GivesExpansion template_of) (AnswersPlain template_of) answer m cs texts t →
      texts ≡ map (λ c. expanded c (template_of s)) cs
  served_expanded law s t m None (is, same) cs texts served = gave_expanded m t (template_of s) (ap template_of same) cs texts served
  served_expanded law s t m (Some x) (is, same) cs texts served =
      let answered = plain_answer (template_of s) x is in
      served.0 ∙ ap (λ y. map (λ c. y) cs) answered.0 ∙ all_expanded law (template_of s) cs answered.1

  -- a haystack with matches replaced by a template, on the tree
  pub substituted : ExpandsOnce → GroupsAreSuccessive → (r : Regex) → IsCompiled r → (text new : List ℕ) (n : ℕ) (s t : S) →
      ReplacesIn (GivesExpansion template_of) (AnswersPlain template_of) r text n s new t → Substitutes r (template_of s) n text new
  substituted law successive r compiled text new n s t (texts, (answer, m, answers, served), new_is) = record {
    found = captures_in r text;
    all = successive r compiled text;
    new_is = new_is ∙ ap (replaced text n (map span_in (captures_in r text)))
        (served_expanded law s t m answer answers (limited n (captures_in r text)) texts served);
  }
