-- A replacer whose texts are unique gives one replaced haystack.
use Rattle.std.proofs.Common.{arith, ◌≡◌, ℕ, List, [], ◌∷◌, map, Option, Some, None, refl, sym, ap, ap₂, ◌∙◌, subst}
use Rattle.std.proofs.lemmas.Grind.{common_steps}
use Rattle.bites_spec.specs.Match.{Span}
use Rattle.bites_spec.specs.Pieces.{limited, replaced}
use Rattle.bites_spec.specs.Replace.{Gave, Served, Texts, Replaces}

module _ {S C : Type 0} (Gives : S → C → List ℕ → S → Type 0) (Answers : S → Option (List ℕ) → S → Type 0)
    (given : (s : S) (c : C) (t u : List ℕ) (m k : S) → Gives s c t m → Gives s c u k → (t ≡ u) × (m ≡ k))
    (answered : (s : S) (o r : Option (List ℕ)) (m k : S) → Answers s o m → Answers s r k → (o ≡ r) × (m ≡ k)) where
  gave_once : (s : S) (cs : List C) (ts us : List (List ℕ)) (m k : S) →
      Gave Gives Answers s cs ts m → Gave Gives Answers s cs us k → (ts ≡ us) × (m ≡ k)
  gave_once s [] [] [] m k x y = (refl, x ∙ sym y)
  gave_once s [] [] (u ∷ us) m k x y = elim y [ ]
  gave_once s [] (t ∷ ts) us m k x y = elim x [ ]
  gave_once s (c ∷ cs) [] us m k x y = elim x [ ]
  gave_once s (c ∷ cs) (t ∷ ts) [] m k x y = elim y [ ]
  gave_once s (c ∷ cs) (t ∷ ts) (u ∷ us) m k x y =
      let one = given s c t u x.0 y.0 x.1 y.1 in
      let others = gave_once x.0 cs ts us m k x.2 (subst (λ z. Gave Gives Answers z cs us k) (sym one.1) y.2) in
      (ap₂ (λ a b. a ∷ b) one.0 others.0, others.1)

  served_once : (o : Option (List ℕ)) (s : S) (cs : List C) (ts us : List (List ℕ)) (m k : S) →
      Served Gives Answers o s cs ts m → Served Gives Answers o s cs us k → (ts ≡ us) × (m ≡ k)
  served_once None s cs ts us m k x y = gave_once s cs ts us m k x y
  served_once (Some text) s cs ts us m k x y = (x.0 ∙ sym y.0, x.1 ∙ sym y.1)

  texts_once : (s : S) (cs : List C) (ts us : List (List ℕ)) (m k : S) →
      Texts Gives Answers s cs ts m → Texts Gives Answers s cs us k → (ts ≡ us) × (m ≡ k)
  texts_once s cs ts us m k x y = grind (arith, common_steps, served_once)

  pub replaces_once : (span_of : C → Span) (hay : List ℕ) (n : ℕ) (cs : List C) (s : S) (x y : List ℕ) (m k : S) →
      Replaces Gives Answers span_of hay n cs s x m → Replaces Gives Answers span_of hay n cs s y k → (x ≡ y) × (m ≡ k)
  replaces_once span_of hay n cs s x y m k r q =
      let texts = texts_once s (limited n cs) r.0 q.0 m k r.1 q.1 in
      (r.2 ∙ ap (replaced hay n (map span_of cs)) texts.0 ∙ sym q.2, texts.1)
