-- The least end of a plain tree's parses is the least end of its matches.
use Rattle.std.proofs.Common.{◌≡◌, ℕ, ◌≤◌, ◌⊎◌, Bool, true, false, List, [], ◌∷◌, Option, Some, None, refl, sym, subst, inl, inr, ⊎_elim, arith}
use Rattle.std.specs.Prelude.{nat_le, if◌then◌else◌}
use Rattle.std.proofs.lemmas.Bool.Decides.{nat_tests}
use Rattle.bites_spec.specs.Utf8.{places}
use Rattle.bites_spec.specs.Walks.{Among}
use Rattle.bites_spec.specs.Tree.{Tree, IsReduced, IsPlain}
use Rattle.bites_spec.specs.Preference.{ParseTo, parses}
use Rattle.bites_spec.specs.Found.{IsLeastEnd}
use Rattle.bites_spec.proofs.Laws as laws
use Rattle.bites_answers.specs.Evaluated.{lesser, least, least_parse_end, LeastParseEndIsLeast}

-- none if nothing has the property, else the least number that has it
abbrev IsLeastOf : (ℕ → Type 0) → Option ℕ → Type 0
IsLeastOf P None = (x : ℕ) → P x → ⊥
IsLeastOf P (Some m) = P m × ((x : ℕ) → P x → m ≤ x)

IsLeastOf-lesser : (P Q : ℕ → Type 0) (a b : Option ℕ) → IsLeastOf P a → IsLeastOf Q b → IsLeastOf (λ x. P x ⊎ Q x) (lesser a b)
IsLeastOf-lesser P Q None None none no_other = λ x. ⊎_elim (none x) (no_other x)
IsLeastOf-lesser P Q None (Some n) none (is, first) = (inr is, λ x. ⊎_elim (λ h. absurd (none x h)) (first x))
IsLeastOf-lesser P Q (Some m) None (is, first) none = (inl is, λ x. ⊎_elim (first x) (λ h. absurd (none x h)))
IsLeastOf-lesser P Q (Some m) (Some n) (is, first) (other, second) = by (nat_le m n) refl
  where
    by : (c : Bool) → nat_le m n ≡ c → IsLeastOf (λ x. P x ⊎ Q x) (if c then Some m else Some n)
    by true e =
        let below : m ≤ n = grind (arith, nat_tests, e) in
        (inl is, λ x. ⊎_elim (first x) (λ h. let le = second x h in omega (arith, below, le)))
    by false e =
        let below : n ≤ m = grind (arith, nat_tests, e) in
        (inr other, λ x. ⊎_elim (λ h. let le = first x h in omega (arith, below, le)) (second x))

-- a property that holds of the same numbers
IsLeastOf-same : (P Q : ℕ → Type 0) (o : Option ℕ) → ((x : ℕ) → P x → Q x) → ((x : ℕ) → Q x → P x) → IsLeastOf P o → IsLeastOf Q o
IsLeastOf-same P Q None to from none = λ x h. none x (from x h)
IsLeastOf-same P Q (Some m) to from (is, first) = (to m is, λ x h. first x (from x h))

IsLeastOf-least : {A : Type 0} (f : A → Option ℕ) (P : A → ℕ → Type 0) → ((x : A) → IsLeastOf (P x) (f x)) →
    (xs : List A) → IsLeastOf (λ n. (x : A) × Among xs x × P x n) (least f xs)
IsLeastOf-least f P each [] = λ n h. absurd h.1
IsLeastOf-least {A} f P each (x ∷ xs) =
    IsLeastOf-same (λ n. P x n ⊎ ((y : A) × Among xs y × P y n)) (λ n. (y : A) × Among (x ∷ xs) y × P y n) (lesser (f x) (least f xs))
    (λ n. ⊎_elim (λ h. (x, inl refl, h)) (λ h. (h.0, inr h.1, h.2)))
    (λ n h. ⊎_elim (λ (e : x ≡ h.0). inl (subst (λ (y : A). P y n) (sym e) h.2)) (λ later. inr (h.0, later, h.2)) h.1)
    (IsLeastOf-lesser (P x) (λ n. (y : A) × Among xs y × P y n) (f x) (least f xs) (each x) (IsLeastOf-least f P each xs))

module _ (t : Tree) (hay : List ℕ) (s : ℕ) (reduced : IsReduced t) (plain : IsPlain t) where
  -- a match from i that ends at j
  abbrev EndsFrom : ℕ → ℕ → Type 0
  EndsFrom i j = (w : ParseTo) × Among (parses hay t i) w × (w.end ≡ j)

  ends_least : IsLeastOf (λ j. (i : ℕ) × Among (places hay s) i × EndsFrom i j) (least_parse_end t hay s)
  ends_least =
      IsLeastOf-least (λ i. least (λ w. Some (w.end)) (parses hay t i)) EndsFrom
      (λ i. IsLeastOf-least (λ w. Some (w.end)) (λ w j. w.end ≡ j) (λ w. (refl, λ x e. omega (arith, e))) (parses hay t i)) (places hay s)

  matched : (o : Option ℕ) → IsLeastOf (λ j. (i : ℕ) × Among (places hay s) i × EndsFrom i j) o → IsLeastEnd t hay (places hay s) o
  matched None none = λ i place j m. none j (i, place, (laws.parses_end_at_matches hay t reduced plain i j).1 m)
  matched (Some j) ((i, place, ends), first) = (
    (i, place, (laws.parses_end_at_matches hay t reduced plain i j).0 ends),
    λ k at_place l m. first l (k, at_place, (laws.parses_end_at_matches hay t reduced plain k l).1 m),
  )

pub least_parse_end_is_least : LeastParseEndIsLeast
least_parse_end_is_least t hay s reduced plain = matched t hay s reduced plain (least_parse_end t hay s) (ends_least t hay s reduced plain)
