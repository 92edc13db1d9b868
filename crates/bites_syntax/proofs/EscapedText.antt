-- A text as a pattern, one character after another.
use Rattle.std.proofs.Common.{◌≡◌, ℕ, true, false, List, [], ◌∷◌, ◌++◌, refl, sym, ap, ap₂, ◌∙◌, append_assoc, append-nil, map, inl, inr}
use Rattle.std.specs.Prelude.{encode_utf8, encode_utf8_all}
use Rattle.std.proofs.lemmas.Bool.{cases_Bool}
use Rattle.bites_spec.specs.Escaped.{is_marked, escaped}

encode_utf8_all-append : (a b : List ℕ) → encode_utf8_all (a ++ b) ≡ encode_utf8_all a ++ encode_utf8_all b
encode_utf8_all-append [] b = refl
encode_utf8_all-append (c ∷ a) b = ap (λ x. encode_utf8 c ++ x) (encode_utf8_all-append a b) ∙ sym (append_assoc (encode_utf8 c) (encode_utf8_all a) (encode_utf8_all b))

escaped-append : (a b : List ℕ) → escaped (a ++ b) ≡ escaped a ++ escaped b
escaped-append [] b = refl
escaped-append (c ∷ a) b = elim (cases_Bool (is_marked c)) [
  | inl marked ↦ rw marked (ap (λ x. 92 ∷ c ∷ x) (escaped-append a b))
  | inr plain ↦ rw plain (ap (λ x. c ∷ x) (escaped-append a b))
]

escaped-push : (text : List ℕ) (c : ℕ) (part : List ℕ) → escaped (c ∷ []) ≡ part → encode_utf8_all (escaped (text ++ c ∷ [])) ≡ encode_utf8_all (escaped text) ++ encode_utf8_all part
escaped-push text c part e =
    ap encode_utf8_all (escaped-append text (c ∷ []) ∙ ap (λ x. escaped text ++ x) e) ∙ encode_utf8_all-append (escaped text) part

-- a character that has a meaning gets a backslash
pub marked_more : (text bytes : List ℕ) (c : ℕ) → is_marked c ≡ true → bytes ≡ encode_utf8_all (escaped text) →
    (bytes ++ encode_utf8 92) ++ encode_utf8 c ≡ encode_utf8_all (escaped (text ++ c ∷ []))
marked_more text bytes c marked so_far =
    append_assoc bytes (encode_utf8 92) (encode_utf8 c) ∙ ap₂ (λ x y. x ++ (encode_utf8 92 ++ y)) so_far (sym (append-nil (encode_utf8 c)))
    ∙ sym (escaped-push text c (92 ∷ c ∷ []) (rw marked refl))

-- any other stands for itself
pub plain_more : (text bytes : List ℕ) (c : ℕ) → is_marked c ≡ false → bytes ≡ encode_utf8_all (escaped text) →
    bytes ++ encode_utf8 c ≡ encode_utf8_all (escaped (text ++ c ∷ []))
plain_more text bytes c plain so_far =
    ap₂ (λ x y. x ++ y) so_far (sym (append-nil (encode_utf8 c))) ∙ sym (escaped-push text c (c ∷ []) (rw plain refl))

-- the same items
pub map_itself : (xs : List ℕ) → map (λ x. x) xs ≡ xs
map_itself [] = refl
map_itself (x ∷ xs) = ap (λ ys. x ∷ ys) (map_itself xs)
