-- How the first part of a template is cut, by its first bytes.
use Rattle.std.proofs.lemmas.Grind.{common_steps}
use Rattle.std.proofs.Common.{◌≡◌, ◌≢◌, ℕ, zero, suc, ◌+◌, ◌<◌, Bool, List, [], ◌∷◌, ◌++◌, length, get_or, take, drop, refl, sym, ap, ◌∙◌, subst, inl, inr, arith}
use Rattle.bites_spec.specs.Walks.{Among, IsNew}
use Rattle.bites_spec.specs.Template.{byte, name, Cuts, plain, doubled, named, braced, alone, IsName}
use Rattle.bites_spec.specs.Cutting.{CutsFirst, NoName, StandsInBraces, IsWordAt, IsFirstBrace}

Among-behind : (xs ys : List ℕ) (x : ℕ) → Among ys x → Among (xs ++ ys) x
Among-behind [] ys x h = h
Among-behind (z ∷ xs) ys x h = inr (Among-behind xs ys x h)

-- the first closing brace is here
pub brace_here : (bytes : List ℕ) (i : ℕ) → i < length bytes → IsNew 125 (take i bytes) → get_or bytes i 0 ≡ 125 → IsFirstBrace bytes i
brace_here bytes i lt new is = grind (arith, common_steps)

-- where there is no closing brace, no name in braces begins
pub no_brace : (any : Bool) (inside : List ℕ) → IsNew 125 inside → NoName any inside
no_brace any inside new word tail e first is_name =
    new (subst (λ l. Among l 125) (sym e) (Among-behind word (125 ∷ tail) 125 (inl refl)))

length_take : (xs : List ℕ) (i : ℕ) → i < length xs → length (take i xs) ≡ i
length_take [] i lt = absurd (omega arith)
length_take (x ∷ xs) zero lt = refl
length_take (x ∷ xs) (suc i) lt = ap suc (length_take xs i (omega arith))

-- if the bytes before the first closing brace are a name, that name stands in braces
pub good_name : (any : Bool) (inside : List ℕ) (i : ℕ) → i < length inside → IsFirstBrace inside i → IsName any (take i inside) → StandsInBraces any inside (take i inside)
good_name any inside i lt brace is_name = grind (arith, common_steps, length_take)

-- a dollar at the end stands for itself
pub cuts_last : (any : Bool) (rest : List ℕ) → length rest ≡ 0 → CutsFirst any (36 ∷ rest) (byte 36) (drop 0 rest)
cuts_last any [] none parts c = alone [] parts ((λ tail e. cc), tt, (λ word tail e first is_name. cc)) c
cuts_last any (b ∷ rest) none parts c = absurd (omega arith)

-- two dollars are cut as one
pub cuts_doubled : (any : Bool) (rest behind : List ℕ) (first : ℕ) → rest ≡ first ∷ behind → first ≡ 36 → CutsFirst any (36 ∷ rest) (byte 36) (drop 1 rest)
cuts_doubled any rest behind first e is =
    subst (λ (l : List ℕ). CutsFirst any (36 ∷ l) (byte 36) (drop 1 l)) (sym (e ∙ ap (λ (b : ℕ). b ∷ behind) is)) (λ parts c. doubled behind parts c)

-- a dollar and a name in braces are cut as that name
pub cuts_braced : (any : Bool) (rest behind word : List ℕ) (first : ℕ) → rest ≡ first ∷ behind → first ≡ 123 → StandsInBraces any behind word →
    CutsFirst any (36 ∷ rest) (name word) (drop (length word + 2) rest)
cuts_braced any rest behind word first e is stands =
    subst (λ (l : List ℕ). CutsFirst any (36 ∷ l) (name word) (drop (length word + 2) l)) (sym (e ∙ ap (λ (b : ℕ). b ∷ behind) is))
    (λ parts c. braced (36 ∷ 123 ∷ behind) word (drop (length word + 1) behind) parts (ap (λ (l : List ℕ). 36 ∷ 123 ∷ l) stands.whole)
    stands.first stands.named (subst (λ (k : ℕ). Cuts any (drop k (123 ∷ behind)) parts) (two (length word)) c))
  where
    two : (n : ℕ) → n + 2 ≡ suc (n + 1)
    two n = omega arith

-- a dollar before a brace that opens no name stands for itself
pub cuts_unnamed : (any : Bool) (rest behind : List ℕ) (first : ℕ) → rest ≡ first ∷ behind → first ≡ 123 → NoName any behind →
    CutsFirst any (36 ∷ rest) (byte 36) (drop 0 rest)
cuts_unnamed any rest behind first e is no_name =
    subst (λ (l : List ℕ). CutsFirst any (36 ∷ l) (byte 36) (drop 0 l)) (sym (e ∙ ap (λ (b : ℕ). b ∷ behind) is))
    (λ parts c. alone (123 ∷ behind) parts ((λ tail e. cc), refl, (λ word tail e. no_name word tail (inner word tail e))) c)
  where
    inner : (word tail : List ℕ) → 123 ∷ behind ≡ 123 ∷ word ++ 125 ∷ tail → behind ≡ word ++ 125 ∷ tail
    inner word tail e = cc

-- a dollar before anything else stands for itself
pub cuts_alone : (any : Bool) (rest behind word : List ℕ) (first : ℕ) → rest ≡ first ∷ behind → first ≢ 36 → first ≢ 123 → IsWordAt rest word → length word ≡ 0 →
    CutsFirst any (36 ∷ rest) (byte 36) (drop 0 rest)
cuts_alone any rest behind [] first e not_dollar not_brace word none parts c =
    alone rest parts (
      (λ tail is. not_dollar (head first 36 behind tail (sym e ∙ is))),
      word.ends,
      (λ w tail is. absurd (not_brace (head first 123 behind (w ++ 125 ∷ tail) (sym e ∙ is)))),
    ) c
  where
    head : (a b : ℕ) (x y : List ℕ) → a ∷ x ≡ b ∷ y → a ≡ b
    head a b x y e = cc
cuts_alone any rest behind (b ∷ bs) first e not_dollar not_brace word none parts c = absurd (omega arith)

-- a dollar and a name without braces are cut as that name
pub cuts_named : (any : Bool) (rest word : List ℕ) → IsWordAt rest word → 0 < length word → CutsFirst any (36 ∷ rest) (name word) (drop (length word) rest)
cuts_named any rest word at some parts c =
    named (36 ∷ rest) word (drop (length word) rest) parts (ap (λ (l : List ℕ). 36 ∷ l) at.whole) some at.word_bytes at.ends c

-- any other byte stands for itself
pub cuts_plain : (any : Bool) (first : ℕ) (behind : List ℕ) → first ≢ 36 → CutsFirst any (first ∷ behind) (byte first) (drop 0 behind)
cuts_plain any first behind ne parts c = plain first behind parts ne c
