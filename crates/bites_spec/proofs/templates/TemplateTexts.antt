-- In a template that begins with UTF-8, names in braces do not reach past that text.
use Rattle.std.proofs.lemmas.Grind.{flat_map-append}
use Rattle.std.proofs.Common.{◌≡◌, ◌≢◌, ℕ, zero, suc, ◌+◌, ltb, ltb-true, ltb-false, ◌<◌, ◌≤◌, true, false, List, [], ◌∷◌, ◌++◌, length, take, drop, Option, flat_map, refl, sym, ap, ap₂, ◌∙◌, subst, inl, inr, ⊎_elim, true≢false, arith, length-append, append_assoc}
use Rattle.std.specs.Prelude.{IsUtf8, IsAscii}
use Rattle.std.specs.Str.{IsValidUpTo}
use Rattle.std.proofs.Math.Seq.{get_or-append_seam, take-append_seam, take-append-add, drop-append-add}
use Rattle.std.proofs.lemmas.List.{append-nil, take-append-drop, length-take-le}
use Rattle.std.proofs.lemmas.Bool.Decides.{nat_tests}
use Rattle.std.proofs.lemmas.Str.{IsUtf8-take, IsUtf8-drop, IsUtf8-append, IsUtf8-from_ascii, IsCharBoundary-before_ascii, IsCharBoundary-after_ascii}
use Rattle.std.proofs.lemmas.Bool.{cases_Bool}
use Rattle.bites_spec.specs.Look.{is_word_byte}
use Rattle.bites_spec.specs.Walks.{IsNew}
use Rattle.bites_spec.specs.Template.{Part, Cuts, ends, plain, doubled, named, braced, alone, IsName, EndsWord, StandsAlone, parts_of, stands_for, expansion}
use Rattle.bites_spec.proofs.templates.TemplateLemmas.{cuts_once, cuts_all, expansion_end}

seam_within : (u v : List ℕ) (c : ℕ) → length u < length (u ++ c ∷ v)
seam_within u v c = omega (arith, length-append u (c ∷ v))

-- the bytes before an ASCII byte of a text are a text; below it, so are those after it
pub before_ascii : (u v : List ℕ) (c : ℕ) → c < 128 → IsUtf8 (u ++ c ∷ v) → IsUtf8 u
before_ascii u v c low utf8 =
    let at = get_or-append_seam u c v 0 in
    subst IsUtf8 (take-append_seam u (c ∷ v))
    (IsUtf8-take (u ++ c ∷ v) (length u) utf8 (IsCharBoundary-before_ascii (u ++ c ∷ v) (length u) (seam_within u v c) (omega (arith, at))))

pub behind_ascii : (u v : List ℕ) (c : ℕ) → c < 128 → IsUtf8 (u ++ c ∷ v) → IsUtf8 v
behind_ascii u v c low utf8 =
    let at = get_or-append_seam u c v 0 in
    subst IsUtf8 (drop-append-add u (c ∷ v) 1)
    (IsUtf8-drop (u ++ c ∷ v) (length u + 1) utf8 (IsCharBoundary-after_ascii (u ++ c ∷ v) (length u) utf8 (seam_within u v c) (omega (arith, at))))

-- no bytes at the beginning of the rest extend the text as UTF-8
abbrev pub NoFurther : List ℕ → List ℕ → Type 0
NoFurther text behind = (front rest : List ℕ) → behind ≡ front ++ rest → 0 < length front → IsUtf8 (text ++ front) → ⊥

one_ascii : (x : ℕ) → x < 128 → IsAscii (x ∷ [])
one_ascii x low zero = low
one_ascii x low (suc i) = omega arith

pub high_behind : (text tail : List ℕ) (x : ℕ) → IsUtf8 text → NoFurther text (x ∷ tail) → 128 ≤ x
high_behind text tail x utf8 none =
    ⊎_elim (λ (e : ltb x 128 ≡ true). absurd (none (x ∷ []) tail refl (omega arith)
    (IsUtf8-append text (x ∷ []) utf8 (IsUtf8-from_ascii (x ∷ []) (one_ascii x (ltb-true x 128 e))))))
    (λ (e : ltb x 128 ≡ false). ltb-false x 128 e)
    (cases_Bool (ltb x 128))

-- a byte that is not ASCII ends a word
high_ends_word : (behind : List ℕ) → ((x : ℕ) (tail : List ℕ) → behind ≡ x ∷ tail → 128 ≤ x) → EndsWord behind
high_ends_word [] high = tt
high_ends_word (x ∷ tail) high = no_word x (high x tail refl)
  where
    no_word : (x : ℕ) → 128 ≤ x → is_word_byte x ≡ false
    no_word x le = grind (arith, nat_tests)

-- the first brace stands in the prefix, or after it
data Brace (front behind word tail : List ℕ) : Type 0 where
  within : (middle : List ℕ) → front ≡ word ++ 125 ∷ middle → Brace front behind word tail
  past : (more : List ℕ) → word ≡ front ++ more → behind ≡ more ++ 125 ∷ tail → Brace front behind word tail

brace_more : (b : ℕ) (front behind word tail : List ℕ) → Brace front behind word tail → Brace (b ∷ front) behind (b ∷ word) tail
brace_more b front behind word tail (within middle e) = within middle (ap (λ (l : List ℕ). b ∷ l) e)
brace_more b front behind word tail (past more e f) = past more (ap (λ (l : List ℕ). b ∷ l) e) f

brace_of : (front behind word tail : List ℕ) → front ++ behind ≡ word ++ 125 ∷ tail → Brace front behind word tail
brace_of [] behind word tail e = past word refl e
brace_of (b ∷ front) behind [] tail e = within front (ap (λ (c : ℕ). c ∷ front) (head e))
  where
    head : b ∷ (front ++ behind) ≡ 125 ∷ tail → b ≡ 125
    head e = cc
brace_of (b ∷ front) behind (c ∷ word) tail e =
    subst (λ (x : ℕ). Brace (b ∷ front) behind (x ∷ word) tail) (head e) (brace_more b front behind word tail (brace_of front behind word tail (inner e)))
  where
    head : b ∷ (front ++ behind) ≡ c ∷ (word ++ 125 ∷ tail) → b ≡ c
    head e = cc

    inner : b ∷ (front ++ behind) ≡ c ∷ (word ++ 125 ∷ tail) → front ++ behind ≡ word ++ 125 ∷ tail
    inner e = cc

-- a text and the bytes after it; no first part of these bytes extends it as UTF-8
module _ (whole behind : List ℕ) (utf8 : IsUtf8 whole) (none : NoFurther whole behind) where
  high : (x : ℕ) (tail : List ℕ) → behind ≡ x ∷ tail → 128 ≤ x
  high x tail e = high_behind whole tail x utf8 (subst (NoFurther whole) e none)

  still_ends : (rest : List ℕ) → EndsWord rest → EndsWord (rest ++ behind)
  still_ends [] h = high_ends_word behind high
  still_ends (b ∷ rest) h = h

  no_dollar : (rest : List ℕ) → ((tail : List ℕ) → rest ≢ 36 ∷ tail) → (tail : List ℕ) → rest ++ behind ≢ 36 ∷ tail
  no_dollar [] h tail e = let above = high 36 tail e in absurd (omega (arith, above))
  no_dollar (b ∷ rest) h tail e = grind arith

  -- no name in braces reaches past the text
  crosses : (pre rest word tail : List ℕ) → whole ≡ pre ++ 36 ∷ 123 ∷ rest → IsUtf8 word → (more : List ℕ) → word ≡ rest ++ more → behind ≡ more ++ 125 ∷ tail → ⊥
  crosses pre rest word tail is is_name [] e f = let above = high 125 tail f in absurd (omega (arith, above))
  crosses pre rest word tail is is_name (m ∷ more) e f =
      let opened : IsUtf8 (pre ++ 36 ∷ []) = before_ascii (pre ++ 36 ∷ []) rest 123 (omega arith) (subst IsUtf8 (is ∙ sym (append_assoc pre (36 ∷ []) (123 ∷ rest))) utf8) in
      let brace : IsUtf8 (123 ∷ word) = IsUtf8-append (123 ∷ []) word (IsUtf8-from_ascii (123 ∷ []) (one_ascii 123 (omega arith))) is_name in
      none (m ∷ more) (125 ∷ tail) f (omega arith) (subst IsUtf8 joined (IsUtf8-append (pre ++ 36 ∷ []) (123 ∷ word) opened brace))
    where
      joined : (pre ++ 36 ∷ []) ++ 123 ∷ word ≡ whole ++ m ∷ more
      joined =
          append_assoc pre (36 ∷ []) (123 ∷ word)
          ∙ ap (λ (l : List ℕ). pre ++ 36 ∷ 123 ∷ l) e
          ∙ sym (append_assoc pre (36 ∷ 123 ∷ rest) (m ∷ more))
          ∙ ap (λ (l : List ℕ). l ++ m ∷ more) (sym is)

  still_no_name : (pre rest : List ℕ) → whole ≡ pre ++ 36 ∷ rest → ((word tail : List ℕ) → rest ≡ 123 ∷ word ++ 125 ∷ tail → IsNew 125 word → IsName true word → ⊥) →
      (word tail : List ℕ) → rest ++ behind ≡ 123 ∷ word ++ 125 ∷ tail → IsNew 125 word → IsName false word → ⊥
  still_no_name pre [] is h word tail e new is_name = let above = high 123 (word ++ 125 ∷ tail) e in absurd (omega (arith, above))
  still_no_name pre (b ∷ rest) is h word tail e new is_name = by_place (brace_of rest behind word tail (inner e))
    where
      head : b ∷ (rest ++ behind) ≡ 123 ∷ word ++ 125 ∷ tail → b ≡ 123
      head e = cc

      inner : b ∷ (rest ++ behind) ≡ 123 ∷ word ++ 125 ∷ tail → rest ++ behind ≡ word ++ 125 ∷ tail
      inner e = cc

      by_place : Brace rest behind word tail → ⊥
      by_place (within middle f) = h word middle (ap₂ (λ (c : ℕ) (l : List ℕ). c ∷ l) (head e) f) new (inl refl)
      by_place (past more f g) =
          crosses pre rest word tail (is ∙ ap (λ (c : ℕ). pre ++ 36 ∷ c ∷ rest) (head e))
          (⊎_elim (λ (no : false ≡ true). absurd (true≢false (sym no))) (λ (u : IsUtf8 word). u) is_name) more f g

  still_alone : (pre rest : List ℕ) → whole ≡ pre ++ 36 ∷ rest → StandsAlone true rest → StandsAlone false (rest ++ behind)
  still_alone pre rest is h = (no_dollar rest h.0, still_ends rest h.1, still_no_name pre rest is h.2)

  name_utf8 : (pre word rest : List ℕ) → whole ≡ pre ++ (36 ∷ 123 ∷ word ++ 125 ∷ rest) → IsUtf8 word
  name_utf8 pre word rest is =
      before_ascii word rest 125 (omega arith)
      (behind_ascii (pre ++ 36 ∷ []) (word ++ 125 ∷ rest) 123 (omega arith)
      (subst IsUtf8 (is ∙ sym (append_assoc pre (36 ∷ []) (123 ∷ word ++ 125 ∷ rest))) utf8))

  further : (pre front rest : List ℕ) → whole ≡ pre ++ (front ++ rest) → whole ≡ (pre ++ front) ++ rest
  further pre front rest is = is ∙ sym (append_assoc pre front rest)

  cuts_before : {text : List ℕ} {parts : List Part} (more : List Part) (pre : List ℕ) → whole ≡ pre ++ text → Cuts false behind more → Cuts true text parts →
      Cuts false (text ++ behind) (parts ++ more)
  cuts_before more pre is d ends = d
  cuts_before more pre is d (plain b rest parts ne c) =
      plain b (rest ++ behind) (parts ++ more) ne (cuts_before more (pre ++ b ∷ []) (further pre (b ∷ []) rest is) d c)
  cuts_before more pre is d (doubled rest parts c) =
      doubled (rest ++ behind) (parts ++ more) (cuts_before more (pre ++ 36 ∷ 36 ∷ []) (further pre (36 ∷ 36 ∷ []) rest is) d c)
  cuts_before more pre is d (named template word rest parts e some all stop c) =
      named (template ++ behind) word (rest ++ behind) (parts ++ more)
      (ap (λ (l : List ℕ). l ++ behind) e ∙ append_assoc (36 ∷ word) rest behind) some all (still_ends rest stop)
      (cuts_before more (pre ++ 36 ∷ word) (further pre (36 ∷ word) rest (is ∙ ap (λ (l : List ℕ). pre ++ l) e)) d c)
  cuts_before more pre is d (braced template word rest parts e new is_name c) =
      let whole_is = is ∙ ap (λ (l : List ℕ). pre ++ l) e in
      braced (template ++ behind) word (rest ++ behind) (parts ++ more)
      (ap (λ (l : List ℕ). l ++ behind) e ∙ append_assoc (36 ∷ 123 ∷ word) (125 ∷ rest) behind) new (inr (name_utf8 pre word rest whole_is))
      (cuts_before more (pre ++ (36 ∷ 123 ∷ word ++ 125 ∷ []))
      (further pre (36 ∷ 123 ∷ word ++ 125 ∷ []) rest (whole_is ∙ ap (λ (l : List ℕ). pre ++ l) (sym (append_assoc (36 ∷ 123 ∷ word) (125 ∷ []) rest)))) d c)
  cuts_before more pre is d (alone rest parts stands c) =
      alone (rest ++ behind) (parts ++ more) (still_alone pre rest is stands) (cuts_before more (pre ++ 36 ∷ []) (further pre (36 ∷ []) rest is) d c)

  -- the template expands to the text's expansion with any names, and then to the rest's
  pub expansion_before : (largest : ℕ) (text_of : ℕ → Option (List ℕ)) (index_of : List ℕ → Option ℕ) →
      expansion false largest text_of index_of (whole ++ behind)
      ≡ expansion true largest text_of index_of whole ++ expansion false largest text_of index_of behind
  unfolding expansion
  expansion_before largest text_of index_of =
      ap (flat_map (stands_for largest text_of index_of)) (sym (cuts_once (cuts_before (parts_of false behind) [] refl (cuts_all false behind) (cuts_all true whole))))
      ∙ flat_map-append (stands_for largest text_of index_of) (parts_of true whole) (parts_of false behind)

-- in a UTF-8 template, each name is UTF-8
pub expansion_of_text : (largest : ℕ) (text_of : ℕ → Option (List ℕ)) (index_of : List ℕ → Option ℕ) (template : List ℕ) → IsUtf8 template →
    expansion false largest text_of index_of template ≡ expansion true largest text_of index_of template
expansion_of_text largest text_of index_of template utf8 =
    ap (expansion false largest text_of index_of) (sym (append-nil template))
    ∙ expansion_before template [] utf8 (λ front rest e some. none front rest e some) largest text_of index_of
    ∙ ap (λ (l : List ℕ). expansion true largest text_of index_of template ++ l) (expansion_end false largest text_of index_of)
    ∙ append-nil (expansion true largest text_of index_of template)
  where
    none : (front rest : List ℕ) → [] ≡ front ++ rest → 0 < length front → IsUtf8 (template ++ front) → ⊥
    none [] rest e some u = omega arith
    none (b ∷ front) rest e some u = cc

-- after the longest prefix that is UTF-8, no bytes extend it
pub no_further : (bytes : List ℕ) (n : ℕ) → IsValidUpTo bytes n → NoFurther (take n bytes) (drop n bytes)
no_further bytes n valid front rest e some utf8 =
    valid.longest (n + length front) (omega arith) (subst IsUtf8 (sym is) utf8)
  where
    is : take (n + length front) bytes ≡ take n bytes ++ front
    is =
        ap (λ (k : ℕ). take (k + length front) bytes) (sym (length-take-le n bytes (omega (arith, valid.short))))
        ∙ ap (take (length (take n bytes) + length front)) (sym (take-append-drop n bytes) ∙ ap (λ (l : List ℕ). take n bytes ++ l) e)
        ∙ take-append-add (take n bytes) (front ++ rest) (length front)
        ∙ ap (λ (l : List ℕ). take n bytes ++ l) (take-append_seam front rest)
