-- What is replaced in the end.
use Rattle.std.proofs.Common.{◌≡◌, ◌↔◌, ℕ, zero, suc, List, [], ◌∷◌, ◌++◌, map, take, drop, Option, Some, None, refl, sym, ap, ap₂, ◌∙◌, subst, true≢false}
use Rattle.std.specs.Prelude.{unwrap_or, Result, Ok, Err, IfOk, OnErr}
use Rattle.bites_spec.specs.Match.{Span, span}
use Rattle.bites_spec.specs.Slots.{group_in}
use Rattle.bites_spec.specs.Pieces.{replaced_from, replaced, limited}
use Rattle.bites_spec.specs.Regex.{Regex, IsCompiled}
use Rattle.bites_spec.specs.Captured.{Captured}
use Rattle.bites_spec.specs.Iteration.{captures_in, captures_after, spans_in, spans_after}
use Rattle.bites_spec.specs.Replace.{Gave, GaveSome}
use Rattle.bites_spec.proofs.regex.RegexRuns.{captures_have_spans}
use Rattle.bites_spec.specs.Replaced.{span_in, ReplacesIn, IsRefusedIn}
use Rattle.bites_bytes.specs.ReplaceLimit.{taken, bound}
use Rattle.bites_bytes.specs.Replacing.{spans_to_replace, captures_to_replace, is_nil, replaces_none, with_texts, EndsByText, EndsBy}
use Rattle.bites_bytes.specs.declared.bytes.replace.Replacing.{Replacing}
use Rattle.bites_bytes.proofs.ReplacingLemmas.{taken_limited, limited_map, some_all}

abbrev known : Option Span → Span
known o = unwrap_or o (span 0 0)

known_groups : (cs : List Captured) → map known (map (λ c. group_in c.slots 0) cs) ≡ map span_in cs
known_groups [] = refl
known_groups (c ∷ cs) = ap (λ ss. span_in c ∷ ss) (known_groups cs)

known_spans : (ss : List Span) → map known (map (λ s. Some s) ss) ≡ ss
known_spans [] = refl
known_spans (s ∷ ss) = ap (λ xs. s ∷ xs) (known_spans ss)

pub spans_of_captures : (r : Regex) → IsCompiled r → (hay : List ℕ) → spans_in r hay ≡ map span_in (captures_in r hay)
spans_of_captures r is hay =
    sym (known_spans (spans_in r hay)) ∙ ap (map known) (sym (captures_have_spans r is hay)) ∙ known_groups (captures_in r hay)

pub same_texts : {A B : Type 0} (f : A → B) (text : List ℕ) (xs : List A) → map (λ y. text) (map f xs) ≡ map (λ x. text) xs
same_texts f text [] = refl
same_texts f text (x ∷ xs) = ap (λ ts. text ∷ ts) (same_texts f text xs)

-- what follows from a value's fact holds of the value
pub if_ok : {A E : Type 0} (r : Result A E) (P Q : A → Type 0) → IfOk r P → ((x : A) → P x → Q x) → IfOk r Q
if_ok (Ok x) P Q p f = f x p
if_ok (Err e) P Q p f = tt

-- what holds, holds of a refusal
pub on_err : {A E : Type 0} (r : Result A E) (P : Type 0) → P → OnErr r P
on_err (Ok x) P p = tt
on_err (Err e) P p = p

-- what follows from what holds of a refusal, holds of it
pub if_refused : {A E : Type 0} (r : Result A E) (P Q : Type 0) → OnErr r P → (P → Q) → OnErr r Q
if_refused (Ok x) P Q p f = tt
if_refused (Err e) P Q p f = f p

-- where nothing is left, a match was replaced exactly if there was one
pub nothing_iff : {B : Type 0} (l : Option ℕ) (xs ys : List B) → xs ≡ [] → replaces_none l xs ≡ is_nil ys → (l ≡ None) ↔ (ys ≡ [])
nothing_iff None xs [] e h = (λ p. refl, λ p. refl)
nothing_iff None xs (y ∷ ys) e h = absurd (true≢false (sym (ap is_nil e) ∙ h))
nothing_iff (Some k) xs [] e h = absurd (true≢false (sym h))
nothing_iff (Some k) xs (y ∷ ys) e h = (λ p. absurd (never p), λ p. absurd (filled p))
  where
    never : Some k ≡ None → ⊥
    never p = cc

    filled : y ∷ ys ≡ [] → ⊥
    filled p = cc

pub limited_none : {B : Type 0} (n : ℕ) (xs : List B) → (limited n xs ≡ []) ↔ (xs ≡ [])
limited_none zero xs = (λ e. e, λ e. e)
limited_none (suc n) [] = (λ e. refl, λ e. refl)
limited_none (suc n) (x ∷ xs) = (λ p. absurd (filled (take n xs) p), λ p. absurd (filled xs p))
  where
    filled : (ys : List _) → x ∷ ys ≡ [] → ⊥
    filled ys p = cc

pub mapped_none : {A B : Type 0} (f : A → B) (xs : List A) → (map f xs ≡ []) ↔ (xs ≡ [])
mapped_none f [] = (λ e. refl, λ e. refl)
mapped_none f (x ∷ xs) = (λ p. absurd (filled p), λ p. absurd (bare p))
  where
    filled : f x ∷ map f xs ≡ [] → ⊥
    filled p = cc

    bare : x ∷ xs ≡ [] → ⊥
    bare p = cc

-- a haystack in which nothing is replaced yet
module _ (s : Replacing) (r : Regex) (hay : List ℕ) (n : ℕ) (regex_is : s.cursor.regex.now ≡ r) (hay_is : s.cursor.haystack.now ≡ hay)
    (last_is : s.cursor.last ≡ None) (left_is : s.left ≡ bound n) (out_is : s.out.items ≡ []) where
  spans_start : spans_to_replace s ≡ limited n (spans_in r hay)
  spans_start =
      ap (λ o. taken o (spans_after s.cursor.regex.now s.cursor.haystack.now s.cursor.last)) left_is
      ∙ ap (λ q. taken (bound n) (spans_after q s.cursor.haystack.now s.cursor.last)) regex_is
      ∙ ap (λ h. taken (bound n) (spans_after r h s.cursor.last)) hay_is
      ∙ ap (λ l. taken (bound n) (spans_after r hay l)) last_is
      ∙ taken_limited n (spans_in r hay)

  pub captures_start : captures_to_replace s ≡ limited n (captures_in r hay)
  captures_start =
      ap (λ o. taken o (captures_after s.cursor.regex.now s.cursor.haystack.now s.cursor.last)) left_is
      ∙ ap (λ q. taken (bound n) (captures_after q s.cursor.haystack.now s.cursor.last)) regex_is
      ∙ ap (λ h. taken (bound n) (captures_after r h s.cursor.last)) hay_is
      ∙ ap (λ l. taken (bound n) (captures_after r hay l)) last_is
      ∙ taken_limited n (captures_in r hay)

  texts_start : (ss : List Span) (texts : List (List ℕ)) → with_texts s ss texts ≡ replaced_from hay 0 ss texts
  texts_start ss texts =
      ap (λ l. l ++ replaced_from s.cursor.haystack.now (unwrap_or s.cursor.last 0) ss texts) out_is
      ∙ ap (λ h. replaced_from h (unwrap_or s.cursor.last 0) ss texts) hay_is
      ∙ ap (λ (l : Option ℕ). replaced_from hay (unwrap_or l 0) ss texts) last_is

  module _ {S : Type 0} (gives : S → Captured → List ℕ → S → Type 0) (answers : S → Option (List ℕ) → S → Type 0)
      (refuses : S → Captured → List ℕ → S → Type 0) (old asked end : S) (answered : answers old None asked) where
    pub some_refused : GaveSome gives answers refuses asked (captures_to_replace s) end → IsRefusedIn gives answers refuses r hay n old end
    some_refused some = (None, asked, answered, subst (λ l. GaveSome gives answers refuses asked l end) captures_start some)

    pub all_refused : (t : Replacing) → EndsBy gives answers s asked t end → IsRefusedIn gives answers refuses r hay n old end
    all_refused t ends =
        let on = ends.0.out [] end (subst (λ l. Gave gives answers end l [] end) (sym ends.1) refl) in
        some_refused (some_all gives answers refuses asked (captures_to_replace s) on.0 end on.1)

  module _ (is : IsCompiled r) (t : Replacing) (bytes : List ℕ)
      (written : bytes ≡ t.out.items ++ drop (unwrap_or t.cursor.last 0) t.cursor.haystack.now) where
    module _ (text : List ℕ) (ends : EndsByText text s t) where
      text_bytes : bytes ≡ replaced hay n (map span_in (captures_in r hay)) (map (λ c. text) (limited n (captures_in r hay)))
      text_bytes =
          let cs = captures_in r hay in
          let spans : spans_to_replace s ≡ limited n (map span_in cs) = spans_start ∙ ap (limited n) (spans_of_captures r is hay) in
          written
          ∙ ap (λ ss. with_texts t ss (map (λ y. text) ss)) (sym ends.1)
          ∙ ends.0.out
          ∙ ap (λ ss. with_texts s ss (map (λ y. text) ss)) spans
          ∙ texts_start (limited n (map span_in cs)) (map (λ y. text) (limited n (map span_in cs)))
          ∙ ap (λ texts. replaced_from hay 0 (limited n (map span_in cs)) texts)
          (ap (map (λ y. text)) (limited_map span_in n cs) ∙ same_texts span_in text (limited n cs))

      pub text_replaces : {S : Type 0} (gives : S → Captured → List ℕ → S → Type 0) (answers : S → Option (List ℕ) → S → Type 0) (old new : S) →
          answers old (Some text) new → ReplacesIn gives answers r hay n old bytes new
      text_replaces gives answers old new answered =
          (map (λ c. text) (limited n (captures_in r hay)), (Some text, new, answered, (refl, refl)), text_bytes)

      pub text_borrows : (t.cursor.last ≡ None) ↔ (captures_in r hay ≡ [])
      text_borrows =
          let cs = captures_in r hay in
          let spans : spans_to_replace s ≡ limited n (map span_in cs) = spans_start ∙ ap (limited n) (spans_of_captures r is hay) in
          let a = nothing_iff t.cursor.last (spans_to_replace t) (limited n (map span_in cs)) ends.1
          (ends.0.nothing ∙ ap₂ replaces_none last_is spans) in
          let b = limited_none n (map span_in cs) in let d = mapped_none span_in cs in
          (λ e. d.0 (b.0 (a.0 e)), λ e. a.1 (b.1 (d.1 e)))

    module _ {S : Type 0} (gives : S → Captured → List ℕ → S → Type 0) (answers : S → Option (List ℕ) → S → Type 0) (old asked new : S)
        (ends : EndsBy gives answers s asked t new) where
      pub by_replaces : answers old None asked → ReplacesIn gives answers r hay n old bytes new
      by_replaces answered =
          let cs = captures_in r hay in
          let on = ends.0.out [] new (subst (λ l. Gave gives answers new l [] new) (sym ends.1) refl) in (
            on.0,
            (None, asked, answered, subst (λ l. Gave gives answers asked l on.0 new) captures_start on.1),
            written
                ∙ ap (λ l. with_texts t (map span_in l) []) (sym ends.1)
                ∙ on.2
                ∙ ap (λ l. with_texts s (map span_in l) on.0) captures_start
                ∙ texts_start (map span_in (limited n cs)) on.0
                ∙ ap (λ ss. replaced_from hay 0 ss on.0) (sym (limited_map span_in n cs)),
          )

      pub by_borrows : (t.cursor.last ≡ None) ↔ (captures_in r hay ≡ [])
      by_borrows =
          let a = nothing_iff t.cursor.last (captures_to_replace t) (limited n (captures_in r hay)) ends.1
          (ends.0.nothing ∙ ap₂ replaces_none last_is captures_start) in
          let b = limited_none n (captures_in r hay) in (λ e. b.0 (a.0 e), λ e. a.1 (b.1 e))
