-- Replacing matches, step by step.
use Rattle.std.proofs.Common.{◌≡◌, ℕ, zero, suc, Bool, true, false, List, [], ◌∷◌, ◌++◌, map, take, Option, Some, None, refl, sym, ap, ◌∙◌, subst, true≢false, append_assoc, inl}
use Rattle.std.specs.Prelude.{unwrap_or, slice_range}
use Rattle.std.proofs.lemmas.List.{take-map}
use Rattle.bites_spec.specs.Match.{Span}
use Rattle.bites_spec.specs.Pieces.{replaced_from, limited}
use Rattle.bites_spec.specs.Captured.{Captured, Excerpt}
use Rattle.bites_spec.specs.Replace.{Gave, Stops, GaveSome}
use Rattle.bites_bytes.specs.Matched.{excerpt_of}
use Rattle.bites_bytes.specs.Matches.{IsSameSearch, left_from, spans_left}
use Rattle.bites_spec.specs.Replaced.{span_in}
use Rattle.bites_bytes.specs.ReplaceLimit.{taken, bound, Spends}
use Rattle.bites_bytes.specs.Replacing.{captures_to_replace, replaces_none, with_texts, Writes, StepsBy, GoesOn}
use Rattle.bites_bytes.specs.declared.bytes.matched.Match.{Match}
use Rattle.bites_bytes.specs.declared.bytes.matches.Cursor.{Cursor}
use Rattle.bites_bytes.specs.declared.bytes.replace.Replacing.{Replacing}
use Rattle.bites_bytes.proofs.SplitLemmas.{spans_of}

pub taken_step : {B : Type 0} (s t : Option ℕ) (there : Bool) (x : B) (xs : List B) → Spends s there t → there ≡ true → taken s (x ∷ xs) ≡ x ∷ taken t xs
taken_step None t there x xs h e = ap (λ o. x ∷ taken o xs) (sym h.1)
taken_step (Some zero) t there x xs h e = absurd (true≢false (sym e ∙ h.0))
taken_step (Some (suc n)) t there x xs h e = ap (λ o. x ∷ taken o xs) (sym h.1)

pub taken_nil : {B : Type 0} (s : Option ℕ) (xs : List B) → xs ≡ [] → taken s xs ≡ []
taken_nil None xs e = e
taken_nil (Some zero) xs e = refl
taken_nil (Some (suc n)) xs e = ap (take (suc n)) e

pub taken_limited : {B : Type 0} (n : ℕ) (xs : List B) → taken (bound n) xs ≡ limited n xs
taken_limited zero xs = refl
taken_limited (suc n) xs = refl

pub limited_map : {A B : Type 0} (f : A → B) (n : ℕ) (xs : List A) → limited n (map f xs) ≡ map f (limited n xs)
limited_map f zero xs = refl
limited_map f (suc n) xs = take-map f (suc n) xs

pub same_still : (s t u : Cursor) → IsSameSearch s t → IsSameSearch t u → IsSameSearch s u
same_still s t u f g = (g.0 ∙ f.0, g.1 ∙ f.1)

-- the spans of the matches that are left
pub spans_yield : (s t : Cursor) (m : Match) → left_from s ≡ excerpt_of m ∷ left_from t → spans_left s ≡ (excerpt_of m).span ∷ spans_left t
spans_yield s t m steps =
    sym (spans_of s.haystack.now (spans_left s)) ∙ ap (map (λ (e : Excerpt). e.span)) steps
    ∙ ap (λ ss. (excerpt_of m).span ∷ ss) (spans_of t.haystack.now (spans_left t))

pub spans_end : (s : Cursor) → left_from s ≡ [] → spans_left s ≡ []
spans_end s none = sym (spans_of s.haystack.now (spans_left s)) ∙ ap (map (λ (e : Excerpt). e.span)) none

-- a text for the next span
pub writes_on : (s t : Replacing) (x : Span) (text : List ℕ) → Writes s x text t → (ss : List Span) (texts : List (List ℕ)) →
    with_texts t ss texts ≡ with_texts s (x ∷ ss) (text ∷ texts)
writes_on s t x text w ss texts =
    let hay = s.cursor.haystack.now in
    let piece = slice_range hay (unwrap_or s.cursor.last 0) x.start in
    let out = (s.out.items ++ piece) ++ text in
    let rest = replaced_from hay x.end ss texts in
    ap (λ l. l ++ replaced_from t.cursor.haystack.now (unwrap_or t.cursor.last 0) ss texts) w.out
    ∙ ap (λ h. out ++ replaced_from h (unwrap_or t.cursor.last 0) ss texts) w.same.1
    ∙ ap (λ (l : Option ℕ). out ++ replaced_from hay (unwrap_or l 0) ss texts) w.last
    ∙ ap (λ l. l ++ rest) (append_assoc s.out.items piece text)
    ∙ append_assoc s.out.items (piece ++ text) rest

pub none_some : {B : Type 0} (l : Option ℕ) (x : B) (xs : List B) → replaces_none l (x ∷ xs) ≡ false
none_some None x xs = refl
none_some (Some e) x xs = refl

module _ {S : Type 0} (gives : S → Captured → List ℕ → S → Type 0) (answers : S → Option (List ℕ) → S → Type 0) where
  -- one match replaced by what the replacer gave
  pub step_on : (s : Replacing) (r : S) (t : Replacing) (q : S) → StepsBy gives answers s r true t q → GoesOn gives answers s r t q
  step_on s r t q h =
      let c = h.0 in let text = h.1 in let cs = captures_to_replace t in record {
        out = λ texts end gave. (
          text ∷ texts,
          subst (λ l. Gave gives answers r l (text ∷ texts) end) (sym h.2) (q, h.3, gave),
          writes_on s t (span_in c) text h.4 (map span_in cs) texts ∙ ap (λ l. with_texts s (map span_in l) (text ∷ texts)) (sym h.2),
        );
        nothing = ap (λ l. replaces_none l cs) h.4.last ∙ sym (ap (replaces_none s.cursor.last) h.2 ∙ none_some s.cursor.last c cs);
        same = h.4.same;
      }

  pub on_on : (s : Replacing) (r : S) (t : Replacing) (q : S) (u : Replacing) (p : S) → GoesOn gives answers s r t q → GoesOn gives answers t q u p →
      GoesOn gives answers s r u p
  on_on s r t q u p f g = record {
    out = λ texts end gave.
        let inner = g.out texts end gave in let outer = f.out inner.0 end inner.1 in (outer.0, outer.1, inner.2 ∙ outer.2);
    nothing = g.nothing ∙ f.nothing;
    same = same_still s.cursor t.cursor u.cursor f.same g.same;
  }

-- what a replacer has given for some captures when memory is refused
module _ {S C : Type 0} (gives : S → C → List ℕ → S → Type 0) (answers : S → Option (List ℕ) → S → Type 0)
    (refuses : S → C → List ℕ → S → Type 0) where
  -- none was given
  pub some_none : (s : S) (cs : List C) (end : S) → Stops gives answers refuses s cs end → GaveSome gives answers refuses s cs end
  some_none s cs end stops = ([], cs, refl, [], s, refl, stops)

  -- one more, before some of the others
  pub some_more : (s : S) (c : C) (cs : List C) (text : List ℕ) (m end : S) → gives s c text m → GaveSome gives answers refuses m cs end →
      GaveSome gives answers refuses s (c ∷ cs) end
  some_more s c cs text m end given some =
      (c ∷ some.0, some.1, ap (λ l. c ∷ l) some.2, text ∷ some.3, some.4, (m, given, some.5), some.6)

  -- one for each
  pub some_all : (s : S) (cs : List C) (texts : List (List ℕ)) (end : S) → Gave gives answers s cs texts end →
      GaveSome gives answers refuses s cs end
  some_all s cs texts end gave = (cs, [], nothing_after cs, texts, end, gave, inl refl)
    where
      nothing_after : (xs : List C) → xs ≡ xs ++ []
      nothing_after [] = refl
      nothing_after (x ∷ xs) = ap (λ l. x ∷ l) (nothing_after xs)

  -- what is given for some of the rest, with what was given so far is given for some of all
  abbrev pub ServesOn : List C → S → List C → S → Type 0
  ServesOn all r rest q = (end : S) → GaveSome gives answers refuses q rest end → GaveSome gives answers refuses r all end

  pub serves_on : (all : List C) (r : S) (cs : List C) (q : S) → ServesOn all r cs q →
      (c : C) (rest : List C) → cs ≡ c ∷ rest → (text : List ℕ) (p : S) → gives q c text p → ServesOn all r rest p
  serves_on all r cs q on c rest e text p given end some =
      on end (subst (λ l. GaveSome gives answers refuses q l end) (sym e) (some_more q c rest text p end given some))
