-- Replacing the items of a list, one by one.
use Rattle.std.proofs.Common.{◌≡◌, ◌↔◌, ℕ, zero, suc, List, [], ◌∷◌, ◌++◌, map, take, drop, Option, Some, None, refl, sym, ap, ap₂, ◌∙◌, subst, append_assoc, IsUtf8}
use Rattle.std.specs.Prelude.{unwrap_or, slice_range}
use Rattle.std.proofs.lemmas.List.{take-map}
use Rattle.bites_spec.specs.Match.{Span}
use Rattle.bites_spec.specs.Pieces.{replaced_from, replaced, limited}
use Rattle.bites_spec.specs.Regex.{Regex, IsCompiled}
use Rattle.bites_spec.specs.Captured.{Excerpt, excerpt}
use Rattle.bites_spec.specs.Iteration.{captures_in, spans_in}
use Rattle.bites_spec.specs.Replaced.{span_in}
use Rattle.bites_spec.specs.Replace.{Gave}
use Rattle.bites_bytes.specs.Replacing.{is_nil, replaces_none}
use Rattle.bites_bytes.proofs.ReplacingLemmas.{none_some, limited_map}
use Rattle.bites_bytes.proofs.ReplacedLemmas.{nothing_iff, limited_none, mapped_none, same_texts, spans_of_captures}
use Rattle.regex_bites.specs.Order.{BeginFrom}
use Rattle.regex_bites.proofs.BorderLemmas.{spans_ordered}
use Rattle.bites_bytes.proofs.SplitLemmas.{spans_of}

joined : (hay out : List ℕ) (last : Option ℕ) (s : Span) (ss : List Span) (text : List ℕ) (texts : List (List ℕ)) (new : List ℕ) →
    new ≡ (out ++ slice_range hay (unwrap_or last 0) s.start) ++ text →
    new ++ replaced_from hay s.end ss texts ≡ out ++ replaced_from hay (unwrap_or last 0) (s ∷ ss) (text ∷ texts)
joined hay out last s ss text texts new is =
    let piece = slice_range hay (unwrap_or last 0) s.start in
    let behind = replaced_from hay s.end ss texts in
    ap (λ l. l ++ behind) (is ∙ append_assoc out piece text) ∙ append_assoc out (piece ++ text) behind

-- Items of C with spans in a haystack are replaced by what a replacer gives for them. All of them are, from one state of it on.
module _ {S C : Type 0} (gives : S → C → List ℕ → S → Type 0) (answers : S → Option (List ℕ) → S → Type 0) (span_of : C → Span)
    (hay : List ℕ) (all : List C) (start : S) where
  -- `out` is written up to the end of the last one, `rest` is still to come, and the replacer is in the state `now`: whatever it
  -- gives for the rest, with what it gave before stands for all.
  pub record IsOn (out : List ℕ) (last : Option ℕ) (rest : List C) (now : S) : Type 0 where
    pub written : (texts : List (List ℕ)) (end : S) → Gave gives answers now rest texts end →
        (every : List (List ℕ)) × Gave gives answers start all every end
        × (out ++ replaced_from hay (unwrap_or last 0) (map span_of rest) texts ≡ replaced_from hay 0 (map span_of all) every)
    pub nothing : replaces_none last rest ≡ is_nil all
    pub order : BeginFrom (unwrap_or last 0) (map span_of rest)

  pub on_start : (out : List ℕ) (last : Option ℕ) → out ≡ [] → last ≡ None → BeginFrom 0 (map span_of all) → IsOn out last all start
  on_start out last bare none order =
      subst (λ o. IsOn o last all start) (sym bare)
      (subst (λ l. IsOn [] l all start) (sym none)
      (record { written = λ texts end gave. (texts, gave, refl); nothing = refl; order = order }))

  pub on_step : (out : List ℕ) (last : Option ℕ) (c : C) (rest : List C) (now : S) → IsOn out last (c ∷ rest) now →
      (text : List ℕ) (next : S) → gives now c text next → (new : List ℕ) (place : Option ℕ) →
      new ≡ (out ++ slice_range hay (unwrap_or last 0) (span_of c).start) ++ text → place ≡ Some (span_of c).end → IsOn new place rest next
  on_step out last c rest now on text next given new place is at = record {
    written = λ texts end gave.
        let first = on.written (text ∷ texts) end (next, given, gave) in (
          first.0,
          first.1,
          ap (λ (l : Option ℕ). new ++ replaced_from hay (unwrap_or l 0) (map span_of rest) texts) at
              ∙ joined hay out last (span_of c) (map span_of rest) text texts new is
              ∙ first.2,
        );
    nothing = ap (λ l. replaces_none l rest) at ∙ sym (none_some last c rest) ∙ on.nothing;
    order = subst (λ (l : Option ℕ). BeginFrom (unwrap_or l 0) (map span_of rest)) (sym at) on.order.1;
  }

  -- nothing is left
  module _ (out : List ℕ) (last : Option ℕ) (rest : List C) (now : S) (on : IsOn out last rest now) (none : rest ≡ []) where
    pub on_end : (every : List (List ℕ)) × Gave gives answers start all every now
        × (out ++ drop (unwrap_or last 0) hay ≡ replaced_from hay 0 (map span_of all) every)
    on_end = (subst (λ l. IsOn out last l now) none on).written [] now refl

    pub on_borrows : (last ≡ None) ↔ (all ≡ [])
    on_borrows = nothing_iff last rest all none on.nothing

-- the order of a prefix
begin_take : (n e : ℕ) (ss : List Span) → BeginFrom e ss → BeginFrom e (take n ss)
begin_take zero e ss h = tt
begin_take (suc n) e [] h = tt
begin_take (suc n) e (s ∷ ss) h = (h.0, begin_take n s.end ss h.1)

pub begin_limited : {C : Type 0} (span_of : C → Span) (n : ℕ) (cs : List C) → BeginFrom 0 (map span_of cs) → BeginFrom 0 (map span_of (limited n cs))
begin_limited span_of zero cs h = h
begin_limited span_of (suc n) cs h = subst (BeginFrom 0) (take-map span_of (suc n) cs) (begin_take (suc n) 0 (map span_of cs) h)

-- a text for each item
module _ (text : List ℕ) where
  abbrev pub GivesText : {C : Type 0} → Unit {0} → C → List ℕ → Unit {0} → Type 0
  GivesText s c t e = (t ≡ text) × (e ≡ s)

  texts_given : {C : Type 0} (answers : Unit {0} → Option (List ℕ) → Unit {0} → Type 0) (cs : List C) (ts : List (List ℕ)) (s e : Unit {0}) →
      Gave (GivesText) answers s cs ts e → ts ≡ map (λ c. text) cs
  texts_given answers [] [] s e gave = refl
  texts_given answers [] (t ∷ ts) s e gave = absurd gave
  texts_given answers (c ∷ cs) [] s e gave = absurd gave
  texts_given answers (c ∷ cs) (t ∷ ts) s e gave = ap₂ (λ a b. a ∷ b) gave.1.0 (texts_given answers cs ts gave.0 e gave.2)

abbrev pub NoAnswers : Unit {0} → Option (List ℕ) → Unit {0} → Type 0
NoAnswers s o e = Unit {0}

abbrev pub span_of : Excerpt → Span
span_of e = e.span

-- the matches of a regex in a text that are to be replaced
abbrev pub to_replace : Regex → List ℕ → ℕ → List Excerpt
to_replace r hay n = limited n (map (excerpt hay) (spans_in r hay))

module _ (r : Regex) (is : IsCompiled r) (hay : List ℕ) (n : ℕ) where
  spans_to_replace : map span_of (to_replace r hay n) ≡ limited n (map span_in (captures_in r hay))
  spans_to_replace =
      sym (limited_map span_of n (map (excerpt hay) (spans_in r hay)))
      ∙ ap (limited n) (spans_of hay (spans_in r hay) ∙ spans_of_captures r is hay)

  -- each is replaced by the text
  pub text_end : (text : List ℕ) (every : List (List ℕ)) → Gave (GivesText text) NoAnswers tt (to_replace r hay n) every tt →
      replaced_from hay 0 (map span_of (to_replace r hay n)) every
      ≡ replaced hay n (map span_in (captures_in r hay)) (map (λ c. text) (limited n (captures_in r hay)))
  text_end text every gave =
      let cs = captures_in r hay in
      ap (replaced_from hay 0 (map span_of (to_replace r hay n))) (texts_given text NoAnswers (to_replace r hay n) every tt tt gave ∙ sym (same_texts span_of text (to_replace r hay n)))
      ∙ ap (λ ss. replaced_from hay 0 ss (map (λ y. text) ss)) spans_to_replace
      ∙ ap (λ (l : List Span). replaced_from hay 0 (limited n (map span_in cs)) (map (λ y. text) l)) (limited_map span_in n cs)
      ∙ ap (replaced_from hay 0 (limited n (map span_in cs))) (same_texts span_in text (limited n cs))

  none_as : {A B C : Type 0} (f : A → C) (g : B → C) (xs : List A) (ys : List B) → map f xs ≡ map g ys → (xs ≡ []) ↔ (ys ≡ [])
  none_as f g xs ys e =
      let a = mapped_none f xs in let b = mapped_none g ys in
      (λ bare. b.0 (sym e ∙ a.1 bare), λ bare. a.0 (e ∙ b.1 bare))

  pub text_borrows : (last : Option ℕ) → (last ≡ None) ↔ (to_replace r hay n ≡ []) → (last ≡ None) ↔ (captures_in r hay ≡ [])
  text_borrows last same =
      let cs = captures_in r hay in
      let a = none_as span_of span_in (to_replace r hay n) (limited n cs) (spans_to_replace ∙ limited_map span_in n cs) in
      let b = limited_none n cs in
      (λ e. b.0 (a.0 (same.0 e)), λ e. same.1 (a.1 (b.1 e)))

-- the groups of all matches stand in order
pub captures_ordered : (hay : List ℕ) → IsUtf8 hay → (r : Regex) → IsCompiled r → BeginFrom 0 (map span_in (captures_in r hay))
captures_ordered hay utf8 r is =
    subst (BeginFrom 0) (spans_of hay (spans_in r hay) ∙ spans_of_captures r is hay) (spans_ordered hay utf8 r is)
