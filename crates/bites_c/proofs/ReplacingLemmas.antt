-- Replacing matches, one by one.
use Rattle.std.proofs.Common.{◌≡◌, ◌↔◌, ℕ, Bool, true, false, List, [], ◌++◌, map, drop, Option, Some, None, sym, ap, subst, ◌∙◌}
use Rattle.std.specs.Prelude.{unwrap_or, MatchOption, IsSome}
use Rattle.bites_spec.specs.Match.{Span}
use Rattle.bites_spec.specs.Pieces.{replaced_from, limited}
use Rattle.bites_spec.specs.Regex.{Regex, IsCompiled}
use Rattle.bites_spec.specs.Captured.{Captured}
use Rattle.bites_spec.specs.Iteration.{captures_in, captures_after, spans_in, spans_after}
use Rattle.bites_spec.specs.Replaced.{span_in}
use Rattle.bites_spec.specs.Replacer.{expanded}
use Rattle.bites_bytes.specs.ReplaceLimit.{taken, bound}
use Rattle.bites_bytes.specs.Replacing.{replaces_none}
use Rattle.bites_bytes.proofs.ReplacingLemmas.{taken_limited, limited_map}
use Rattle.bites_bytes.proofs.ReplacedLemmas.{nothing_iff, limited_none, mapped_none, spans_of_captures, same_texts}
use Rattle.bites_c.specs.Replaced.{HoldsIfMatched, with_template, with_text}
use Rattle.bites_c.specs.Handles.{SearchFinds}
use Rattle.bites_c.specs.Replacing.{IsFresh, spans_left, captures_left, Ends, GoesOn, Steps}
use Rattle.bites_c.specs.declared.held.Held.{Held}
use Rattle.bites_c.specs.declared.taken.Search.{Search}
use Rattle.bites_c.specs.declared.replacing.Replacing.{Replacing}
use Rattle.std.proofs.lemmas.List.{map-id}

-- one more step of a search that replaces
pub step_more : {C : Type 0} (items : Regex → Replacing → List C) (span_of : C → Span) (text_of : C → List ℕ) (first before after : Search) (s t q : Replacing) (there : Bool) →
    SearchFinds first before (GoesOn (items first.held.value.regex) span_of text_of s t) →
    SearchFinds before after (Steps (items before.held.value.regex) span_of text_of t there q) →
    SearchFinds first after (GoesOn (items first.held.value.regex) span_of text_of s q)
step_more items span_of text_of first before after s t q there a b =
    let on = goes there (subst (λ (h : Held). Steps (items h.regex) span_of text_of t there q) a.held b.found) in
    record {
      held = b.held ∙ a.held;
      fits = b.fits ∙ a.fits;
      found = record { same = on.same ∙ a.found.same; nothing = on.nothing ∙ a.found.nothing; haystack = on.haystack ∙ a.found.haystack };
    }
  where
    goes : (there : Bool) → Steps (items first.held.value.regex) span_of text_of t there q → GoesOn (items first.held.value.regex) span_of text_of t q
    goes true h = h.0
    goes false h = h.0

module _ {C : Type 0} (items : Replacing → List C) (span_of : C → Span) (text_of : C → List ℕ) where
  -- from nothing written to nothing left
  module _ (hay : List ℕ) (n : ℕ) (s t : Replacing) (fresh : IsFresh hay n s) (ends : Ends items span_of text_of s t) where
    pub end_written : t.out.items ++ drop (unwrap_or t.last 0) t.haystack.now ≡ replaced_from hay 0 (map span_of (items s)) (map text_of (items s))
    end_written =
        sym (ap (λ cs. t.out.items ++ replaced_from t.haystack.now (unwrap_or t.last 0) (map span_of cs) (map text_of cs)) ends.1)
        ∙ ends.0.same
        ∙ ap (λ l. l ++ replaced_from s.haystack.now (unwrap_or s.last 0) (map span_of (items s)) (map text_of (items s))) fresh.out
        ∙ ap (λ h. replaced_from h (unwrap_or s.last 0) (map span_of (items s)) (map text_of (items s))) fresh.haystack
        ∙ ap (λ (l : Option ℕ). replaced_from hay (unwrap_or l 0) (map span_of (items s)) (map text_of (items s))) fresh.last

    pub end_nothing : (t.last ≡ None) ↔ (items s ≡ [])
    end_nothing = nothing_iff t.last (items t) (items s) ends.1 (ends.0.nothing ∙ ap (λ l. replaces_none l (items s)) fresh.last)

-- what was finished is the haystack with its matches replaced
finished : {V : Type 0} (view : V → List ℕ) (cs : List Captured) (text : List ℕ) (last : Option ℕ) (bytes : List ℕ) (o : Option V) →
    (last ≡ None) ↔ (cs ≡ []) → bytes ≡ text → MatchOption o (last ≡ None) (λ v. IsSome last × (view v ≡ bytes)) → HoldsIfMatched view cs text o
finished view cs text last bytes None nothing same h = nothing.0 h
finished view cs text last bytes (Some v) nothing same h = ((λ none. there last h.0 (nothing.1 none)), h.1 ∙ same)
  where
    there : (l : Option ℕ) → IsSome l → l ≡ None → ⊥
    there l some e = cc

module _ (r : Regex) (hay : List ℕ) (n : ℕ) (s t : Replacing) (fresh : IsFresh hay n s) where
  spans_start : IsCompiled r → spans_left r s ≡ limited n (map span_in (captures_in r hay))
  spans_start is =
      ap (λ o. taken o (spans_after r s.haystack.now s.last)) fresh.left
      ∙ ap (λ h. taken (bound n) (spans_after r h s.last)) fresh.haystack
      ∙ ap (λ l. taken (bound n) (spans_after r hay l)) fresh.last
      ∙ taken_limited n (spans_in r hay)
      ∙ ap (limited n) (spans_of_captures r is hay)

  captures_start : captures_left r s ≡ limited n (captures_in r hay)
  captures_start =
      ap (λ o. taken o (captures_after r s.haystack.now s.last)) fresh.left
      ∙ ap (λ h. taken (bound n) (captures_after r h s.last)) fresh.haystack
      ∙ ap (λ l. taken (bound n) (captures_after r hay l)) fresh.last
      ∙ taken_limited n (captures_in r hay)

  pub text_end : IsCompiled r → {V : Type 0} (view : V → List ℕ) (text : List ℕ) (o : Option V) → Ends (spans_left r) (λ x. x) (λ x. text) s t →
      MatchOption o (t.last ≡ None) (λ v. IsSome t.last × (view v ≡ t.out.items ++ drop (unwrap_or t.last 0) t.haystack.now)) →
      HoldsIfMatched view (captures_in r hay) (with_text r hay n text) o
  unfolding with_text
  text_end is view text o ends h =
      let cs = captures_in r hay in let spans = limited n (map span_in cs) in
      let a = end_nothing (spans_left r) (λ x. x) (λ x. text) hay n s t fresh ends in
      let b = limited_none n (map span_in cs) in let d = mapped_none span_in cs in
      finished view cs (with_text r hay n text) t.last (t.out.items ++ drop (unwrap_or t.last 0) t.haystack.now) o
      (λ e. d.0 (b.0 (sym (spans_start is) ∙ a.0 e)), λ e. a.1 (spans_start is ∙ b.1 (d.1 e)))
      (end_written (spans_left r) (λ x. x) (λ x. text) hay n s t fresh ends
      ∙ ap (λ ss. replaced_from hay 0 (map (λ x. x) ss) (map (λ x. text) ss)) (spans_start is)
      ∙ ap (λ ss. replaced_from hay 0 ss (map (λ x. text) spans)) (map-id spans)
      ∙ ap (λ (l : List Span). replaced_from hay 0 spans (map (λ x. text) l)) (limited_map span_in n cs)
      ∙ ap (replaced_from hay 0 spans) (same_texts span_in text (limited n cs)))
      h

  pub template_end : {V : Type 0} (view : V → List ℕ) (template : List ℕ) (o : Option V) →
      Ends (captures_left r) span_in (λ c. expanded c template) s t →
      MatchOption o (t.last ≡ None) (λ v. IsSome t.last × (view v ≡ t.out.items ++ drop (unwrap_or t.last 0) t.haystack.now)) →
      HoldsIfMatched view (captures_in r hay) (with_template r hay n template) o
  unfolding with_template
  template_end view template o ends h =
      let cs = captures_in r hay in
      let a = end_nothing (captures_left r) span_in (λ c. expanded c template) hay n s t fresh ends in
      let b = limited_none n cs in
      finished view cs (with_template r hay n template) t.last (t.out.items ++ drop (unwrap_or t.last 0) t.haystack.now) o
      (λ e. b.0 (sym captures_start ∙ a.0 e), λ e. a.1 (captures_start ∙ b.1 e))
      (end_written (captures_left r) span_in (λ c. expanded c template) hay n s t fresh ends
      ∙ ap (λ l. replaced_from hay 0 (map span_in l) (map (λ c. expanded c template) l)) captures_start
      ∙ ap (λ ss. replaced_from hay 0 ss (map (λ c. expanded c template) (limited n cs))) (sym (limited_map span_in n cs)))
      h
