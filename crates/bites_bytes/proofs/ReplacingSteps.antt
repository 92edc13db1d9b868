-- Steps of replacing, from the calls that they make.
use Rattle.std.proofs.Common.{◌≡◌, ℕ, Bool, true, List, [], ◌∷◌, ◌++◌, Option, Some, None, sym, ap, ◌∙◌}
use Rattle.std.specs.Prelude.{unwrap_or, slice_range}
use Rattle.bites_spec.specs.Match.{Span, span}
use Rattle.bites_bytes.specs.Calls.{ReadsNext}
use Rattle.bites_spec.specs.Captured.{Captured, captured}
use Rattle.bites_bytes.specs.Matched.{excerpt_of}
use Rattle.bites_bytes.specs.Matches.{IsSameSearch, Moves, left_from, captures_to_come}
use Rattle.bites_spec.specs.Replaced.{span_in}
use Rattle.bites_bytes.specs.ReplaceLimit.{taken, Spends}
use Rattle.bites_bytes.specs.Replacing.{spans_to_replace, captures_to_replace, Rests, StepsByText, StepsBy}
use Rattle.bites_bytes.specs.declared.bytes.matched.Match.{Match}
use Rattle.bites_bytes.specs.declared.bytes.matches.Cursor.{Cursor}
use Rattle.bites_bytes.specs.declared.bytes.replace.Replacing.{Replacing}
use Rattle.bites_bytes.proofs.MatchLemmas.{captures_come}
use Rattle.bites_bytes.proofs.ReplacingLemmas.{taken_step, taken_nil, spans_yield, spans_end}

-- what is written for a match
abbrev pub IsWritten : Replacing → ℕ → List ℕ → Replacing → Type 0
IsWritten s start text t = t.out.items ≡ (s.out.items ++ slice_range s.cursor.haystack.now (unwrap_or s.cursor.last 0) start) ++ text

module _ (s t : Replacing) (there : Bool) (spends : Spends s.left there t.left) where
  module _ (is : there ≡ true) (same : IsSameSearch s.cursor t.cursor) where
    pub text_step : (m : Match) (text : List ℕ) → left_from s.cursor ≡ excerpt_of m ∷ left_from t.cursor →
        Moves s.cursor (Some m) t.cursor → IsWritten s (excerpt_of m).span.start text t → StepsByText text s true t
    text_step m text steps moves out = (
      (excerpt_of m).span,
      ap (taken s.left) (spans_yield s.cursor t.cursor m steps) ∙ taken_step s.left t.left there _ _ spends is,
      record { out = out; last = moves.1; same = same },
    )

    pub text_rest : left_from s.cursor ≡ [] → left_from t.cursor ≡ [] → Moves s.cursor None t.cursor →
        t.out.items ≡ s.out.items → Rests spans_to_replace s t
    text_rest none still moves out = record {
      none = taken_nil s.left _ (spans_end s.cursor none);
      still = taken_nil t.left _ (spans_end t.cursor still);
      out = out;
      last = moves;
      same = same;
    }

-- the captures of the match come first
pub captures_go : (s : Replacing) (left : Option ℕ) (t : Cursor) (there : Bool) → Spends s.left there left → there ≡ true → IsSameSearch s.cursor t →
    (m : Match) (new : List (Option ℕ)) → ReadsNext s.cursor.regex.now s.cursor.haystack.now s.cursor.last (Some (excerpt_of m)) new →
    Moves s.cursor (Some m) t → (c : Captured) → c ≡ captured t.regex.now t.haystack.now new → captures_to_replace s ≡ c ∷ taken left (captures_to_come t)
captures_go s left t there spends is same m new next moves c e =
    ap (taken s.left) ((captures_come s.cursor t (Some m) new next same moves).0 ∙ ap (λ d. d ∷ captures_to_come t) (sym e))
    ∙ taken_step s.left left there c (captures_to_come t) spends is

module _ (s t : Replacing) (there : Bool) (spends : Spends s.left there t.left) (is : there ≡ true) (same : IsSameSearch s.cursor t.cursor)
    (new : List (Option ℕ)) where
  pub by_step : {S : Type 0} (gives : S → Captured → List ℕ → S → Type 0) (answers : S → Option (List ℕ) → S → Type 0) →
      (m : Match) → ReadsNext s.cursor.regex.now s.cursor.haystack.now s.cursor.last (Some (excerpt_of m)) new → Moves s.cursor (Some m) t.cursor →
      (r q : S) (c : Captured) (text : List ℕ) → c ≡ captured t.cursor.regex.now t.cursor.haystack.now new →
      gives r c text q → IsWritten s (excerpt_of m).span.start text t → StepsBy gives answers s r true t q
  by_step gives answers m next moves r q c text e given out =
      let spans : span_in c ≡ (excerpt_of m).span =
      ap span_in e ∙ ap (λ o. unwrap_or o (span 0 0)) next.whole in (
        c,
        text,
        captures_go s t.left t.cursor there spends is same m new next moves c e,
        given,
        record {
          out =
              out ∙ ap (λ (x : Span). (s.out.items ++ slice_range s.cursor.haystack.now (unwrap_or s.cursor.last 0) x.start) ++ text) (sym spans);
          last = moves.1 ∙ ap (λ (x : Span). Some x.end) (sym spans);
          same = same;
        },
      )

  pub captures_rest : ReadsNext s.cursor.regex.now s.cursor.haystack.now s.cursor.last None new → Moves s.cursor None t.cursor →
      t.out.items ≡ s.out.items → Rests captures_to_replace s t
  captures_rest next moves out =
      let come = captures_come s.cursor t.cursor None new next same moves in record {
        none = taken_nil s.left _ come.0;
        still = taken_nil t.left _ come.1;
        out = out;
        last = moves;
        same = same;
      }
