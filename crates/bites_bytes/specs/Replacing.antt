-- A haystack whose matches are being replaced, step by step.
use Rattle.std.specs.Prelude.{◌≡◌, ℕ, Bool, true, false, List, [], ◌∷◌, ◌++◌, map, slice_range, Option, Some, None, unwrap_or}
use Rattle.bites_spec.specs.Match.{Span}
use Rattle.bites_spec.specs.Pieces.{replaced_from}
use Rattle.bites_spec.specs.Captured.{Captured}
use Rattle.bites_spec.specs.Replace.{Gave}
use Rattle.bites_bytes.specs.Matches.{IsSameSearch, spans_left, captures_to_come}
use Rattle.bites_spec.specs.Replaced.{span_in}
use Rattle.bites_bytes.specs.ReplaceLimit.{taken}
use Rattle.bites_bytes.specs.declared.bytes.replace.Replacing.{Replacing}

-- the haystack, and the end of the last match that was replaced
abbrev pub hay_of : Replacing → List ℕ
hay_of s = s.cursor.haystack.now

abbrev pub begin_of : Replacing → ℕ
begin_of s = unwrap_or s.cursor.last 0

-- the matches that are still to be replaced
abbrev pub spans_to_replace : Replacing → List Span
spans_to_replace s = taken s.left (spans_left s.cursor)

abbrev pub captures_to_replace : Replacing → List Captured
captures_to_replace s = taken s.left (captures_to_come s.cursor)

-- whether there are none
abbrev pub is_nil : {B : Type 0} → List B → Bool
is_nil [] = true
is_nil (x ∷ xs) = false

-- whether no match was replaced, and none of these is to be
abbrev pub replaces_none : {B : Type 0} → Option ℕ → List B → Bool
replaces_none None xs = is_nil xs
replaces_none (Some e) xs = false

-- what is written, and then the rest of the haystack with spans replaced
abbrev pub with_texts : Replacing → List Span → List (List ℕ) → List ℕ
with_texts s ss texts = s.out.items ++ replaced_from s.cursor.haystack.now (unwrap_or s.cursor.last 0) ss texts

-- what is written, and then the rest of the haystack with each match that is left replaced by one text
abbrev pub with_text : List ℕ → Replacing → List ℕ
with_text text s = with_texts s (spans_to_replace s) (map (λ x. text) (spans_to_replace s))

-- the text is written after what stands before the span, and the search goes on where the span ends
pub record Writes (s : Replacing) (x : Span) (text : List ℕ) (t : Replacing) : Type 0 where
  pub out : t.out.items ≡ (s.out.items ++ slice_range s.cursor.haystack.now (unwrap_or s.cursor.last 0) x.start) ++ text
  pub last : t.cursor.last ≡ Some x.end
  pub same : IsSameSearch s.cursor t.cursor

-- nothing is left, and nothing was written
pub record Rests {B : Type 0} (to_replace : Replacing → List B) (s t : Replacing) : Type 0 where
  pub none : to_replace s ≡ []
  pub still : to_replace t ≡ []
  pub out : t.out.items ≡ s.out.items
  pub last : t.cursor.last ≡ s.cursor.last
  pub same : IsSameSearch s.cursor t.cursor

-- one more match was replaced by the text, or none is left
abbrev pub StepsByText : List ℕ → Replacing → Bool → Replacing → Type 0
StepsByText text s true t = (x : Span) × (spans_to_replace s ≡ x ∷ spans_to_replace t) × Writes s x text t
StepsByText text s false t = Rests spans_to_replace s t

-- what stands for the rest stands for all
pub record OnByText (text : List ℕ) (s t : Replacing) : Type 0 where
  pub out : with_text text t ≡ with_text text s
  pub nothing : replaces_none t.cursor.last (spans_to_replace t) ≡ replaces_none s.cursor.last (spans_to_replace s)
  pub same : IsSameSearch s.cursor t.cursor

-- all are replaced by the text
abbrev pub EndsByText : List ℕ → Replacing → Replacing → Type 0
EndsByText text s t = OnByText text s t × (spans_to_replace t ≡ [])

module _ {S : Type 0} (gives : S → Captured → List ℕ → S → Type 0) (answers : S → Option (List ℕ) → S → Type 0) where
  -- one more match was replaced by what the replacer gave, or none is left
  abbrev pub StepsBy : Replacing → S → Bool → Replacing → S → Type 0
  StepsBy s r true t q =
      (c : Captured) × (text : List ℕ) × (captures_to_replace s ≡ c ∷ captures_to_replace t) × gives r c text q × Writes s (span_in c) text t
  StepsBy s r false t q = Rests captures_to_replace s t × (q ≡ r)

  -- what stands for the rest stands for all with what was given so far
  pub record GoesOn (s : Replacing) (r : S) (t : Replacing) (q : S) : Type 0 where
    pub out : (texts : List (List ℕ)) (end : S) → Gave gives answers q (captures_to_replace t) texts end →
        (all : List (List ℕ)) × Gave gives answers r (captures_to_replace s) all end
        × (with_texts t (map span_in (captures_to_replace t)) texts ≡ with_texts s (map span_in (captures_to_replace s)) all)
    pub nothing : replaces_none t.cursor.last (captures_to_replace t) ≡ replaces_none s.cursor.last (captures_to_replace s)
    pub same : IsSameSearch s.cursor t.cursor

  -- all are replaced
  abbrev pub EndsBy : Replacing → S → Replacing → S → Type 0
  EndsBy s r t q = GoesOn s r t q × (captures_to_replace t ≡ [])
