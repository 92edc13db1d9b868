-- The successive matches of a compiled regex, and the haystack with all of them replaced.
use Rattle.std.proofs.Common.{◌≡◌, ℕ, List, [], ◌∷◌, ◌++◌, map, length, Option, Some, None, option_map, refl, sym, ap, ◌∙◌, subst, IsUtf8}
use Rattle.std.specs.Prelude.{unwrap_or}
use Rattle.std.proofs.lemmas.List.{map-append, append_assoc, append-nil}
use Rattle.bites_spec.specs.Utf8.{places}
use Rattle.bites_spec.specs.Match.{Span, span}
use Rattle.bites_spec.specs.Run.{Run, slots}
use Rattle.bites_spec.specs.Slots.{group_in, span_of_run}
use Rattle.bites_spec.specs.Spans.{successive, EndsGrow}
use Rattle.bites_spec.specs.Pieces.{text_at, replaced, joined_by}
use Rattle.bites_spec.specs.Regex.{Regex, IsCompiled, run_at}
use Rattle.bites_spec.specs.Captured.{Captured, Excerpt, excerpt, text_of}
use Rattle.bites_spec.specs.Iteration.{spans_in, captured_by, captures_in, pieces_in}
use Rattle.bites_spec.specs.Replace.{Served}
use Rattle.bites_spec.specs.Replaced.{span_in}
use Rattle.bites_spec.specs.AllMatches.{AreMatches}
use Rattle.bites_spec.proofs.Laws as laws
use Rattle.bites_theorems.specs.Headline.{AreAllMatches, AreAllTextMatches}
use Rattle.bites_theorems.specs.Promises.{StandApart, GrowAfterFirst, whole_of}

-- all matches of a tree stand apart
stand_apart : (r : Regex) (hay : List ℕ) (ss : List Span) → AreMatches r hay ss → StandApart (length hay) ss
stand_apart r hay ss all = let apart = laws.matches_stand_apart r hay ss all in (apart.0, grow_after_first ss apart.1)
  where
    grow_after_first : (ss : List Span) → ((x : Span) (xs : List Span) → ss ≡ x ∷ xs → EndsGrow x.end xs) → GrowAfterFirst ss
    grow_after_first [] grow = tt
    grow_after_first (x ∷ xs) grow = grow x xs refl

known : Option Span → Span
known o = unwrap_or o (span 0 0)

known_groups : (cs : List Captured) → map known (map (λ c. group_in c.slots 0) cs) ≡ map span_in cs
unfolding known
known_groups [] = refl
known_groups (c ∷ cs) = ap (λ ss. span_in c ∷ ss) (known_groups cs)

known_spans : (ss : List Span) → map known (map (λ s. Some s) ss) ≡ ss
unfolding known
known_spans [] = refl
known_spans (s ∷ ss) = ap (λ xs. s ∷ xs) (known_spans ss)

same_texts : (u : List ℕ) (cs : List Captured) → map (λ c. u) cs ≡ map (λ s. u) (map span_in cs)
same_texts u [] = refl
same_texts u (c ∷ cs) = ap (λ ts. u ∷ ts) (same_texts u cs)

module _ (r : Regex) (is : IsCompiled r) (hay : List ℕ) where
  spans_of_captures : map span_in (captures_in r hay) ≡ spans_in r hay
  spans_of_captures =
      sym (known_groups (captures_in r hay)) ∙ ap (map known) (laws.captures_have_spans r is hay) ∙ known_spans (spans_in r hay)

  -- the haystack with each match replaced by a text
  pub replaced_is_joined : (u bytes : List ℕ) (texts : List (List ℕ)) → texts ≡ map (λ c. u) (captures_in r hay) →
      bytes ≡ replaced hay 0 (map span_in (captures_in r hay)) texts → bytes ≡ joined_by u (pieces_in r hay)
  replaced_is_joined u bytes texts same is_replaced =
      is_replaced
      ∙ ap (replaced hay 0 (map span_in (captures_in r hay))) (same ∙ same_texts u (captures_in r hay))
      ∙ ap (λ ss. replaced hay 0 ss (map (λ s. u) ss)) spans_of_captures
      ∙ laws.replaced_is_joined hay u (spans_in r hay)

-- the texts where the replacer returned one for all matches
pub text_served : {S : Type 0} (gives : S → Captured → List ℕ → S → Type 0) (answers : S → Option (List ℕ) → S → Type 0)
    (answer : Option (List ℕ)) (u : List ℕ) (asked : S) (cs : List Captured) (texts : List (List ℕ)) (end : S) → answer ≡ Some u →
    Served gives answers answer asked cs texts end → texts ≡ map (λ c. u) cs
text_served gives answers None u asked cs texts end e served = let never : None ≡ Some u = e in cc
text_served gives answers (Some t) u asked cs texts end e served =
    let known : Some t ≡ Some u = e in let same : t ≡ u = cc in
    served.0 ∙ ap (λ (v : List ℕ). map (λ c. v) cs) same

-- where matches are read as parts of a haystack
module _ {M : Type 0} (f : M → Excerpt) (hay : List ℕ) where
  part_spans : (ms : List M) → map (λ m. (f m).span) ms ≡ map (λ (x : Excerpt). x.span) (map f ms)
  part_spans [] = refl
  part_spans (m ∷ ms) = ap (λ l. (f m).span ∷ l) (part_spans ms)

  back : (ss : List Span) → map (λ (x : Excerpt). x.span) (map (excerpt hay) ss) ≡ ss
  back [] = refl
  back (s ∷ ss) = ap (λ l. s ∷ l) (back ss)

  -- their spans
  spans_of_parts : (ms : List M) (ss : List Span) → map f ms ≡ map (excerpt hay) ss → map (λ m. (f m).span) ms ≡ ss
  spans_of_parts ms ss e = part_spans ms ∙ ap (map (λ (x : Excerpt). x.span)) e ∙ back ss

  -- they are all matches
  pub all_matches : (r : Regex) → IsCompiled r → (ms : List M) → map f ms ≡ map (excerpt hay) (spans_in r hay) → AreAllMatches r hay (map (λ m. (f m).span) ms)
  all_matches r is ms e =
      let all = laws.finds_are_successive r is hay in
      subst (AreAllMatches r hay) (sym (spans_of_parts ms (spans_in r hay) e))
      (record { on_tree = all; none_between = laws.none_is_left_out r hay (spans_in r hay) all; apart = stand_apart r hay (spans_in r hay) all })

  pub all_text_matches : (r : Regex) → IsCompiled r → IsUtf8 hay → (ms : List M) → map f ms ≡ map (excerpt hay) (spans_in r hay) →
      AreAllTextMatches r hay (map (λ m. (f m).span) ms)
  all_text_matches r is utf8 ms e =
      let all = all_matches r is ms e in record { all = all; borders = laws.matches_have_borders r hay (map (λ m. (f m).span) ms) utf8 all.on_tree }

  part_texts : (ms : List M) → map (λ m. text_of (f m)) ms ≡ map text_of (map f ms)
  part_texts [] = refl
  part_texts (m ∷ ms) = ap (λ l. text_of (f m) ∷ l) (part_texts ms)

  texts_at : (ss : List Span) → map text_of (map (excerpt hay) ss) ≡ map (text_at hay) ss
  texts_at [] = refl
  texts_at (s ∷ ss) = ap (λ l. text_at hay s ∷ l) (texts_at ss)

  -- and what stands there
  pub texts_of_parts : (ms : List M) (ss : List Span) → map f ms ≡ map (excerpt hay) ss → map (λ m. text_of (f m)) ms ≡ map (text_at hay) ss
  texts_of_parts ms ss e = part_texts ms ∙ ap (map text_of) e ∙ texts_at ss

  some_parts : (ms : List M) → map (λ m. Some (f m)) ms ≡ map (λ x. Some x) (map f ms)
  some_parts [] = refl
  some_parts (m ∷ ms) = ap (λ l. Some (f m) ∷ l) (some_parts ms)

-- the groups 0 that were read, and those that are still to come, are these
abbrev pub WithRest : {M : Type 0} → (M → Excerpt) → List (Option M) → List Captured → List Captured → Type 0
WithRest f wholes rest all = map (option_map f) wholes ++ map whole_of rest ≡ map whole_of all

module _ {M : Type 0} (f : M → Excerpt) where
  -- one more was read
  pub one_more_whole : (wholes : List (Option M)) (before : List Captured) (c : Captured) (rest all : List Captured) (m : Option M) →
      WithRest f wholes before all → before ≡ c ∷ rest → option_map f m ≡ whole_of c → WithRest f (wholes ++ m ∷ []) rest all
  one_more_whole wholes before c rest all m so_far next is =
      ap (λ l. l ++ map whole_of rest) (map-append (option_map f) wholes (m ∷ []))
      ∙ append_assoc (map (option_map f) wholes) (option_map f m ∷ []) (map whole_of rest)
      ∙ ap (λ x. map (option_map f) wholes ++ x ∷ map whole_of rest) is
      ∙ ap (λ l. map (option_map f) wholes ++ map whole_of l) (sym next)
      ∙ so_far

  module _ (r : Regex) (is : IsCompiled r) (hay : List ℕ) where
    wholes_by : (xs : List Run) → map whole_of (map (captured_by r hay) xs)
        ≡ map (option_map (excerpt hay)) (map (λ c. group_in c.slots 0) (map (captured_by r hay) xs))
    wholes_by [] = refl
    wholes_by (x ∷ xs) = ap (λ l. option_map (excerpt hay) (group_in (slots r.program x) 0) ∷ l) (wholes_by xs)

    some_spans : (ss : List Span) → map (option_map (excerpt hay)) (map (λ s. Some s) ss) ≡ map (λ x. Some x) (map (excerpt hay) ss)
    some_spans [] = refl
    some_spans (s ∷ ss) = ap (λ l. Some (excerpt hay s) ∷ l) (some_spans ss)

    -- all of them are all matches
    pub wholes_are_matches : (wholes : List (Option M)) (ms : List M) (rest : List Captured) → WithRest f wholes rest (captures_in r hay) → rest ≡ [] →
        map f ms ≡ map (excerpt hay) (spans_in r hay) → map (option_map f) wholes ≡ map (λ m. Some (f m)) ms
    wholes_are_matches wholes ms rest all none found =
        sym (append-nil (map (option_map f) wholes))
        ∙ ap (λ l. map (option_map f) wholes ++ map whole_of l) (sym none)
        ∙ all
        ∙ wholes_by (successive span_of_run hay (λ s. run_at r hay (places hay s)))
        ∙ ap (map (option_map (excerpt hay))) (laws.captures_have_spans r is hay)
        ∙ some_spans (spans_in r hay)
        ∙ ap (map (λ x. Some x)) (sym found)
        ∙ sym (some_parts f hay ms)
