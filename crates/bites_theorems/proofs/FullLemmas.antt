-- What the clauses of searches for a match of the whole haystack say of the headline's words.
use Rattle.std.proofs.Common.{ℕ, Bool, List, Option, Some, None, refl, sym, ◌∙◌, length, arith, IsUtf8}
use Rattle.std.specs.Prelude.{◌↔◌, IsTrue, IfSome, Result, IfOk}
use Rattle.std.proofs.lemmas.Result.{IfOk-weaker}
use Rattle.std.proofs.lemmas.Str.{IsCharBoundary-start}
use Rattle.bites_spec.specs.Utf8.{start_alone}
use Rattle.bites_spec.specs.Match.{Mark, Parse}
use Rattle.bites_spec.specs.Found.{IsFirstPlace}
use Rattle.bites_spec.specs.Full.{full_slots, FindsGroupsFull, IsFullMatch}
use Rattle.bites_spec.specs.Regex.{Regex}
use Rattle.bites_spec.specs.Captured.{Captured}
use Rattle.bites_spec.proofs.Laws as laws
use Rattle.bites_bytes.specs.Calls.{FindsCapturedFull}
use Rattle.regex_bites.specs.Borders.{GroupsAtBorders}
use Rattle.bites_theorems.specs.Headline.{AreFullAnswers, AreFullGroups, AreFullTextAnswers, FullHeadline}
use Rattle.bites_theorems.proofs.HeadlineLemmas.{captured_by}

module _ (r : Regex) (hay : List ℕ) where
  from_0 : (ms : List Mark) → Parse hay r.tree 0 (length hay) ms → IsFirstPlace r.tree hay (start_alone hay 0) 0
  from_0 ms parse = record {
    place = (laws.start_is_alone hay 0 0).1 (refl, omega arith);
    matches = (length hay, laws.match_is_parse.1 hay r.tree 0 (length hay) ms parse);
    none_before = λ k among lt. absurd (omega (arith, lt));
  }

  full_groups : (l : List (Option ℕ)) → FindsGroupsFull r hay (Some l) → AreFullGroups r hay l
  full_groups l found =
      let a = found.answer in let f = found.found in
      record {
        one_parse = record {
          start = 0;
          end = length hay;
          marks = f.marks;
          first = from_0 f.marks f.parse;
          parse = f.parse;
          groups = λ k. found.in_slots.1 k ∙ f.groups k;
          chosen = refl;
        };
        preferred = λ plain. record {
          start = 0;
          end = length hay;
          marks = f.marks;
          first = from_0 f.marks f.parse;
          parse = f.parse;
          groups = λ k. found.in_slots.1 k ∙ f.groups k;
          chosen = (refl, f.chosen plain);
        };
      }

  full_headline : (o : Option Captured) → FindsCapturedFull r hay o → FullHeadline r hay o
  full_headline None found = found.on_tree
  full_headline (Some c) found =
      let by = captured_by r hay (full_slots r hay) c found.found in
      record { regex_is = by.0; haystack_is = by.1; groups = full_groups c.slots found.on_tree }

  full_at_borders : IsUtf8 hay → (o : Option Captured) → FindsCapturedFull r hay o → IfSome o (λ c. GroupsAtBorders hay c.slots)
  full_at_borders utf8 None found = tt
  full_at_borders utf8 (Some c) found = λ k g e.
      let f = found.on_tree in
      (laws.what_is_found_in_texts_has_borders r.tree hay 0 _ (laws.searches_have_starts hay 0).0 f.answer utf8 (IsCharBoundary-start hay utf8)
      (laws.full_is_found r.tree hay f.answer f.found)).1 k g (sym (f.in_slots.1 k) ∙ e)

  module _ {E : Type 0} (there : Result Bool E) (c : Result (Option Captured) E) (tests : IfOk there (λ b. IsTrue b ↔ IsFullMatch r.tree hay))
      (captures : IfOk c (FindsCapturedFull r hay)) where
    pub full_answers : AreFullAnswers r hay there c
    full_answers = record { is_match = tests; captures = IfOk-weaker c _ _ full_headline captures }

    pub full_text_answers : IsUtf8 hay → AreFullTextAnswers r hay there c
    full_text_answers utf8 = record { answers = full_answers; borders = IfOk-weaker c _ _ (full_at_borders utf8) captures }
