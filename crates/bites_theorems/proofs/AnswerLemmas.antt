-- What the clauses of searches from one place say of their answers, and how these agree.
use Rattle.std.proofs.Common.{◌≡◌, ℕ, ◌≤◌, Bool, List, Option, Some, None, option_map, length, refl, sym, ap, ◌∙◌, subst, IsUtf8}
use Rattle.std.specs.Prelude.{is_some, option_and_then, IsTrue, IfSome, ◌↔◌, Result, Ok, Err, IfOk}
use Rattle.std.proofs.lemmas.Result.{IfOk-weaker}
use Rattle.std.proofs.lemmas.Bool.Decides.{same_from_decides}
use Rattle.bites_spec.specs.Utf8.{AreStarts}
use Rattle.bites_spec.specs.Measure.{static_captures_len}
use Rattle.bites_spec.specs.Match.{Span, span}
use Rattle.bites_spec.specs.Found.{HasMatch, IsLeastEnd}
use Rattle.bites_spec.specs.Run.{Run, slots}
use Rattle.bites_spec.specs.Slots.{group_in, participating, span_of_run}
use Rattle.bites_spec.specs.Regex.{Regex, IsCompiled, run_at, slots_at}
use Rattle.bites_spec.specs.Captured.{Captured, captured, Excerpt, excerpt, FindsGroups, FindsMatch, AreGroups}
use Rattle.bites_spec.proofs.Laws as laws
use Rattle.bites_bytes.specs.Calls.{FindsCaptured}
use Rattle.regex_bites.specs.Borders.{IsLeastBorder, MayStart}
use Rattle.bites_theorems.specs.Promises.{HaveWhole, IsNoLater, LiesWithin, whole_of}
use Rattle.bites_theorems.specs.Headline.{AnswersEnd, AnswersTextEnd, AreAnswers, AreTextAnswers}
use Rattle.bites_theorems.specs.declared.calls.answers.Answers.{Answers}
use Rattle.bites_theorems.proofs.HeadlineLemmas.{captures_at_borders, found_at_borders, found_exactly, headline, match_headline}

module _ (r : Regex) (hay : List ℕ) (s : ℕ) (ps : List ℕ) (are : AreStarts hay s ps) {M : Type 0} (view : M → Excerpt) where
  -- the soonest end is at most that of the first match, and there is one exactly if there is the other
  soonest_is_no_later : (o : Option M) → FindsMatch r hay ps (option_map view o) → (e : Option ℕ) → IsLeastEnd r.tree hay ps e →
      IsNoLater e (option_map (λ m. (view m).span.end) o)
  soonest_is_no_later None none None least = tt
  soonest_is_no_later None none (Some j) least = absurd (none.on_tree least.0.0 least.0.1 j least.0.2)
  soonest_is_no_later (Some m) found None least =
      let a = found.on_tree.answer in let p = laws.finds_some r.leftmost_longest r.tree hay ps (Some a) found.on_tree.found in
      absurd (least a.start p.first.place a.end (laws.match_is_parse.1 hay r.tree a.start a.end p.marks p.parse))
  soonest_is_no_later (Some m) found (Some j) least =
      let a = found.on_tree.answer in let p = laws.finds_some r.leftmost_longest r.tree hay ps (Some a) found.on_tree.found in
      subst (λ (g : Span). j ≤ g.end) (sym found.on_tree.is_span)
      (least.1 a.start p.first.place a.end (laws.match_is_parse.1 hay r.tree a.start a.end p.marks p.parse))

  pub end_answers : {E : Type 0} (e : Result (Option ℕ) E) (m : Result (Option M) E) → IfOk e (IsLeastEnd r.tree hay ps) →
      IfOk m (λ o. FindsMatch r hay ps (option_map view o)) → AnswersEnd view r hay ps e m
  end_answers (Err e) m least found = record { least = tt; soonest = tt }
  end_answers (Ok e) m least found = record { least = least; soonest = IfOk-weaker m _ _ (λ o h. soonest_is_no_later o h e least) found }

  pub text_end_answers : {E : Type 0} (e : Result (Option ℕ) E) (m : Result (Option M) E) → IfOk e (IsLeastBorder r hay ps) →
      IfOk m (λ o. FindsMatch r hay ps (option_map view o)) → AnswersTextEnd view r hay ps e m
  text_end_answers e m least found = record {
    answers = end_answers e m (IfOk-weaker e _ _ (λ j h. h.least) least) found;
    border = IfOk-weaker e _ _ (λ j h. h.border) least;
  }

  there : {E F : Type 0} (b : Result Bool E) (m : Result (Option M) F) → IfOk b (λ x. IsTrue x ↔ HasMatch r.tree hay ps) →
      IfOk m (λ o. FindsMatch r hay ps (option_map view o)) → IfOk b (λ x. IfOk m (λ o. x ≡ is_some o))
  there (Err e) m has found = tt
  there (Ok x) m has found = IfOk-weaker m _ _ (λ o h. same_from_decides x (is_some o) has (found_exactly r hay s ps are view o h)) found

  module _ (is : IsCompiled r) where
    whole_of_run : (o : Option Run) → run_at r hay ps ≡ o →
        option_and_then whole_of (option_map (captured r hay) (option_map (slots r.program) o)) ≡ option_map (excerpt hay) (option_map span_of_run o)
    whole_of_run None e = refl
    whole_of_run (Some x) e = ap (option_map (excerpt hay)) (laws.answers_have_group_0 r is hay s ps are x e)

    whole : {E F : Type 0} (m : Result (Option M) E) (c : Result (Option Captured) F) → IfOk m (λ o. FindsMatch r hay ps (option_map view o)) →
        IfOk c (FindsCaptured r hay ps) → IfOk m (λ o. IfOk c (λ x. option_map view o ≡ option_and_then whole_of x))
    whole (Err e) c found groups = tt
    whole (Ok o) c found groups =
        IfOk-weaker c _ _ (λ x h. found.span ∙ sym (ap (option_and_then whole_of) h.found ∙ whole_of_run (run_at r hay ps) refl)) groups

    groups_of : (o : Option (List (Option ℕ))) → slots_at r hay ps ≡ o → (c : Captured) → Some c ≡ option_map (captured r hay) o → AreGroups r hay c.slots
    groups_of None e c same = let never : Some c ≡ None = same in absurd (cc)
    groups_of (Some l) e c same =
        let groups : Some c ≡ Some (captured r hay l) = same in
        let at : c ≡ captured r hay l = cc in
        subst (λ (d : Captured). AreGroups r hay d.slots) (sym at) (laws.slots_are_groups r is hay s ps are l e)

    enough : (n : Option ℕ) → n ≡ static_captures_len r.tree → (l : List (Option ℕ)) → AreGroups r hay l → IfSome n (λ k. k ≤ length (participating l))
    enough None is_len l groups = tt
    enough (Some k) is_len l groups = groups.enough k (sym is_len)

    -- a group lies within group 0
    within : (l : List (Option ℕ)) → FindsGroups r hay ps (Some l) → (k : ℕ) (w g : Span) → group_in l 0 ≡ Some w → group_in l k ≡ Some g → LiesWithin w g
    within l found k w g e f =
        let a = found.answer in
        let lies = (laws.found_lies r.tree hay s ps are a (laws.finds_some r.leftmost_longest r.tree hay ps (Some a) found.found)).1 k g
        (sym (found.in_slots.1 k) ∙ f) in
        let same : Some (span a.start a.end) ≡ Some w = sym found.in_slots.0 ∙ e in
        let at : span a.start a.end ≡ w = cc in
        subst (λ v. LiesWithin v g) at lies

    have_whole : (n : Option ℕ) → n ≡ static_captures_len r.tree → (c : Option Captured) → FindsCaptured r hay ps c → IfSome c (λ x. HaveWhole n x.slots)
    have_whole n is_len None found = tt
    have_whole n is_len (Some c) found =
        let groups = groups_of (slots_at r hay ps) refl c found.found in
        record { whole = groups.whole; within = within c.slots found.on_tree; number = enough n is_len c.slots groups }

    module _ (a : Answers M Captured) (tests : IfOk a.is_match (λ b. IsTrue b ↔ HasMatch r.tree hay ps))
        (finds : IfOk a.find (λ m. FindsMatch r hay ps (option_map view m))) (captures : IfOk a.captures (FindsCaptured r hay ps))
        (is_len : a.static_captures_len ≡ static_captures_len r.tree) where
      pub answers : AreAnswers view r hay ps a
      answers = record {
        is_match = tests;
        find = IfOk-weaker a.find _ _ (match_headline r hay s ps are view) finds;
        captures = IfOk-weaker a.captures _ _ (λ c h. headline r hay s ps are c h.found h.on_tree) captures;
        agree = record {
          there = there a.is_match a.find tests finds;
          whole = whole a.find a.captures finds captures;
          groups = IfOk-weaker a.captures _ _ (have_whole a.static_captures_len is_len) captures;
        };
      }

      pub text_answers : IsUtf8 hay → MayStart hay s → AreTextAnswers view r hay ps a
      text_answers utf8 border = record {
        answers = answers;
        match_borders = IfOk-weaker a.find _ _ (found_at_borders r hay s ps are view utf8 border) finds;
        group_borders = IfOk-weaker a.captures _ _ (λ c h. captures_at_borders r hay s ps are utf8 border c h.on_tree) captures;
      }
