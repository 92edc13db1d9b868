use Rattle.std.proofs.Common.{◌≡◌, ◌≤◌, ◌∙◌, ◌++◌, ◌∷◌, [], ℕ, List, Some, get_or, length, map, slice_get, take, refl, ap, sym, subst, arith}
use Rattle.std.specs.Prelude.{slice_range}
use Rattle.std.specs.Borrow.{Bor}
use Rattle.std.proofs.lemmas.List.{map-append}
use Rattle.std.proofs.lemmas.Option.{slice_get-get_or}
use Rattle.bites_c.specs.Sets.{AreEnds, cut_from}
use Rattle.bites_c.proofs.SetLemmas.{last_end, last_end_more, cut_more, cut_at, ends_more, end_at, taken_more}
use Rattle.bites_c.proofs.make_set.cut.Goals as goal
use Rattle.bites_c.proofs.make_set.cut.Goals.{then-end-start-via-then-end-start, then-end-start-via-else-end-start+then-patterns-end}

pub returns-then-end-start-clause-refused : goal.returns-then-end-start-clause-refused
returns-then-end-start-clause-refused c = (
  record {
    utf8 = λ code. let other : 107 ≡ 102 = code in absurd (omega (arith, other));
    bad = λ code are.
        let l = c.loop-size in let ends = c.args.ends.now in let e = get_or ends l.size 0 in let len = length c.args.patterns.now in
        let right = end_at len 0 ends l.size e (slice_get-get_or ends l.size 0 c.loop-size-test.true) are in
        let from : last_end 0 (take l.size ends) ≤ e = right.0 in let within : e ≤ len = right.1 in let start = l.invariant.start in
        elim c.then-end-start.branch [
          | then-end-start-via-then-end-start w ↦ let wrong = w.if-end-start.true in omega (arith, wrong, from, start)
          | then-end-start-via-else-end-start+then-patterns-end w ↦ let wrong = w.if-patterns-end.true in omega (arith, wrong, within)
        ];
  },
  λ not_text not_bad. absurd (not_bad refl),
)

pub returns-in_default-clause-refused : goal.returns-in_default-clause-refused
returns-in_default-clause-refused c =
    let l = c.loop-size in let ends = c.args.ends.now in let e = get_or ends l.size 0 in let bytes = c.args.patterns.now in
    let at : slice_get (cut_from bytes 0 ends) l.size ≡ Some (slice_range bytes l.start e) =
    cut_at bytes 0 ends l.size e (slice_get-get_or ends l.size 0 c.loop-size-test.true) ∙ ap (λ s. Some (slice_range bytes s e)) (sym l.invariant.start) in (
      record {
        utf8 = λ code. (slice_range bytes l.start e, at, c.in_default.ensures.cases.0);
        bad = λ code. let other : 102 ≡ 107 = code in absurd (omega (arith, other));
      },
      λ not_text. absurd (not_text refl),
    )

pub loop-size-preserved : goal.loop-size-preserved
loop-size-preserved c =
    let l = c.loop-size in let ends = c.args.ends.now in let e = get_or ends l.size 0 in let bytes = c.args.patterns.now in
    let now = λ (text : Bor (List ℕ)). text.now in let before = cut_from bytes 0 (take l.size ends) in
    let more = taken_more ends l.size 0 c.loop-size-test.true in
    let within : e ≤ length bytes = c.if-patterns-end.false in
    let from : last_end 0 (take l.size ends) ≤ e = let at = l.invariant.start in let low = c.if-end-start.false in omega (arith, at, low) in
    record {
      start = sym (ap (last_end 0) more ∙ last_end_more 0 (take l.size ends) e);
      within = within;
      ends = subst (AreEnds (length bytes) 0) (sym more) (ends_more (length bytes) 0 (take l.size ends) e l.invariant.ends from within);
      cut = ap (map now) c.in_default-push.ensures.items ∙ map-append now l.texts.items (c.in-Ok.text ∷ []) ∙ ap (λ ps. ps ++ c.in-Ok.text.now ∷ []) l.invariant.cut
          ∙ ap (λ t. before ++ t ∷ []) (c.in-Ok.ensures.cases.0 ∙ ap (λ s. slice_range bytes s e) l.invariant.start)
          ∙ sym (cut_more bytes 0 (take l.size ends) e) ∙ ap (cut_from bytes 0) (sym more);
    }
