use Rattle.std.proofs.Common.{◌≡◌, ◌∷◌, [], ◌++◌, ◌∙◌, drop, refl, sym, ap, subst, Some, None, string_bytes}
use Rattle.std.specs.Prelude.{slice_range, unwrap_or}
use Rattle.bites_spec.specs.Pieces.{limited}
use Rattle.bites_spec.specs.Captured.{Excerpt}
use Rattle.bites_bytes.specs.ReplaceLimit.{taken}
use Rattle.bites_bytes.proofs.ReplacingLemmas.{taken_limited}
use Rattle.bites_bytes.proofs.ReplacedLemmas.{if_ok}
use Rattle.regex_bites.specs.Matched.{excerpt_of}
use Rattle.regex_bites.specs.ReplacedText.{matches_after}
use Rattle.regex_bites.proofs.BorderLemmas.{spans_ordered}
use Rattle.regex_bites.proofs.ReplacingLemmas.{IsOn, on_start, on_step, on_end, on_borrows, begin_limited, GivesText, NoAnswers, span_of, to_replace, text_end, text_borrows}
use Rattle.regex_bites.proofs.string.regex.Regex.replace_by_text.Goals as goal

pub loop-found-init : goal.loop-found-init
loop-found-init c =
    let hay = c.args.haystack.now in let n = c.args.limit in let r = c.args.self.now in
    let all = to_replace r hay n in let s = c.new-out.result in let begun = c.new-out.ensures in
    let gives = GivesText c.args.text.now {C = Excerpt} in
    let rest : taken c.bound-left.result (matches_after r hay s.last) ≡ all =
    ap (λ o. taken o (matches_after r hay s.last)) c.bound-left.ensures ∙ taken_limited n (matches_after r hay s.last)
    ∙ ap (λ l. limited n (matches_after r hay l)) begun.last in
    record {
      on =
          subst (λ l. IsOn gives NoAnswers span_of hay all tt (string_bytes s.out) s.last l tt) (sym rest)
          (on_start gives NoAnswers span_of hay all tt (string_bytes s.out) s.last begun.out begun.last
          (begin_limited span_of n (matches_after r hay None) (spans_ordered hay c.utf8.haystack r c.as_str.ensures.compiled)));
      haystack = begun.haystack;
      kept = refl;
    }

pub loop-found-preserved : goal.loop-found-preserved
loop-found-preserved c =
    let hay = c.args.haystack.now in let r = c.args.self.now in let all = to_replace r hay c.args.limit in
    let l = c.loop-found in let s = l.out in let on = l.invariant in let t = c.by_text.new.self in let e = c.in_ok-by_text.ensures in
    let gives = GivesText c.args.text.now {C = Excerpt} in let x = excerpt_of c.in-Some.found in
    let rest = taken c.next_match.new.left (matches_after r hay (Some x.span.end)) in
    let steps : taken l.left (matches_after r hay s.last) ≡ x ∷ rest =
    subst (λ h. taken l.left (matches_after r h s.last) ≡ x ∷ taken c.next_match.new.left (matches_after r h (Some x.span.end))) on.haystack
    c.in-Some.ensures.takes.found in
    record {
      on =
          subst (λ o. IsOn gives NoAnswers span_of hay all tt (string_bytes t.out) t.last (taken c.next_match.new.left (matches_after r hay o)) tt) (sym e.1)
          (on_step gives NoAnswers span_of hay all tt (string_bytes s.out) s.last x rest tt
          (subst (λ l. IsOn gives NoAnswers span_of hay all tt (string_bytes s.out) s.last l tt) steps on.on)
          c.args.text.now tt (refl, refl) (string_bytes t.out) t.last
          (e.2 ∙ ap (λ h. (string_bytes s.out ++ slice_range h (unwrap_or s.last 0) x.span.start) ++ c.args.text.now) on.haystack) e.1);
      haystack = e.0 ∙ on.haystack;
      kept = c.in-Some.ensures.takes.same ∙ on.kept;
    }

pub returns : goal.returns
returns c =
    let hay = c.args.haystack.now in let r = c.args.self.now in let all = to_replace r hay c.args.limit in
    let l = c.loop-found in let s = l.out in let on = l.invariant in
    let gives = GivesText c.args.text.now {C = Excerpt} in
    let none = subst (λ h. taken l.left (matches_after r h s.last) ≡ []) on.haystack c.in_default.ensures.takes.found in
    let end = on_end gives NoAnswers span_of hay all tt (string_bytes s.out) s.last _ tt on.on none in
    let is =
    text_borrows r c.as_str.ensures.compiled hay c.args.limit s.last
    (on_borrows gives NoAnswers span_of hay all tt (string_bytes s.out) s.last _ tt on.on none) in record {
      found = record {
        replaces = if_ok c.finish.result _ _ c.finish.ensures.bytes
            (λ x written. written ∙ ap (λ h. string_bytes s.out ++ drop (unwrap_or s.last 0) h) on.haystack ∙ end.2
            ∙ text_end r c.as_str.ensures.compiled hay c.args.limit c.args.text.now end.0 end.1);
        borrowed = if_ok c.finish.result _ _ c.finish.ensures.borrowed (λ x same. (λ b. is.0 (same.0 b), λ none. same.1 (is.1 none)));
      };
      same = c.in_default.ensures.takes.same ∙ on.kept;
    }
