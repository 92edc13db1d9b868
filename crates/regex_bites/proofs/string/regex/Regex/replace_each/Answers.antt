use Rattle.std.proofs.Common.{rules, ◌≡◌, ◌<◌, ℕ, List, [], ◌∷◌, ◌++◌, ◌∙◌, length, drop, refl, sym, ap, subst, inl, Some, string_bytes}
use Rattle.std.specs.Prelude.{slice_range, unwrap_or, MatchResult}
use Rattle.bites_spec.specs.Pieces.{limited, replaced_from}
use Rattle.bites_spec.specs.Iteration.{captures_in, captures_after}
use Rattle.bites_spec.specs.Replace.{GaveSome, Stops}
use Rattle.bites_spec.specs.Replaced.{span_in}
use Rattle.bites_bytes.specs.ReplaceLimit.{taken}
use Rattle.bites_bytes.proofs.ReplacingLemmas.{taken_limited, limited_map, some_none, some_all, serves_on, ServesOn}
use Rattle.bites_bytes.proofs.ReplacedLemmas.{if_ok, on_err, limited_none}
use Rattle.regex_bites.proofs.ReplacingLemmas.{IsOn, on_start, on_step, on_end, on_borrows, begin_limited, captures_ordered}
use Rattle.regex_bites.proofs.string.regex.Regex.replace_each.Goals as goal

pub loop-captures-init : goal.loop-captures-init
loop-captures-init g c =
    let R = g.R.Replacer in let hay = c.args.haystack.now in let n = c.args.limit in let q = c.args.self.now in
    let cs = captures_in q hay in let s = c.new-out.result in let begun = c.new-out.ensures in let r = c.args.replacer.now in
    let rest : taken c.bound-left.result (captures_after q hay s.last) ≡ limited n cs =
    ap (λ o. taken o (captures_after q hay s.last)) c.bound-left.ensures ∙ taken_limited n (captures_after q hay s.last)
    ∙ ap (λ l. limited n (captures_after q hay l)) begun.last in
    record {
      served = λ end some. subst (λ l. GaveSome R.replaces R.answers R.refuses r l end) rest some;
      on =
          subst (λ l. IsOn R.replaces R.answers span_in hay (limited n cs) r (string_bytes s.out) s.last l r) (sym rest)
          (on_start R.replaces R.answers span_in hay (limited n cs) r (string_bytes s.out) s.last begun.out begun.last
          (begin_limited span_in n cs (captures_ordered hay c.utf8.haystack q c.as_str.ensures.compiled)));
      haystack = begun.haystack;
      len = refl;
      kept = refl;
    }

pub loop-captures-preserved : goal.loop-captures-preserved
loop-captures-preserved g c =
    let R = g.R.Replacer in let hay = c.args.haystack.now in let q = c.args.self.now in let all = limited c.args.limit (captures_in q hay) in
    let l = c.loop-captures in let s = l.out in let on = l.invariant in let t = c.by.new.self in
    let d = c.in_ok-captures.field-0 in let r = c.args.replacer.now in let left = c.next_captures.new.left in
    let cs = taken l.left (captures_after q hay s.last) in let rest = taken left (captures_after q hay (Some (span_in d).end)) in
    let taken_in = λ (h : List ℕ). taken l.left (captures_after q h s.last) in
    let steps : cs ≡ d ∷ rest =
    subst (λ h. taken_in h ≡ d ∷ taken left (captures_after q h (Some (span_in d).end))) on.haystack
    (subst (λ x. MatchResult x (λ y. taken_in s.haystack.now ≡ y ∷ taken left (captures_after q s.haystack.now (Some (span_in y).end)))
    (λ e. 0 < length (taken_in s.haystack.now))) c.in_ok-captures.was c.in-Some.ensures.takes.found) in
    let gave = c.in_ok-by.ensures.gives in let e = gave.2 in
    record {
      served =
          subst (λ o. ServesOn R.replaces R.answers R.refuses all r (taken left (captures_after q hay o)) c.by.new.replacer) (sym e.1)
          (serves_on R.replaces R.answers R.refuses all r cs l.replacer on.served d rest steps gave.0 c.by.new.replacer gave.1);
      on =
          subst (λ o. IsOn R.replaces R.answers span_in hay all r (string_bytes t.out) t.last (taken left (captures_after q hay o)) c.by.new.replacer) (sym e.1)
          (on_step R.replaces R.answers span_in hay all r (string_bytes s.out) s.last d rest l.replacer
          (subst (λ ds. IsOn R.replaces R.answers span_in hay all r (string_bytes s.out) s.last ds l.replacer) steps on.on)
          gave.0 c.by.new.replacer gave.1 (string_bytes t.out) t.last
          (e.2 ∙ ap (λ h. (string_bytes s.out ++ slice_range h (unwrap_or s.last 0) (span_in d).start) ++ gave.0) on.haystack) e.1);
      haystack = e.0 ∙ on.haystack;
      len = c.in-Some.ensures.takes.len ∙ on.len;
      kept = c.in-Some.ensures.takes.fits ∙ on.kept;
    }

pub returns : goal.returns
returns g c =
    let R = g.R.Replacer in let hay = c.args.haystack.now in let all = captures_in c.args.self.now hay in let n = c.args.limit in let cs = limited n all in
    let l = c.loop-captures in let s = l.out in let on = l.invariant in
    let nothing = subst (λ h. taken l.left (captures_after c.args.self.now h s.last) ≡ []) on.haystack c.in_default.ensures.takes.found in
    let end = on_end R.replaces R.answers span_in hay cs c.args.replacer.now (string_bytes s.out) s.last _ l.replacer on.on nothing in
    let is = on_borrows R.replaces R.answers span_in hay cs c.args.replacer.now (string_bytes s.out) s.last _ l.replacer on.on nothing in
    let none = limited_none n all in record {
      found = record {
        replaces = if_ok c.finish.result _ _ c.finish.ensures.bytes
            (λ x written. (
              end.0,
              end.1,
              written ∙ ap (λ h. string_bytes s.out ++ drop (unwrap_or s.last 0) h) on.haystack ∙ end.2
                  ∙ ap (λ ss. replaced_from hay 0 ss end.0) (sym (limited_map span_in n all)),
            ));
        served = on_err c.finish.result _ (some_all R.replaces R.answers R.refuses c.args.replacer.now cs end.0 l.replacer end.1);
        borrowed = if_ok c.finish.result _ _ c.finish.ensures.borrowed (λ x same. (λ b. none.0 (is.0 (same.0 b)), λ bare. same.1 (is.1 (none.1 bare))));
      };
      len = c.in_default.ensures.takes.len ∙ on.len;
      fits = c.in_default.ensures.takes.fits ∙ on.kept;
    }

pub returns-in_err-captures : goal.returns-in_err-captures
returns-in_err-captures g c =
    let R = g.R.Replacer in let l = c.loop-captures in record {
      found = record {
        replaces = search rules;
        served = on_err c.from_residual.result _
            (l.invariant.served l.replacer (some_none R.replaces R.answers R.refuses l.replacer
            (taken l.left (captures_after c.args.self.now c.args.haystack.now l.out.last)) l.replacer (inl refl)));
        borrowed = search rules;
      };
      len = c.in-Some.ensures.takes.len ∙ l.invariant.len;
      fits = c.in-Some.ensures.takes.fits ∙ l.invariant.kept;
    }

pub returns-in_err-by : goal.returns-in_err-by
returns-in_err-by g c =
    let R = g.R.Replacer in let hay = c.args.haystack.now in let q = c.args.self.now in
    let l = c.loop-captures in let s = l.out in let end = c.by.new.replacer in let d = c.in_ok-captures.field-0 in
    let left = c.next_captures.new.left in let taken_in = λ (h : List ℕ). taken l.left (captures_after q h s.last) in
    let cs = taken l.left (captures_after q hay s.last) in let rest = taken left (captures_after q hay (Some (span_in d).end)) in
    let steps : cs ≡ d ∷ rest =
    subst (λ h. taken_in h ≡ d ∷ taken left (captures_after q h (Some (span_in d).end))) l.invariant.haystack
    (subst (λ x. MatchResult x (λ y. taken_in s.haystack.now ≡ y ∷ taken left (captures_after q s.haystack.now (Some (span_in y).end)))
    (λ e. 0 < length (taken_in s.haystack.now))) c.in_ok-captures.was c.in-Some.ensures.takes.found) in record {
      found = record {
        replaces = search rules;
        served = on_err c.from_residual-in_err-by.result _
            (l.invariant.served end (some_none R.replaces R.answers R.refuses l.replacer cs end
            (subst (λ ds. Stops R.replaces R.answers R.refuses l.replacer ds end) (sym steps) (c.in_err-by.ensures.stops rest))));
        borrowed = search rules;
      };
      len = c.in-Some.ensures.takes.len ∙ l.invariant.len;
      fits = c.in-Some.ensures.takes.fits ∙ l.invariant.kept;
    }
