use Rattle.std.proofs.Common.{◌∙◌, true, Some, ap, arith, sym, subst, length, option_map}
use Rattle.std.specs.Prelude.{unwrap_or}
use Rattle.bites_spec.specs.Utf8.{places}
use Rattle.bites_spec.specs.Run.{Answered}
use Rattle.bites_spec.specs.Regex.{run_at}
use Rattle.bites_spec.specs.Captured.{Excerpt, FindsMatch}
use Rattle.bites_bytes.specs.Matched.{excerpt_of}
use Rattle.bites_bytes.specs.NextMatch.{FindsNextRun}
use Rattle.bites_bytes.proofs.MadeLemmas.{made_next, made_later}
use Rattle.bites_bytes.proofs.NextLemmas.{run_of, next_none, next_first, next_here, later_found}
use Rattle.bites_bytes.proofs.bytes.cache.Cache.find_next.Goals as goal

pub returns-in_err-found : goal.returns-in_err-found
returns-in_err-found c =
    let r = c.args.regex.now in let hay = c.args.haystack.now in let e = c.find.ensures in record {
      next = subst (λ o. FindsNextRun r hay c.args.last (option_map excerpt_of o) (length c.args.slots.now) c.find.new.slots) (sym c.from_residual.ensures)
          (next_none r e.compiled hay c.args.last (length c.args.slots.now) c.find.new.slots
          (subst (λ o. FindsMatch r hay (places hay (unwrap_or c.args.last 0)) (option_map excerpt_of o)) c.in_err-found.was
          (subst (λ s. FindsMatch r hay (places hay s) (option_map excerpt_of c.find.result)) c.unwrap_or-start.ensures e.finds.found)));
      compiled = e.compiled;
      searches = made_next r c.args.last _ _ e.finds.searches;
      fits = e.fits;
    }

pub returns-in_default : goal.returns-in_default
returns-in_default c =
    let r = c.args.regex.now in let hay = c.args.haystack.now in let e = c.in_ok-found.ensures in let m = excerpt_of c.in_ok-found.found in
    let at = c.unwrap_or-start.ensures ∙ ap (λ o. unwrap_or o 0) c.in_default.is in record {
      next = subst (λ l. FindsNextRun r hay l (Some m) (length c.args.slots.now) c.find.new.slots) (sym c.in_default.is)
          (next_first r e.compiled hay m c.args.slots.now c.find.new.slots (subst (λ s. FindsMatch r hay (places hay s) (Some m)) at e.finds.found)
          (subst (λ s. Answered r.program (run_at r hay (places hay s)) true c.args.slots.now c.find.new.slots) at e.answered));
      compiled = e.compiled;
      searches = made_next r c.args.last _ _ e.finds.searches;
      fits = e.fits;
    }

pub returns-then-end : goal.returns-then-end
returns-then-end c =
    let r = c.args.regex.now in let hay = c.args.haystack.now in let e = c.in_ok-found.ensures in let m = excerpt_of c.in_ok-found.found in
    let at = c.unwrap_or-start.ensures ∙ ap (λ o. unwrap_or o 0) c.in-Some.is in record {
      next = subst (λ l. FindsNextRun r hay l (Some m) (length c.args.slots.now) c.find.new.slots) (sym c.in-Some.is)
          (next_here r e.compiled hay c.in-Some.end m c.args.slots.now c.find.new.slots (subst (λ s. FindsMatch r hay (places hay s) (Some m)) at e.finds.found)
          (subst (λ s. Answered r.program (run_at r hay (places hay s)) true c.args.slots.now c.find.new.slots) at e.answered)
          (λ same. c.if-end.true (c.end.ensures ∙ same)));
      compiled = e.compiled;
      searches = made_next r c.args.last _ _ e.finds.searches;
      fits = e.fits;
    }

pub returns : goal.returns
returns c =
    let r = c.args.regex.now in let hay = c.args.haystack.now in let e = c.in_ok-found.ensures in let m = excerpt_of c.in_ok-found.found in
    let at = c.unwrap_or-start.ensures ∙ ap (λ o. unwrap_or o 0) c.in-Some.is in record {
      next = subst (λ l. FindsNextRun r hay l (option_map excerpt_of c.find_later.result) (length c.args.slots.now) c.find_later.new.slots) (sym c.in-Some.is)
          (later_found r e.compiled hay excerpt_of c.in-Some.end c.step_at.result (length c.args.slots.now) m (subst (λ s. FindsMatch r hay (places hay s) (Some m)) at e.finds.found)
          (sym c.end.ensures ∙ c.if-end.false) c.step_at.ensures.step c.find_later.result c.find.new.slots c.find_later.new.slots
          c.find_later.ensures.finds.found c.find_later.ensures.answered (sym c.find.auto.slots));
      compiled = e.compiled;
      searches = made_later r c.args.last c.in-Some.end c.in-Some.is _ _ _ e.finds.searches c.find_later.ensures.finds.searches;
      fits = c.find_later.ensures.fits ∙ e.fits;
    }

pub step_at-requires : goal.step_at-requires
step_at-requires c =
    let e = c.in_ok-found.ensures in
    let x = run_of c.args.regex.now e.compiled c.args.haystack.now c.unwrap_or-start.result (excerpt_of c.in_ok-found.found) e.finds.found in
    let same = ap (λ (y : Excerpt). length y.haystack) x.2 in
    omega (arith, same, c.if-end.false, c.end.ensures, c.in_ok-found.found.within)
