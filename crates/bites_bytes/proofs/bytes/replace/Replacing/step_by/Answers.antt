use Rattle.std.proofs.Common.{◌++◌, ◌∙◌, Some, refl, sym, ap, subst, inr}
use Rattle.bites_spec.specs.Captured.{AreGroups, captured}
use Rattle.bites_bytes.proofs.MatchLemmas.{captures_come}
use Rattle.bites_bytes.proofs.ReplacedLemmas.{on_err}
use Rattle.bites_bytes.proofs.SplitLemmas.{piece_is}
use Rattle.bites_bytes.proofs.ReplacingSteps.{by_step, captures_go, captures_rest}
use Rattle.bites_bytes.proofs.bytes.replace.Replacing.step_by.Goals as goal

pub returns-in_default-clause-steps : goal.returns-in_default-clause-steps
returns-in_default-clause-steps g c =
    let e = c.in_default.ensures in record {
      found = (
        captures_rest c.args.self.now _ c.spend.result c.spend.ensures c.if-not-spend.false e.found.same c.step_with.new.locations e.found.next e.found.moves refl,
        refl,
      );
      len = e.found.len;
      fits = e.same;
    }

pub of-requires : goal.of-requires
of-requires g c =
    let s = c.args.self.now in let e = c.in-Some.ensures.found in let t = c.step_with.new.self in
    subst (λ h. AreGroups t.regex.now h c.step_with.new.locations) e.same.1
    (captures_come s.cursor t (Some c.in-Some.found) c.step_with.new.locations e.next e.same e.moves).1

pub returns-clause-steps : goal.returns-clause-steps
returns-clause-steps g c =
    let s = c.args.self.now in let e = c.in-Some.ensures.found in let a = c.in_ok-replace_append.ensures.appends in record {
      found = by_step s _ c.spend.result c.spend.ensures c.if-not-spend.false e.same c.step_with.new.locations
          g.R.Replacer.replaces g.R.Replacer.answers c.in-Some.found e.next e.moves c.args.replacer.now _ c.in_ok-captures.captures a.0
          (c.in_ok-captures.ensures ∙ ap (λ h. captured c.step_with.new.self.regex.now h c.step_with.new.locations) (sym e.same.1))
          a.1
          (a.2
          ∙ ap (λ l. l ++ a.0) (c.in_ok-extend_from_slice.ensures.items
          ∙ ap (λ p. s.out.items ++ p) (sym (piece_is _ _ _ _ _ _ refl c.end_of_last-begin.ensures.last c.start.ensures))));
      len = e.len;
      fits = c.in-Some.ensures.same;
    }

pub returns-in_err-replace_append-clause-stops : goal.returns-in_err-replace_append-clause-stops
returns-in_err-replace_append-clause-stops g c =
    let s = c.args.self.now in let e = c.in-Some.ensures.found in let a = c.in_err-replace_append.ensures.refused in
    on_err c.from_residual-in_err-replace_append.result _ (inr (
      c.in_ok-captures.captures,
      _,
      captures_go s _ c.step_with.new.self c.spend.result c.spend.ensures c.if-not-spend.false e.same c.in-Some.found c.step_with.new.locations
          e.next e.moves c.in_ok-captures.captures
          (c.in_ok-captures.ensures ∙ ap (λ h. captured c.step_with.new.self.regex.now h c.step_with.new.locations) (sym e.same.1)),
      a.0,
      a.1,
    ))
