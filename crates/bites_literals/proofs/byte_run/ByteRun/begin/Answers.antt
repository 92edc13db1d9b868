use Rattle.std.proofs.Common.{◌≡◌, ◌+◌, ◌∙◌, ◌<◌, ℕ, true, false, true≢false, get_or, sym, subst}
use Rattle.std.specs.Prelude.{IfSome}
use Rattle.bites_spec.specs.Range.{in_ranges}
use Rattle.bites_spec.specs.Tree.{Tree}
use Rattle.bites_spec.specs.Utf8.{places}
use Rattle.bites_spec.specs.Found.{NoMatch}
use Rattle.bites_literals.specs.Begins.{IsFirstMatch}
use Rattle.bites_literals.proofs.ByteRunLemmas.{first_once, first_run, none_at_all}
use Rattle.bites_literals.proofs.byte_run.ByteRun.begin.Goals as goal
use Rattle.bites_literals.proofs.byte_run.ByteRun.begin.Goals.{in_default-via-in-Some+else-with_end, in_default-via-in_default}

pub returns-then-at-haystack-clause-begins : goal.returns-then-at-haystack-clause-begins
returns-then-at-haystack-clause-begins c t (rs, repeats, same, is) =
    let hay = c.args.haystack.now in let at = c.skip_while-at in
    subst (λ (t : Tree). NoMatch t hay (places hay c.args.start)) (sym same)
    (none_at_all rs repeats c.args.self.now is hay (λ k. (c.type_inv.haystack k).fits) c.args.start at.result at.ensures c.if-at-haystack.true)

pub returns-in-Some-clause-begins : goal.returns-in-Some-clause-begins
returns-in-Some-clause-begins c t (rs, repeats, same, is) =
    let hay = c.args.haystack.now in let at = c.skip_while-at in let end = c.skip_while-end in
    let own = subst (λ o. IfSome o (λ own. (repeats ≡ true) × ((b : ℕ) → b < 256 → get_or own b false ≡ in_ranges rs b))) c.in-Some.is is.own in
    subst (λ b. IsFirstMatch b t hay c.args.start at.result end.result) (sym c.if-with_end.true)
    (subst (λ (t : Tree). IsFirstMatch true t hay c.args.start at.result end.result) (sym same)
    (first_run rs repeats c.args.self.now is hay (λ k. (c.type_inv.haystack k).fits) c.args.start at.result at.ensures c.if-at-haystack.false c.in-Some.own own.1 end.result end.ensures own.0))

pub returns-in_default-clause-begins : goal.returns-in_default-clause-begins
returns-in_default-clause-begins c t (rs, repeats, same, is) =
    let hay = c.args.haystack.now in let at = c.skip_while-at in
    let once : c.args.with_end ≡ true → repeats ≡ false = λ asked. elim c.in_default.branch [
      | in_default-via-in-Some+else-with_end w ↦ absurd (true≢false (sym asked ∙ w.if-with_end.false))
      | in_default-via-in_default w ↦ is.once w.in_default.is
    ] in
    subst (λ (t : Tree). IsFirstMatch c.args.with_end t hay c.args.start at.result (at.result + 1)) (sym same)
    (first_once rs repeats c.args.self.now is hay (λ k. (c.type_inv.haystack k).fits) c.args.start at.result at.ensures c.if-at-haystack.false c.args.with_end once)
