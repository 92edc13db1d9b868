use Rattle.std.proofs.Common.{◌≡◌, ◌≢◌, ◌∙◌, List, ℕ, map, sym, ap, subst}
use Rattle.bites_text.specs.declared.error.Error.{Error as Fault}
use Rattle.bites_text.specs.declared.error.Error.TheVariants.{Memory}
use Rattle.bites_text.specs.Texts.{code_of}
use Rattle.bites_bytes.specs.Set.{IsRefused, refusal}
use Rattle.bites_c.specs.Sets.{cut_from, set_asked}
use Rattle.bites_c.proofs.CodesLemmas.{codes_differ}
use Rattle.bites_c.proofs.make_set.set.Goals as goal

-- out of memory is an error of its own
pub returns-in-Err-clause-known : goal.returns-in-Err-clause-known
returns-in-Err-clause-known c = λ not_text not_bad. (Memory, c.in-Err.ensures.refused.1 not_text not_bad)

pub returns-in-Err-clause-cut : goal.returns-in-Err-clause-cut
returns-in-Err-clause-cut c = c.in-Err.ensures.refused.0

-- the number is that of one error
pub returns-in-Err-build-clause-message : goal.returns-in-Err-build-clause-message
returns-in-Err-build-clause-message c e is other =
    let own = c.in-Err-build.error in
    let same : own.error ≡ e = codes_differ own.error e (ap code_of (sym c.error.ensures) ∙ sym c.number.ensures ∙ is) in
    let patterns_are = ap (map (λ p. p.now)) c.as_slice.ensures.value ∙ c.in-Ok.ensures.cut.1 in
    let S = λ (ps : List (List ℕ)). set_asked ps c.args.flags c.args.size_limit c.args.nest_limit in
    let told = c.in-Err-build.ensures.refused (subst (λ (f : Fault). f ≢ Memory) (sym same) other) in
    let cut = cut_from c.args.patterns.now 0 c.args.ends.now in
    subst (λ i. IsRefused (S cut) (refusal i e)) (sym c.index.ensures)
    (subst (λ (f : Fault). IsRefused (S cut) (refusal own.index f)) same (subst (λ ps. IsRefused (S ps) own) patterns_are told))

pub returns-clause-known : goal.returns-clause-known
returns-clause-known c = λ not_text not_bad. (Memory, c.refused.ensures.0)
