use Rattle.std.proofs.Common.{◌≡◌, ℕ, ◌+◌, List, Option, length, sym, ap, subst, ◌∙◌, arith}
use Rattle.std.specs.List.{prefix_len}
use Rattle.bites_bytes.specs.Names.{bytes_of}
use Rattle.bites_c.proofs.NameLemmas.{is_other, named_here, named_nowhere, named_later}
use Rattle.bites_c.proofs.text.index_of.Goals as goal

pub loop-own-init : goal.loop-own-init
loop-own-init c =
    let all = c.capture_names-names.ensures.names in
    let before = ap (prefix_len (is_other c.args.name.now)) all in let len = ap length all in (omega (arith, before), omega (arith, len))

pub returns-then-is_named : goal.returns-then-is_named
returns-then-is_named c =
    let word = c.args.name.now in let all = c.args.regex.now.names in let n = c.loop-own.number in
    named_here word all c.next.new.self (bytes_of c.in-Some.own) n
    (subst (λ (l : List (Option (List ℕ))). n + prefix_len (is_other word) l ≡ prefix_len (is_other word) all) c.in-Some.ensures.steps c.loop-own.invariant.0)
    (subst (λ (l : List (Option (List ℕ))). n + length l ≡ length all) c.in-Some.ensures.steps c.loop-own.invariant.1)
    (sym c.is_named.ensures ∙ c.if-is_named.true)

pub overflow_add-number : goal.overflow_add-number
overflow_add-number c =
    let all = ap length c.capture_names-names.ensures.names in
    let len = subst (λ (l : List (Option (List ℕ))). c.loop-own.number + length l ≡ length c.args.regex.now.names) c.in-Some.ensures.steps c.loop-own.invariant.1 in
    omega (arith, all, len, c.capture_names-names.ensures.fits)

pub loop-own-preserved : goal.loop-own-preserved
loop-own-preserved c =
    let word = c.args.name.now in let all = c.args.regex.now.names in let n = c.loop-own.number in
    let len = subst (λ (l : List (Option (List ℕ))). n + length l ≡ length all) c.in-Some.ensures.steps c.loop-own.invariant.1 in (
      named_later word c.next.new.self (bytes_of c.in-Some.own) n (prefix_len (is_other word) all)
          (subst (λ (l : List (Option (List ℕ))). n + prefix_len (is_other word) l ≡ prefix_len (is_other word) all) c.in-Some.ensures.steps c.loop-own.invariant.0)
          (sym c.is_named.ensures ∙ c.if-is_named.false),
      omega (arith, len),
    )

pub returns : goal.returns
returns c =
    let word = c.args.name.now in let all = c.args.regex.now.names in let n = c.loop-own.number in
    let before = subst (λ (l : List (Option (List ℕ))). n + prefix_len (is_other word) l ≡ prefix_len (is_other word) all) c.in_default.ensures.steps.0 c.loop-own.invariant.0 in
    let len = subst (λ (l : List (Option (List ℕ))). n + length l ≡ length all) c.in_default.ensures.steps.0 c.loop-own.invariant.1 in
    named_nowhere word all n (omega (arith, before)) (omega (arith, len))
