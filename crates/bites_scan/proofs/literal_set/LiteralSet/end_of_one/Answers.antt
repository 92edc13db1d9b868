use Rattle.std.proofs.Common.{◌≡◌, ◌<◌, length, get_or, ap, sym, refl, ◌∙◌, subst, arith}
use Rattle.std.proofs.lemmas.Bool.{iff_false}
use Rattle.std.proofs.lemmas.List.{get_or_read_under}
use Rattle.std.proofs.lemmas.Nat.Bits.{bit_at-zero}
use Rattle.std.specs.Int.{bit_at}
use Rattle.bites_scan.specs.Literal.{Needle, NeedleOccursAt}
use Rattle.bites_scan.proofs.SetLemmas.{none_of_all, still_candidates}
use Rattle.bites_scan.proofs.literal_set.LiteralSet.end_of_one.Goals as goal
use Rattle.bites_scan.proofs.literal_set.LiteralSet.end_of_one.Goals.{else-number-len-via-then-number-len+else-occurs_at, else-number-len-via-else-number-len}

pub candidates-preserved : goal.candidates-preserved
candidates-preserved c =
    let number = c.lowest-number.result in
    let fails : (d : Needle) → number < length c.args.self.now → NeedleOccursAt c.args.haystack.now c.args.at (get_or c.args.self.now number d) → ⊥ = λ d lt o.
    elim c.else-number-len.branch [
      | else-number-len-via-then-number-len+else-occurs_at w ↦ iff_false w.occurs_at.ensures w.if-occurs_at.false
          (let same : w.index.result.now ≡ get_or c.args.self.now number d = get_or_read_under c.args.self.now number (length c.args.self.now) w.index.result.now d
          (w.index.ensures ∙ ap (λ l. get_or l number w.index.result.now) c.self.view_is) lt refl in
          subst (NeedleOccursAt c.args.haystack.now c.args.at) (sym same) o)
      | else-number-len-via-else-number-len w ↦ absurd (omega (arith, w.if-number-len.false, c.len.ensures, ap length c.self.view_is))
    ] in
    record {
      small = omega arith;
      are_candidates = still_candidates c.args.self.now c.args.haystack.now c.candidates.left c.without-left.result number c.candidates.invariant.small c.without-left.ensures.kept c.args.at fails c.candidates.invariant.are_candidates;
    }

pub returns-clause-none : goal.returns-clause-none
returns-clause-none c none =
    none_of_all c.args.self.now c.args.haystack.now c.args.at
    (λ k n lt here. omega (arith, ap (λ m. bit_at m k) c.candidates-test.false, c.candidates.invariant.are_candidates k n lt here, bit_at-zero k))

pub returns-then-occurs_at-clause-some : goal.returns-then-occurs_at-clause-some
returns-then-occurs_at-clause-some c =
    let literals = c.args.self.now in
    let number = c.lowest-number.result in
    let n = c.index-then-occurs_at.result.now in
    let lt : number < length literals = omega (arith, c.if-number-len.true, c.len.ensures, ap length c.self.view_is) in
    let same : n ≡ get_or literals number n = get_or_read_under literals number (length literals) n n (c.index-then-occurs_at.ensures ∙ ap (λ l. get_or l number n) c.self.view_is) lt refl in
    let tested : c.index.result.now ≡ get_or literals number n = get_or_read_under literals number (length literals) c.index.result.now n
    (c.index.ensures ∙ ap (λ l. get_or l number c.index.result.now) c.self.view_is) lt refl in
    let here = subst (NeedleOccursAt c.args.haystack.now c.args.at) (tested ∙ sym same) (c.occurs_at.ensures.0 c.if-occurs_at.true) in
    (c.len-then-occurs_at.result, (number, n, lt, sym same, (here, sym c.len-then-occurs_at.ensures)), refl)
