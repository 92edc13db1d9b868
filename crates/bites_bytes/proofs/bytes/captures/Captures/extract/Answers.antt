use Rattle.std.proofs.Common.{◌≡◌, ◌/◌, ◌+◌, ◌≤◌, ◌<◌, ◌⊎◌, length, map, take, drop, ap, sym, subst, inl, inr, ◌∙◌, arith}
use Rattle.bites_spec.specs.Pieces.{text_at}
use Rattle.bites_spec.specs.Slots.{participating}
use Rattle.bites_spec.specs.Replacer.{answer_text}
use Rattle.bites_bytes.proofs.PartLemmas.{Written, nothing_written, passed_over, one_written, all_written}
use Rattle.bites_bytes.proofs.bytes.captures.Captures.extract.Goals as goal
use Rattle.bites_bytes.proofs.bytes.captures.Captures.extract.Goals.{in-Some, in_default, else-loop-group-test, then-loop-group-test+then-filled-parts}

pub loop-group-init : goal.loop-group-init
loop-group-init c = nothing_written c.args.self.now.slots c.args.self.now.haystack c.args.parts.now

pub bounds-parts-filled : goal.bounds-parts-filled
bounds-parts-filled c = omega (arith, c.loop-group.invariant.fits, c.if-filled-parts.false)

pub loop-group-preserved : goal.loop-group-preserved
loop-group-preserved c =
    let slots = c.args.self.now.slots in let hay = c.args.self.now.haystack in let l = c.loop-group in let m = c.match-group_bytes in
    let less : l.group < length slots / 2 = omega (arith, c.len-group-end.ensures.slots, c.loop-group-test.true) in
    elim c.match-group_bytes.branch [
      | in-Some w ↦
          subst (λ n. Written slots hay n (l.group + 1) m.parts) (sym w.filled-is)
          (subst (λ ps. Written slots hay (l.filled + 1) (l.group + 1) ps) (sym w.parts-is)
          (one_written slots hay l.filled l.group l.parts w.in-Some.text less (omega (arith, l.invariant.fits, c.if-filled-parts.false))
          (sym (ap answer_text w.in-Some.is) ∙ c.group_bytes.ensures) l.invariant))
      | in_default w ↦
          subst (λ n. Written slots hay n (l.group + 1) m.parts) (sym w.filled-is)
          (subst (λ ps. Written slots hay l.filled (l.group + 1) ps) (sym w.parts-is)
          (passed_over slots hay l.filled l.group l.parts less (sym (ap answer_text w.in_default.is) ∙ c.group_bytes.ensures) l.invariant))
    ]

pub returns : goal.returns
returns c =
    let slots = c.args.self.now.slots in let hay = c.args.self.now.haystack in let l = c.loop-group in
    let e = c.len-group-end.ensures in
    let enough = subst (λ n. n + 1 ≤ length (participating slots)) (sym l.auto.parts) (e.are.enough (length c.args.parts.now + 1) c.requires) in
    let all = λ (done : (l.filled ≡ length l.parts) ⊎ (length slots / 2 ≤ l.group)).
    all_written slots hay l.filled l.group l.parts l.invariant done enough e.are.whole ∙ ap (λ n. map (text_at hay) (take n (drop 1 (participating slots)))) l.auto.parts in
    record {
      whole = c.part.ensures;
      parts =
          elim c.loop-group-test.branch [
            | else-loop-group-test w ↦ all (inr (omega (arith, e.slots, w.loop-group-test.false)))
            | then-loop-group-test+then-filled-parts w ↦ all (inl w.if-filled-parts.true)
          ];
    }
