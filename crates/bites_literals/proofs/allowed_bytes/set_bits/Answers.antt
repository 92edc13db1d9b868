use Rattle.std.proofs.Common.{◌≡◌, ◌<◌, inl, inr, ◌∙◌, subst, length, arith}
use Rattle.std.proofs.lemmas.List.{length-set}
use Rattle.std.proofs.lemmas.Bool.{cases_lt}
use Rattle.bites_literals.specs.AllowedBytes.{MayStand}
use Rattle.bites_literals.proofs.AllowedBytesLemmas.{with_bit, bit_stands, bit_only, bit_kept}
use Rattle.bites_literals.proofs.allowed_bytes.set_bits.Goals as goal

pub loop-byte-preserved : goal.loop-byte-preserved
loop-byte-preserved c =
    let l = c.loop-byte in
    let o = c.args.offset in
    let byte = c.from.result in
    let is : byte ≡ l.byte = c.from.ensures in
    let long : length l.masks ≡ 256 = l.invariant.0 in
    let within : byte < length l.masks = omega (arith, is, long, c.requires.ascii) in (
      length-set l.masks byte _ ∙ long,
      λ b from to. elim (cases_lt b l.byte) [
        | inl before ↦ bit_kept l.masks o c.requires.offset byte within o b (l.invariant.1 b from before)
        | inr at ↦
            let here : byte ≡ b = omega (arith, is, at, to) in
            subst (λ b. MayStand (with_bit l.masks o c.requires.offset byte) o b) here (bit_stands l.masks o c.requires.offset byte within)
      ],
      λ k b e. elim (bit_only l.masks o c.requires.offset byte within k b e) [
        | inl before ↦ elim (l.invariant.2 k b before) [
          | inl old ↦ inl old
          | inr new ↦ inr (new.0, new.1, omega (arith, new.2), new.3)
        ]
        | inr new ↦ inr (new.0, omega (arith, new.1, is), omega (arith, new.1, is), omega (arith, new.1, is))
      ],
      λ k b e. bit_kept l.masks o c.requires.offset byte within k b (l.invariant.3 k b e),
    )

pub returns-clause-only : goal.returns-clause-only
returns-clause-only c k b e = elim (c.loop-byte.invariant.2 k b e) [
  | inl old ↦ inl old
  | inr new ↦ inr (new.0, new.1, new.3)
]
