use Rattle.std.proofs.Common.{IfSome, subst, sym}
use Rattle.bites_spec.specs.Regex.{Regex}
use Rattle.bites_bytes.specs.FixedGroups.{AreFixed, IsPrefilterWithSlots}
use Rattle.bites_bytes.specs.declared.bytes.prefilter_with_slots.PrefilterWithSlots.{PrefilterWithSlots}
use Rattle.bites_bytes.proofs.bytes.regex.Regex.fixed_slots.Goals as goal

pub returns-in-Some-slots : goal.returns-in-Some-slots
returns-in-Some-slots c =
    let x = c.self.inside in
    let is : IsPrefilterWithSlots x.compiled.value.tree x.compiled.value.program.slots c.in-Some.known.value =
    subst (λ o. IfSome o (λ known. IsPrefilterWithSlots x.compiled.value.tree x.compiled.value.program.slots known.value)) c.in-Some.is c.self.invariant.1 in
    let slots = (subst (λ (l : PrefilterWithSlots). IsPrefilterWithSlots x.compiled.value.tree x.compiled.value.program.slots l) (sym c.deref.ensures) is).slots in
    let fixed = subst (λ o. IfSome o (λ s. AreFixed x.compiled.value.tree x.compiled.value.program.slots s.items)) c.in-Some-slots.is slots in
    subst (λ (r : Regex). AreFixed r.tree r.program.slots c.deref-in-Some-slots.result.now) c.self.view_is
    (subst (AreFixed x.compiled.value.tree x.compiled.value.program.slots) (sym c.deref-in-Some-slots.ensures.value) fixed)
