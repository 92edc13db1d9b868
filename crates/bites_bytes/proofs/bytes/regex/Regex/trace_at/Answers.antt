use Rattle.std.proofs.Common.{◌≡◌, None, replicate, refl, sym, ap, ◌∙◌, subst, false, rules}
use Rattle.bites_spec.specs.Program.{Program}
use Rattle.bites_machine.specs.declared.vm.Input as input
use Rattle.bites_bytes.specs.Calls.{BeginsAt}
use Rattle.bites_bytes.proofs.TracedLemmas.{traced_from}
use Rattle.bites_bytes.proofs.bytes.regex.Regex.trace_at.Goals as goal

pub returns : goal.returns
returns c =
    let r = c.args.self.now in
    let i : input.Input = record { haystack = c.args.haystack; start = c.place.result; anchored = false; kind = c.kind.result } in
    let items : c.in_ok-slots.slots.items ≡ replicate c.slots.result None = search rules in
    let count : c.slots.result ≡ r.program.slots = c.slots.ensures ∙ ap (λ (q : Program). q.slots) c.program.ensures.program in
    traced_from r c.args.start i c.deref_mut.result.now (subst (BeginsAt r c.args.haystack.now c.args.start) (sym c.place.ensures) c.begin.ensures.begins) c.kind.ensures refl
    (c.deref_mut.ensures.value ∙ items ∙ ap (λ n. replicate n None) count) c.trace.result c.trace.ensures
