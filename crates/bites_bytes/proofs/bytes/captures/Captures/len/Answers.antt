use Rattle.std.proofs.Common.{◌/◌, length, ap, subst, arith}
use Rattle.bites_spec.specs.Program.{Program}
use Rattle.bites_spec.specs.Regex.{Regex}
use Rattle.bites_bytes.specs.Groups.{IsCountOfGroups}
use Rattle.bites_bytes.proofs.bytes.captures.Captures.len.Goals as goal

pub returns : goal.returns
returns c =
    let e = c.program.ensures in let slots = ap (λ (p : Program). p.slots) e.program in
    subst (λ s. IsCountOfGroups s (c.slots.result / 2)) c.self.view_is (record {
      groups = omega (arith, e.compiled.slots, c.slots.ensures, slots, ap (λ (r : Regex). length r.names) c.deref.ensures);
      slots = omega (arith, c.slots.ensures, slots, ap (λ (r : Regex). r.program.slots) c.deref.ensures, c.self.invariant.count);
      are = c.self.invariant;
    })
