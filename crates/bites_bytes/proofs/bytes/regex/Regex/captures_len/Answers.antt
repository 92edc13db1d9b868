use Rattle.std.proofs.Common.{ap, arith}
use Rattle.bites_spec.specs.Program.{Program}
use Rattle.bites_bytes.proofs.SettingsLemmas.{left_captures, names_are_kept}
use Rattle.bites_bytes.proofs.bytes.regex.Regex.captures_len.Goals as goal

pub returns : goal.returns
returns c =
    let r = c.args.self.now in let is = c.program.ensures.compiled in
    let slots = ap (λ (p : Program). p.slots) c.program.ensures.program in record {
      groups = omega (arith, is.slots, c.slots.ensures, slots);
      slots = omega (arith, c.slots.ensures, slots);
      left = λ off. omega (arith, left_captures r is off, is.slots, c.slots.ensures, slots);
      kept = names_are_kept r is;
    }
