use Rattle.std.proofs.Common.{◌≡◌, ◌-◌, ◌<◌, length, ap, sym, ◌∙◌, arith}
use Rattle.std.proofs.lemmas.List.{length-take, get_or-take}
use Rattle.bites_scan.specs.Literal.{folding}
use Rattle.bites_literals.specs.Texts.{bytes_of}
use Rattle.bites_literals.proofs.text.Text.ends.Goals as goal

pub returns : goal.returns
returns c =
    let text = c.args.self.now in
    let long : length (bytes_of text) ≡ text.len = omega (arith, length-take text.len text.bytes, text.short) in (
      λ _. record {
        at = length c.args.haystack.now - text.len;
        onward = omega arith;
        end = omega (arith, long);
        stands = λ k lt.
            let less : k < text.len = omega (arith, long) in
            (omega (arith, less), c.loop-k.invariant k (omega (arith, less)) ∙ ap (folding text.caseless) (sym (get_or-take text.len text.bytes k 0 less)));
      },
      λ _. cc,
    )
