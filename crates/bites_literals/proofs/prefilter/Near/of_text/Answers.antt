use Rattle.std.proofs.Common.{◌<◌, length, arith}
use Rattle.bites_literals.specs.Texts.{bytes_of}
use Rattle.bites_literals.proofs.BeginLemmas.{near_of}
use Rattle.bites_literals.proofs.prefilter.Near.of_text.Goals as goal

pub returns : goal.returns
returns c t facts needed only =
    let some : 0 < length (bytes_of c.args.needed.now.text) = omega (arith, c.if-len-eq0.false, c.len-len.ensures) in
    near_of t c.args.facts.now facts c.args.needed.now needed some _ c.literal.ensures c.of.ensures only
