use Rattle.std.proofs.Common.{◌≢◌, arith}
use Rattle.std.proofs.lemmas.Bool.{ne_eqb}
use Rattle.bites_spec.specs.RangesOf.{ranges_of}
use Rattle.bites_spec.specs.Reader.{inner}
use Rattle.bites_syntax.proofs.AtomLemmas.{item_atom}
use Rattle.bites_syntax.proofs.ProgressLemmas.{reads_at}
use Rattle.bites_syntax.proofs.PartLemmas.{no_longer}
use Rattle.bites_syntax.proofs.parse.Parser.item.Goals as goal

pub returns-then-begins_atom : goal.returns-then-begins_atom
returns-then-begins_atom c = no_longer (grind arith) λ g bs ts is depth n room.
    let bar : c.args.c ≢ 124 = omega arith in
    let question : c.args.c ≢ 63 = omega arith in
    let star : c.args.c ≢ 42 = omega arith in
    let plus : c.args.c ≢ 43 = omega arith in
    let brace : c.args.c ≢ 123 = omega arith in
    reads_at c.args.self.now.limit depth n c.push_atom.result c.push_atom.new.self c.push_atom.new.branches _ _
    (item_atom c.args.self.now.limit (inner ranges_of c.args.self.now.limit n) n depth g bs ts c.args.c c.args.self.now.cursor (ne_eqb c.args.c 41 c.requires.closing) (ne_eqb c.args.c 124 bar)
    (ne_eqb c.args.c 40 c.requires.opening) (ne_eqb c.args.c 63 question) (ne_eqb c.args.c 42 star) (ne_eqb c.args.c 43 plus) (ne_eqb c.args.c 123 brace))
    (c.push_atom.ensures.reads c.args.self.now.limit g bs ts is depth n room)
