use Rattle.std.proofs.Common.{◌≡◌, ◌*◌, sym, subst, length, IfOk}
use Rattle.bites_spec.specs.Tree.{captures_len}
use Rattle.bites_spec.proofs.regex.LeftLemmas.{length-left}
use Rattle.bites_bytes.specs.Parts.{chosen}
use Rattle.bites_bytes.proofs.bytes.builder.compile_kept.Goals as goal

pub returns-else-keep-clause-slots : goal.returns-else-keep-clause-slots
returns-else-keep-clause-slots c =
    let t = c.args.tree.now in
    let len : captures_len t ≡ length (chosen c.args.keep c.args.groups.now t) = rw c.if-keep.false (sym (length-left t)) in
    subst (λ n. IfOk c.compile.result (λ p. p.program.slots ≡ 2 * n)) len c.compile.ensures.slots
