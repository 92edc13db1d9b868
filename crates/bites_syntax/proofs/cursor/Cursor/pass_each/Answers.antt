use Rattle.std.proofs.Common.{arith, sym, ◌∙◌, ap}
use Rattle.bites_syntax.specs.FlagsView.{flags_of}
use Rattle.bites_syntax.specs.Sets.{members_of}
use Rattle.bites_syntax.proofs.CursorLemmas.{each_more, each_ends}
use Rattle.bites_syntax.proofs.PartLemmas.{no_longer}
use Rattle.bites_syntax.proofs.cursor.Cursor.pass_each.Goals as goal

pub loop-preserved : goal.loop-preserved
loop-preserved c =
    let more = ap (λ r. r.1) (each_more (flags_of c.args.flags) (members_of c.args.set) _ _ _ c.in-Some.ensures.value.reads.1 c.in-Some.ensures.value.reads.0) in
    (rw c.in-Some.ensures.value.reads.2 (sym more ∙ c.loop.invariant.0), omega arith)

pub returns : goal.returns
returns c = no_longer (grind arith) (
    let ends = ap (λ r. r.1) (each_ends (flags_of c.args.flags) (members_of c.args.set) _ c.in_default.ensures.value.reads.0) in
    c.in_default.ensures.value.reads.1 ∙ sym ends ∙ c.loop.invariant.0)
