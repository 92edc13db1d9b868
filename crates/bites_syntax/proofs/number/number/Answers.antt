use Rattle.std.proofs.Common.{arith, min, ◌+◌, ◌*◌, ◌≡◌, sym, ◌∙◌, ap}
use Rattle.std.specs.Char.{digit_value}
use Rattle.bites_syntax.specs.FlagsView.{flags_of}
use Rattle.bites_syntax.specs.Sets.{members_of}
use Rattle.bites_syntax.proofs.CursorLemmas.{each_more, each_ends}
use Rattle.bites_syntax.proofs.NumberLemmas.{number_more}
use Rattle.bites_syntax.proofs.PartLemmas.{no_longer}
use Rattle.bites_syntax.proofs.number.number.Goals as goal

pub loop-c-preserved : goal.loop-c-preserved
loop-c-preserved c =
    let more = each_more (flags_of c.args.flags) (members_of c.args.set) _ _ _ c.in-Some.ensures.value.reads.1 c.in-Some.ensures.value.reads.0 in
    let value : c.min-value.result ≡ min 4294967296 (c.loop-c.value * c.args.base + digit_value c.in-Some.c) =
    rw (← c.digit_value.ensures, ← c.from-in-Some.ensures, ← c.from.ensures) c.min-value.ensures in (
      number_more 4294967296 c.args.base (flags_of c.args.flags) (members_of c.args.set) _ _ c.in-Some.c c.loop-c.value _ _ c.requires.some c.in-Some.ensures.value.reads.0
          c.in-Some.ensures.value.reads.1 c.in-Some.ensures.value.reads.2 value c.loop-c.invariant.0,
      omega arith,
      rw c.in-Some.ensures.value.reads.2 (sym (ap (λ r. r.1) more) ∙ c.loop-c.invariant.2),
      omega arith,
    )

pub returns-clause-value : goal.returns-clause-value
returns-clause-value c =
    let ends = ap (λ r. r.0) (each_ends (flags_of c.args.flags) (members_of c.args.set) _ c.in_default.ensures.value.reads.0) in
    rw ends at c.loop-c.invariant.0

pub returns-clause-rest : goal.returns-clause-rest
returns-clause-rest c = no_longer (grind arith) (
    let ends = ap (λ r. r.1) (each_ends (flags_of c.args.flags) (members_of c.args.set) _ c.in_default.ensures.value.reads.0) in
    c.in_default.ensures.value.reads.1 ∙ sym ends ∙ c.loop-c.invariant.2)
