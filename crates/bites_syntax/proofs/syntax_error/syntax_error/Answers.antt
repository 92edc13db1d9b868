use Rattle.std.specs.Prelude.{chars}
use Rattle.bites_syntax.specs.FlagsView.{flags_of}
use Rattle.bites_syntax.proofs.ParseLemmas.{answered_within}
use Rattle.bites_syntax.proofs.PlacedLemmas.{left_within, placed, placed_nowhere}
use Rattle.bites_syntax.proofs.syntax_error.syntax_error.Goals as goal
use Rattle.bites_syntax.proofs.syntax_error.syntax_error.Goals.{in-Ok, in-Err-Memory, in-Err-TooTall, in-Err-At}

pub overflow_sub-result : goal.overflow_sub-result
overflow_sub-result c =
    left_within c.args.pattern.now c.utf8.pattern (flags_of c.args.flags) c.args.nest_limit _ _ _ c.in-Err-At.field-0-is c.in-Err-At.ensures.refuses

pub returns : goal.returns
returns c = elim c.match-read_pattern.branch [
  | in-Ok w ↦ (let read = w.in-Ok.ensures.reads in
      rw w.result-is (_, answered_within (chars c.args.pattern.now) (flags_of c.args.flags) c.args.nest_limit _ read.0 read.1 read.2))
  | in-Err-Memory w ↦ rw w.result-is tt
  | in-Err-TooTall w ↦ rw w.result-is
      (placed_nowhere c.args.pattern.now c.utf8.pattern (flags_of c.args.flags) c.args.nest_limit _ w.in-Err-TooTall.field-0-is w.in-Err-TooTall.ensures.refuses)
  | in-Err-At w ↦ rw w.result-is
      (placed c.args.pattern.now c.utf8.pattern (flags_of c.args.flags) c.args.nest_limit _ _ _ w.in-Err-At.field-0-is w.in-Err-At.ensures.refuses)
]
