use Rattle.std.specs.Prelude.{chars}
use Rattle.bites_syntax.specs.FlagsView.{flags_of}
use Rattle.bites_syntax.proofs.ParseLemmas.{answered_within, answered_compilable, refused_by_fault, fault_has_no_tree}
use Rattle.bites_syntax.proofs.parse.parse_with_groups.Goals as goal

pub returns-in-Ok-clause-read : goal.returns-in-Ok-clause-read
returns-in-Ok-clause-read c =
    let read = c.in-Ok.ensures.reads in answered_within (chars c.args.pattern.now) (flags_of c.args.flags) c.args.nest_limit _ read.0 read.1 read.2

pub returns-in-Ok-clause-compilable : goal.returns-in-Ok-clause-compilable
returns-in-Ok-clause-compilable c = answered_compilable (chars c.args.pattern.now) (flags_of c.args.flags) c.args.nest_limit _ (returns-in-Ok-clause-read c)

pub returns-in-Ok-clause-groups : goal.returns-in-Ok-clause-groups
returns-in-Ok-clause-groups c = c.in-Ok.ensures.groups _

pub returns-in-Err-clause-message : goal.returns-in-Err-clause-message
returns-in-Err-clause-message c = refused_by_fault (chars c.args.pattern.now) (flags_of c.args.flags) c.args.nest_limit _ _ c.error.ensures c.in-Err.ensures.refuses

pub returns-in-Err-clause-refused : goal.returns-in-Err-clause-refused
returns-in-Err-clause-refused c = λ ne t l.
    let f = returns-in-Err-clause-message c ne in fault_has_no_tree (chars c.args.pattern.now) (flags_of c.args.flags) c.args.nest_limit f.0 f.2 t l
