use Rattle.std.proofs.Common.{◌∙◌, ap, subst, reverse}
use Rattle.bites_table.proofs.Words.{list_at, table_of, kind_as, IsWalked, program_in}
use Rattle.bites_table.proofs.explore.stays.is_walked_so.Goals as goal

pub returns-then-own-looks-clause-walks : goal.returns-then-own-looks-clause-walks
returns-then-own-looks-clause-walks c = λ is. record {
  walk = c.walk_again.new.memory.walk;
  walked = subst (IsWalked (program_in c.args.context.now) (list_at (table_of c.args.graph.now) c.args.number) (kind_as c.args.kind) c.walk_again.new.memory.walk) c.if-own-looks.true c.in-Some.ensures.walked;
  seen_is = c.are.ensures is ∙ ap reverse c.deref.ensures.value ∙ ap (λ v. reverse v.items) c.walk_again.ensures.seen;
}
