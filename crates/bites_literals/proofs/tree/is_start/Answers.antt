use Rattle.std.proofs.Common.{◌≡◌, subst, arith, rules}
use Rattle.bites_spec.specs.Tree.{look}
use Rattle.bites_spec.specs.Look.{start, holds}
use Rattle.bites_literals.specs.Begins.{BeginsAtStart}
use Rattle.bites_literals.proofs.tree.is_start.Goals as goal

at_start : BeginsAtStart (look start)
unfolding holds
at_start hay i j m = grind arith

pub returns-in-Look-Start : goal.returns-in-Look-Start
returns-in-Look-Start c e = let is : look start ≡ c.args.tree.now = search rules in subst BeginsAtStart is at_start
