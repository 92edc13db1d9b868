use Rattle.regex_bites.proofs.string.matches.Matches.count.Goals as goal

pub returns-clause-left : goal.returns-clause-left
returns-clause-left c = c.count.ensures.left

pub returns-clause-bound : goal.returns-clause-bound
returns-clause-bound c = c.count.ensures.bound
