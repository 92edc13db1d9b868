use Rattle.regex_bites.proofs.string.matched.Match.of_found.Goals as goal

pub of-requires : goal.of-requires
of-requires c = c.requires c.in-Some.found c.in-Some.is
