use Rattle.regex_bites.proofs.string.builder.RegexBuilder.syntax_error.Goals as goal

pub returns : goal.returns
returns c = rw (← c.self.view_is) c.syntax_error.ensures
