use Rattle.bites_bytes.proofs.bytes.builder.RegexBuilder.syntax_error.Goals as goal

pub returns : goal.returns
returns c = rw (← c.self.view_is, ← c.deref.ensures) c.syntax_error.ensures
