use Rattle.bites_c.proofs.make.build.Goals as goal

-- the settings that are asked for are those of the builder
pub returns-clause-message : goal.returns-clause-message
returns-clause-message c = rw (← c.in_ok-configured.ensures.made) c.into_regex.ensures.message
