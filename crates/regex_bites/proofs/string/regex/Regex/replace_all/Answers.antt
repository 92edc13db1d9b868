use Rattle.regex_bites.proofs.string.regex.Regex.replace_all.Goals as goal

pub returns : goal.returns
returns g c = c.replacen.ensures
