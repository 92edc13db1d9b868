use Rattle.std.proofs.Common.{subst, sym}
use Rattle.bites_bytes.specs.Parts.{IsPrepared}
use Rattle.regex_bites.proofs.string.regex.Regex.prepared_unanchored.Goals as goal

pub returns : goal.returns
returns c =
    rw (← c.self.view_is) (subst (IsPrepared c.args.dfa_size_limit c.args.prefilter c.self.inside.regex) (sym c.from_bytes.ensures) c.in_ok-regex.ensures)
