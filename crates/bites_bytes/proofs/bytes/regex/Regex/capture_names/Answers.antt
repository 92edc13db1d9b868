use Rattle.std.proofs.Common.{rules}
use Rattle.bites_bytes.proofs.SettingsLemmas.{names_are_kept}
use Rattle.bites_bytes.proofs.bytes.regex.Regex.capture_names.Goals as goal

pub returns : goal.returns
returns c = record {
  names = search rules;
  left = search rules;
  kept = names_are_kept c.args.self.now c.program.ensures.compiled;
  fits = search rules;
}
