use Rattle.std.proofs.Common.{rules}
use Rattle.regex_bites.proofs.string.replace.ReplacedText.by_text.Goals as goal

pub returns : goal.returns
returns c = search rules
