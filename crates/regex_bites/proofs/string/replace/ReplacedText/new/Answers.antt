use Rattle.std.proofs.lemmas.Str.{IsCharBoundary-start}
use Rattle.regex_bites.proofs.string.replace.ReplacedText.new.Goals as goal

pub invariant_of-result-clause-border : goal.invariant_of-result-clause-border
invariant_of-result-clause-border c = IsCharBoundary-start c.args.haystack.now c.utf8.haystack
