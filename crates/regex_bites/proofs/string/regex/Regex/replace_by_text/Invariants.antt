use Rattle.std.proofs.Common.{◌≡◌, length, string_bytes}
use Rattle.bites_bytes.specs.ReplaceLimit.{taken}
use Rattle.regex_bites.specs.ReplacedText.{matches_after}
use Rattle.regex_bites.proofs.ReplacingLemmas.{IsOn, GivesText, NoAnswers, to_replace}
use Rattle.regex_bites.proofs.string.regex.Regex.replace_by_text.Given as goal

abbrev pub invariant-loop-found : goal.invariant-loop-found
invariant-loop-found l = record {
  on : IsOn (GivesText l.text) NoAnswers (λ e. e.span) l.haystack (to_replace l.self l.haystack l.limit) tt (string_bytes l.out.out) l.out.last
      (taken l.left (matches_after l.self l.haystack l.out.last)) tt;
  haystack : l.out.haystack.now ≡ l.haystack;
  kept : l.cache.fits ≡ l.fn.cache.fits;
}

abbrev pub decreases-loop-found : goal.decreases-loop-found
decreases-loop-found l = length (taken l.left (matches_after l.self l.haystack l.out.last))
