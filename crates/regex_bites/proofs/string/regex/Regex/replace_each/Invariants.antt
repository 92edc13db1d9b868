use Rattle.std.proofs.Common.{◌≡◌, length, string_bytes}
use Rattle.bites_spec.specs.Pieces.{limited}
use Rattle.bites_spec.specs.Iteration.{captures_in, captures_after}
use Rattle.bites_spec.specs.Replaced.{span_in}
use Rattle.bites_bytes.specs.ReplaceLimit.{taken}
use Rattle.bites_bytes.proofs.ReplacingLemmas.{ServesOn}
use Rattle.regex_bites.proofs.ReplacingLemmas.{IsOn}
use Rattle.regex_bites.proofs.string.regex.Regex.replace_each.Given as goal

abbrev pub invariant-loop-captures : goal.invariant-loop-captures
invariant-loop-captures g l = record {
  served : ServesOn g.R.Replacer.replaces g.R.Replacer.answers g.R.Replacer.refuses (limited l.limit (captures_in l.self l.haystack)) l.fn.replacer
      (taken l.left (captures_after l.self l.haystack l.out.last)) l.replacer;
  on : IsOn g.R.Replacer.replaces g.R.Replacer.answers span_in l.haystack (limited l.limit (captures_in l.self l.haystack)) l.fn.replacer (string_bytes l.out.out) l.out.last
      (taken l.left (captures_after l.self l.haystack l.out.last)) l.replacer;
  haystack : l.out.haystack.now ≡ l.haystack;
  len : length l.locations ≡ length l.fn.locations;
  kept : l.cache.fits ≡ l.fn.cache.fits;
}

abbrev pub decreases-loop-captures : goal.decreases-loop-captures
decreases-loop-captures g l = length (taken l.left (captures_after l.self l.haystack l.out.last))
