use Rattle.std.proofs.Common.{ap, subst, sym, rules, IsCharBoundary}
use Rattle.std.specs.Prelude.{unwrap_or}
use Rattle.std.proofs.lemmas.Str.{IsCharBoundary-start}
use Rattle.bites_bytes.proofs.SearcherLemmas.{borrows}
use Rattle.regex_bites.proofs.string.searcher.Searcher.split.Goals as goal

pub invariant_of-result : goal.invariant_of-result
invariant_of-result c = record {
  border = subst (λ h. IsCharBoundary h 0) (sym c.new.ensures.haystack) (IsCharBoundary-start c.args.haystack.now c.utf8.haystack);
  behind = sym (ap (λ o. unwrap_or o 0) c.new.ensures.last);
}

pub returns : goal.returns
returns c = borrows _ _ _ _ _ _ _ (search rules) (search rules) c.new.ensures.searcher
