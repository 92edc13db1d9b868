use Rattle.std.proofs.Common.{◌≡◌, ℕ, List, ◌∙◌, ap, false, map, sym, subst, refl, IsCharBoundary}
use Rattle.std.proofs.lemmas.Str.{IsCharBoundary-start}
use Rattle.bites_spec.specs.Captured.{Excerpt, excerpt}
use Rattle.bites_spec.specs.Iteration.{spans_in}
use Rattle.bites_spec.specs.Regex.{Regex}
use Rattle.bites_bytes.proofs.SplitLemmas.{spans_of, all_start, limited_start}
use Rattle.regex_bites.specs.Matches.{matches_left, spans_left}
use Rattle.regex_bites.specs.declared.string.matches.Matches.{Matches}
use Rattle.regex_bites.proofs.string.split.Split.new.Goals as goal

spans_all : (m : Matches) (r : Regex) (hay : List ℕ) → matches_left m ≡ map (excerpt hay) (spans_in r hay) → spans_left m ≡ spans_in r hay
spans_all m r hay left = ap (map (λ (e : Excerpt). e.span)) left ∙ spans_of hay (spans_in r hay)

pub invariant_of-result : goal.invariant_of-result
invariant_of-result c =
    let e = c.in_ok-new.ensures in record {
      border = subst (λ h. IsCharBoundary h 0) (sym e.haystack) (IsCharBoundary-start c.args.haystack.now c.utf8.haystack);
      in_order = e.in_order;
    }

pub returns-clause-all : goal.returns-clause-all
returns-clause-all c =
    let e = c.in_ok-new.ensures in let m = c.in_ok-new.field-0 in let r = c.args.regex.now in let hay = c.args.haystack.now in
    all_start m.haystack.now 0 false refl r hay e.haystack refl (spans_left m) (spans_all m r hay e.left)

pub returns-clause-limited : goal.returns-clause-limited
returns-clause-limited c =
    let e = c.in_ok-new.ensures in let m = c.in_ok-new.field-0 in let r = c.args.regex.now in let hay = c.args.haystack.now in
    limited_start m.haystack.now 0 false refl r hay e.haystack refl (spans_left m) (spans_all m r hay e.left)
