-- Each search finds some parse, and slots keep their length.
use Rattle.std.proofs.lemmas.Grind.{common_steps}
use Rattle.std.proofs.Common.{ℕ, List, length, Option, Some, None, true, false, arith, ap}
use Rattle.std.proofs.lemmas.List.{length-take-le}
use Rattle.std.proofs.lemmas.List.FromFn.{length-map-range_with_len}
use Rattle.bites_spec.specs.Utf8.{places, AreStarts}
use Rattle.bites_spec.specs.Tree.{Tree}
use Rattle.bites_spec.specs.Match.{Mark}
use Rattle.bites_spec.specs.Found.{Answer, IsFoundBy, FoundBy, FoundSome}
use Rattle.bites_spec.specs.FoundLaws.{StartsFind}
use Rattle.bites_spec.specs.Laws.{FoundIsSome, AnsweredKeepsLength}
use Rattle.bites_spec.specs.RegexLaws.{FindsSome}
use Rattle.bites_spec.proofs.utf8.StartLemmas.{start_among, start_or_above}

-- what a search finds by any choice of parse is some parse
found_by_some : (t : Tree) (hay : List ℕ) (Q : (i j : ℕ) → List Mark → Type 0) (ps : List ℕ) (o : Option Answer) → FoundBy t hay Q ps o → FoundSome t hay ps o
found_by_some t hay Q ps None none = none
found_by_some t hay Q ps (Some a) f = record { first = f.first; marks = f.marks; parse = f.parse; groups = f.groups; chosen = tt }

pub found_is_some : FoundIsSome
found_is_some t hay ps = grind (arith, common_steps, found_by_some)

pub finds_some : FindsSome
finds_some true t hay ps o f = found_by_some t hay _ ps o f
finds_some false t hay ps o f = found_by_some t hay _ ps o f

module _ (t : Tree) (hay : List ℕ) (s : ℕ) (ps : List ℕ) (are : AreStarts hay s ps) where
  found_by_all : (Q : (i j : ℕ) → List Mark → Type 0) (a : Answer) → IsFoundBy t hay Q ps a → IsFoundBy t hay Q (places hay s) a
  found_by_all Q a f = record {
    first = record {
      place = start_among hay s ps are a.start f.first.place;
      matches = f.first.matches;
      none_before = λ k among lt. f.first.none_before k (start_or_above hay s ps are k among a.start f.first.place lt) lt;
    };
    marks = f.marks;
    parse = f.parse;
    groups = f.groups;
    chosen = f.chosen;
  }

pub starts_find : StartsFind
starts_find t hay s ps are true a f = found_by_all t hay s ps are _ a f
starts_find t hay s ps are false a f = found_by_all t hay s ps are _ a f

pub answered_keeps_length : AnsweredKeepsLength
answered_keeps_length p None found old new room is = ap length is.1
answered_keeps_length p (Some r) found old new room is = grind (arith, common_steps, length-take-le, length-map-range_with_len)
