-- What the clauses of searches say of the headline's words.
use Rattle.std.proofs.Common.{◌≡◌, ◌↔◌, ℕ, ◌≤◌, Bool, true, false, List, Option, Some, None, option_map, refl, sym, ap, ◌∙◌, subst, true≢false, length, arith, IsUtf8, IsCharBoundary}
use Rattle.std.specs.Prelude.{IsSome, is_some, IfSome, unwrap_or}
use Rattle.bites_spec.specs.Utf8.{AreStarts}
use Rattle.bites_spec.specs.Tree.{Tree, IsPlain}
use Rattle.bites_spec.specs.Match.{Span, span, Mark, Matches}
use Rattle.bites_spec.specs.Found.{Answer, FoundBy, FoundSome, Finds, HasMatch, IsFirstPlace}
use Rattle.bites_spec.specs.Run.{Run, slots}
use Rattle.bites_spec.specs.Slots.{group_in, span_of_run}
use Rattle.bites_spec.specs.Regex.{Regex, IsCompiled, run_at, slots_at}
use Rattle.bites_spec.specs.Captured.{Captured, captured, Excerpt, excerpt, FindsMatch, FindsGroups, IsMatchFrom, IsInSlots}
use Rattle.bites_spec.specs.Counts.{Room}
use Rattle.bites_spec.specs.TextLaws.{HasBorders}
use Rattle.bites_spec.proofs.Laws as laws
use Rattle.bites_machine.specs.Inputs.{starts_of}
use Rattle.bites_bytes.specs.Calls.{MakesBy, ReadsGroups, SearchedBy}
use Rattle.regex_bites.specs.Borders.{GroupsAtBorders, HaveBorders, ReadsBy}
use Rattle.bites_theorems.specs.Headline.{MatchesOver, IsFirstMatch, EndsAsPreferred, EndsLast, MatchHeadline, Headline, AreFirstGroups, AreOfParse, SearchHeadline, TextSearchHeadline}

-- over texts, from a border on, a result begins and ends at borders, and so do its groups
answer_borders : (t : Tree) (hay : List ℕ) (s : ℕ) (ps : List ℕ) → AreStarts hay s ps → IsUtf8 hay → (s ≤ length hay → IsCharBoundary hay s) → (a : Answer) →
    FoundSome t hay ps (Some a) → HasBorders hay (span a.start a.end) × ((k : ℕ) (g : Span) → a.group k ≡ Some g → HasBorders hay g)
answer_borders t hay s ps are utf8 border a f =
    let lies = (laws.found_lies t hay s ps are a f).0 in let one = lies.0 in let two = lies.1 in let three = lies.2 in
    laws.what_is_found_in_texts_has_borders t hay s ps are a utf8 (border (omega (arith, one, two, three))) f

module _ (r : Regex) (hay : List ℕ) where
  pub captured_by : (o : Option (List (Option ℕ))) (c : Captured) → Some c ≡ option_map (captured r hay) o → (c.regex ≡ r) × (c.haystack ≡ hay)
  captured_by None c e = let never : Some c ≡ None = e in absurd (cc)
  captured_by (Some l) c e =
      let some : Some c ≡ Some (captured r hay l) = e in
      let same : c ≡ captured r hay l = cc in
      (ap (λ (d : Captured). d.regex) same, ap (λ (d : Captured). d.haystack) same)

-- what a search finds, read off its clauses on the tree
module _ (r : Regex) (hay : List ℕ) (s : ℕ) (ps : List ℕ) (are : AreStarts hay s ps) where
  some_parse : (a : Answer) → Finds r.leftmost_longest r.tree hay ps (Some a) → FoundSome r.tree hay ps (Some a)
  some_parse a = laws.finds_some r.leftmost_longest r.tree hay ps (Some a)

  matches_from : (a : Answer) → FoundSome r.tree hay ps (Some a) → Matches hay r.tree a.start a.end
  matches_from a f = laws.match_is_parse.1 hay r.tree a.start a.end f.marks f.parse

  preferred_end : (a : Answer) → Finds false r.tree hay ps (Some a) → IsPlain r.tree → EndsAsPreferred r.tree hay (span a.start a.end)
  preferred_end a f plain = (f.marks, f.chosen plain)

  longest_end : (a : Answer) → Finds true r.tree hay ps (Some a) → EndsLast r.tree hay (span a.start a.end)
  longest_end a f = f.chosen.0

  first_match : (g : Span) → IsMatchFrom r hay ps g → IsFirstMatch r hay ps g
  first_match g m =
      let a = m.answer in let f = some_parse a m.found in let same = sym m.is_span in
      record {
        first = subst (λ (x : Span). IsFirstPlace r.tree hay ps x.start) same f.first;
        matches = subst (MatchesOver r.tree hay) same (matches_from a f);
        preferred = λ off plain.
            subst (EndsAsPreferred r.tree hay) same (preferred_end a (subst (λ b. Finds b r.tree hay ps (Some a)) off m.found) plain);
        longest = λ on. subst (EndsLast r.tree hay) same (longest_end a (subst (λ b. Finds b r.tree hay ps (Some a)) on m.found));
      }

  -- where a match is read as a part of the haystack
  module _ {M : Type 0} (f : M → Excerpt) where
    pub found_exactly : (o : Option M) → FindsMatch r hay ps (option_map f o) → IsSome o ↔ HasMatch r.tree hay ps
    found_exactly None none = (λ h. absurd (true≢false (sym h)), λ has. absurd (none.on_tree has.0 has.2 has.1 has.3))
    found_exactly (Some m) found =
        let a = found.on_tree.answer in let p = some_parse a found.on_tree.found in
        (λ h. (a.start, a.end, p.first.place, matches_from a p), λ has. refl)

    pub match_headline : (o : Option M) → FindsMatch r hay ps (option_map f o) → MatchHeadline r hay ps (option_map (λ x. (f x).span) o)
    match_headline None none = none.on_tree
    match_headline (Some m) found = first_match (f m).span found.on_tree

    -- over texts it begins and ends at borders
    pub found_at_borders : IsUtf8 hay → (s ≤ length hay → IsCharBoundary hay s) → (o : Option M) → FindsMatch r hay ps (option_map f o) →
        IfSome o (λ x. HasBorders hay (f x).span)
    found_at_borders utf8 border None none = tt
    found_at_borders utf8 border (Some m) found =
        let a = found.on_tree.answer in
        subst (HasBorders hay) (sym found.on_tree.is_span) (answer_borders r.tree hay s ps are utf8 border a (some_parse a found.on_tree.found)).0

  -- the groups in slots
  module _ (l : List (Option ℕ)) where
    -- over texts each begins and ends at borders
    of_borders : IsUtf8 hay → (s ≤ length hay → IsCharBoundary hay s) → FindsGroups r hay ps (Some l) → GroupsAtBorders hay l
    of_borders utf8 border found = λ k g e.
        (answer_borders r.tree hay s ps are utf8 border found.answer (some_parse found.answer found.found)).1 k g (sym (found.in_slots.1 k) ∙ e)

    of_parse : (Q R : (i j : ℕ) → List Mark → Type 0) (a : Answer) → ((i j : ℕ) (ms : List Mark) → Q i j ms → R i j ms) →
        FoundBy r.tree hay Q ps (Some a) → IsInSlots (Some a) (Some l) → AreOfParse r.tree hay ps R l
    of_parse Q R a weaker f is = record {
      start = a.start;
      end = a.end;
      marks = f.marks;
      first = f.first;
      parse = f.parse;
      groups = λ k. is.1 k ∙ f.groups k;
      chosen = weaker a.start a.end f.marks f.chosen;
    }

    -- the groups are the headline's
    first_groups : FindsGroups r hay ps (Some l) → AreFirstGroups r hay ps l
    first_groups found =
        let a = found.answer in
        record {
          one_parse = of_parse _ _ a (λ i j ms h. tt) (some_parse a found.found) found.in_slots;
          preferred = λ off plain.
              of_parse _ _ a (λ i j ms h. h plain) (subst (λ b. Finds b r.tree hay ps (Some a)) off found.found) found.in_slots;
          longest = λ on. of_parse _ _ a (λ i j ms h. h.0) (subst (λ b. Finds b r.tree hay ps (Some a)) on found.found) found.in_slots;
          preferred_longest = λ on plain.
              of_parse _ _ a (λ i j ms h. (h.0, h.1 plain)) (subst (λ b. Finds b r.tree hay ps (Some a)) on found.found) found.in_slots;
        }

  -- captures are the headline's
  pub headline : (o : Option Captured) → o ≡ option_map (captured r hay) (slots_at r hay ps) → FindsGroups r hay ps (option_map (λ c. c.slots) o) →
      Headline r hay ps o
  headline None e none = none
  headline (Some c) e found =
      let by = captured_by r hay (slots_at r hay ps) c e in
      record { regex_is = by.0; haystack_is = by.1; groups = first_groups c.slots found }

  -- over texts each group of captures begins and ends at borders
  pub captures_at_borders : IsUtf8 hay → (s ≤ length hay → IsCharBoundary hay s) → (o : Option Captured) → FindsGroups r hay ps (option_map (λ c. c.slots) o) →
      IfSome o (λ c. GroupsAtBorders hay c.slots)
  captures_at_borders utf8 border None f = tt
  captures_at_borders utf8 border (Some c) f = of_borders c.slots utf8 border f

  -- where a search has written the groups that it finds, and the match is read as a part of the haystack
  module _ (is : IsCompiled r) {M : Type 0} (f : M → Excerpt) where
    whole_by : (x : Option Run) → run_at r hay ps ≡ x → (o : Option M) → option_map f o ≡ option_map (excerpt hay) (option_map span_of_run x) →
        (old new : List (Option ℕ)) → new ≡ unwrap_or (option_map (slots r.program) x) old → IfSome o (λ m. group_in new 0 ≡ Some (f m).span)
    whole_by x e None same old new w = tt
    whole_by None e (Some m) same old new w = let never : Some (f m) ≡ None = same in absurd (cc)
    whole_by (Some x) e (Some m) same old new w =
        ap (λ l. group_in l 0) w ∙ laws.answers_have_group_0 r is hay s ps are x e ∙ sym (ap (option_map (λ (y : Excerpt). y.span)) same)

    -- the match is group 0
    pub written_whole : (o : Option M) (old new : List (Option ℕ)) → ReadsGroups r hay ps (option_map f o) old new → IfSome o (λ m. group_in new 0 ≡ Some (f m).span)
    written_whole o old new read = whole_by (run_at r hay ps) refl o read.found.span old new read.groups

    -- and the groups are the headline's
    pub written_groups : (o : Option M) (old new : List (Option ℕ)) → ReadsGroups r hay ps (option_map f o) old new → IfSome o (λ m. AreFirstGroups r hay ps new)
    written_groups None old new read = tt
    written_groups (Some m) old new read = first_groups new read.on_tree

are_starts : (hay : List ℕ) (anchored : Bool) (s : ℕ) → AreStarts hay s (starts_of hay anchored s)
are_starts hay true s = (laws.searches_have_starts hay s).1
are_starts hay false s = (laws.searches_have_starts hay s).0

-- what a search with a cache says that writes the groups
pub search_headline : (r : Regex) → IsCompiled r → {M : Type 0} (f : M → Excerpt) (hay : List ℕ) (anchored : Bool) (s : ℕ) (m : Option M) (before after : List (Option ℕ)) (old new : Room) →
    ReadsGroups r hay (starts_of hay anchored s) (option_map f m) before after → SearchedBy anchored r hay s (is_some m) old new → MakesBy anchored r old new →
    SearchHeadline f r hay anchored s m after old new
search_headline r is f hay anchored s m before after old new read searched searches =
    let are = are_starts hay anchored s in
    record {
      exactly = found_exactly r hay s _ are f m read.found;
      whole = written_whole r hay s _ are is f m before after read;
      headline = written_groups r hay s _ are is f m before after read;
      searched = searched;
      searches = searches;
    }

-- over texts the borders stand in the clause of the search
pub text_search_headline : (r : Regex) → IsCompiled r → {M : Type 0} (f : M → Excerpt) (hay : List ℕ) (anchored : Bool) (s : ℕ) (m : Option M) (before after : List (Option ℕ)) (old new : Room) →
    ReadsBy f anchored r hay s m before after old new → TextSearchHeadline f r hay anchored s m after old new
text_search_headline r is f hay anchored s m before after old new h = record {
  search = search_headline r is f hay anchored s m before after old new h.read h.searched h.searches;
  borders = at_borders m h.borders;
}
  where
    at_borders : {M : Type 0} (m : Option M) → IfSome m (λ x. HaveBorders hay after) → IfSome m (λ x. GroupsAtBorders hay after)
    at_borders None h = tt
    at_borders (Some x) h = h.groups
