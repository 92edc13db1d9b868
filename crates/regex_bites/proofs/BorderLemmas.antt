-- What searches of a text return begins and ends at borders.
use Rattle.std.proofs.Common.{◌≡◌, ℕ, zero, suc, ◌+◌, Bool, true, false, cond, List, [], ◌∷◌, map, length, Option, Some, None, Result, Ok, option_map, refl, ap, sym, subst, ◌∙◌, ⊎_elim, arith, true≢false, ltb, ltb-true, ltb-false, IsUtf8, IsCharBoundary}
use Rattle.std.proofs.lemmas.Option.{same_Some}
use Rattle.std.specs.Prelude.{IfSome, is_some, unwrap_or}
use Rattle.std.specs.List.{AllByRecursion}
use Rattle.std.specs.Option.{ForSome}
use Rattle.std.proofs.lemmas.Str.{IsCharBoundary-start}
use Rattle.std.proofs.lemmas.Bool.{cases_Bool}
use Rattle.bites_spec.specs.Utf8.{piece, places, step_len, AreStarts}
use Rattle.bites_spec.specs.Match.{Span}
use Rattle.bites_spec.specs.Spans.{is_empty_at, next_after, followed, some_after, successive, successive_after}
use Rattle.bites_spec.specs.Tree.{Tree}
use Rattle.bites_spec.specs.Found.{Finds, IsLeastEnd}
use Rattle.bites_spec.specs.TextLaws.{HasBorders}
use Rattle.bites_spec.specs.Run.{Run, slots}
use Rattle.bites_spec.specs.Slots.{group_in, span_of_run, answer_of}
use Rattle.bites_spec.specs.Regex.{Regex, IsCompiled, run_at, span_at, slots_at}
use Rattle.bites_spec.specs.Captured.{Excerpt, excerpt, Captured, captured, AreGroups, FindsMatch}
use Rattle.bites_spec.specs.Counts.{Room}
use Rattle.bites_spec.specs.Full.{FoundFull, full_run, full_slots}
use Rattle.bites_spec.specs.Pieces.{AreInOrder}
use Rattle.bites_spec.specs.Iteration.{spans_in, spans_after, captured_by, captures_in, captures_after}
use Rattle.bites_machine.specs.Inputs.{starts_of}
use Rattle.bites_bytes.specs.Calls as over_bytes
use Rattle.bites_bytes.specs.Calls.{groups_if, FindsCaptured, FindsNext, ReadsGroups}
use Rattle.bites_bytes.specs.NextCaptured.{IsNextCaptured, FindsNextCaptured}
use Rattle.bites_spec.proofs.utf8.PieceLemmas.{piece_some}
use Rattle.bites_spec.proofs.utf8.StartLemmas.{start_lies, all_are_starts}
use Rattle.bites_spec.proofs.parses.TextPlaces.{border_behind}
use Rattle.bites_spec.proofs.parses.TextMatches.{found_borders, least_end_border}
use Rattle.bites_spec.proofs.regex.FoundSomeLemmas.{finds_some}
use Rattle.bites_spec.proofs.regex.RegexLemmas.{run_is_found}
use Rattle.bites_spec.proofs.regex.FullLemmas.{full_run_is_found, full_is_found, full_slots_are_groups}
use Rattle.bites_spec.proofs.iteration.SpanLemmas.{Successive-in_order}
use Rattle.bites_spec.proofs.iteration.SuccessiveLemmas.{successive_follow}
use Rattle.bites_spec.proofs.regex.RegexRuns.{run_at-lies, span_at-lies}
use Rattle.regex_bites.specs.Order.{BeginFrom}
use Rattle.bites_bytes.proofs.CapturedLemmas.{groups_there, if_found}
use Rattle.bites_bytes.proofs.SlotLemmas.{some_mapped, starts_are}
use Rattle.regex_bites.specs.Borders.{MayStart, IsPart, HaveBorders, AreGroupsIn, AreGroupsOf, ReadsBy, ReadsFullWith}

pub none_some : {A B : Type 0} (a : A) → None ≡ Some a → B
none_some a e = absurd (cc)

-- what is said of a regex and of bytes that are a text's is said of the text
pub over_text : (P : Regex → List ℕ → Type 0) (r q : Regex) (h k : List ℕ) → r ≡ q → h ≡ k → P r h → P q k
over_text P r q h k e f p = subst (λ x. P x k) e (subst (P r) f p)

-- a part at known borders
part_at : (hay : List ℕ) {M : Type 0} (f : M → Excerpt) (k : List ℕ) → k ≡ hay → (o : Option M) (q : Option Span) → ((g : Span) → q ≡ Some g → HasBorders hay g) →
    option_map f o ≡ option_map (excerpt k) q → (m : M) → o ≡ Some m → IsPart hay (f m)
part_at hay f k same None q borders e m is = none_some m is
part_at hay f k same (Some n) None borders e m is = none_some (f n) (sym e)
part_at hay f k same (Some n) (Some g) borders e m is =
    subst (λ x. IsPart hay (f x)) (same_Some n m is)
    (subst (IsPart hay) (sym (same_Some (f n) (excerpt k g) e)) (same, borders g refl))

module _ (hay : List ℕ) (utf8 : IsUtf8 hay) where
  pub may_start : MayStart hay 0
  may_start le = IsCharBoundary-start hay utf8

  step_border : (e : ℕ) → IsCharBoundary hay e → MayStart hay (e + step_len hay e)
  step_border e border le =
      ⊎_elim (λ (h : ltb e (length hay) ≡ true).
      let some = piece_some hay e (ltb-true e (length hay) h) in
      let same : (piece hay e).len ≡ step_len hay e = omega (arith, some) in
      subst (λ (k : ℕ). IsCharBoundary hay (e + k)) same (border_behind hay e utf8 border))
      (λ (h : ltb e (length hay) ≡ false). let past = ltb-false e (length hay) h in absurd (omega (arith, past, le)))
      (cases_Bool (ltb e (length hay)))

  -- successive results, where each result of a search from a border has P and ends at a border
  module _ {B : Type 0} (span_of : B → Span) (A : ℕ → Option B) (P : B → Type 0)
      (answers : (s : ℕ) → MayStart hay s → (x : B) → A s ≡ Some x → P x × IsCharBoundary hay (span_of x).end) where
    next_answers : (e : ℕ) → IsCharBoundary hay e → (x : B) → next_after span_of hay A e ≡ Some x → P x × IsCharBoundary hay (span_of x).end
    unfolding next_after
    next_answers e border x h = chosen (is_empty_at span_of e (A e)) h
      where
        chosen : (b : Bool) → cond b (A (e + step_len hay e)) (A e) ≡ Some x → P x × IsCharBoundary hay (span_of x).end
        chosen true h = answers (e + step_len hay e) (step_border e border) x h
        chosen false h = answers e (λ le. border) x h

    each_followed : (f : ℕ → List B) (o : Option B) → ((x : B) → o ≡ Some x → P x × IsCharBoundary hay (span_of x).end) →
        ((e : ℕ) → IsCharBoundary hay e → AllByRecursion P (f e)) → AllByRecursion P (followed span_of f o)
    each_followed f None one more = tt
    each_followed f (Some x) one more = let h = one x refl in (h.0, more (span_of x).end h.1)

    each_after : (n e : ℕ) → IsCharBoundary hay e → AllByRecursion P (some_after span_of hay A n e)
    unfolding some_after
    each_after zero e border = tt
    each_after (suc n) e border = each_followed (some_after span_of hay A n) (next_after span_of hay A e) (next_answers e border) (each_after n)

    pub each_successive : AllByRecursion P (successive span_of hay A)
    unfolding successive successive_after
    each_successive = each_followed (some_after span_of hay A (length hay)) (A 0) (answers 0 may_start) (each_after (length hay))

    -- and those after one that ends at a border
    pub each_successive_after : (e : ℕ) → IsCharBoundary hay e → AllByRecursion P (successive_after span_of hay A e)
    unfolding successive_after
    each_successive_after = each_after (length hay)

  -- the least end of a match is a border
  pub end_border : (t : Tree) (s : ℕ) (ps : List ℕ) → AreStarts hay s ps → MayStart hay s → (o : Option ℕ) → IsLeastEnd t hay ps o → IfSome o (IsCharBoundary hay)
  end_border t s ps are may None least = tt
  end_border t s ps are may (Some j) least =
      let lies = start_lies hay s ps are least.0.0 least.0.1 in least_end_border t hay s ps are j utf8 (may (omega (arith, lies.0, lies.1))) least

  module _ (r : Regex) (is : IsCompiled r) where
    -- a search from these starts
    module _ (s : ℕ) (ps : List ℕ) (are : AreStarts hay s ps) (may : MayStart hay s) where
      -- the run that it returns begins and ends at borders, and so do its groups
      run_borders : (x : Run) → run_at r hay ps ≡ Some x → HasBorders hay (span_of_run x) × HaveBorders hay (slots r.program x)
      run_borders x e =
          let lies = run_at-lies r is hay s ps are x e in let one = lies.0 in let two = lies.1 in let three = lies.2 in
          let finds =
          subst (λ o. Finds r.leftmost_longest r.tree hay ps (option_map (answer_of r.program) o)) e (run_is_found r is hay s ps are) in
          let found =
          found_borders r.tree hay s ps are (answer_of r.program x) utf8 (may (omega (arith, one, two, three)))
          (finds_some r.leftmost_longest r.tree hay ps (Some (answer_of r.program x)) finds) in
          (found.0, record { groups = found.1 })

      pub span_borders : (g : Span) → span_at r hay ps ≡ Some g → HasBorders hay g
      span_borders g h = by_run (run_at r hay ps) refl h
        where
          by_run : (o : Option Run) → run_at r hay ps ≡ o → option_map span_of_run o ≡ Some g → HasBorders hay g
          by_run None e h = none_some g h
          by_run (Some x) e h = subst (HasBorders hay) (same_Some (span_of_run x) g h) (run_borders x e).0

    -- the slots of a run whose groups have borders
    slots_of : (o : Option Run) → ((x : Run) → o ≡ Some x → HaveBorders hay (slots r.program x)) → (l : List (Option ℕ)) → option_map (slots r.program) o ≡ Some l → HaveBorders hay l
    slots_of None borders l h = none_some l h
    slots_of (Some x) borders l h = subst (HaveBorders hay) (same_Some (slots r.program x) l h) (borders x refl)

    captured_of : (o : Option (List (Option ℕ))) → ((l : List (Option ℕ)) → o ≡ Some l → HaveBorders hay l) → (c : Captured) →
        Some c ≡ option_map (captured r hay) o → AreGroupsOf hay c
    captured_of None borders c e = none_some c (sym e)
    captured_of (Some l) borders c e = subst (AreGroupsOf hay) (sym (same_Some c (captured r hay l) e)) (refl, (borders l refl).groups)

    -- the groups that a search returns are those of a match in the text
    pub found_groups : (s : ℕ) (ps : List ℕ) → AreStarts hay s ps → MayStart hay s → (c : Captured) → Some c ≡ option_map (captured r hay) (slots_at r hay ps) → AreGroupsOf hay c
    found_groups s ps are may c e = captured_of (slots_at r hay ps) (slots_of (run_at r hay ps) (λ x h. (run_borders s ps are may x h).1)) c e

    -- and so are those of a match of the whole text
    full_borders : (x : Run) → full_run r hay ≡ Some x → HaveBorders hay (slots r.program x)
    full_borders x e =
        let found = subst (λ o. FoundFull r.tree hay (option_map (answer_of r.program) o)) e (full_run_is_found r is hay).0 in
        let a = answer_of r.program x in
        record { groups = (found_borders r.tree hay 0 (places hay 0) (all_are_starts hay 0) a utf8 (may_start (omega arith)) (full_is_found r.tree hay a found)).1 }

    full_slots_borders : (l : List (Option ℕ)) → full_slots r hay ≡ Some l → HaveBorders hay l
    full_slots_borders = slots_of (full_run r hay) full_borders

    pub slots_borders_full : (o : Option (List (Option ℕ))) → full_slots r hay ≡ o → IfSome o (HaveBorders hay)
    slots_borders_full = if_found (HaveBorders hay) (full_slots r hay) full_slots_borders

    pub full_groups : (c : Captured) → Some c ≡ option_map (captured r hay) (full_slots r hay) → AreGroupsOf hay c
    full_groups c e = captured_of (full_slots r hay) full_slots_borders c e

    -- slots into which a search has written
    written_by : {M : Type 0} (f : M → Excerpt) (x : Option Run) → ((y : Run) → x ≡ Some y → HaveBorders hay (slots r.program y)) → (o : Option M) →
        option_map f o ≡ option_map (excerpt hay) (option_map span_of_run x) → (old new : List (Option ℕ)) →
        new ≡ unwrap_or (option_map (slots r.program) x) old → IfSome o (λ m. HaveBorders hay new)
    written_by f x borders None same old new is = tt
    written_by f None borders (Some m) same old new is = none_some (f m) (sym same)
    written_by f (Some y) borders (Some m) same old new is = subst (HaveBorders hay) (sym is) (borders y refl)

    pub written_borders : {M : Type 0} (f : M → Excerpt) (s : ℕ) (ps : List ℕ) → AreStarts hay s ps → MayStart hay s → (o : Option M) →
        option_map f o ≡ option_map (excerpt hay) (span_at r hay ps) → (old new : List (Option ℕ)) →
        new ≡ unwrap_or (slots_at r hay ps) old → IfSome o (λ m. HaveBorders hay new)
    written_borders f s ps are may o same old new is = written_by f (run_at r hay ps) (λ y h. (run_borders s ps are may y h).1) o same old new is

    -- and so it is a part of the text
    pub found_part : {M : Type 0} (f : M → Excerpt) (s : ℕ) (ps : List ℕ) → AreStarts hay s ps → MayStart hay s → (o : Option M) →
        option_map f o ≡ option_map (excerpt hay) (span_at r hay ps) → (m : M) → o ≡ Some m → IsPart hay (f m)
    found_part f s ps are may o e m is = part_at hay f hay refl o (span_at r hay ps) (span_borders s ps are may) e m is

    parts : (ss : List Span) → AllByRecursion (HasBorders hay) ss → AllByRecursion (IsPart hay) (map (excerpt hay) ss)
    parts [] h = tt
    parts (s ∷ ss) h = ((refl, h.0), parts ss h.1)

    found_span : (s : ℕ) → MayStart hay s → (g : Span) → span_at r hay (places hay s) ≡ Some g → HasBorders hay g × IsCharBoundary hay g.end
    found_span s may g e = let b = span_borders s _ (all_are_starts hay s) may g e in (b, b.1)

    found_run : (s : ℕ) → MayStart hay s → (x : Run) → run_at r hay (places hay s) ≡ Some x →
        HaveBorders hay (slots r.program x) × IsCharBoundary hay (span_of_run x).end
    found_run s may x e = let b = run_borders s _ (all_are_starts hay s) may x e in (b.1, b.0.1)

    -- all matches are parts of the text
    pub spans_parts : AllByRecursion (IsPart hay) (map (excerpt hay) (spans_in r hay))
    spans_parts =
        parts (spans_in r hay)
        (each_successive (λ s. s) (λ s. span_at r hay (places hay s)) (HasBorders hay) found_span)

    groups_of_all : (xs : List Run) → AllByRecursion (λ x. HaveBorders hay (slots r.program x)) xs → AllByRecursion (AreGroupsOf hay) (map (captured_by r hay) xs)
    groups_of_all [] h = tt
    groups_of_all (x ∷ xs) h = ((refl, h.0.groups), groups_of_all xs h.1)

    -- the groups of all matches are those of matches in the text
    pub captures_groups : AllByRecursion (AreGroupsOf hay) (captures_in r hay)
    captures_groups =
        groups_of_all (successive span_of_run hay (λ s. run_at r hay (places hay s)))
        (each_successive span_of_run (λ s. run_at r hay (places hay s)) (λ x. HaveBorders hay (slots r.program x)) found_run)

    -- the matches after one that ends at a border begin and end at borders
    spans_after_borders : (last : Option ℕ) → ForSome last (IsCharBoundary hay) → AllByRecursion (HasBorders hay) (spans_after r hay last)
    spans_after_borders None border = each_successive (λ s. s) (λ s. span_at r hay (places hay s)) (HasBorders hay) found_span
    spans_after_borders (Some e) border =
        each_successive_after (λ s. s) (λ s. span_at r hay (places hay s)) (HasBorders hay) found_span e (border e refl)

    -- the next match is a part of the text
    pub next_part : {M : Type 0} (f : M → Excerpt) (last : Option ℕ) → ForSome last (IsCharBoundary hay) → (o : Option M) →
        FindsNext r hay last (option_map f o) → (m : M) → o ≡ Some m → IsPart hay (f m)
    next_part f last border None next m is = none_some m is
    next_part f last border (Some n) next m is =
        subst (λ k. IsPart hay (f k)) (same_Some n m is)
        (next.haystack, (subst (AllByRecursion (HasBorders hay)) next.follow (spans_after_borders last border)).0)

    captures_after_groups : (last : Option ℕ) → ForSome last (IsCharBoundary hay) → AllByRecursion (AreGroupsOf hay) (captures_after r hay last)
    captures_after_groups None border = captures_groups
    captures_after_groups (Some e) border =
        groups_of_all (successive_after span_of_run hay (λ s. run_at r hay (places hay s)) e)
        (each_successive_after span_of_run (λ s. run_at r hay (places hay s)) (λ x. HaveBorders hay (slots r.program x)) found_run e (border e refl))

    -- the groups of the next match are those of a match in the text
    next_groups : (last : Option ℕ) → ForSome last (IsCharBoundary hay) → (c : Captured) → IsNextCaptured r hay last c → AreGroupsOf hay c
    next_groups last border c next = (subst (AllByRecursion (AreGroupsOf hay)) next.follow (captures_after_groups last border)).0

    pub found_next_groups : {E : Type 0} (last : Option ℕ) → ForSome last (IsCharBoundary hay) → (o : Result Captured E) → FindsNextCaptured r hay last (Some o) →
        (c : Captured) → o ≡ Ok c → AreGroupsOf hay c
    found_next_groups {E} last border o next c is =
        next_groups last border c (subst (λ (x : Result Captured E). FindsNextCaptured r hay last (Some x)) is next)

    begin_from : (len e : ℕ) (ss : List Span) → AreInOrder len e (map (λ s. s) ss) → BeginFrom e (map (λ e. e.span) (map (excerpt hay) ss))
    begin_from len e [] h = tt
    begin_from len e (s ∷ ss) h = (h.0, begin_from len s.end ss h.2)

    -- all matches stand in order
    pub spans_ordered : BeginFrom 0 (map (λ e. e.span) (map (excerpt hay) (spans_in r hay)))
    spans_ordered =
        let from = λ (s : ℕ). span_at r hay (places hay s) in
        let lie = λ (s : ℕ) (x : Span) (e : from s ≡ Some x). span_at-lies r is hay s _ (all_are_starts hay s) x e in
        begin_from (length hay) 0 (spans_in r hay)
        (Successive-in_order (λ s. s) hay (λ s o. from s ≡ o) lie (spans_in r hay) (successive_follow (λ s. s) hay from lie))

-- a group of a match in a text is a part of it
pub group_part : (hay : List ℕ) (c : Captured) → AreGroupsOf hay c → {M : Type 0} (f : M → Excerpt) (k : ℕ) (o : Option M) →
    option_map f o ≡ option_map (excerpt c.haystack) (group_in c.slots k) → (m : M) → o ≡ Some m → IsPart hay (f m)
group_part hay c of f k o e m is = part_at hay f c.haystack of.0 o (group_in c.slots k) (of.1 k) e m is

-- what a search over the bytes of a text finds, in the words of the text
module _ (q r : Regex) (k hay : List ℕ) (regex : q ≡ r) (bytes : k ≡ hay) (utf8 : IsUtf8 hay) (is : IsCompiled r) (b : Bool) (s : ℕ) (may : MayStart hay s) where
  pub part_found : {M : Type 0} (f : M → Excerpt) (o : Option M) → FindsMatch q k (starts_of k b s) (option_map f o) → (m : M) → o ≡ Some m → IsPart hay (f m)
  part_found f o found =
      found_part hay utf8 r is f s _ (starts_are hay b s) may o (over_text (λ x h. FindsMatch x h (starts_of h b s) (option_map f o)) q r k hay regex bytes found).span

  pub groups_found : (o : Option Captured) → FindsCaptured q k (starts_of k b s) o → (c : Captured) → o ≡ Some c → AreGroupsOf hay c
  groups_found o found c e =
      let finds = over_text (λ x h. FindsCaptured x h (starts_of h b s) o) q r k hay regex bytes found in
      found_groups hay utf8 r is s _ (starts_are hay b s) may c (sym e ∙ finds.found)

  pub text_read : {M N : Type 0} (f : M → Excerpt) (g : N → Excerpt) (o : Option M) (m : Option N) → option_map g m ≡ option_map f o →
      (inside old after : List (Option ℕ)) → inside ≡ old → (room before now : Room) → room ≡ before →
      over_bytes.ReadsBy f b q k s o inside after room now → ReadsBy g b r hay s m old after before now
  text_read f g o m same inside old after slots room before now fits reads =
      let all = over_text (λ x h. over_bytes.ReadsBy f b x h s o inside after room now) q r k hay regex bytes reads in record {
        read = subst (λ e. over_bytes.ReadsGroups r hay (starts_of hay b s) e old after) (sym same)
            (subst (λ l. over_bytes.ReadsGroups r hay (starts_of hay b s) (option_map f o) l after) slots all.read);
        borders = written_borders hay utf8 r is g s _ (starts_are hay b s) may m (same ∙ all.read.found.span) inside _ all.read.groups;
        searched = subst (λ there. over_bytes.SearchedBy b r hay s there before now) (sym (some_mapped f o) ∙ ap is_some (sym same) ∙ some_mapped g m)
            (subst (λ x. over_bytes.SearchedBy b r hay s (is_some o) x now) fits all.searched);
        searches = subst (λ x. over_bytes.MakesBy b r x now) fits all.searches;
      }

-- and a search for a match of the whole text
pub text_read_full : (q r : Regex) (k hay : List ℕ) → q ≡ r → k ≡ hay → IsUtf8 hay → IsCompiled r → (there : Bool) (inside old after : List (Option ℕ)) → inside ≡ old →
    (room before now : Room) → room ≡ before → over_bytes.ReadsFullWith q k there inside after room now → ReadsFullWith r hay there old after before now
text_read_full q r k hay regex bytes utf8 is there inside old after slots room before now fits reads =
    let all = over_text (λ x h. over_bytes.ReadsFullWith x h there inside after room now) q r k hay regex bytes reads in record {
      found = all.found;
      on_tree = all.on_tree;
      borders = slots_borders_full hay utf8 r is (groups_if there after) all.found;
      searched = subst (λ x. over_bytes.SearchedWithin r hay 0 x now) fits all.searched;
      searches = subst (λ x. over_bytes.Makes 2 x now) fits all.searches;
      len = all.len ∙ ap length slots;
    }

-- slots hold groups in a text if they hold groups, which lie between borders
in_text : (r : Regex) (hay : List ℕ) (o : Option (List (Option ℕ))) → IfSome o (AreGroups r hay) → IfSome o (HaveBorders hay) → IfSome o (AreGroupsIn r hay)
in_text r hay None are borders = tt
in_text r hay (Some l) are borders = record { are = are; borders = borders }

pub found_in_text : (r : Regex) (hay : List ℕ) (there : Bool) (slots : List (Option ℕ)) → IfSome (groups_if there slots) (AreGroupsIn r hay) → there ≡ true →
    AreGroupsIn r hay slots
found_in_text r hay there slots groups e = subst (λ b. IfSome (groups_if b slots) (AreGroupsIn r hay)) e groups

borders_if : {M : Type 0} (hay : List ℕ) (new : List (Option ℕ)) (m : Option M) → IfSome m (λ x. HaveBorders hay new) → (there : Bool) → is_some m ≡ there →
    IfSome (groups_if there new) (HaveBorders hay)
borders_if hay new m h false e = tt
borders_if hay new None h true e = absurd (true≢false (sym e))
borders_if hay new (Some x) h true e = h

-- so do those that a search wrote
pub groups_in_text : (r : Regex) → IsCompiled r → (hay : List ℕ) (b : Bool) (s : ℕ) {M : Type 0} (f : M → Excerpt) (m : Option M) (old new : List (Option ℕ)) →
    ReadsGroups r hay (starts_of hay b s) (option_map f m) old new → IfSome m (λ x. HaveBorders hay new) → (there : Bool) → is_some m ≡ there →
    IfSome (groups_if there new) (AreGroupsIn r hay)
groups_in_text r is hay b s f m old new reads borders there same =
    in_text r hay (groups_if there new) (groups_there r is hay s _ (starts_are hay b s) f m old new reads there same) (borders_if hay new m borders there same)

-- and those of a match of the whole text
pub full_in_text : (r : Regex) → IsCompiled r → (hay : List ℕ) (there : Bool) (old new : List (Option ℕ)) (before after : Room) →
    ReadsFullWith r hay there old new before after → IfSome (groups_if there new) (AreGroupsIn r hay)
full_in_text r is hay there old new before after reads =
    in_text r hay (groups_if there new)
    (if_found (AreGroups r hay) (full_slots r hay) (full_slots_are_groups r is hay) (groups_if there new) reads.found) reads.borders
