-- From where a search has to begin, by the end of the haystack, and by the offset that a search for the literal has come to.
use Rattle.std.proofs.Common.{◌≡◌, ℕ, ◌+◌, ◌-◌, ◌<◌, ◌≤◌, max, Bool, true, List, length, Option, Some, get_or, map, sym, ap, ◌∙◌, subst, inl, inr, ⊎_elim, arith}
use Rattle.std.specs.Prelude.{IfSome}
use Rattle.std.proofs.lemmas.Bool.{cases_lt}
use Rattle.std.proofs.lemmas.List.{ext_get_or, get_or-map, length-map}
use Rattle.std.proofs.lemmas.Simd.{length-chunk, get_or-chunk}
use lib.Lanes.{chunk}
use Rattle.bites_spec.specs.Walks.{Among}
use Rattle.bites_spec.specs.Utf8.{places}
use Rattle.bites_spec.specs.Tree.{Tree}
use Rattle.bites_spec.specs.Match.{Matches}
use Rattle.bites_spec.specs.Found.{NoMatch}
use Rattle.bites_spec.proofs.utf8.PieceLemmas.{Among-places}
use Rattle.bites_scan.specs.Literal.{Needle, OccursAt, IsOutcome, folding}
use Rattle.bites_scan.specs.declared.literal.Outcome.{Outcome}
use Rattle.bites_scan.specs.declared.literal.Outcome.TheVariants.{Found, Tired}
use Rattle.bites_scan.specs.declared.literal.Outcome.TheVariants as literal
use Rattle.bites_scan.specs.LiteralSet.{IsSetOutcome, SomeOccursAt, StandsUpTo}
use Rattle.bites_scan.specs.Offsets.{NoneFrom, NoneOccurs}
use Rattle.bites_literals.specs.declared.prefilter.Begin.{Begin}
use Rattle.bites_literals.specs.declared.prefilter.Begin.TheVariants.{Nowhere, From, Match}
use Rattle.bites_scan.proofs.LiteralLemmas.{byte_at}
use Rattle.bites_literals.specs.declared.ascii.AsciiSet.{AsciiSet}
use Rattle.bites_literals.specs.declared.facts.Facts.{Facts}
use Rattle.bites_literals.specs.declared.facts.Needed.{Needed}
use Rattle.bites_literals.specs.declared.prefilter.End.{End}
use Rattle.bites_literals.specs.declared.prefilter.Near.{Near}
use Rattle.bites_literals.specs.declared.prefilter.Reach.{Reach}
use Rattle.bites_literals.specs.Between.{IsFlagged, IsBackOver}
use Rattle.bites_literals.specs.declared.between.Between.{Between}
use Rattle.bites_literals.specs.declared.prefilter.Reach.TheVariants.{Bytes, While, Haystack}
use Rattle.bites_literals.specs.declared.choice.Choice.{Choice}
use Rattle.bites_literals.specs.Choice.{BeginsWithOne, IsChoice, IsOneOf}
use Rattle.bites_literals.specs.Facts.{AreFacts, HoldsOnly, IsNeeded}
use Rattle.bites_literals.specs.Begins.{BeginsBy, BeginsWithin, Continues, IsFirstMatch, IsNear, IsOnly, IsReachOf, IsEnd, StaysIn, NoneBefore, IsBack, IsBackAtPiece, before_of}
use Rattle.bites_literals.specs.Texts.{EndsWith, Holds, Stands, bytes_of, needle_of}
use Rattle.bites_literals.proofs.FactLemmas.{at_most}
use Rattle.bites_literals.proofs.TextLemmas.{anywhere, end_longer}
use Rattle.bites_literals.proofs.PlaceLemmas.{place_at_first, place_behind_ascii, start_among}

-- a text that stands here occurs here
pub occurs : (caseless : Bool) (bytes hay : List ℕ) (p : ℕ) → 0 < length bytes → Stands caseless bytes hay p → OccursAt (folding caseless) hay bytes p
occurs caseless bytes hay p some s = record { room = room; equal = ext_get_or 0 _ _ (length-map part fold ∙ long ∙ sym (length-map bytes fold)) each }
  where
    fold : ℕ → ℕ
    fold = folding caseless

    room : p + length bytes ≤ length hay
    room = let last = (s (length bytes - 1) (omega arith)).0 in omega (arith, last, some)

    part : List ℕ
    part = chunk p (length bytes) hay

    long : length part ≡ length bytes
    long = length-chunk p (length bytes) hay room

    each : (k : ℕ) → k < length (map fold part) → get_or (map fold part) k 0 ≡ get_or (map fold bytes) k 0
    each k h =
        let less : k < length bytes = omega (arith, h, length-map part fold, long) in
        get_or-map fold part k 0 0 (omega (arith, less, long)) ∙ ap fold (get_or-chunk p (length bytes) hay k 0 less) ∙ (s k less).1 ∙ sym (get_or-map fold bytes k 0 0 less)

-- each match from `start` on comes to an offset that is not before `at`, and it begins near enough to it
abbrev pub ComesTo : Tree → List ℕ → (start at : ℕ) → Reach → Type 0
ComesTo t hay start at reach =
    (i j : ℕ) → start ≤ i → Matches hay t i j → (h : ℕ) × (at ≤ h) × (h ≤ j) × IfSome (before_of reach) (λ n. h ≤ i + n)

-- each match from `start` on begins at most n bytes before an offset that is not before `at`
abbrev pub IsNearTo : Tree → List ℕ → (start at n : ℕ) → Type 0
IsNearTo t hay start at n = (i j : ℕ) → start ≤ i → Matches hay t i j → (h : ℕ) × (at ≤ h) × (h ≤ i + n)

-- a byte of ASCII that may not stand between stands before the offset
abbrev Stop : List ℕ → ℕ → Between → ℕ → Type 0
Stop hay start between q = (start < q) × ((k : ℕ) → k + 1 ≡ q → (get_or hay k 0 < 128) × (IsFlagged between.bytes (get_or hay k 0) → ⊥))

-- ## Back from that offset

module _ (t : Tree) (hay : List ℕ) (start at : ℕ) (within : start ≤ length hay) where
  at_start : (q : ℕ) → q ≡ start → Among (places hay start) q
  at_start q e = subst (λ k. Among (places hay start) k) (sym e) (start_among hay start within)

  pub begins_near : (n q : ℕ) → IsNearTo t hay start at n → IsBackAtPiece hay start (max (at - n) start) q → NoneBefore t hay start q
  begins_near n q comes back = record { place = ⊎_elim (at_start q) at_first back.stands; none_before = before }
    where
      at_first : (q < length hay) × (Continues (get_or hay q 0) → ⊥) → Among (places hay start) q
      at_first (lt, first) = place_at_first hay start q back.onward lt first

      before : (i : ℕ) → Among (places hay start) i → i < q → (j : ℕ) → Matches hay t i j → ⊥
      before i among lt j m =
          let le = (Among-places hay start i among).0 in
          let c = comes i j le m in
          absurd (omega (arith, le, c.1, c.2, lt, back.back))

  begins_while : (between : Between) (q : ℕ) → ComesTo t hay start at (While between) → StaysIn (While between) t → IsBackOver between.bytes hay start at q → NoneBefore t hay start q
  begins_while between q comes stays back = record { place = ⊎_elim (at_start q) behind back.stands; none_before = before }
    where
      next : (q : ℕ) → start < q → q - 1 + 1 ≡ q
      next q lt = omega arith

      behind : Stop hay start between q → Among (places hay start) q
      behind (lt, stop) =
          let e = next q lt in
          subst (λ k. Among (places hay start) k) e (place_behind_ascii hay start (q - 1) (omega arith) (omega (arith, back.within, lt)) (stop (q - 1) e).0)

      before : (i : ℕ) → Among (places hay start) i → i < q → (j : ℕ) → Matches hay t i j → ⊥
      before i among lt j m =
          let le = (Among-places hay start i among).0 in
          let c = comes i j le m in
          ⊎_elim (λ (e : q ≡ start). absurd (omega (arith, e, le, lt)))
          (λ (stop : Stop hay start between q).
          let s = stop.1 (q - 1) (next q stop.0) in
          s.1 (stays hay i j m (q - 1) (omega (arith, lt)) (omega (arith, c.1, c.2, back.back, lt)) s.0))
          back.stands

  begins_at_start : NoneBefore t hay start start
  begins_at_start = record { place = start_among hay start within; none_before = λ i among lt j m. absurd (omega (arith, (Among-places hay start i among).0, lt)) }

  -- no match begins before where the reach goes back to
  pub begins_back : (reach : Reach) (q : ℕ) → ComesTo t hay start at reach → StaysIn reach t → IsBack reach hay start at q → NoneBefore t hay start q
  begins_back (Bytes n) q comes stays back = begins_near n q (λ i j le m. let c = comes i j le m in (c.0, c.1, c.3)) back
  begins_back (While between) q comes stays back = begins_while between q comes stays back
  begins_back Haystack q comes stays same = subst (λ q. NoneBefore t hay start q) (sym same) begins_at_start

-- no match begins before where the search starts
pub begins_here : (t : Tree) (hay : List ℕ) (start : ℕ) → start ≤ length hay → NoneBefore t hay start start
begins_here t hay start within = begins_at_start t hay start start within

-- ## By the end of the haystack

module _ (t : Tree) (end : End) (is : IsEnd t end) (hay : List ℕ) (start : ℕ) where
  -- where the haystack does not end with the text, nothing matches
  pub none_ends : (EndsWith end.suffix.caseless (bytes_of end.suffix) hay start (length hay) → ⊥) → NoMatch t hay (places hay start)
  none_ends none i among j m =
      let le = (Among-places hay start i among).0 in
      let text = end_longer end.suffix.caseless (bytes_of end.suffix) hay start i j le (is.suffix hay i j m) in
      none (subst (λ p. EndsWith end.suffix.caseless (bytes_of end.suffix) hay start p) (is.ends hay i j m) text)

  -- where what is left is shorter than a literal that each match holds, nothing matches
  pub none_fit : (near : Near) → IsNear t near → length hay < start + length near.literal.bytes → NoMatch t hay (places hay start)
  none_fit near holds short i among j m =
      let le = (Among-places hay start i among).0 in
      let h = holds.holds hay i j m in
      absurd (omega (arith, le, h.onward, h.within, is.ends hay i j m, short))

  pub begins_by_end : (q : ℕ) → start ≤ length hay → IsBack end.reach hay start (length hay) q → NoneBefore t hay start q
  begins_by_end q within back = begins_back t hay start (length hay) within end.reach q comes is.stays back
    where
      comes : ComesTo t hay start (length hay) end.reach
      comes i j le m =
          let at_end = is.ends hay i j m in
          (j, omega (arith, at_end), omega arith, at_most (λ hay i j. Matches hay t i j) (before_of end.reach) is.most hay i j m)

-- ## By the literal

module _ (t : Tree) (near : Near) (is : IsNear t near) (hay : List ℕ) (start : ℕ) where
  abbrev fold : ℕ → ℕ
  fold = folding near.literal.caseless

  -- where the literal does not occur, nothing matches
  none_matches : NoneFrom (OccursAt fold hay near.literal.bytes) start → NoMatch t hay (places hay start)
  none_matches none i among j m =
      let h = is.holds hay i j m in
      let from = (Among-places hay start i among).0 in
      none h.at (omega (arith, from, h.onward)) (occurs near.literal.caseless near.literal.bytes hay h.at is.some h.stands)

  begins_by_literal : (at q : ℕ) → start ≤ length hay → NoneOccurs (OccursAt fold hay near.literal.bytes) start at → IsBack near.reach hay start at q → NoneBefore t hay start q
  begins_by_literal at q within none back = begins_back t hay start at within near.reach q comes is.stays back
    where
      -- a match holds the literal no earlier than there
      late : (i j : ℕ) → start ≤ i → (m : Matches hay t i j) → at ≤ (is.holds hay i j m).at
      late i j le m =
          let h = is.holds hay i j m in
          elim (cases_lt h.at at) [
            | inl early ↦ absurd (none h.at (omega (arith, le, h.onward)) early (occurs near.literal.caseless near.literal.bytes hay h.at is.some h.stands))
            | inr after ↦ after
          ]

      comes : ComesTo t hay start at near.reach
      comes i j le m = let h = is.holds hay i j m in (h.at, late i j le m, omega (arith, h.within), h.near)

-- a literal that occurs here stands here
pub stands : (caseless : Bool) (bytes hay : List ℕ) (p : ℕ) → OccursAt (folding caseless) hay bytes p → Stands caseless bytes hay p
stands caseless bytes hay p o k h = (omega (arith, h, o.room), byte_at (folding caseless) hay bytes p k o h)

-- where such a literal occurs first, it is the first match
first_match : (t : Tree) (near : Near) → IsOnly t near.literal → (hay : List ℕ) (start at : ℕ) → NoneBefore t hay start at →
    OccursAt (folding near.literal.caseless) hay near.literal.bytes at → IsFirstMatch true t hay start at (at + length near.literal.bytes)
first_match t near only hay start at first o = record {
  first = first;
  matches = only.matches hay at (stands near.literal.caseless near.literal.bytes hay at o);
  chosen = λ asked. inl (only.len hay at);
}

-- the same by what the search for it returned
pub begins_by_outcome : (t : Tree) (near : Near) → IsNear t near → (hay : List ℕ) (start : ℕ) → start ≤ length hay → (o : Outcome) → IsOutcome near.literal hay start o →
    (b : Begin) → BeginsWithin near.reach near.is_match hay start o b → BeginsBy true t hay start b
begins_by_outcome t near is hay start within literal.Nowhere none b same = subst (BeginsBy true t hay start) (sym same) (none_matches t near is hay start none)
begins_by_outcome t near is hay start within (Found i j) found Nowhere none = absurd none
begins_by_outcome t near is hay start within (Found i j) found (From q) back = begins_by_literal t near is hay start i q within found.none_before back
begins_by_outcome t near is hay start within (Found i j) found (Match p q) (is_match, first, last, back) =
    subst (λ p. IsFirstMatch true t hay start p q) (sym first) (subst (IsFirstMatch true t hay start i) (sym (last ∙ found.ends))
    (first_match t near (is.only is_match) hay start i (begins_by_literal t near is hay start i i within found.none_before back) found.occurs))
begins_by_outcome t near is hay start within (Tired at) tired Nowhere none = absurd none
begins_by_outcome t near is hay start within (Tired at) tired (From q) back = begins_by_literal t near is hay start at q within tired.none_before back
begins_by_outcome t near is hay start within (Tired at) tired (Match p q) none = absurd none

-- where one text of such a choice stands, it is the first match
first_of_choice : (t : Tree) (texts : List Needle) → IsOneOf t texts → (hay : List ℕ) (start at end : ℕ) → NoneBefore t hay start at → StandsUpTo texts hay at end → IsFirstMatch true t hay start at end
first_of_choice t texts is hay start at end first stands =
    let m = is.branches.matches hay at end stands in
    record { first = first; matches = m; chosen = λ asked. inl (λ l n. is.one hay at end l m n) }

-- ## By one of several literals

module _ (t : Tree) (set : List Needle) (is : BeginsWithOne t set) (hay : List ℕ) (start : ℕ) where
  -- where none of them occurs, nothing matches
  none_matches_of : NoneFrom (SomeOccursAt set hay) start → NoMatch t hay (places hay start)
  none_matches_of none i among j m = none i (Among-places hay start i among).0 (is hay i j m)

  begins_by_set : (at q : ℕ) → start ≤ length hay → NoneOccurs (SomeOccursAt set hay) start at → IsBack (Bytes 0) hay start at q → NoneBefore t hay start q
  begins_by_set at q within none back = begins_near t hay start at within 0 q near back
    where
      near : IsNearTo t hay start at 0
      near i j le m = elim (cases_lt i at) [ inl early ↦ absurd (none i le early (is hay i j m)) | inr late ↦ (i, late, omega arith) ]

-- the same by what the search for them returned
pub begins_by_set_outcome : (t : Tree) (choice : Choice) → IsChoice t choice → (hay : List ℕ) (start : ℕ) → start ≤ length hay → (o : Outcome) → IsSetOutcome choice.set.value hay start o →
    (b : Begin) → BeginsWithin (Bytes 0) choice.is_match hay start o b → BeginsBy true t hay start b
begins_by_set_outcome t choice is hay start within literal.Nowhere none b same = subst (BeginsBy true t hay start) (sym same) (none_matches_of t choice.set.value is.begins hay start none)
begins_by_set_outcome t choice is hay start within (Found i j) found Nowhere none = absurd none
begins_by_set_outcome t choice is hay start within (Found i j) found (From q) back = begins_by_set t choice.set.value is.begins hay start i q within found.none_before back
begins_by_set_outcome t choice is hay start within (Found i j) found (Match p q) (is_match, first, last, back) =
    subst (λ p. IsFirstMatch true t hay start p q) (sym first) (subst (IsFirstMatch true t hay start i) (sym last)
    (first_of_choice t choice.set.value (is.only is_match) hay start i j (begins_by_set t choice.set.value is.begins hay start i i within found.none_before back) found.ends))
begins_by_set_outcome t choice is hay start within (Tired at) tired Nowhere none = absurd none
begins_by_set_outcome t choice is hay start within (Tired at) tired (From q) back = begins_by_set t choice.set.value is.begins hay start at q within tired.none_before back
begins_by_set_outcome t choice is hay start within (Tired at) tired (Match p q) none = absurd none

-- ## What facts say

near_enough : (c : Bool) (bytes : List ℕ) (before : Option ℕ) (ascii : AsciiSet) (reach : Reach) (hay : List ℕ) (i j : ℕ) →
    IsReachOf before ascii reach → Holds c bytes before hay i j → Holds c bytes (before_of reach) hay i j
near_enough c bytes before ascii (Bytes n) hay i j is h = subst (λ o. Holds c bytes o hay i j) is h
near_enough c bytes before ascii (While between) hay i j is h = anywhere c bytes before hay i j h
near_enough c bytes before ascii Haystack hay i j is h = anywhere c bytes before hay i j h

stays_in : (t : Tree) (before : Option ℕ) (ascii : AsciiSet) (reach : Reach) → IsReachOf before ascii reach → HoldsOnly (λ hay i j. Matches hay t i j) ascii → StaysIn reach t
stays_in t before ascii (Bytes n) is only = tt
stays_in t before ascii (While between) is only = λ hay i j m k a b low. is (get_or hay k 0) low (only hay i j m k a b low)
stays_in t before ascii Haystack is only = tt

-- what facts say of such a text
pub only_text : (t : Tree) (f : Facts) → AreFacts t f → f.whole ≡ true → f.exact ≡ true → IsOnly t (needle_of f.front)
only_text t f facts whole exact = record { matches = facts.exact exact; len = facts.whole whole }

-- the literal of a text that is needed
pub near_of : (t : Tree) (f : Facts) → AreFacts t f → (n : Needed) → IsNeeded t (Some n) → 0 < length (bytes_of n.text) → (near : Near) →
    near.literal ≡ needle_of n.text → IsReachOf n.before f.ascii near.reach → (near.is_match ≡ true → IsOnly t (needle_of n.text)) → IsNear t near
near_of t f facts n needed some near same is only = record {
  some = subst (λ (l : Needle). 0 < length l.bytes) (sym same) some;
  holds = λ hay i j m.
      subst (λ (l : Needle). Holds l.caseless l.bytes (before_of near.reach) hay i j) (sym same)
      (near_enough n.text.caseless (bytes_of n.text) n.before f.ascii near.reach hay i j is (needed hay i j m));
  stays = stays_in t n.before f.ascii near.reach is facts.ascii;
  only = λ e. subst (IsOnly t) (sym same) (only e);
}
