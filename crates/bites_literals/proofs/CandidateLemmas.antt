-- Parts of a haystack in which nothing matches, since no literal stands in them, and where a search for it leads.
use Rattle.std.proofs.Common.{◌≡◌, ℕ, ◌+◌, ◌<◌, ◌≤◌, Bool, true, false, List, ◌++◌, length, map, get_or, sym, ap, ◌∙◌, subst, arith, true≢false}
use Rattle.std.proofs.lemmas.List.{ext_get_or, get_or-append-add, get_or_append_left, length-append}
use Rattle.std.proofs.lemmas.Simd.{length-chunk, get_or-chunk}
use lib.Lanes.{chunk}
use Rattle.bites_spec.specs.Range.{Range, in_ranges}
use Rattle.bites_spec.specs.Tree.{Tree}
use Rattle.bites_scan.specs.declared.literal.Outcome.{Outcome}
use Rattle.bites_scan.specs.declared.literal.Outcome.TheVariants.{Found, Nowhere, Tired}
use Rattle.bites_scan.specs.Literal.{Needle, IsOutcome, OccursAt, folding}
use Rattle.bites_scan.specs.LiteralSet.{IsSetOutcome, SomeOccursAt}
use Rattle.bites_scan.specs.Offsets.{NoneOccurs, offset_of}
use Rattle.bites_literals.specs.declared.prefilter.Near.{Near}
use Rattle.bites_literals.specs.ByteRun.{class_or_run}
use Rattle.bites_literals.specs.Choice.{BeginsWithOne}
use Rattle.bites_literals.specs.Begins.{IsCandidate, IsNear, LiesWithin, NoPartMatches}
use Rattle.bites_literals.proofs.BeginLemmas.{occurs}
use Rattle.bites_literals.proofs.ByteRunLemmas.{begins_own}

module _ (before part after : List ℕ) where
  abbrev whole : List ℕ
  whole = before ++ (part ++ after)

  long : length whole ≡ length before + (length part + length after)
  long = length-append before (part ++ after) ∙ ap (λ n. length before + n) (length-append part after)

  same : (p n : ℕ) → p + n ≤ length part → chunk (length before + p) n whole ≡ chunk p n part
  same p n room = ext_get_or 0 _ _ (length-chunk (length before + p) n whole (omega (arith, room, long)) ∙ sym here) each
    where
      here : length (chunk p n part) ≡ n
      here = length-chunk p n part room

      each : (k : ℕ) → k < length (chunk (length before + p) n whole) → get_or (chunk (length before + p) n whole) k 0 ≡ get_or (chunk p n part) k 0
      each k h =
          let less : k < n = omega (arith, h, length-chunk (length before + p) n whole (omega (arith, room, long))) in
          let at : length before + p + k ≡ length before + (p + k) = omega arith in
          get_or-chunk (length before + p) n whole k 0 less
          ∙ ap (λ i. get_or whole i 0) at
          ∙ get_or-append-add before (part ++ after) (p + k) 0
          ∙ get_or_append_left part after 0 (p + k) (omega (arith, less, room))
          ∙ sym (get_or-chunk p n part k 0 less)

  -- what occurs in a part occurs in the whole
  there : (fold : ℕ → ℕ) (bytes : List ℕ) (p : ℕ) → OccursAt fold part bytes p → OccursAt fold whole bytes (length before + p)
  there fold bytes p o = record {
    room = omega (arith, long, o.room);
    equal = ap (map fold) (same p (length bytes) o.room) ∙ o.equal;
  }

  some_there : (texts : List Needle) (p : ℕ) → SomeOccursAt texts part p → SomeOccursAt texts whole (length before + p)
  some_there texts p (k, n, lt, is, o) = (k, n, lt, is, there (folding n.caseless) n.bytes p o)

-- what occurs lies within
within : (texts : List Needle) (part : List ℕ) (p : ℕ) → SomeOccursAt texts part p → p ≤ length part
within texts part p (k, n, lt, is, o) = omega (arith, o.room)

-- parts without the literal that each match holds
no_part_near : (t : Tree) (near : Near) → IsNear t near → (hay : List ℕ) (start end : ℕ) →
    NoneOccurs (OccursAt (folding near.literal.caseless) hay near.literal.bytes) start end → NoPartMatches t hay start end
no_part_near t near is hay start end none before part after e from lt i among j m =
    let h = is.holds part i j m in
    let o = occurs near.literal.caseless near.literal.bytes part h.at is.some h.stands in
    none (length before + h.at) (omega (arith, from)) (omega (arith, o.room, lt))
    (subst (λ l. OccursAt (folding near.literal.caseless) l near.literal.bytes (length before + h.at)) (sym e)
    (there before part after (folding near.literal.caseless) near.literal.bytes h.at o))

-- parts without any of the literals with which matches begin
no_part_of : (t : Tree) (set : List Needle) → BeginsWithOne t set → (hay : List ℕ) (start end : ℕ) →
    NoneOccurs (SomeOccursAt set hay) start end → NoPartMatches t hay start end
no_part_of t set is hay start end none before part after e from lt i among j m =
    let o = is part i j m in
    none (length before + i) (omega (arith, from)) (omega (arith, within set part i o, lt))
    (subst (λ l. SomeOccursAt set l (length before + i)) (sym e) (some_there before part after set i o))

-- parts without a byte of the class with which matches begin
pub no_part_own : (rs : List Range) (repeats : Bool) (ascii : (c : ℕ) → in_ranges rs c ≡ true → c < 128) (hay : List ℕ) (start end : ℕ) →
    ((k : ℕ) → start ≤ k → k < end → k < length hay → in_ranges rs (get_or hay k 0) ≡ false) → NoPartMatches (class_or_run rs repeats) hay start end
no_part_own rs repeats ascii hay start end none before part after e from lt i among j m =
    let byte = begins_own rs ascii part repeats i j m in
    let there : get_or hay (length before + i) 0 ≡ get_or part i 0 = ap (λ l. get_or l (length before + i) 0) e ∙ get_or-append-add before (part ++ after) i 0 ∙ get_or_append_left part after 0 i byte.0 in
    let room : length hay ≡ length before + (length part + length after) = ap length e ∙ long before part after in
    true≢false (sym byte.1 ∙ ap (in_ranges rs) (sym there) ∙ none (length before + i) (omega (arith, from)) (omega (arith, byte.0, lt)) (omega (arith, byte.0, room)))

-- no part ends before it begins
pub no_part_here : (t : Tree) (hay : List ℕ) (start : ℕ) → NoPartMatches t hay start start
no_part_here t hay start before part after e from lt = absurd (omega (arith, from, lt))

-- so a search for the literal comes to a candidate
pub candidate_near : (t : Tree) (near : Near) → IsNear t near → (hay : List ℕ) (start : ℕ) (o : Outcome) → IsOutcome near.literal hay start o → IsCandidate t hay start (offset_of o)
candidate_near t near is hay start Nowhere none = no_part_near t near is hay start (length hay + 1) (λ at from lt. none at from)
candidate_near t near is hay start (Found i j) found = (found.onward, omega (arith, found.occurs.room), no_part_near t near is hay start i found.none_before)
candidate_near t near is hay start (Tired at) tired = (omega (arith, tired.onward), tired.within, no_part_near t near is hay start at tired.none_before)

-- and so does one for them
pub candidate_of : (t : Tree) (set : List Needle) → BeginsWithOne t set → (hay : List ℕ) (start : ℕ) (o : Outcome) → IsSetOutcome set hay start o → IsCandidate t hay start (offset_of o)
candidate_of t set is hay start Nowhere none = no_part_of t set is hay start (length hay + 1) (λ at from lt. none at from)
candidate_of t set is hay start (Found i j) found = (found.onward, within set hay i found.occurs, no_part_of t set is hay start i found.none_before)
candidate_of t set is hay start (Tired at) tired = (omega (arith, tired.onward), tired.within, no_part_of t set is hay start at tired.none_before)

-- ## What a search has come to lies in the haystack

pub lies_near : (literal : Needle) (hay : List ℕ) (start : ℕ) (o : Outcome) → IsOutcome literal hay start o → LiesWithin o start (length hay)
lies_near literal hay start Nowhere none = tt
lies_near literal hay start (Found i j) found = (found.onward, omega (arith, found.ends), omega (arith, found.ends, found.occurs.room))
lies_near literal hay start (Tired at) tired = (omega (arith, tired.onward), tired.within)

pub lies_of : (set : List Needle) (hay : List ℕ) (start : ℕ) (o : Outcome) → IsSetOutcome set hay start o → LiesWithin o start (length hay)
lies_of set hay start Nowhere none = tt
lies_of set hay start (Found i j) found = let (len, (k, n, lt, is, (o, e)), at) = found.ends in (found.onward, omega (arith, at), omega (arith, at, e, o.room))
lies_of set hay start (Tired at) tired = (omega (arith, tired.onward), tired.within)
