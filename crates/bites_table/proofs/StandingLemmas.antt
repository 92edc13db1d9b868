-- A search by a table goes from place to place.
use Rattle.bites_table.proofs.Library.{common_steps, range_with_len, drop-cons, option_or, option_map_or, length-map, length-take, length-replicate, cases_Bool, cases_lt, nat_tests, before, Among, AllApart, Record, next_character, row_in, thread_in, after_place, after_each, RegisterThread, place_reached, ◌≡◌, ℕ, zero, suc, ◌+◌, ◌<◌, ◌≤◌, Bool, true, false, ◌||◌, ◌&&◌, ◌⊎◌, List, [], ◌∷◌, map, length, Option, Some, None, option_map, refl, sym, ap, ap₂, ◌∙◌, subst, ⊎_elim, drop, replicate, cond, add-zero, arith, is_some, ◌==◌, if◌then◌else◌, nat_lt, nat_le, max, slice_index, slice_index_or, Piece, front_piece, character, places_within, step_len, piece_some, piece_none, step_some, left_in, HasReached, ascii, still_open, searched_visits, search_bounded, piece, places, and_parts, ne_eqb}
use Rattle.bites_spec.specs.PikeVm as vm
use Rattle.bites_table.proofs.Words.{Thread, Source, row_of_register, slots_from, row_at, thread_of, is_walked, ThreadList, Transition, source_at, kind_of, AreAlikeKinds, starts_of, IsAtOnePlace, noted_start, list_at, TableSearch, search_after, is_over, Reached, table_in, is_dead, thread_with_register, AreKept, IsQuiet, passed_row, ArePassed, IsHit, IsWholeHit, with_spare, Stays, LeadsAmong, IsCalm, Asked, IsAsked, search_at, IsAt, IsOver, transition_from, ends_after, slots_after, AreMoved}
use Rattle.bites_table.specs.Packed.{classes_in, AreAlike}
use Rattle.bites_table.proofs.TableLemmas.{rows_alike, begins, comes_back, runs, ends}
use Rattle.bites_table.proofs.TransitionLemmas.{none_written, walked_is}

-- the longest match is searched for at one place alone
pub one_place : (s : Asked) → IsAsked s → IsAtOnePlace s.input
one_place s is longest = (and_parts s.input.anchored s.table.longest (sym is.served ∙ longest)).0

-- the slots that a transition leaves
left_after : (start : ℕ) (first : List (Option ℕ)) (width place : ℕ) (registers : List (Option ℕ)) (hit : Option (Thread Source)) (best : Option vm.Thread) (slots : List (Option ℕ)) → left_in best first ≡ slots →
    left_in (option_or (option_map (thread_of start (row_at width place (row_in registers width))) hit) best) first ≡ slots_after width place registers hit slots
left_after start first width place registers v5 best slots is = grind (arith, common_steps)

found_after : (start width place : ℕ) (registers : List (Option ℕ)) (hit : Option (Thread Source)) (best : Option vm.Thread) (is_found : Bool) → is_some best ≡ is_found →
    is_some (option_or (option_map (thread_of start (row_at width place (row_in registers width))) hit) best) ≡ (is_some hit || is_found)
found_after start width place registers v4 best is_found is = grind (arith, common_steps)

module _ (s : Asked) (is : IsAsked s) (place list : ℕ) (registers : List (Option ℕ)) (is_found : Bool) (slots : List (Option ℕ)) (walked : Record) (here : IsAt s place list registers is_found slots walked)
    (t : Transition ℕ) (known : transition_from s list place ≡ Some t) where
  abbrev now : TableSearch
  now = search_at s place list registers here.best walked

  abbrev later : TableSearch
  later = search_after s.input t now

  after_is : option_map (λ u. search_after s.input u now) (transition_from s list place) ≡ Some later
  after_is = ap (option_map (λ u. search_after s.input u now)) known

  over_is : (b : Bool) → ends_after s place t.next (is_some t.hit || is_found) ≡ b → is_over (classes_in s.table) (table_in s.table) s.input place later ≡ b
  over_is b e = grind (arith, common_steps, found_after)

  -- where the search is over
  pub over_after : ends_after s place t.next (is_some t.hit || is_found) ≡ true →
      IsOver s (is_some t.hit || is_found) (slots_after s.input.width place registers t.hit slots) (after_place t.seen t.looks place walked)
  over_after over =
      let end = ends s.program (classes_in s.table) is.table.classes (table_in s.table) is.table.table s.input (one_place s is) here.places now later here.reached after_is (over_is true over) in record {
        last = end.search;
        searched = subst (λ n. vm.Searched s.input.hay s.input.longest s.program n s.input.anchored s.input.earliest s.input.start end.search) (sym is.width) end.searched;
        found = ap is_some end.best ∙ found_after (noted_start s.input) s.input.width place registers t.hit here.best is_found here.found;
        slots = ap (λ b. left_in b s.slots) end.best ∙ left_after (noted_start s.input) s.slots s.input.width place registers t.hit here.best slots here.slots;
        visits = end.visits;
        looks = end.looks;
      }

  on : ends_after s place t.next (is_some t.hit || is_found) ≡ false → Reached s.program (table_in s.table) s.input (here.places + 1) later
  on goes = runs s.program (classes_in s.table) is.table.classes (table_in s.table) is.table.table s.input (one_place s is) here.places 1 now later here.reached (now, refl, after_is, over_is false goes)

  -- where it goes on
  pub at_next : ends_after s place t.next (is_some t.hit || is_found) ≡ false → (new : List (Option ℕ)) → AreMoved s.input.width place (list_at (table_in s.table) t.next).threads t.moves registers new →
      IsAt s (place + (piece s.input.hay place).len) t.next new (is_some t.hit || is_found) (slots_after s.input.width place registers t.hit slots) (after_place t.seen t.looks place walked)
  at_next goes new moved =
      let there = on goes in
      let threads = (list_at (table_in s.table) t.next).threads in
      record {
        places = here.places + 1;
        best = later.best;
        reached = record {
          one_place = one_place s is;
          search = there.search;
          searched = there.searched;
          in_step = record {
            place = there.in_step.place;
            within = there.in_step.within;
            threads = there.in_step.threads ∙ rows_alike s.program (classes_in s.table) is.table.classes (table_in s.table) is.table.table s.input (one_place s is)
                later.registers (row_in new s.input.width) threads (λ u among. sym (moved u among));
            starts = there.in_step.starts;
            started = there.in_step.started;
            best = there.in_step.best;
            visits = there.in_step.visits;
            looks = there.in_step.looks;
          };
          kind = there.kind;
        };
        found = found_after (noted_start s.input) s.input.width place registers t.hit here.best is_found here.found;
        slots = left_after (noted_start s.input) s.slots s.input.width place registers t.hit here.best slots here.slots;
      }

  -- what it visits, it visits once
  pub apart_after : AllApart (after_place t.seen t.looks place walked).visits
  apart_after =
      ⊎_elim
      (λ (e : ends_after s place t.next (is_some t.hit || is_found) ≡ true).
      let end = ends s.program (classes_in s.table) is.table.classes (table_in s.table) is.table.table s.input (one_place s is) here.places now later here.reached after_is (over_is true e) in
      rw end.visits at (search_bounded s.program s.input.hay is.well s.input.longest s.input.width is.fits s.input.anchored s.input.earliest s.input.start is.within end.search end.searched [] (λ v h. absurd h)).apart)
      (λ (e : ends_after s place t.next (is_some t.hit || is_found) ≡ false).
      rw (on e).in_step.visits at
      (searched_visits s.program s.input.hay is.well s.input.longest s.input.width is.fits s.input.anchored s.input.earliest s.input.start is.within (here.places + 1) (on e).search (on e).searched).0)
      (cases_Bool (ends_after s place t.next (is_some t.hit || is_found)))

-- a search begins at a list without threads that walks the start
pub at_start : (s : Asked) → IsAsked s → (list : ℕ) (registers : List (Option ℕ)) (walked : Record) → (list_at (table_in s.table) list).threads ≡ [] →
    (list_at (table_in s.table) list).starts ≡ starts_of s.input.longest s.input.anchored true → AreAlikeKinds s.program (list_at (table_in s.table) list).kind (kind_of (before s.input.hay s.input.start)) →
    walked.visits ≡ [] → walked.looks ≡ 0 → IsAt s s.input.start list registers false s.slots walked
at_start s is list registers walked none starts kind visits looks = grind (arith, begins, one_place)

-- the threads of the code's list
threads_as : (start : ℕ) (registers : List (Option ℕ)) (width : ℕ) (ts : List RegisterThread) →
    map (thread_in start registers width) ts ≡ map (thread_of start (row_in registers width)) (map thread_with_register ts)
threads_as start registers width [] = refl
threads_as start registers width (t ∷ ts) = ap (λ l. thread_in start registers width t ∷ l) (threads_as start registers width ts)

-- the Pike VM goes on from there
pub handed_over : (s : Asked) → IsAsked s → (place list : ℕ) (registers : List (Option ℕ)) (is_found : Bool) (slots : List (Option ℕ)) (walked : Record) → IsAt s place list registers is_found slots walked →
    length slots ≡ s.input.width → (threads : List RegisterThread) → map thread_with_register threads ≡ (list_at (table_in s.table) list).threads →
    HasReached s.program s.input.hay s.input.longest s.input.anchored s.input.earliest s.input.start s.slots place (is_walked (list_at (table_in s.table) list).starts) is_found walked
    (map (thread_in (noted_start s.input) registers s.input.width) threads) slots
handed_over s is place list registers is_found slots walked here len threads same = grind (arith, common_steps, threads_as, walked_is)

-- and comes back where no thread is left
pub handed_back : (s : Asked) → IsAsked s → (place list : ℕ) (registers : List (Option ℕ)) (is_found : Bool) (slots : List (Option ℕ)) (walked : Record) →
    HasReached s.program s.input.hay s.input.longest s.input.anchored s.input.earliest s.input.start s.slots place true is_found walked [] slots →
    (list_at (table_in s.table) list).threads ≡ [] → (list_at (table_in s.table) list).starts ≡ starts_of s.input.longest s.input.anchored true → AreAlikeKinds s.program (list_at (table_in s.table) list).kind (kind_of (before s.input.hay place)) →
    IsAt s place list registers is_found slots walked
handed_back s is place list registers is_found slots walked back none starts kind = record {
  places = back.places;
  best = back.now.best;
  reached =
      comes_back s.program (table_in s.table) s.input back.places back.now (search_at s place list registers back.now.best walked)
      (one_place s is) (rw is.width at back.searched) back.stands.threads back.stands.place
      (place_reached s.program s.input.hay is.well s.input.longest s.input.anchored s.input.earliest s.input.start is.within s.slots (rw is.width is.fits) place true is_found walked [] slots back)
      none (ap (starts_of s.input.longest s.input.anchored) back.stands.starts ∙ sym starts) refl back.stands.visits back.stands.looks kind;
  found = back.stands.found;
  slots = back.stands.slots;
}

-- a byte of ASCII is a character
pub ascii_here : (hay : List ℕ) (i b : ℕ) → i < length hay → slice_index hay i ≡ b → b < 128 → piece hay i ≡ record { decoded = Some b; len = 1 }
unfolding piece
ascii_here hay i b within is lt = ap front_piece (drop-cons hay i 0 within ∙ ap (λ x. x ∷ drop (suc i) hay) is) ∙ ascii b (drop (suc i) hay) lt

pub ascii_next : (hay : List ℕ) (i b : ℕ) → i < length hay → slice_index hay i ≡ b → b < 128 → next_character hay i ≡ Some b
ascii_next hay i b within is lt = ap (λ (p : Piece). if nat_lt 0 p.len then Some (character p) else None) (ascii_here hay i b within is lt)

-- nothing stands at the end
pub end_next : (hay : List ℕ) (i : ℕ) → length hay ≤ i → next_character hay i ≡ None
end_next hay i past = ap (λ n. if nat_lt 0 n then Some (character (piece hay i)) else None) (piece_none hay i past)

-- two sources that are alike stand for one row
pub alike_row : (width place : ℕ) (registers : List (Option ℕ)) (s r : Source) → AreAlike width s r → row_at width place (row_in registers width) s ≡ row_at width place (row_in registers width) r
alike_row width place registers s r alike =
    rows (cases_lt 0 width) ∙ slots 0 (option_map_or (row_in registers width) r.register (replicate width None)) (grind (arith, common_steps, length-replicate, length-map, length-take))
  where
    rows : (0 < width) ⊎ (width ≤ 0) → row_at width place (row_in registers width) s ≡ slots_from place s.writes 0 (option_map_or (row_in registers width) r.register (replicate width None))
    rows some = grind (arith, common_steps, length-replicate, length-map, length-take)

    slots : (a : ℕ) (xs : List (Option ℕ)) → a + length xs ≤ width → slots_from place s.writes a xs ≡ slots_from place r.writes a xs
    slots a [] le = refl
    slots a (x ∷ xs) le = ap₂ (λ b l. cond b (Some place) x ∷ l) (alike.writes a (omega arith)) (slots (suc a) xs (omega arith))

-- rows that are kept stay as they are
kept_rows : (width place : ℕ) (registers : List (Option ℕ)) (next : ThreadList) (moves : List Source) → AreKept next moves width → AreMoved width place next.threads moves registers registers
kept_rows width place registers next moves kept u at =
    sym (alike_row width place registers (source_at moves u.row) (row_of_register u.row) (kept u at) ∙ none_written place 0 (row_in registers width u.row))

-- the rows after a transition over which a search has not to look
pub passed_rows : (threads : List (Thread ℕ)) (moves : List Source) (bit width begins index place : ℕ) (registers new : List (Option ℕ)) → ArePassed threads moves bit width begins index →
    ((u : Thread ℕ) → Among threads u → u.row < with_spare) →
    ((r : ℕ) → r < with_spare → row_in new width r ≡ row_at width place (row_in registers width) (passed_row bit width begins index r)) → AreMoved width place threads moves registers new
passed_rows threads moves bit width begins index place registers new passed held left u at = grind (arith, common_steps, begins, alike_row)

-- the search goes on over a character where only rows are moved
pub moved_over : (s : Asked) → IsAsked s → (place list : ℕ) (registers : List (Option ℕ)) (is_found : Bool) (slots : List (Option ℕ)) (walked : Record) → IsAt s place list registers is_found slots walked →
    (t : Transition ℕ) → transition_from s list place ≡ Some t → t.hit ≡ None → is_dead (list_at (table_in s.table) t.next) ≡ false → 0 < (piece s.input.hay place).len →
    (new : List (Option ℕ)) → AreMoved s.input.width place (list_at (table_in s.table) t.next).threads t.moves registers new →
    IsAt s (place + (piece s.input.hay place).len) t.next new is_found slots (after_place t.seen t.looks place walked)
moved_over s is place list registers is_found slots walked here t known hit alive some new moved =
    let unfound : (s.input.earliest && is_found) ≡ false = grind (arith, still_open) in
    let goes : ends_after s place t.next (is_some t.hit || is_found) ≡ false =
    ap₂ (λ z f. z || ((s.input.earliest && f) || is_dead (list_at (table_in s.table) t.next))) (ne_eqb (piece s.input.hay place).len 0 (λ e. omega arith)) (ap (λ h. is_some h || is_found) hit)
    ∙ ap₂ (λ e d. e || d) unfound alive in
    let on = at_next s is place list registers is_found slots walked here t known goes new moved in
    rw hit at on

-- the search goes on over a character where somebody comes to a match and rows are kept
hit_kept : (s : Asked) → IsAsked s → (place list : ℕ) (registers : List (Option ℕ)) (is_found : Bool) (slots : List (Option ℕ)) (walked : Record) → IsAt s place list registers is_found slots walked →
    (t : Transition ℕ) → transition_from s list place ≡ Some t → s.input.earliest ≡ false → (thread : Thread Source) → t.hit ≡ Some thread → is_dead (list_at (table_in s.table) t.next) ≡ false →
    AreKept (list_at (table_in s.table) t.next) t.moves s.input.width → 0 < (piece s.input.hay place).len →
    IsAt s (place + (piece s.input.hay place).len) t.next registers true (slots_after s.input.width place registers (Some thread) slots) (after_place t.seen t.looks place walked)
hit_kept s is place list registers is_found slots walked here t known late thread hit alive rows some =
    let found = ap (λ h. is_some h || is_found) hit in
    let goes : ends_after s place t.next (is_some t.hit || is_found) ≡ false =
    ap₂ (λ z e. z || ((e && (is_some t.hit || is_found)) || is_dead (list_at (table_in s.table) t.next))) (ne_eqb (piece s.input.hay place).len 0 (λ e. omega arith)) late ∙ alive in
    rw (ap (λ h. slots_after s.input.width place registers h slots) hit, found) at (at_next s is place list registers is_found slots walked here t known goes registers
    (kept_rows s.input.width place registers (list_at (table_in s.table) t.next) t.moves rows))

pub hit_over : (s : Asked) → IsAsked s → (place list : ℕ) (registers : List (Option ℕ)) (is_found : Bool) (slots : List (Option ℕ)) (walked : Record) → IsAt s place list registers is_found slots walked →
    (t : Transition ℕ) → transition_from s list place ≡ Some t → s.input.earliest ≡ false → s.input.width ≡ 2 → (register : ℕ) (hit : IsHit t.hit (list_at (table_in s.table) t.next) t.moves register) → 0 < (piece s.input.hay place).len →
    IsAt s (place + (piece s.input.hay place).len) t.next registers true (row_at 2 place (row_in registers 2) hit.thread.row) (after_place t.seen t.looks place walked)
hit_over s is place list registers is_found slots walked here t known late two register hit some =
    rw (ap (λ n. slots_after n place registers (Some hit.thread) slots) two) at (hit_kept s is place list registers is_found slots walked here t known late hit.thread hit.hit hit.alive
    (subst (AreKept (list_at (table_in s.table) t.next) t.moves) (sym two) hit.rows) some)

-- the same where rows are kept in all slots
pub whole_hit_over : (s : Asked) → IsAsked s → (place list : ℕ) (registers : List (Option ℕ)) (is_found : Bool) (slots : List (Option ℕ)) (walked : Record) → IsAt s place list registers is_found slots walked →
    (t : Transition ℕ) → transition_from s list place ≡ Some t → s.input.earliest ≡ false → IsWholeHit t.hit (list_at (table_in s.table) t.next) t.moves → 0 < (piece s.input.hay place).len →
    IsAt s (place + (piece s.input.hay place).len) t.next registers true (slots_after s.input.width place registers t.hit []) (after_place t.seen t.looks place walked)
whole_hit_over s is place list registers is_found slots walked here t known late hit some = grind (arith, common_steps, hit_kept)

-- the search goes on over a character where nothing is to be done
pub quiet_over : (s : Asked) → IsAsked s → (place list : ℕ) (registers : List (Option ℕ)) (is_found : Bool) (slots : List (Option ℕ)) (walked : Record) → IsAt s place list registers is_found slots walked →
    (t : Transition ℕ) → transition_from s list place ≡ Some t → IsQuiet t.hit (list_at (table_in s.table) t.next) t.moves s.input.width → 0 < (piece s.input.hay place).len →
    IsAt s (place + (piece s.input.hay place).len) t.next registers is_found slots (after_place t.seen t.looks place walked)
quiet_over s is place list registers is_found slots walked here t known quiet some =
    moved_over s is place list registers is_found slots walked here t known quiet.goes.hit quiet.goes.alive some registers (kept_rows s.input.width place registers (list_at (table_in s.table) t.next) t.moves quiet.rows)

-- the search goes on over bytes that leave it at its thread list
module _ (s : Asked) (is : IsAsked s) (list : ℕ) (seen : List ℕ) (looks : ℕ) (set : List Bool) (are_ascii : (b : ℕ) → slice_index_or set b false ≡ true → b < 128)
    (stays : (b : ℕ) → slice_index_or set b false ≡ true → Stays (table_in s.table) list ((classes_in s.table).class_of (Some b)) seen looks)
    (registers : List (Option ℕ)) (is_found : Bool) (slots : List (Option ℕ)) where
  one_skipped : (place : ℕ) (walked : Record) → place < length s.input.hay → slice_index_or set (slice_index s.input.hay place) false ≡ true →
      IsAt s place list registers is_found slots walked → IsAt s (place + 1) list registers is_found slots (after_place seen looks place walked)
  one_skipped place walked within member here =
      let b = slice_index s.input.hay place in
      let low = are_ascii b member in
      let over = stays b member in
      let t = over.back.transition in
      let known : transition_from s list place ≡ Some t = ap (λ o. (table_in s.table).transition list ((classes_in s.table).class_of o)) (ascii_next s.input.hay place b within refl low) ∙ over.back.known in
      let lone : (piece s.input.hay place).len ≡ 1 = ap (λ (p : Piece). p.len) (ascii_here s.input.hay place b within refl low) in
      let on = quiet_over s is place list registers is_found slots walked here t known (over.back.quiet s.input.width) (omega (arith, lone)) in
      rw (lone, over.back.next, over.seen_is, over.looks_is) at on

  pub all_skipped : (count place : ℕ) (walked : Record) → place + count ≤ length s.input.hay →
      ((k : ℕ) → place ≤ k → k < place + count → slice_index_or set (slice_index s.input.hay k) false ≡ true) →
      IsAt s place list registers is_found slots walked → IsAt s (place + count) list registers is_found slots (after_each seen looks (range_with_len place count) walked)
  all_skipped zero place walked within members here = subst (λ n. IsAt s n list registers is_found slots walked) (sym (add-zero place)) here
  all_skipped (suc count) place walked within members here =
      let after = after_place seen looks place walked in
      let one = one_skipped place walked (omega arith) (members place (omega arith) (omega arith)) here in
      let there : (place + 1) + count ≡ place + suc count = omega arith in
      subst (λ n. IsAt s n list registers is_found slots (after_each seen looks (range_with_len (place + 1) count) after)) there
      (all_skipped count (place + 1) after (omega arith) (λ k le lt. members k (omega arith) (omega arith)) one)

-- what was visited so far was visited once
pub apart_at : (s : Asked) → IsAsked s → (place list : ℕ) (registers : List (Option ℕ)) (is_found : Bool) (slots : List (Option ℕ)) (walked : Record) → IsAt s place list registers is_found slots walked → AllApart walked.visits
apart_at s is place list registers is_found slots walked here = grind (arith, common_steps, searched_visits)

-- nothing is found any more from a list of a set that each of its lists leads into over each character
module _ (s : Asked) (is : IsAsked s) (lists : List ℕ) (seen : List ℕ) (looks : ℕ) (calm : (m : ℕ) → Among lists m → IsCalm (table_in s.table) (classes_in s.table) m seen looks)
    (closed : (m : ℕ) → Among lists m → (ch : ℕ) → LeadsAmong (table_in s.table) lists m ((classes_in s.table).class_of (Some ch))) (registers : List (Option ℕ)) (is_found : Bool) (slots : List (Option ℕ)) where
  next_is : (place : ℕ) (b : Bool) → nat_lt 0 (piece s.input.hay place).len ≡ b → next_character s.input.hay place ≡ (if b then Some (character (piece s.input.hay place)) else None)
  next_is place b e = ap (λ (c : Bool). if c then Some (character (piece s.input.hay place)) else None) e

  -- the search stands at a list of the set
  record IsWithin (place : ℕ) (walked : Record) : Type 0 where
    list : ℕ
    among : Among lists list
    here : IsAt s place list registers is_found slots walked

  one_rested : (place : ℕ) (walked : Record) → 0 < (piece s.input.hay place).len → IsWithin place walked → IsWithin (place + (piece s.input.hay place).len) (after_place seen looks place walked)
  one_rested place walked some at =
      let ch = character (piece s.input.hay place) in
      let own = calm at.list at.among in
      let over = own.over ch in
      let t = over.transition in
      let known : transition_from s at.list place ≡ Some t =
      ap (λ o. (table_in s.table).transition at.list ((classes_in s.table).class_of o)) (next_is place true (grind (arith, nat_tests))) ∙ over.known in
      let on = quiet_over s is place at.list registers is_found slots walked at.here t known (over.quiet s.input.width) some in
      record { list = t.next; among = closed at.list at.among ch t over.known; here = rw (own.seen_is ch, own.looks_is ch) at on }

  ended_quietly : (place : ℕ) (walked : Record) → (piece s.input.hay place).len ≡ 0 → IsWithin place walked → IsOver s is_found slots (after_place seen looks place walked)
  ended_quietly place walked none at =
      let ends_so = (calm at.list at.among).ends in
      let t = ends_so.transition in
      let known : transition_from s at.list place ≡ Some t =
      ap (λ o. (table_in s.table).transition at.list ((classes_in s.table).class_of o)) (next_is place false (grind (arith, nat_tests))) ∙ ends_so.known in
      let over = over_after s is place at.list registers is_found slots walked at.here t known
      (ap (λ n. (n == 0) || ((s.input.earliest && (is_some t.hit || is_found)) || is_dead (list_at (table_in s.table) t.next))) none) in
      rw (ends_so.hit, ends_so.seen_is, ends_so.looks_is) at over

  abbrev left_over : ℕ → ℕ → Record → Bool → Record
  left_over n place walked b = after_each seen looks (if b then place ∷ places_within n s.input.hay (place + step_len s.input.hay place) else []) walked

  rested_within : (n place : ℕ) (walked : Record) → length s.input.hay < place + n → IsWithin place walked →
      IsOver s is_found slots (after_each seen looks (places_within n s.input.hay place) walked)
  rested_within zero place walked far at = absurd (let le = at.here.reached.in_step.within in omega arith)
  rested_within (suc n) place walked far at =
      subst (λ b. IsOver s is_found slots (left_over n place walked b)) (sym (is_inside place (length s.input.hay) at.here.reached.in_step.within))
      (⊎_elim
      (λ (lt : place < length s.input.hay).
      let some = piece_some s.input.hay place lt in
      let step : step_len s.input.hay place ≡ (piece s.input.hay place).len = most (piece s.input.hay place).len some in
      subst (λ m. IsOver s is_found slots (after_each seen looks (places_within n s.input.hay (place + m)) (after_place seen looks place walked))) (sym step)
      (rested_within n (place + (piece s.input.hay place).len) (after_place seen looks place walked) (omega arith) (one_rested place walked some at)))
      (λ (le : length s.input.hay ≤ place).
      let none = piece_none s.input.hay place le in
      subst (λ l. IsOver s is_found slots (after_each seen looks l (after_place seen looks place walked))) (sym (none_past n (place + step_len s.input.hay place) (let pos = step_some s.input.hay place in omega arith)))
      (ended_quietly place walked none at))
      (cases_lt place (length s.input.hay)))
    where
      is_inside : (a b : ℕ) → a ≤ b → nat_le a b ≡ true
      is_inside a b le = grind (arith, nat_tests)

      most : (n : ℕ) → 0 < n → max 1 n ≡ n
      most n lt = omega arith

      none_past : (n place : ℕ) → length s.input.hay < place → places_within n s.input.hay place ≡ []
      none_past n place lt = grind (arith, nat_tests)

  pub all_rested : (place list : ℕ) (walked : Record) → Among lists list → IsAt s place list registers is_found slots walked → IsOver s is_found slots (after_each seen looks (places s.input.hay place) walked)
  unfolding places
  all_rested place list walked among here = rested_within (suc (length s.input.hay)) place walked (omega arith) (record { list = list; among = among; here = here })

-- what a search that is over visited, it visited once
pub apart_over : (s : Asked) → IsAsked s → (is_found : Bool) (slots : List (Option ℕ)) (walked : Record) → IsOver s is_found slots walked → AllApart walked.visits
apart_over s is is_found slots walked over =
    rw over.visits at (search_bounded s.program s.input.hay is.well s.input.longest s.input.width is.fits s.input.anchored s.input.earliest s.input.start is.within over.last
    (rw is.width at over.searched) [] (λ v h. absurd h)).apart
