-- What the code of a search does is what a search by the table does.
use Rattle.bites_table.proofs.Library.{⊎_elim, common_steps, option_or, none-some, cases_lt, cases_eq, bit_at, nat_tests, Among, AllApart, Record, next_character, after_place, after_each, range_with_len, row_in, thread_in, RegisterThread, place_reached, Searching, SearchedTo, is_earliest, is_longest, HasReached, ◌≡◌, ◌≢◌, ℕ, zero, suc, ◌+◌, ◌-◌, true≢false, ◌*◌, ◌/◌, ◌^◌, ◌<◌, ◌≤◌, Bool, true, false, ◌||◌, ◌&&◌, List, [], ◌∷◌, map, eq-eqb, length, reverse, Option, Some, None, refl, sym, ap, ap₂, ◌∙◌, subst, arith, is_some, ◌==◌, if◌then◌else◌, slice_index, slice_get, slice_index_or, slice_range, option_map, not, bit_and, IfSome, IfNone, mul-div_cancel, mul-le-mul_left, zero-mul, and_pow, bit_at_and, bit_at-zero, piece, places, goes_on, slice_get_within, same_Some, ne_eqb}
use Rattle.bites_table.proofs.Words.{most_registers, Skip, Rest, row_at, with_spare, own_rows, after_steps, frame_of, source_of, list_at, starts_of, noted_start, Act, Frame, Transition, source_at, is_walked, Packed, table_in, lists_in, stride, row_of, mask_of, unknown, more, more_for_all, more_than_steps, ends, is_dead, passed_row, Tells, NamesAct, IsKnown, IsHeldFrame, IsHeldHit, AreHeldHits, thread_with_register, IsSkip, IsRest, Asked, IsAsked, IsAt, IsAtRow, IsOver, transition_from, ends_after, slots_after, kind_of, IsRoot, number_in, asked, more_to_do, RunsAct, IsSame, IsOverPiece, IsPieceAt, StandsAt, Held, IsHeldAt, HitsAt, IsHitThere, hit_of, hit_slots, IsLent, StopsSo, Lent, Standing, Search, CanGoOnBy, CanGoOnWith, Width}
use Rattle.std.specs.Prelude.{IsSomeAnd}
use Rattle.std.specs.Option.{option_flatten}
use Rattle.bites_table.specs.Sources.{Thread, Source}
use Rattle.bites_table.specs.Kinds as kinds
use Rattle.bites_table.specs.Packed.{classes_in, IsCell}
use Rattle.bites_table.specs.Searches.{IsFresh}
use Rattle.bites_table.specs.Standing.{IsServed}
use Rattle.bites_spec.specs.PikeVm as vm
use Rattle.bites_spec.specs.Look.{before as before_byte}
use Rattle.bites_table.proofs.RowLemmas.{ended-row, row-at-length, some-room}
use Rattle.bites_table.proofs.TransitionLemmas.{walked_is}
use Rattle.bites_table.specs.declared.table.cell.Cell.{Cell}
use Rattle.bites_table.proofs.StandingLemmas.{at_start, handed_over, handed_back, at_next, over_after, apart_at, all_skipped, all_rested, apart_over, apart_after, passed_rows, moved_over, hit_over, whole_hit_over, ascii_here, ascii_next}

-- the cells of two lists begin at two places
pub row_once : (x : Packed) (n m : ℕ) → row_of x n ≡ row_of x m → n ≡ m
row_once x n m e = sym (mul-div_cancel n (omega arith)) ∙ ap (λ r. r / stride x) e ∙ mul-div_cancel m (omega arith)

-- past ASCII no transition is known by the byte alone
none_past : (s : Asked) → IsAsked s → (n : ℕ) → (table_in s.table).transition n (classes_in s.table).len ≡ None
none_past s is n = grind (arith, common_steps, nat_tests)

-- the class is that of the byte at the place
pub record IsByte (s : Asked) (place class : ℕ) : Type 0 where
  within : place < length s.input.hay
  low : slice_index s.input.hay place < 128 → class ≡ (classes_in s.table).class_of (Some (slice_index s.input.hay place))
  high : 128 ≤ slice_index s.input.hay place → class ≡ (classes_in s.table).len

pub byte_at : (s : Asked) (hay : List ℕ) (place class : ℕ) → hay ≡ s.input.hay → place < length hay →
    (slice_index hay place < 128 → class ≡ (classes_in s.table).class_of (Some (slice_index hay place))) → (128 ≤ slice_index hay place → class ≡ (classes_in s.table).len) → IsByte s place class
byte_at s hay place class same within low high = grind (arith, common_steps)

-- a transition over the class of a byte is over what stands at its place
pub over_byte : (s : Asked) → IsAsked s → (place class : ℕ) → IsByte s place class → IsOverPiece s place class 1
over_byte s is place class byte n t known = grind (arith, common_steps, ascii_next, ascii_here, none-some, none_past, cases_lt)

-- a transition that is known visits nothing that was visited
pub fresh_at : (s : Asked) → IsAsked s → (place row : ℕ) (registers : List (Option ℕ)) (is_found : Bool) (slots : List (Option ℕ)) (walked : Record) → IsAtRow s place row registers is_found slots walked →
    (n : ℕ) → row ≡ row_of s.table n → (t : Transition ℕ) → transition_from s n place ≡ Some t → AllApart (after_place t.seen t.looks place walked).visits
fresh_at s is place row registers is_found slots walked at n row_is t known =
    let one = row_once s.table n at.list (sym row_is ∙ at.row_is) in
    apart_after s is place at.list registers is_found slots walked at.here t (rw one at known)

pub fresh : (a : Search) (w : Width) (before : List (Option ℕ)) (at : Standing) (registers : List (Option ℕ)) (is_found : Bool) (slots : List (Option ℕ)) → CanGoOnBy a w before at registers is_found slots →
    (class len : ℕ) → IsPieceAt a before at.place class len → (n : ℕ) → at.row ≡ row_of a.table.now n → IsFresh a n class at.place
fresh a w before at registers is_found slots can class len piece n row t known =
    fresh_at (asked a before) can.on.is_asked at.place at.row registers is_found slots a.counted.walked can.on.stands n row t (piece.over n t known).0

-- the search goes on over a place where it has not to look
pub passed_on : (s : Asked) → IsAsked s → (place row : ℕ) (registers : List (Option ℕ)) (is_found : Bool) (slots : List (Option ℕ)) (walked : Record) → (at : IsAtRow s place row registers is_found slots walked) →
    (class len : ℕ) → 0 < len → IsOverPiece s place class len → (cell : Cell) → Tells s.table at.list class cell → bit_and cell.doing (mask_of s.table.slots s.input.width) ≡ 0 → (new : List (Option ℕ)) →
    ((r : ℕ) → r < with_spare → row_in new s.input.width r
    ≡ row_at s.input.width place (row_in registers s.input.width) (passed_row (mask_of s.table.slots s.input.width) s.input.width cell.begins cell.act r)) →
    IsAtRow s (place + len) cell.next new is_found slots (after_place (reverse cell.seen.value.items) cell.looks.value place walked)
passed_on s is place row registers is_found slots walked at class len some over cell tells bits new left =
    let q = tells.passed s.input.width bits in
    let t = q.0 in
    let by = over at.list t q.1.transition in
    let moved = passed_rows (list_at (table_in s.table) t.next).threads t.moves (mask_of s.table.slots s.input.width) s.input.width cell.begins cell.act place registers new q.3
    (λ u among. let lt = q.1.held u among in let few = q.1.few in omega arith) left in
    record { list = t.next; within = q.1.within; row_is = q.1.next; here = grind (arith, common_steps, moved_over) }

-- no transition has none of all bits
all_bits : (x : Packed) (n c : ℕ) (cell : Cell) → Tells x n c cell → bit_and cell.doing 255 ≡ 0 → ⊥
all_bits x n c cell tells e =
    let hit = tells.hits (bit 4 refl) in
    let passed = tells.passed 2 (bit 1 refl) in
    none-some hit.2.thread cc
  where
    bit : (k : ℕ) → bit_at 255 k ≡ 1 → bit_and cell.doing (2 ^ k) ≡ 0
    bit k one =
        let least : bit_at cell.doing k ≡ 0 = let z = sym (bit_at_and cell.doing 255 k) ∙ ap (λ n. bit_at n k) e ∙ bit_at-zero k in omega arith in
        and_pow cell.doing k ∙ ap (λ n. n * 2 ^ k) least ∙ zero-mul (2 ^ k)

-- a search for two slots that has no more to do than to keep a hit is not one for the match with the least end
pub keeps_hits : (x : Packed) (n c : ℕ) (cell : Cell) → Tells x n c cell → (earliest : Bool) (width m : ℕ) → m ≡ more_to_do earliest width → width ≡ 2 → bit_and cell.doing m ≡ 0 →
    (bit_and cell.doing more ≡ 0) × (earliest ≡ false)
keeps_hits x n c cell tells earliest width m is two e = grind (arith, common_steps, all_bits)

-- and so one for another number of slots
pub keeps_whole_hits : (x : Packed) (n c : ℕ) (cell : Cell) → Tells x n c cell → (earliest : Bool) (width m : ℕ) → m ≡ more_to_do earliest width → width ≢ 2 → bit_and cell.doing m ≡ 0 →
    (bit_and cell.doing more_for_all ≡ 0) × (earliest ≡ false)
keeps_whole_hits x n c cell tells earliest width m is other e = grind (arith, common_steps, all_bits, ne_eqb)

-- where a search has only to keep a hit the transition is known, and where it has only to run steps
pub more_known : (x : Packed) (n c : ℕ) (cell : Cell) → Tells x n c cell → (earliest : Bool) (width m : ℕ) → m ≡ more_to_do earliest width → bit_and cell.doing m ≡ 0 → IsKnown x n c cell
more_known x n c cell tells earliest width m is e = grind (arith, keeps_hits, keeps_whole_hits, cases_eq)

-- the search goes on over a place where somebody comes to a match and rows are kept
pub hit_on : (s : Asked) → IsAsked s → (place row : ℕ) (registers : List (Option ℕ)) (is_found : Bool) (slots : List (Option ℕ)) (walked : Record) → (at : IsAtRow s place row registers is_found slots walked) →
    (class len : ℕ) → 0 < len → IsOverPiece s place class len → (cell : Cell) → Tells s.table at.list class cell → bit_and cell.doing more ≡ 0 → s.input.earliest ≡ false → s.input.width ≡ 2 → with_spare * 2 ≤ length registers →
    IsAtRow s (place + len) cell.next registers true (slice_index_or registers (cell.begins * 2) None ∷ Some place ∷ []) (after_place (reverse cell.seen.value.items) cell.looks.value place walked)
hit_on s is place row registers is_found slots walked at class len some over cell tells bits late two room =
    let q = tells.hits bits in
    let t = q.0 in
    let by = over at.list t q.1.transition in
    let left = ended-row registers cell.begins place (let there = q.2.there in omega arith) q.2.thread.row q.2.ends in
    let here = hit_over s is place at.list registers is_found slots walked at.here t by.0 late two cell.begins q.2 (let one = by.1 in omega arith) in
    record { list = t.next; within = q.1.within; row_is = q.1.next; here = grind (arith, left, here) }

-- the same for another number of slots
pub whole_hit_on : (s : Asked) → IsAsked s → (place row : ℕ) (registers : List (Option ℕ)) (is_found : Bool) (slots : List (Option ℕ)) (walked : Record) → (at : IsAtRow s place row registers is_found slots walked) →
    (class len : ℕ) → 0 < len → IsOverPiece s place class len → (cell : Cell) → Tells s.table at.list class cell → bit_and cell.doing more_for_all ≡ 0 → s.input.earliest ≡ false →
    IsAtRow s (place + len) cell.next registers true (slots_after s.input.width place registers (hit_of s.table cell.act) []) (after_place (reverse cell.seen.value.items) cell.looks.value place walked)
whole_hit_on s is place row registers is_found slots walked at class len some over cell tells bits late =
    let q = tells.whole_hits bits in
    let t = q.0 in
    let by = over at.list t q.1.transition in
    let named : hit_of s.table cell.act ≡ t.hit = ap (λ o. option_map frame_of (option_flatten (option_map (λ a. a.hit) o))) q.2.named ∙ sym q.2.hit in
    let here = whole_hit_over s is place at.list registers is_found slots walked at.here t by.0 late q.3 (let one = by.1 in omega arith) in
    record { list = t.next; within = q.1.within; row_is = q.1.next; here = grind (arith, named, here) }

-- the slots that are written, from those of a cell
two_slots_of : (x : Packed) (width : ℕ) (registers : List (Option ℕ)) (l : Lent) (place begins : ℕ) → width ≡ 2 → l.begins ≡ begins → place ≡ place + 1 - 1 →
    slice_index_or registers (begins * 2) None ∷ Some place ∷ [] ≡ hit_slots x width registers l (place + 1)
two_slots_of x width registers l place begins two is there = grind (arith, nat_tests)

whole_slots_of : (x y : Packed) (n width : ℕ) (registers : List (Option ℕ)) (l : Lent) (place act : ℕ) → width ≢ 2 → x ≡ y → width ≡ n → l.act ≡ act → place ≡ place + 1 - 1 →
    slots_after n place registers (hit_of x act) [] ≡ hit_slots y width registers l (place + 1)
whole_slots_of x y n width registers l place act other same width_is is there = grind (arith, ne_eqb)

some_held : (o : Option Frame) (t : Thread Source) → option_map frame_of o ≡ Some t → IsHeldHit o → IsSomeAnd o IsHeldFrame
some_held v0 t e held = grind (arith, common_steps, none-some)

-- the search is over at a place where somebody comes to a match and nobody is left
pub last_on : (s : Asked) → IsAsked s → (place row : ℕ) (registers : List (Option ℕ)) (is_found : Bool) (slots : List (Option ℕ)) (walked : Record) → (at : IsAtRow s place row registers is_found slots walked) →
    (class len : ℕ) → IsOverPiece s place class len → (cell : Cell) → Tells s.table at.list class cell → bit_and cell.doing ends ≡ 0 → s.input.width ≡ 2 → with_spare * 2 ≤ length registers →
    IsOver s true (slice_index_or registers (cell.begins * 2) None ∷ Some place ∷ []) (after_place (reverse cell.seen.value.items) cell.looks.value place walked)
last_on s is place row registers is_found slots walked at class len over cell tells bits two room =
    let q = tells.ends bits in
    let t = q.0 in
    let by = over at.list t q.1.transition in
    let left = ended-row registers cell.begins place (let there = q.2.there in omega arith) q.2.thread.row q.2.ends in
    let found : (is_some t.hit || is_found) ≡ true = ap (λ h. is_some h || is_found) q.2.hit in
    let dead : ends_after s place t.next (is_some t.hit || is_found) ≡ true = grind (arith, common_steps, q.2.dead) in
    let end = over_after s is place at.list registers is_found slots walked at.here t by.0 dead in
    grind (arith, left, end)

-- the search goes on over a place where only steps are run
pub stepped_on : (s : Asked) → IsAsked s → (place row : ℕ) (registers : List (Option ℕ)) (is_found : Bool) (slots : List (Option ℕ)) (walked : Record) → (at : IsAtRow s place row registers is_found slots walked) →
    (class len : ℕ) → 0 < len → IsOverPiece s place class len → (cell : Cell) → Tells s.table at.list class cell → bit_and cell.doing more_than_steps ≡ 0 → (new : List (Option ℕ)) → RunsAct s.table cell.act s.input.width place registers new →
    IsAtRow s (place + len) cell.next new is_found slots (after_place (reverse cell.seen.value.items) cell.looks.value place walked)
stepped_on s is place row registers is_found slots walked at class len some over cell tells bits new runs =
    let q = tells.goes bits in
    let t = q.0 in
    let by = over at.list t q.1.transition in
    record { list = t.next; within = q.1.within; row_is = q.1.next; here = grind (arith, common_steps, moved_over) }

-- what is searched stays the same
pub asked_same : (a b : Search) (before : List (Option ℕ)) → IsSame a b → asked b before ≡ asked a before
asked_same a b before same = grind (arith, common_steps)

pub same_same : (a b d : Search) → IsSame a b → IsSame b d → IsSame a d
same_same a b d one two = grind (arith, common_steps)

-- where nothing was lent the search can go on as before
pub still_on : (a b : Search) (w : Width) (before : List (Option ℕ)) (at : Standing) (registers new : List (Option ℕ)) (is_found : Bool) (slots : List (Option ℕ)) → IsSame a b →
    b.counted.walked ≡ a.counted.walked × new ≡ registers → CanGoOnBy a w before at registers is_found slots → CanGoOnBy b w before at new is_found slots
still_on a b w before at registers new is_found slots same kept on = grind (arith, common_steps, asked_same)

-- what stands at a place is still a piece of the haystack
pub still_piece : (a b : Search) (before : List (Option ℕ)) (place class len : ℕ) → IsSame a b → IsPieceAt a before place class len → IsPieceAt b before place class len
still_piece a b before place class len same here = grind (arith, asked_same)

-- a transition over the class of what stands at a place is over it
pub over_piece : (s : Asked) (place class len : ℕ) → class ≡ (classes_in s.table).class_of (next_character s.input.hay place) → len ≡ (piece s.input.hay place).len → IsOverPiece s place class len
over_piece s place class len class_is len_is n t known = (ap ((table_in s.table).transition n) (sym class_is) ∙ known, sym len_is)

-- one place is passed by a transition that was lent
pub lent_on : (a b : Search) (before : List (Option ℕ)) (place len n class unless : ℕ) (l : Lent) → IsSame a b → (lent : IsLent a b n class unless place l) → (registers : List (Option ℕ)) (is_found : Bool) (slots : List (Option ℕ)) →
    IsAtRow (asked a before) (place + len) lent.cell.next registers is_found slots (after_place (reverse lent.cell.seen.value.items) lent.cell.looks.value place a.counted.walked) →
    StandsAt b before (record { place = place + len; row = l.next }) registers is_found slots
lent_on a b before place len n class unless l same lent registers is_found slots on = grind (arith, common_steps, asked_same)

-- a transition over a byte, whose class the table gives, is over what stands at its place
pub byte_over : (s : Asked) → IsAsked s → (x : Packed) → x ≡ s.table → (hay : List ℕ) → hay ≡ s.input.hay → (place class : ℕ) → place < length hay →
    (slice_index hay place < 128 → class ≡ (classes_in x).class_of (Some (slice_index hay place))) → (128 ≤ slice_index hay place → class ≡ (classes_in x).len) → IsOverPiece s place class 1
byte_over s is x table hay same place class within low high =
    over_byte s is place class (byte_at s hay place class same within
    (subst (λ (y : Packed). slice_index hay place < 128 → class ≡ (classes_in y).class_of (Some (slice_index hay place))) table low)
    (subst (λ (y : Packed). 128 ≤ slice_index hay place → class ≡ (classes_in y).len) table high))

-- where a search has only to keep a hit, the search goes on with it
module _ (a b : Search) (w : Width) (h : Held) (at : Standing) (class len : ℕ) (on : CanGoOnWith a w at h) (some : 0 < len) (over : IsOverPiece (asked a h.before) at.place class len)
    (same : IsSame a b) (l : Lent) (lent : IsLent a b on.on.stands.list class w.more at.place l) where
  -- the slots are those of the cell
  stands_so : (slots : List (Option ℕ)) → slots ≡ hit_slots w.table.now w.slots h.registers l (at.place + 1) →
      IsAtRow (asked a h.before) (at.place + len) lent.cell.next h.registers true slots (after_place (reverse lent.cell.seen.value.items) lent.cell.looks.value at.place a.counted.walked) →
      StandsAt b h.before (record { place = at.place + len; row = l.next }) h.registers true (hit_slots w.table.now w.slots h.registers l (at.place + 1))
  stands_so slots e next = lent_on a b h.before at.place len on.on.stands.list class w.more l same lent h.registers true _ (rw e at next)

  two_lent : w.slots ≡ 2 → HitsAt b w h at len l
  two_lent two =
      let stands = on.on.stands in
      let hits = keeps_hits a.table.now stands.list class lent.cell lent.tells (is_earliest a.input.now.kind) w.slots w.more on.bits.more two lent.bits in
      let room = subst (λ n. with_spare * n ≤ length h.registers) two on.on.room in
      let there = (lent.tells.hits hits.0).2.there in
      record {
        there = record { register = λ _. subst (λ r. r < with_spare) (sym lent.begins) there; act = λ other. absurd (other two) };
        stands = stands_so _ (two_slots_of w.table.now w.slots h.registers l at.place lent.cell.begins two lent.begins (omega arith))
            (hit_on (asked a h.before) on.on.is_asked at.place at.row h.registers h.is_found h.slots a.counted.walked stands class len some over lent.cell lent.tells hits.0 hits.1
            (sym on.on.width_is ∙ two) room);
      }

  whole_lent : AreHeldHits w.table.now.acts → w.slots ≢ 2 → HitsAt b w h at len l
  whole_lent held other =
      let stands = on.on.stands in
      let hits = keeps_whole_hits a.table.now stands.list class lent.cell lent.tells (is_earliest a.input.now.kind) w.slots w.more on.bits.more other lent.bits in
      let q = lent.tells.whole_hits hits.0 in
      let named : slice_get w.table.now.acts l.act ≡ Some q.2.act =
      subst (λ (x : Packed). slice_get x.acts l.act ≡ Some q.2.act) (sym on.bits.table) (subst (λ n. slice_get a.table.now.acts n ≡ Some q.2.act) (sym lent.act) q.2.named) in
      record {
        there = record { register = λ two. absurd (other two); act = λ _. (q.2.act, named, some_held q.2.act.hit q.3.thread (sym q.2.hit ∙ q.3.hit) (held l.act q.2.act named)) };
        stands = stands_so _ (whole_slots_of a.table.now w.table.now (length h.before) w.slots h.registers l at.place lent.cell.act other (sym on.bits.table) on.on.width_is lent.act (omega arith))
            (whole_hit_on (asked a h.before) on.on.is_asked at.place at.row h.registers h.is_found h.slots a.counted.walked stands class len some over lent.cell lent.tells hits.0 hits.1);
      }

  hit_lent : AreHeldHits w.table.now.acts → HitsAt b w h at len l
  hit_lent held = ⊎_elim two_lent (whole_lent held) (cases_eq w.slots 2)

pub hits_lent : (a b : Search) (w : Width) (at : Standing) (class len : ℕ) → AreHeldHits w.table.now.acts → 0 < len → ((h : Held) → CanGoOnWith a w at h → IsOverPiece (asked a h.before) at.place class len) →
    IsSame a b → (o : Option Lent) → IfSome o (λ l. (n : ℕ) → at.row ≡ row_of a.table.now n → IsLent a b n class w.more at.place l) →
    IfSome o (λ l. (h : Held) → CanGoOnWith a w at h → HitsAt b w h at len l)
hits_lent a b w at class len held some over same None none = none
hits_lent a b w at class len held some over same (Some l) is = λ h on. hit_lent a b w h at class len on some (over h on) same l (is on.on.stands.list on.on.stands.row_is) held

-- a search that could go on can go on from where it stands now
pub can_go_on : (a b : Search) (w : Width) (before : List (Option ℕ)) (from at : Standing) (registers new : List (Option ℕ)) (was_found is_found : Bool) (old slots : List (Option ℕ)) → IsSame a b →
    CanGoOnBy a w before from registers was_found old → length new ≡ length registers → length slots ≡ length old → StandsAt b before at new is_found slots → CanGoOnBy b w before at new is_found slots
can_go_on a b w before from at registers new was_found is_found old slots same on wide len stands = grind (arith, common_steps, asked_same)

-- a place where the search stands lies in the haystack
pub stands_within : (a b : Search) (before : List (Option ℕ)) (at : Standing) (registers : List (Option ℕ)) (is_found : Bool) (slots : List (Option ℕ)) → IsSame a b → StandsAt b before at registers is_found slots →
    at.place ≤ length a.input.now.haystack.now
stands_within a b before at registers is_found slots same stands = grind (arith, common_steps)

-- the search goes on over bytes that leave it at its thread list, and visits nothing twice
module _ (s : Asked) (is : IsAsked s) (place row : ℕ) (registers : List (Option ℕ)) (is_found : Bool) (slots : List (Option ℕ)) (walked : Record) (at : IsAtRow s place row registers is_found slots walked)
    (number : ℕ) (row_is : row ≡ row_of s.table number) (skip : Skip) (is_skip : IsSkip (table_in s.table) (classes_in s.table) number skip) (end : ℕ) (onward : place ≤ end) (within : end ≤ length s.input.hay)
    (passed : (k : ℕ) → place ≤ k → k < end → not (slice_index_or skip.set (slice_index s.input.hay k) false) ≡ false) where
  member : (b : Bool) → not b ≡ false → b ≡ true
  member b e = grind (arith, common_steps, true≢false)

  skipped_here : IsAt s end at.list registers is_found slots (after_each (reverse skip.seen.value.items) skip.looks.value (range_with_len place (end - place)) walked)
  skipped_here =
      let there : place + (end - place) ≡ end = omega arith in
      let one = row_once s.table number at.list (sym row_is ∙ at.row_is) in
      rw there at (all_skipped s is at.list (reverse skip.seen.value.items) skip.looks.value skip.set is_skip.ascii (λ b h. rw one at (is_skip.stays b h))
      registers is_found slots (end - place) place walked (omega arith) (λ k le lt. member _ (passed k le (omega arith))) at.here)

  pub skipped : IsAtRow s end row registers is_found slots (after_each (reverse skip.seen.value.items) skip.looks.value (range_with_len place (end - place)) walked)
  skipped = record { list = at.list; within = at.within; row_is = at.row_is; here = skipped_here }

  pub skipped_apart : AllApart (after_each (reverse skip.seen.value.items) skip.looks.value (range_with_len place (end - place)) walked).visits
  skipped_apart =
      apart_at s is end at.list registers is_found slots (after_each (reverse skip.seen.value.items) skip.looks.value (range_with_len place (end - place)) walked) skipped_here

-- nothing is found any more from its thread list
module _ (s : Asked) (is : IsAsked s) (place row : ℕ) (registers : List (Option ℕ)) (is_found : Bool) (slots : List (Option ℕ)) (walked : Record) (at : IsAtRow s place row registers is_found slots walked)
    (number : ℕ) (row_is : row ≡ row_of s.table number) (rest : Rest) (is_rest : IsRest (table_in s.table) (classes_in s.table) number rest) where
  one_list : number ≡ at.list
  one_list = row_once s.table number at.list (sym row_is ∙ at.row_is)

  pub rested : IsOver s is_found slots (after_each (reverse rest.seen.value.items) rest.looks.value (places s.input.hay place) walked)
  rested =
      all_rested s is is_rest.lists (reverse rest.seen.value.items) rest.looks.value is_rest.calm is_rest.closed registers is_found slots
      place at.list walked (subst (λ n. Among is_rest.lists n) one_list is_rest.own) at.here

  pub rested_apart : AllApart (after_each (reverse rest.seen.value.items) rest.looks.value (places s.input.hay place) walked).visits
  rested_apart = apart_over s is is_found slots (after_each (reverse rest.seen.value.items) rest.looks.value (places s.input.hay place) walked) rested

-- the rows of registers are there
pub row_within : (r n m : ℕ) → with_spare * n ≤ m → r < most_registers → r * n + n ≤ m
row_within r n m room lt = let le : suc r ≤ with_spare = omega arith in omega (arith, mul-le-mul_left n le)

pub row_there : (o : Option ℕ) (n m : ℕ) → with_spare * n ≤ m → IfSome o (λ r. r < most_registers) → IfSome o (λ r. r * n + n ≤ m)
row_there o n m room h = grind (arith, common_steps, row_within)

-- as many slots as the search has
pub hit_slots_length : (x : Packed) (width : ℕ) (registers : List (Option ℕ)) → with_spare * width ≤ length registers → (l : Lent) → IsHitThere x width l → (place : ℕ) → length (hit_slots x width registers l place) ≡ width
hit_slots_length x width registers room l there place = ⊎_elim two whole (cases_eq width 2)
  where
    two : width ≡ 2 → length (hit_slots x width registers l place) ≡ width
    two e = rw e refl

    kept : (o : Option Frame) → IsSomeAnd o IsHeldFrame → length (slots_after width (place - 1) registers (option_map frame_of o) []) ≡ width
    kept None none = absurd none
    kept (Some f) held = row-at-length width (place - 1) registers (source_of f.source) (some-room f.source.register width registers (row_there f.source.register width (length registers) room held))

    whole : width ≢ 2 → length (hit_slots x width registers l place) ≡ width
    whole other =
        let act = there.act other in
        let named : hit_of x l.act ≡ option_map frame_of act.0.hit = ap (λ o. option_map frame_of (option_flatten (option_map (λ a. a.hit) o))) act.1 in
        let slots : hit_slots x width registers l place ≡ slots_after width (place - 1) registers (hit_of x l.act) [] = rw (ne_eqb width 2 other) refl in
        ap length (slots ∙ ap (λ h. slots_after width (place - 1) registers h []) named) ∙ kept act.0.hit act.2

some_frame : (o : Option Frame) → is_some (option_map frame_of o) ≡ is_some o
some_frame o = grind (arith, common_steps)

ends_alike : (z e f d : Bool) → (z || ((e && f) || d)) ≡ (z || (d || (f && e)))
ends_alike z e f d = grind (arith, common_steps)

-- one place by a cell that is known, and by what its transition does
module _ (s : Asked) (is : IsAsked s) (place row : ℕ) (registers : List (Option ℕ)) (was_found : Bool) (slots : List (Option ℕ)) (walked : Record) (at : IsAtRow s place row registers was_found slots walked)
    (class : ℕ) (class_is : class ≡ (classes_in s.table).class_of (next_character s.input.hay place)) (cell : Cell) (tells : Tells s.table at.list class cell) (bits : bit_and cell.doing unknown ≡ 0) where
  abbrev next : Transition ℕ
  next = (tells.known bits).0

  abbrev is_cell : IsCell s.table at.list class cell next
  is_cell = (tells.known bits).1

  abbrev names : NamesAct s.table cell next
  names = (tells.known bits).2

  pub act_within : cell.act < length s.table.acts
  act_within = slice_get_within s.table.acts cell.act names.act names.named

  from_here : transition_from s at.list place ≡ Some next
  from_here = ap ((table_in s.table).transition at.list) (sym class_is) ∙ is_cell.transition

  module _ (act : Act) (named : slice_get s.table.acts cell.act ≡ Some act) (width : ℕ) (wide : width ≡ s.input.width) (len : ℕ) (len_is : len ≡ (piece s.input.hay place).len)
      (is_found : Bool) (found_is : is_found ≡ (is_some act.hit || was_found)) (left : List (Option ℕ)) (left_is : left ≡ slots_after width place registers (option_map frame_of act.hit) slots)
      (over : Bool) (over_is : over ≡ ((len == 0) || (act.is_over || (is_found && s.input.earliest)))) where
    act_is : names.act ≡ act
    act_is = same_Some names.act act (sym names.named ∙ named)

    hit_is : next.hit ≡ option_map frame_of act.hit
    hit_is = names.hit ∙ ap (λ (a : Act). option_map frame_of a.hit) act_is

    found_after : (is_some next.hit || was_found) ≡ is_found
    found_after = ap (λ b. b || was_found) (ap is_some hit_is ∙ some_frame act.hit) ∙ sym found_is

    left_after : slots_after s.input.width place registers next.hit slots ≡ left
    left_after = ap₂ (λ n h. slots_after n place registers h slots) (sym wide) hit_is ∙ sym left_is

    dead_is : is_dead (list_at (table_in s.table) next.next) ≡ act.is_over
    dead_is = sym names.over ∙ ap (λ (a : Act). a.is_over) act_is

    ends_is : ends_after s place next.next (is_some next.hit || was_found) ≡ over
    ends_is = grind (arith, common_steps, found_after, dead_is, ends_alike)

    abbrev walked_on : Record
    walked_on = after_place (reverse cell.seen.value.items) cell.looks.value place walked

    record_is : after_place next.seen next.looks place walked ≡ walked_on
    record_is = ap₂ (λ l n. after_place l n place walked) is_cell.seen is_cell.looks

    pub ended_here : over ≡ true → IsOver s is_found left walked_on
    ended_here done =
        rw (record_is, left_after, found_after) at (over_after s is place at.list registers was_found slots walked at.here next from_here (ends_is ∙ done))

    pub went_on : over ≡ false → (new : List (Option ℕ)) →
        ((r : ℕ) → r < with_spare → row_in new width r ≡ row_at width place (row_in registers width) (source_at (after_steps (slice_range s.table.steps act.steps.from act.steps.to) own_rows) r)) →
        IsAtRow s (place + len) cell.next new is_found left walked_on
    went_on open_ new moved = grind (arith, record_is, left_after, found_after, at_next, from_here, ends_is, act_is)

-- one place of the code's search
module _ (old new : Search) (same : IsSame old new) (before : List (Option ℕ)) (asks : IsAsked (asked old before)) (here : Standing) (registers : List (Option ℕ)) (was_found : Bool) (slots : List (Option ℕ))
    (at : StandsAt old before here registers was_found slots) (class : ℕ) (class_is : class ≡ (classes_in old.table.now).class_of (next_character old.input.now.haystack.now here.place))
    (l : Lent) (lent : IsLent old new at.list class unknown here.place l) (act : Act) (named : slice_get new.table.now.acts l.act ≡ Some act)
    (width : ℕ) (wide : width ≡ length before) (len : ℕ) (len_is : len ≡ (piece old.input.now.haystack.now here.place).len)
    (is_found : Bool) (found_is : is_found ≡ (is_some act.hit || was_found)) (left : List (Option ℕ)) (left_is : left ≡ slots_after width here.place registers (option_map frame_of act.hit) slots)
    (over : Bool) (over_is : over ≡ ((len == 0) || (act.is_over || (is_found && is_earliest new.input.now.kind)))) where
  abbrev tables : new.table.now ≡ old.table.now
  tables = ap (λ t. t.now) same.table

  named_here : slice_get old.table.now.acts lent.cell.act ≡ Some act
  named_here = subst (λ (x : Packed). slice_get x.acts lent.cell.act ≡ Some act) tables (subst (λ n. slice_get new.table.now.acts n ≡ Some act) lent.act named)

  over_here : over ≡ ((len == 0) || (act.is_over || (is_found && is_earliest old.input.now.kind)))
  over_here = over_is ∙ ap (λ i. (len == 0) || (act.is_over || (is_found && is_earliest i.now.kind))) same.input

  pub turn_ends : over ≡ true → IsOver (asked new before) is_found left new.counted.walked
  turn_ends done =
      let it = ended_here (asked old before) asks here.place here.row registers was_found slots old.counted.walked at class class_is lent.cell lent.tells lent.bits act named_here width wide len len_is
      is_found found_is left left_is over over_here done in
      grind (arith, asked_same)

  pub turn_len : over ≡ false → 0 < len
  turn_len open_ = grind (arith, common_steps, named_here, over_here)

  pub turn_goes : over ≡ false → (after : List (Option ℕ)) →
      ((r : ℕ) → r < with_spare → row_in after width r ≡ row_at width here.place (row_in registers width) (source_at (after_steps (slice_range new.table.now.steps act.steps.from act.steps.to) own_rows) r)) →
      IsHeldAt new (record { place = here.place + len; row = l.next }) (record { before = before; registers = after; is_found = is_found; slots = left })
  turn_goes open_ after moved = record {
    is_asked = subst IsAsked (sym (asked_same old new before same)) asks;
    stands = rw (asked_same old new before same, lent.walked, lent.next)
        (went_on (asked old before) asks here.place here.row registers was_found slots old.counted.walked at class class_is lent.cell lent.tells lent.bits act named_here width wide len len_is
        is_found found_is left left_is over over_here open_ after (rw tables at moved));
  }

-- whether the start is walked, as the code tests it
abbrev pub starts_by : Bool → ℕ → ℕ → Bool → Bool
starts_by anchored start place is_found = not is_found && (not anchored || (place == start))

starts_on : (anchored here : Bool) (was : Bool) (best fm : Option vm.Thread) → was ≡ (not (is_some best) && (not anchored || here)) →
    (was && not (anchored || is_some fm)) ≡ (not (is_some (option_or fm best)) && (not anchored || false))
starts_on anchored here was best fm is = grind (arith, common_steps)

module _ (s : Asked) (is : IsAsked s) where
  -- where the search is, and whether the start is walked there
  pub record IsWalkedBy (u : Searching) : Type 0 where
    pub onward : s.input.start ≤ u.place
    pub starts_is : u.starts ≡ starts_by s.input.anchored s.input.start u.place (is_some u.best)

  first_by : (anchored : Bool) (start : ℕ) → true ≡ starts_by anchored start start false
  first_by anchored start = grind (arith, common_steps, eq-eqb)

  walked_by : (n : ℕ) (u : Searching) → SearchedTo s.input.hay s.input.longest s.program s.input.width s.input.anchored s.input.earliest s.input.start n u → IsWalkedBy u
  walked_by zero u first = subst IsWalkedBy first (record { onward = omega arith; starts_is = first_by s.input.anchored s.input.start })
  walked_by (suc n) u (v, earlier, last, open_) = grind (arith, common_steps, first_by, goes_on, starts_on, nat_tests, (walked_by n v earlier))

  pub starts_there : (place list : ℕ) (registers : List (Option ℕ)) (is_found : Bool) (slots : List (Option ℕ)) (walked : Record) → IsAt s place list registers is_found slots walked →
      starts_by s.input.anchored s.input.start place is_found ≡ is_walked (list_at (table_in s.table) list).starts
  starts_there place list registers is_found slots walked here = grind (arith, common_steps, walked_by, walked_is)

-- the Pike VM goes on from where the code stands
module _ (a : Search) (before : List (Option ℕ)) (asks : IsAsked (asked a before)) where
  pub handed : (at : Standing) (registers : List (Option ℕ)) (is_found : Bool) (slots : List (Option ℕ)) (here : StandsAt a before at registers is_found slots) (number : ℕ) → at.row ≡ row_of a.table.now number →
      (width : ℕ) → width ≡ length before → length slots ≡ width → (threads : List RegisterThread) → map thread_with_register threads ≡ (list_at (table_in a.table.now) number).threads →
      (starts : Bool) → starts ≡ starts_by a.input.now.anchored a.input.now.start at.place is_found →
      HasReached a.program.now.program a.input.now.haystack.now (is_longest a.input.now.kind) a.input.now.anchored (is_earliest a.input.now.kind) a.input.now.start before at.place starts is_found
      a.counted.walked (map (thread_in (noted_start (asked a before).input) registers width) threads) slots
  handed at registers is_found slots here number row_is width wide len threads same starts starts_is =
      let one = row_once a.table.now number here.list (sym row_is ∙ here.row_is) in
      rw (starts_is ∙ starts_there (asked a before) asks at.place here.list registers is_found slots a.counted.walked here.here, wide)
      (handed_over (asked a before) asks at.place here.list registers is_found slots a.counted.walked here.here (len ∙ wide) threads (same ∙ ap (λ n. (list_at (table_in a.table.now) n).threads) one))

  root_by : (longest anchored : Bool) → IsServed a.table.now longest anchored → (k : kinds.Kind) →
      IsRoot a.program.now.program a.table.now.graph k (starts_of longest anchored true) (number_in (if anchored then a.table.now.here else a.table.now.everywhere) k)
  root_by longest v1 served k = grind (arith, common_steps)

  root_is : (k : kinds.Kind) → IsRoot a.program.now.program a.table.now.graph k (starts_of (is_longest a.input.now.kind) a.input.now.anchored true)
      (number_in (if a.input.now.anchored then a.table.now.here else a.table.now.everywhere) k)
  root_is = root_by (is_longest a.input.now.kind) a.input.now.anchored asks.served

  -- the list where a search begins behind the byte before a place
  pub begins_at : (registers : List (Option ℕ)) (at : Standing) (number : ℕ) → at.place ≡ a.input.now.start → at.row ≡ row_of a.table.now number →
      number ≡ number_in (if a.input.now.anchored then a.table.now.here else a.table.now.everywhere) (kind_of (before_byte a.input.now.haystack.now a.input.now.start)) → number < lists_in a.table.now →
      a.counted.walked.visits ≡ [] → a.counted.walked.looks ≡ 0 →
      IsHeldAt a at (record { before = before; registers = registers; is_found = false; slots = before })
  begins_at registers at number place_is row_is number_is within visits looks = grind (arith, common_steps, root_is, at_start)

  module _ (place : ℕ) (is_found : Bool) (slots : List (Option ℕ))
      (back : HasReached a.program.now.program a.input.now.haystack.now (is_longest a.input.now.kind) a.input.now.anchored (is_earliest a.input.now.kind) a.input.now.start before place true is_found
      a.counted.walked [] slots) where
    pub back_within : place ≤ length a.input.now.haystack.now
    back_within =
        place_reached a.program.now.program a.input.now.haystack.now asks.well (is_longest a.input.now.kind) a.input.now.anchored (is_earliest a.input.now.kind) a.input.now.start asks.within before asks.fits
        place true is_found a.counted.walked [] slots back

    pub comes_to : (registers : List (Option ℕ)) (at : Standing) (number : ℕ) → at.place ≡ place → at.row ≡ row_of a.table.now number →
        number ≡ number_in (if a.input.now.anchored then a.table.now.here else a.table.now.everywhere) (kind_of (before_byte a.input.now.haystack.now place)) → number < lists_in a.table.now →
        IsHeldAt a at (record { before = before; registers = registers; is_found = is_found; slots = slots })
    comes_to registers at number place_is row_is number_is within = grind (arith, common_steps, root_is, handed_back)

-- what comes after a search settled at a thread list
pub stops_so : (a b : Search) (from : Standing) (o : Option Standing) → IfSome o (λ to. (h : Held) → IsHeldAt a from h → IsHeldAt b to h) →
    IfNone o ((h : Held) → IsHeldAt a from h → IsOver (asked b h.before) h.is_found h.slots b.counted.walked) →
    (h : Held) → IsHeldAt a from h → StopsSo b h.before h.registers h.slots h.is_found o
stops_so a b from o on over h at = grind (arith, common_steps)
