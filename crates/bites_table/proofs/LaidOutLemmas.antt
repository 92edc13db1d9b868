-- Graphs of thread lists, laid out.
use Rattle.bites_table.proofs.Library.{cases_Bool, cases_eq, common_steps, elements, ◌==◌, nat_le, slice_get, slice_index_or, bit_and, is_some, bit_at, option_flatten, take_more, length-map, nat_tests, div-mul-add, mod-mul-add, suc-mul, Among, has_bit, RegisterThread, slice_get_within, slice_get_cases, cases_lt, get_or-map, ◌≡◌, ◌≢◌, ℕ, zero, suc, ◌+◌, ◌*◌, ◌/◌, ◌%◌, ◌^◌, ◌<◌, ◌≤◌, ◌⊎◌, true, false, cond, ◌||◌, List, [], ◌∷◌, ◌++◌, map, take, drop, length, Option, Some, None, option_map, refl, sym, ap, ◌∙◌, subst, inl, inr, ⊎_elim, arith, length-append, bit_at_and, bit_at-zero, bit_at_above, bit_at_ones, Among-append, Among-map, eq-eqb, ne_eqb}
use Rattle.bites_table.specs.Sources as sources
use Rattle.bites_table.proofs.Words.{most_registers, with_spare, row_of_register, unwritten, write, ThreadList, source_at, list_at, source_of, frame_of, thread_as, NumberedList, Outcome, Graph, AreHeld, transition_with, cell_at, table_of, cell_of, Packed, lists_in, stride, row_of, mask_of, is_dead, passed_row, ArePassed, AreKept, IsHit, IsWholeHit, GoesOn, Tells, IsPartOf, thread_with_register, Tell, IsEntry, IsHeldHit, AreHeldHits, register_thread, AreHeldBelow, IsEntryOf, AreEntries, masked, IsKeptOrBegun, IsWritten, WritesIndex, DoesNothing, PassesByBits, EndsHit, IsAct, IsActOf, AreActs, Names, AreNamed, Fits, AreLaid, Frame, Step, ListEntry, Act, Name}
use Rattle.bites_table.specs.Graph as graphs
use Rattle.bites_table.specs.Packed.{AreAlike, BeginsRow, IsCell}
use Rattle.bites_table.specs.LaidOut.{IsKept, IsOwn}
use Rattle.bites_table.specs.declared.thread_list.Thread.{Thread}
use Rattle.bites_table.specs.declared.thread_list.Source.{Source}
use Rattle.bites_table.specs.declared.explore.graph.Cell as made
use Rattle.bites_table.specs.declared.table.cell.Cell.{Cell}
use Rattle.bites_table.proofs.GraphLemmas.{get-left, get-push, list-there}
use Rattle.bites_table.proofs.StoredLemmas.{range-stays}
use Rattle.bites_table.proofs.RowLemmas.{rows-apart}

pub not-none : (n : ℕ) → suc n ≡ 0 → ⊥
not-none n e = omega arith

-- nothing is written in the slots of a mask
pub clear : (writes mask : ℕ) → writes < 2 ^ 64 → bit_and writes mask ≡ 0 → (k : ℕ) → masked mask k ≡ true → has_bit writes k ≡ false
clear writes mask fits none k masks = grind (arith, low, high, nat_tests)
  where
    high : 64 ≤ k → has_bit writes k ≡ false
    high past = ap (λ n. n == 1) (bit_at_above writes 64 k fits past)

    low : has_bit mask k ≡ true → has_bit writes k ≡ false
    low e = let z = sym (bit_at_and writes mask k) ∙ ap (λ n. bit_at n k) none ∙ bit_at-zero k in grind (arith, nat_tests)

pub widths : (slots width : ℕ) → (width ≡ 0) ⊎ ((width ≡ 2) ⊎ (((width ≡ slots) × (mask_of slots width ≡ 4)) ⊎ (mask_of slots width ≡ 255)))
widths slots width = grind (arith, eq-eqb, ne_eqb, cases_eq)

-- where all bits of widths are set, that of each width is
pub all-set : (doing : ℕ) → (bit_and doing 1 ≡ 0 → ⊥) → (bit_and doing 2 ≡ 0 → ⊥) → (bit_and doing 4 ≡ 0 → ⊥) → (bit_and doing 255 ≡ 0 → ⊥) →
    (slots width : ℕ) → bit_and doing (mask_of slots width) ≡ 0 → ⊥
all-set doing none two whole all slots width e = grind (arith, widths)

pub ever-set : (slots width : ℕ) → bit_and 255 (mask_of slots width) ≡ 0 → ⊥
ever-set = all-set 255 (not-none 0) (not-none 1) (not-none 3) (not-none 254)

looked-set : (slots width : ℕ) → bit_and 247 (mask_of slots width) ≡ 0 → ⊥
looked-set = all-set 247 (not-none 0) (not-none 1) (not-none 3) (not-none 246)

every-slot : (k : ℕ) → masked 18446744073709551615 k ≡ true
every-slot k = ⊎_elim (λ (lt : k < 64). rw (bit_at_ones 64 k lt) refl) (λ (le : 64 ≤ k). rw (past le) (grind (arith, cases_Bool))) (cases_lt k 64)
  where
    past : 64 ≤ k → nat_le 64 k ≡ true
    past le = grind (arith, nat_tests)

first-slots : (k : ℕ) → k < 2 → masked 3 k ≡ true
first-slots zero lt = refl
first-slots (suc zero) lt = refl
first-slots (suc (suc k)) lt = absurd (omega arith)

module _ (o : Outcome) (l : ThreadList) (threads : List Thread) (is : l.threads ≡ map thread_as threads) where
  thread-of : (u : sources.Thread ℕ) → Among l.threads u → (t : Thread) × Among threads t × (thread_as t ≡ u)
  thread-of u at = Among-map thread_as threads u (let P : List (sources.Thread ℕ) → Type 0 = λ ts. Among ts u in subst P is at)

  -- rows that are kept
  kept-rows : (mask width : ℕ) → ((k : ℕ) → k < width → masked mask k ≡ true) → ((t : Thread) → Among threads t → IsKept o.moves mask t) → AreKept l (map source_of o.moves) width
  kept-rows mask width masks kept u at = grind (arith, common_steps, thread-of)

  pub does-hit : (register : ℕ) → register < with_spare → EndsHit o.hit register → is_dead l ≡ false → ((t : Thread) → Among threads t → IsKept o.moves 3 t) →
      IsHit (option_map frame_of o.hit) l (map source_of o.moves) register
  does-hit register there hit alive kept = record {
    thread = frame_of hit.frame;
    hit = ap (option_map frame_of) hit.is;
    ends = hit.ends;
    there = there;
    alive = alive;
    rows = kept-rows 3 2 first-slots kept;
  }

  pub does-whole-hit : (register : ℕ) → EndsHit o.hit register → is_dead l ≡ false → ((t : Thread) → Among threads t → IsKept o.moves 18446744073709551615 t) →
      IsWholeHit (option_map frame_of o.hit) l (map source_of o.moves)
  does-whole-hit register hit alive kept = record {
    thread = frame_of hit.frame;
    hit = ap (option_map frame_of) hit.is;
    alive = alive;
    rows = λ width. kept-rows 18446744073709551615 width (λ k lt. every-slot k) kept;
  }

-- a row that begins, and one that is kept in the first two slots
alike-begun : (moves : List Source) (begins : ℕ) (t : Thread) (index : ℕ) → IsKeptOrBegun moves begins t →
    AreAlike 2 (source_at (map source_of moves) t.register) (passed_row 2 2 begins index t.register)
alike-begun moves begins t index does = grind (arith, first-slots)

-- the index of a slot of a register is that of no other slot
one-index : (slots register slot r k : ℕ) → slot < slots → k < slots → (r * slots + k == register * slots + slot) ≡ cond (r == register) ((k == slot) || false) false
one-index slots register slot r k within lt = grind (arith, rows-apart, cases_eq, nat_tests)

-- a thread in whose row a slot of one register is written
pub writes-index : (moves : List Source) (slots register slot r index : ℕ) → slot < slots → index ≡ register * slots + slot → IsWritten moves register slot r → WritesIndex moves slots index r
writes-index moves slots register slot r index within is written = grind (arith, one-index)

pub index-within : (slots register slot index : ℕ) → register < with_spare → slot < slots → index ≡ register * slots + slot → index < with_spare * slots
index-within slots register slot index few within is = grind (arith, rows-apart)

-- one register more that keeps its row, and the only one that does not
pub written-kept : (moves : List Source) (register slot n : ℕ) → n < most_registers → (register ≡ most_registers) ⊎ (register < n) → ((r : ℕ) → r < n → IsWritten moves register slot r) →
    source_at (map source_of moves) n ≡ row_of_register n → (r : ℕ) → r < n + 1 → IsWritten moves register slot r
written-kept moves register slot n few by before own r lt = grind (arith, ne_eqb, cases_eq, nat_tests)

pub written-last : (moves : List Source) (old slot n : ℕ) → n < most_registers → ((r : ℕ) → r < n → IsWritten moves most_registers old r) →
    source_at (map source_of moves) n ≡ write slot (row_of_register n) → (r : ℕ) → r < n + 1 → IsWritten moves n slot r
written-last moves old slot n few before own r lt = grind (arith, ne_eqb, eq-eqb, cases_eq, nat_tests)

-- one register more that is kept, and one that begins
pub begun-kept : (moves : List Source) (begins n : ℕ) → (begins ≡ most_registers) ⊎ (begins < n) → n < length moves → length moves ≤ most_registers → ((t : Thread) → t.register < n → IsKeptOrBegun moves begins t) →
    IsOwn n 3 (slice_index_or moves n (record { register = None; writes = 0 })) → (t : Thread) → t.register < n + 1 → IsKeptOrBegun moves begins t
begun-kept moves begins n by within few before own t lt = let at = get_or-map source_of moves n (record { register = None; writes = 0 }) unwritten within in grind (arith, at)

pub begun-last : (moves : List Source) (n : ℕ) → n < length moves → length moves ≤ most_registers → ((t : Thread) → t.register < n → IsKeptOrBegun moves most_registers t) →
    BeginsRow (source_of (slice_index_or moves n (record { register = None; writes = 0 }))) → (t : Thread) → t.register < n + 1 → IsKeptOrBegun moves n t
begun-last moves n within few before own t lt = let at = get_or-map source_of moves n (record { register = None; writes = 0 }) unwritten within in grind (arith, at)

-- nobody comes to a match, and the search is not over
module _ (o : Outcome) (l : ThreadList) (goes : GoesOn (option_map frame_of o.hit) l) (threads : List Thread) (is : l.threads ≡ map thread_as threads) (slots begins index : ℕ) (there : begins < with_spare) where
  -- each thread of the list
  each : (P : ℕ → Type 0) → ((t : Thread) → Among threads t → P t.register) → (u : sources.Thread ℕ) → Among l.threads u → P u.row
  each P own u at = let t = thread-of o l threads is u at in subst (λ (v : sources.Thread ℕ). P v.row) t.2 (own t.0 t.1)

  pub passes-so : (doing : ℕ) → (bit_and doing 255 ≡ 0 → ⊥) → (bit_and doing 2 ≡ 0 → (t : Thread) → Among threads t → IsKeptOrBegun o.moves begins t) →
      (bit_and doing 4 ≡ 0 → (index < with_spare * slots) × ((t : Thread) → Among threads t → WritesIndex o.moves slots index t.register)) → PassesByBits slots o l begins index doing
  passes-so doing some begun written width bits = grind (arith, widths, two, all)
    where
      two : ((t : Thread) → Among threads t → IsKeptOrBegun o.moves begins t) → ArePassed l.threads (map source_of o.moves) 2 2 begins index
      two does = record { register = there; index_within = λ e. absurd (omega arith); rows = each (λ r. AreAlike 2 (source_at (map source_of o.moves) r) (passed_row 2 2 begins index r)) (λ t at. alike-begun o.moves begins t index (does t at)) }

      all : (index < with_spare * slots) × ((t : Thread) → Among threads t → WritesIndex o.moves slots index t.register) → ArePassed l.threads (map source_of o.moves) 4 slots begins index
      all does = record { register = there; index_within = λ e. does.0; rows = each (λ r. WritesIndex o.moves slots index r) does.1 }

-- where nobody comes to a match, and threads are left or begin
pub goes-so : (o : Option Frame) (l : ThreadList) → is_some o ≡ false → is_dead l ≡ false → GoesOn (option_map frame_of o) l
goes-so v0 l none alive = grind (arith, common_steps)

-- an outcome that does nothing
pub do-nothing : (o : Outcome) (l : ThreadList) → GoesOn (option_map frame_of o.hit) l → (threads : List Thread) → l.threads ≡ map thread_as threads →
    ((t : Thread) → Among threads t → IsKept o.moves 18446744073709551615 t) → DoesNothing o l
do-nothing o l goes threads is kept width = record { goes = goes; rows = kept-rows o l threads is 18446744073709551615 width (λ k lt. every-slot k) kept }

-- what an outcome does stays as steps are added
pub act-grows : (slots : ℕ) (steps more new : List Step) (o : Outcome) (l : ThreadList) (a : Act) → new ≡ steps ++ more → IsAct slots steps o l a → IsAct slots new o l a
act-grows slots steps more new o l a e is = grind (arith, length-append, range-stays)

pub acts-push : (g : Graph) (slots : ℕ) (steps more new : List Step) (acts : List Act) (o : Outcome) (a : Act) → new ≡ steps ++ more → AreActs g slots steps acts →
    slice_get g.outcomes (length acts) ≡ Some o → IsActOf g slots new o a → AreActs g slots new (acts ++ a ∷ [])
acts-push g slots steps more new acts o a e are there own i p b at is =
    ⊎_elim (λ before. let old = are i p b at before in record { within = old.within; act = act-grows slots steps more new p (list_at (table_of g) p.next) b e old.act })
    (λ (last : (i ≡ length acts) × (a ≡ b)). grind arith)
    (get-push acts a i b is)

-- entries of lists
pub entries-push : (g : Graph) (ts more new : List RegisterThread) (es : List ListEntry) (l : NumberedList) (e : ListEntry) → new ≡ ts ++ more → AreEntries g ts es →
    slice_get g.lists (length es) ≡ Some l → IsEntryOf new l e → AreEntries g new (es ++ e ∷ [])
entries-push g ts more new es l e is are there own n m d at last = grind (arith, grown, get-push)
  where
    grown : (m : NumberedList) (d : ListEntry) → IsEntryOf ts m d → IsEntryOf new m d
    grown m d old = grind (arith, length-append, range-stays)

pub held-more : (n : ℕ) (a b new : List RegisterThread) → new ≡ a ++ b → AreHeldBelow n a → AreHeldBelow n b → AreHeldBelow n new
held-more n a b new e first then t is = grind (arith, Among-append)

get-some : {X : Type 0} (xs : List X) (i : ℕ) → i < length xs → (x : X) × (slice_get xs i ≡ Some x)
get-some xs i lt = ⊎_elim (λ w. (w.0, w.2)) (λ w. absurd (omega arith)) (slice_get_cases xs i).1

-- a transition that is known, as a cell
module _ (x : Packed) (names : List Name) (w : ℕ) (fits : Fits x names w) (n c : ℕ) (m : made.Cell) (number r : ℕ) (a : Act)
    (known : cell_at x.graph n c ≡ Some (cell_of m)) (same : number ≡ m.outcome) (named : slice_get x.acts number ≡ Some a) (row : r ≡ a.next * w)
    (v doing begins : ℕ) where
  abbrev made-cell : Cell
  made-cell = record { next = r; act = v; doing = doing; begins = begins; seen = m.seen; looks = m.looks }

  module _ (o : Outcome) (there : slice_get x.graph.outcomes number ≡ Some o) where
    own : IsActOf x.graph x.slots x.steps o a
    own = fits.acts_do number o a there named

    is-cell : a.doing ≢ 255 → IsCell x n c made-cell (transition_with (cell_of m) o)
    is-cell other = grind (arith, option_map, own, length-map)

    tells-of : v ≡ cond (bit_and a.doing 4 == 0) a.index number → doing ≡ a.doing → begins ≡ a.begins → Tells x n c made-cell
    tells-of v_is does is = grind (arith, not-none, is-cell, ne_eqb, own, option_map, ever-set, eq-eqb, cases_eq)

    looks-of : v ≡ number → doing ≡ 247 → a.doing ≢ 255 → Tells x n c made-cell
    looks-of v_is does other = grind (arith, not-none, is-cell, own, option_map, looked-set)

  outcome-there : (o : Outcome) × (slice_get x.graph.outcomes number ≡ Some o)
  outcome-there = let lt = slice_get_within x.acts number a named in get-some x.graph.outcomes number (omega arith)

  pub tells : v ≡ cond (bit_and a.doing 4 == 0) a.index number → doing ≡ a.doing → begins ≡ a.begins → Tells x n c made-cell
  tells = tells-of outcome-there.0 outcome-there.1

  pub tells-looked : v ≡ number → doing ≡ 247 → a.doing ≢ 255 → Tells x n c made-cell
  tells-looked = looks-of outcome-there.0 outcome-there.1

pub tells-nothing : (x : Packed) (n c : ℕ) (a : Cell) → a.doing ≡ 255 → Tells x n c a
tells-nothing x n c a e = grind (arith, ever-set)

-- the next of what is left
pub left-more : (cells : List (Option graphs.Cell)) (k : ℕ) (y : Option graphs.Cell) (ys : List (Option graphs.Cell)) → y ∷ ys ≡ drop k cells →
    (y ≡ option_flatten (slice_get cells k)) × (ys ≡ drop (suc k) cells)
left-more [] k y ys e = absurd (grind (arith, common_steps, elements))
left-more (z ∷ cells) zero y ys e = grind arith
left-more (z ∷ cells) (suc k) y ys e = left-more cells k y ys e

pub left-none : (cells : List (Option graphs.Cell)) (k : ℕ) → [] ≡ drop k cells → (None ≡ option_flatten (slice_get cells k)) × ([] ≡ drop (suc k) cells)
left-none [] zero e = (refl, refl)
left-none [] (suc k) e = (refl, refl)
left-none (z ∷ cells) zero e = cc
left-none (z ∷ cells) (suc k) e = left-none cells k e

-- one cell more is laid out
module _ (x : Packed) (n c : ℕ) (left : List (Option made.Cell)) (cells : List Cell) (laid : AreLaid x n c left cells) (a : Cell) (lt : c < stride x) (tell : Tells x n c a) where
  pub told-more : Tell x (cells ++ a ∷ [])
  told-more m d b within e =
      ⊎_elim (λ before. laid.told m d b within before)
      (λ (last : (row_of x m + d ≡ length cells) × (a ≡ b)).
      let place : m * stride x + d ≡ n * stride x + c = last.0 ∙ laid.len in
      let list : m ≡ n = sym (div-mul-add m (stride x) d within) ∙ ap (λ k. k / stride x) place ∙ div-mul-add n (stride x) c lt in
      let class : d ≡ c = sym (mod-mul-add m (stride x) d within) ∙ ap (λ k. k % stride x) place ∙ mod-mul-add n (stride x) c lt in
      grind arith)
      (get-push cells a (row_of x m + d) b e)

  pub laid-more : (more : List (Option made.Cell)) → map (option_map cell_of) more ≡ drop (suc (n * x.graph.classes + c)) x.graph.cells → AreLaid x n (c + 1) more (cells ++ a ∷ [])
  laid-more more is = record { left_is = grind arith; len = grind (arith, length-append); told = told-more }

  pub laid-row : suc c ≡ stride x → c ≡ x.graph.classes → AreLaid x (suc n) 0 left (cells ++ a ∷ [])
  laid-row end all = grind (arith, length-append, told-more, suc-mul)

pub cell-there : (g : Graph) (n c : ℕ) (o : Option graphs.Cell) → c < g.classes → o ≡ option_flatten (slice_get g.cells (n * g.classes + c)) → cell_at g n c ≡ o
cell-there g n c o lt is = grind (arith, eq-eqb, nat_tests)

-- the entry of a list in the table
pub is-entry : (x : Packed) (threads : List RegisterThread) (l : NumberedList) (n : ℕ) (e : ListEntry) → slice_get x.graph.lists n ≡ Some l → IsEntryOf threads l e → IsEntry x threads n e
is-entry x threads l n e there is = grind (arith, twice, list-there)
  where
    twice : (ts : List Thread) → map thread_with_register (map register_thread ts) ≡ map thread_as ts
    twice [] = refl
    twice (t ∷ ts) = ap (λ l. thread_as t ∷ l) (twice ts)

pub among-last : {X : Type 0} (P : X → Type 0) (xs : List X) (i : ℕ) (d : X) → i < length xs → ((t : X) → Among (take i xs) t → P t) → P (slice_index_or xs i d) →
    (t : X) → Among (take (i + 1) xs) t → P t
among-last {X = X} P xs i d lt before own t is = grind (arith, common_steps, own, Among-append, take_more)

pub act-part : (g : Graph) (slots : ℕ) (steps : List Step) (acts : List Act) → length acts ≡ length g.outcomes → AreActs g slots steps acts →
    (i : ℕ) (a : Act) → slice_get acts i ≡ Some a → IsPartOf (length steps) a.steps
act-part g slots steps acts len are i a e =
    let o = get-some g.outcomes i (let lt = slice_get_within acts i a e in omega arith) in
    (are i o.0 a o.1 e).act.part

pub are-entries : (x : Packed) (threads : List RegisterThread) (es : List ListEntry) → length es ≡ lists_in x → AreEntries x.graph threads es →
    (n : ℕ) (e : ListEntry) → slice_get es n ≡ Some e → IsEntry x threads n e
are-entries x threads es len are n e at =
    let l = get-some x.graph.lists n (let lt = slice_get_within es n e at in omega arith) in
    is-entry x threads l.0 n e l.1 (are n l.0 e l.1 at)

-- threads that have registers, as threads of the definitions
pub held-threads : (n : ℕ) (ts : List Thread) → AreHeld n ts → (u : sources.Thread ℕ) → Among (map thread_as ts) u → u.row < n
held-threads n [] held u at = absurd at
held-threads n (t ∷ ts) held u at =
    ⊎_elim (λ e. let P : sources.Thread ℕ → Type 0 = λ v. v.row < n in subst P e (held t (inl refl)))
    (λ later. held-threads n ts (λ v is. held v (inr is)) u later) at

pub hits-push : (acts : List Act) (a : Act) → AreHeldHits acts → IsHeldHit a.hit → AreHeldHits (acts ++ a ∷ [])
hits-push acts a are own i b e = grind (arith, own, get-push)

pub names-push : (w : ℕ) (acts : List Act) (a : Act) (names : List Name) (m : Name) → length acts ≡ length names → Names a (length acts) w m →
    AreNamed acts w names → AreNamed (acts ++ a ∷ []) w (names ++ m ∷ [])
names-push w acts a names m len own are i d e = grind (arith, get-left, elements, own, get-push)
