-- Rows of registers.
use Rattle.bites_table.proofs.Library.{take-set-lt, common_steps, ◌==◌, slice_set, slice_index_or, IfSome, range_with_len, option_map_or, cases_eq, nat_tests, mul-le-mul_right, suc-mul, drop-cons, row_in, ◌≡◌, ◌≢◌, ℕ, zero, suc, ◌+◌, ◌*◌, ◌<◌, ◌≤◌, Bool, cond, List, [], ◌∷◌, ◌++◌, map, drop, length, get_or, set, replicate, Option, Some, None, refl, sym, ap, ap₂, ◌∙◌, add-zero, zero-add, arith, length-take, length-set, get_or-take, get_or-drop, get_or-set_same, get_or-set_other, get_or-replicate, length-replicate, drop-set-add, ext_get_or, Among-append}
use Rattle.std.proofs.lemmas.List.{length-drop}
use Rattle.bites_table.proofs.Words.{Source, unwritten, row_of_register, slots_from, row_at, source_at, with_spare, own_rows, after_step, after_steps, NameRegisters, AreRows, EndsRow, Step}
use Rattle.bites_table.proofs.TransitionLemmas.{none_written}

-- the rows of two registers are apart
pub rows-apart : (a b width : ℕ) → a < b → a * width + width ≤ b * width
rows-apart a b width lt = grind (arith, common_steps, mul-le-mul_right, suc-mul)

-- two slots that are written are a row
pub two-set : (slots : List (Option ℕ)) (a b : Option ℕ) (row : List (Option ℕ)) → length slots ≡ 2 → length row ≡ 2 → a ≡ slice_index_or row 0 None → b ≡ slice_index_or row 1 None →
    slice_set (slice_set slots 0 a) 1 b ≡ row
two-set (x ∷ y ∷ []) a b (u ∷ v ∷ []) e f first second = ap₂ (λ (m n : Option ℕ). m ∷ n ∷ []) first second
two-set [] a b row e f first second = absurd (omega arith)
two-set (x ∷ []) a b row e f first second = absurd (omega arith)
two-set (x ∷ y ∷ z ∷ more) a b row e f first second = absurd (omega arith)
two-set (x ∷ y ∷ []) a b [] e f first second = absurd (omega arith)
two-set (x ∷ y ∷ []) a b (u ∷ []) e f first second = absurd (omega arith)
two-set (x ∷ y ∷ []) a b (u ∷ v ∷ w ∷ more) e f first second = absurd (omega arith)

-- a row lies in the slots of all registers
pub row-room : (r count width : ℕ) (registers : List (Option ℕ)) → r < count → count * width ≤ length registers → r * width + width ≤ length registers
row-room r count width registers lt room = grind (arith, common_steps, rows-apart)

pub row-length : (registers : List (Option ℕ)) (width r : ℕ) → r * width + width ≤ length registers → length (row_in registers width r) ≡ width
row-length registers width r room = grind (arith, common_steps, length-take, length-drop)

row-slot : (registers : List (Option ℕ)) (width r k : ℕ) → k < width → get_or (row_in registers width r) k None ≡ get_or registers (r * width + k) None
row-slot registers width r k lt = get_or-take width (drop (r * width) registers) k None lt ∙ get_or-drop (r * width) registers k None

-- two rows with the same slots
pub same-row : (registers others : List (Option ℕ)) (width r q : ℕ) → r * width + width ≤ length registers → q * width + width ≤ length others →
    ((k : ℕ) → k < width → get_or registers (r * width + k) None ≡ get_or others (q * width + k) None) → row_in registers width r ≡ row_in others width q
same-row registers others width r q room more same =
    let a = row-length registers width r room in
    let b = row-length others width q more in
    ext_get_or None (row_in registers width r) (row_in others width q) (a ∙ sym b)
    (λ k lt. let within : k < width = omega arith in row-slot registers width r k within ∙ same k within ∙ sym (row-slot others width q k within))

-- a row in which nothing is written
pub blank-row : (registers : List (Option ℕ)) (width r : ℕ) → r * width + width ≤ length registers →
    ((k : ℕ) → k < width → get_or registers (r * width + k) None ≡ None) → row_in registers width r ≡ replicate width None
blank-row registers width r room none =
    let a = row-length registers width r room in
    ext_get_or None (row_in registers width r) (replicate width None) (a ∙ sym (length-replicate width None))
    (λ k lt. let within : k < width = omega arith in row-slot registers width r k within ∙ none k within ∙ sym (get_or-replicate width k None None within))

-- a slot of a row is written
pub written-row : (registers : List (Option ℕ)) (width r slot : ℕ) (x : Option ℕ) → r * width + width ≤ length registers → slot < width →
    row_in (slice_set registers (r * width + slot) x) width r ≡ slice_set (row_in registers width r) slot x
written-row registers width r slot x room lt = grind (arith, drop-set-add, take-set-lt)

-- the other rows stay
pub other-row : (registers : List (Option ℕ)) (width r q slot : ℕ) (x : Option ℕ) → r * width + width ≤ length registers → q * width + width ≤ length registers → slot < width → q ≢ r →
    row_in (slice_set registers (r * width + slot) x) width q ≡ row_in registers width q
other-row registers width r q slot x room more lt ne = grind (arith, length-set, same-row, get_or-set_other, rows-apart)

-- two slots of a row are written
abbrev pub with_two : List (Option ℕ) → ℕ → Option ℕ → Option ℕ → List (Option ℕ)
with_two registers r a b = slice_set (slice_set registers (r * 2) a) (r * 2 + 1) b

module _ (registers : List (Option ℕ)) (r : ℕ) (a b : Option ℕ) (room : r * 2 + 2 ≤ length registers) where
  pub two-row : row_in (with_two registers r a b) 2 r ≡ a ∷ b ∷ []
  two-row =
      let first : slice_set registers (r * 2) a ≡ slice_set registers (r * 2 + 0) a = ap (λ n. slice_set registers n a) (sym (add-zero (r * 2))) in
      let l = length-set registers (r * 2) a in
      written-row (slice_set registers (r * 2) a) 2 r 1 b (omega arith) (omega arith)
      ∙ ap (λ (row : List (Option ℕ)). slice_set row 1 b) (ap (λ (all : List (Option ℕ)). row_in all 2 r) first ∙ written-row registers 2 r 0 a room (omega arith))
      ∙ two-set (row_in registers 2 r) a b (a ∷ b ∷ []) (row-length registers 2 r room) refl refl refl

  pub two-others : (q : ℕ) → q * 2 + 2 ≤ length registers → q ≢ r → row_in (with_two registers r a b) 2 q ≡ row_in registers 2 q
  two-others q more ne =
      let l = length-set registers (r * 2) a in
      let first = other-row registers 2 r q 0 a room more (omega arith) ne in
      other-row (slice_set registers (r * 2) a) 2 r q 1 b (omega arith) (omega arith) (omega arith) ne ∙ rw add-zero at first

-- a row of two slots
two-slots : (registers : List (Option ℕ)) (r : ℕ) → r * 2 + 2 ≤ length registers → row_in registers 2 r ≡ get_or registers (r * 2) None ∷ get_or registers (r * 2 + 1) None ∷ []
two-slots registers r room = grind (arith, common_steps, drop-cons)

-- the row of a register that ends at the place
pub ended-row : (registers : List (Option ℕ)) (register place : ℕ) → register * 2 + 2 ≤ length registers → (s : Source) → EndsRow register s →
    row_at 2 place (row_in registers 2) s ≡ get_or registers (register * 2) None ∷ Some place ∷ []
ended-row registers register place room s ends = grind (arith, common_steps, drop-cons)

-- slots from an index on, with one more written
pub written-more : (slots : List (Option ℕ)) (first n : ℕ) (x : Option ℕ) (source : ℕ → Option ℕ) → first + n < length slots → x ≡ source n →
    ((k : ℕ) → k < n → get_or slots (first + k) None ≡ source k) → (k : ℕ) → k < n + 1 → get_or (set slots (first + n) x) (first + k) None ≡ source k
written-more slots first n x source lt e before = grind (arith, common_steps, get_or-set_other, get_or-set_same)

-- both slots of a row are those of another
pub copied-two : (registers : List (Option ℕ)) (to from : ℕ) (a b : Option ℕ) → to * 2 + 2 ≤ length registers → from * 2 + 2 ≤ length registers →
    a ≡ get_or registers (from * 2) None → b ≡ get_or (slice_set registers (to * 2) a) (from * 2 + 1) None → row_in (with_two registers to a b) 2 to ≡ row_in registers 2 from
copied-two registers to from a b room more first second = grind (arith, common_steps, get_or-set_other, two-slots)

-- where the slots of one row were written, the others stay
pub others-kept : (old now : List (Option ℕ)) (count to width n : ℕ) → n ≤ width → count * width ≤ length now → length now ≡ length old →
    ((k : ℕ) → k < to * width → get_or now k None ≡ get_or old k None) → ((k : ℕ) → to * width + n ≤ k → get_or now k None ≡ get_or old k None) →
    (r : ℕ) → r < count → r ≢ to → row_in now width r ≡ row_in old width r
others-kept old now count to width n le room same below above r lt ne =
    same-row now old width r r (row-room r count width now lt room) (let own = row-room r count width now lt room in omega arith) (λ k within. grind (arith, rows-apart))

-- one register gets another row
pub set-rows : (before old new : List (Option ℕ)) (width place : ℕ) (ss : List Source) (to : ℕ) (s : Source) → length ss ≡ with_spare → to < with_spare →
    row_in new width to ≡ row_at width place (row_in before width) s →
    ((r : ℕ) → r < with_spare → r ≢ to → row_in new width r ≡ row_in old width r) →
    AreRows before width place ss old → AreRows before width place (slice_set ss to s) new
set-rows before old new width place ss to s len within own others rows r lt = grind (arith, common_steps, get_or-set_same, get_or-set_other, cases_eq)

pub blank-at : (width place : ℕ) (registers : ℕ → List (Option ℕ)) → row_at width place registers unwritten ≡ replicate width None
blank-at width place registers = none_written place 0 (replicate width None)

-- the rows of registers before any step
own-rows-is : own_rows ≡ map row_of_register (range_with_len 0 with_spare)
unfolding own_rows
own-rows-is = refl

pub own-row : (r : ℕ) → r < with_spare → source_at own_rows r ≡ row_of_register r
own-row r lt = ap (λ (ss : List Source). source_at ss r) own-rows-is ∙ at 0 with_spare r lt ∙ ap row_of_register (zero-add r)
  where
    at : (a n r : ℕ) → r < n → source_at (map row_of_register (range_with_len a n)) r ≡ row_of_register (a + r)
    at a zero r lt = absurd (omega arith)
    at a (suc n) zero lt = ap row_of_register (sym (add-zero a))
    at a (suc n) (suc r) lt = at (a + 1) n r (omega arith) ∙ ap row_of_register (omega arith)

pub own-rows-length : length own_rows ≡ with_spare
own-rows-length = ap length own-rows-is

pub own-rows-are : (registers : List (Option ℕ)) (width place : ℕ) → AreRows registers width place own_rows registers
own-rows-are registers width place r lt = grind (arith, common_steps, own-row, none_written)

step-length : (s : Step) (ss : List Source) → length (after_step s ss) ≡ length ss
step-length s ss = grind (arith, common_steps, length-set)

pub steps-length : (steps : List Step) (ss : List Source) → length (after_steps steps ss) ≡ length ss
steps-length [] ss = refl
steps-length (s ∷ steps) ss = steps-length steps (after_step s ss) ∙ step-length s ss

pub one-step-more : (steps : List Step) (s : Step) (ss : List Source) → after_steps (steps ++ s ∷ []) ss ≡ after_step s (after_steps steps ss)
one-step-more [] s ss = refl
one-step-more (t ∷ steps) s ss = one-step-more steps s (after_step t ss)

base-length : (o : Option ℕ) (width : ℕ) (registers : List (Option ℕ)) → ((r : ℕ) → o ≡ Some r → r * width + width ≤ length registers) →
    length (option_map_or (row_in registers width) o (replicate width None)) ≡ width
base-length o width registers room = grind (arith, common_steps, length-replicate, row-length)

-- a slot where places were written
pub slots-at : (place : ℕ) (writes : ℕ → Bool) (a : ℕ) (xs : List (Option ℕ)) (k : ℕ) (d : Option ℕ) → k < length xs →
    slice_index_or (slots_from place writes a xs) k d ≡ cond (writes (a + k)) (Some place) (slice_index_or xs k d)
slots-at place writes a [] k d lt = absurd (omega arith)
slots-at place writes a (x ∷ xs) zero d lt = ap (λ n. cond (writes n) (Some place) x) (sym (add-zero a))
slots-at place writes a (x ∷ xs) (suc k) d lt = slots-at place writes (suc a) xs k d (omega arith) ∙ ap (λ n. cond (writes n) (Some place) (slice_index_or xs k d)) (omega arith)

-- a slot of the row of a source
pub slot-at : (width place slot : ℕ) (registers : List (Option ℕ)) (s : Source) → slot < width →
    ((r : ℕ) → s.register ≡ Some r → r * width + width ≤ length registers) → (d : Option ℕ) →
    slice_index_or (row_at width place (row_in registers width) s) slot d
    ≡ cond (s.writes slot) (Some place) (option_map_or (λ r. slice_index_or registers (r * width + slot) None) s.register None)
slot-at width place slot registers s lt room d = grind (arith, common_steps, slots-at, base-length, zero-add, get_or-replicate, row-length, row-slot)

-- and one that was made so
pub slot-is : (x : Option ℕ) (b : Bool) (width place slot : ℕ) (registers : List (Option ℕ)) (s : Source) → slot < width →
    ((r : ℕ) → s.register ≡ Some r → r * width + width ≤ length registers) → b ≡ s.writes slot →
    x ≡ cond b (Some place) (option_map_or (λ r. slice_index_or registers (r * width + slot) None) s.register None) →
    x ≡ slice_index_or (row_at width place (row_in registers width) s) slot None
slot-is x b width place slot registers s lt room is e = grind (arith, common_steps, slot-at)

pub row-at-length : (width place : ℕ) (registers : List (Option ℕ)) (s : Source) → ((r : ℕ) → s.register ≡ Some r → r * width + width ≤ length registers) →
    length (row_at width place (row_in registers width) s) ≡ width
row-at-length width place registers s room = grind (arith, kept, base-length)
  where
    kept : (writes : ℕ → Bool) (a : ℕ) (xs : List (Option ℕ)) → length (slots_from place writes a xs) ≡ length xs
    kept writes a [] = refl
    kept writes a (x ∷ xs) = ap suc (kept writes (suc a) xs)

pub some-room : (o : Option ℕ) (width : ℕ) (registers : List (Option ℕ)) → IfSome o (λ r. r * width + width ≤ length registers) → (r : ℕ) → o ≡ Some r → r * width + width ≤ length registers
some-room o width registers room r e = grind (arith, common_steps)

pub names-more : (a b new : List Step) → new ≡ a ++ b → NameRegisters a → NameRegisters b → NameRegisters new
names-more a b new e first then s is = grind (arith, common_steps, Among-append)

-- one slot of all rows is written
pub indexed-row : (registers : List (Option ℕ)) (width r index place : ℕ) → r * width + width ≤ length registers →
    row_in (slice_set registers index (Some place)) width r ≡ row_at width place (row_in registers width) (record { register = Some r; writes = λ k. r * width + k == index })
indexed-row registers width r index place room =
    let l = length-set registers index (Some place) in
    let n = row-length (slice_set registers index (Some place)) width r (omega arith) in
    ext_get_or None (row_in (slice_set registers index (Some place)) width r) (row_at width place (row_in registers width) source)
    (n ∙ sym (row-at-length width place registers source (λ q e. there q e)))
    (λ k lt. let within : k < width = omega arith in
    row-slot (slice_set registers index (Some place)) width r k within
    ∙ slot-set k within
    ∙ sym (slot-at width place k registers source within (λ q e. there q e) None))
  where
    source : Source
    source = record { register = Some r; writes = λ k. r * width + k == index }

    there : (q : ℕ) → Some r ≡ Some q → q * width + width ≤ length registers
    there q e = grind arith

    slot-set : (k : ℕ) → k < width → get_or (slice_set registers index (Some place)) (r * width + k) None ≡ cond (r * width + k == index) (Some place) (get_or registers (r * width + k) None)
    slot-set k lt = grind (arith, common_steps, nat_tests, get_or-set_same, get_or-set_other, cases_eq)
