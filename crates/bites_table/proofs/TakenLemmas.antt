-- Bits of the classes that states take.
use Rattle.bites_table.proofs.Library.{common_steps, ◌==◌, slice_index_or, cases_eq, nat_tests, get_or_append_left, get_or_push, get_or-map, get_or_default, length-map, State, Program, state_at, takes, char, ranges, has_bit, ◌≡◌, ℕ, ◌+◌, ◌*◌, ◌%◌, ◌^◌, ◌<◌, ◌≤◌, ◌⊎◌, inr, ⊎_elim, Bool, true, false, cond, List, [], ◌∷◌, ◌++◌, map, take, length, Option, refl, sym, ap, ◌∙◌, arith, bit_and, bit_or, length-append, append_assoc, w64, bit_at, bit_not, bit_at_and, bit_at_not, bit_at_above, bit_at-lt, targets_over, takes_by, state_of, states_of, cases_lt}
use Rattle.bites_machine.specs.declared.state.State as code
use Rattle.bites_table.proofs.Words.{Classes, Thread, Source, thread_with, taken, source_of, frame_of, AreTaken, Frame}
use Rattle.bites_table.proofs.FrameLemmas.{has_bit-set}
use Rattle.bites_table.proofs.RegisterLemmas.{taken-one}

-- where a state leads over what it takes
leads : State → List ℕ
leads (char q c) = q ∷ []
leads (ranges q rs) = q ∷ []
leads _ = []

by-taken : (o : Option ℕ) (st : State) → targets_over o st ≡ cond (takes_by (takes st) o) (leads st) []
unfolding leads
by-taken o st = grind arith

-- what a state doesn't take leads nowhere
pub refused : (o : Option ℕ) (st : State) → takes_by (takes st) o ≡ false → targets_over o st ≡ []
refused o st e = by-taken o st ∙ ap (λ b. cond b (leads st) []) e

-- two characters that one more thread takes alike
pub taken-alike : (p : Program) (o u : Option ℕ) (fs : List Frame) (i : ℕ) (none : Frame) → i < length fs →
    (let st = state_at p.states (slice_index_or fs i none).state in takes_by (takes st) o ≡ takes_by (takes st) u) →
    taken p o (map frame_of (take i fs)) ≡ taken p u (map frame_of (take i fs)) → taken p o (map frame_of (take (i + 1) fs)) ≡ taken p u (map frame_of (take (i + 1) fs))
taken-alike p o u fs i none lt same before =
    let f = slice_index_or fs i none in
    let st = state_at p.states f.state in
    sym (taken-one p o fs i none st lt refl) ∙ ap (λ ts. ts ++ map (thread_with (source_of f.source)) (targets_over o st)) before
    ∙ ap (λ qs. taken p u (map frame_of (take i fs)) ++ map (thread_with (source_of f.source)) qs) (by-taken o st ∙ ap (λ b. cond b (leads st) []) same ∙ sym (by-taken u st))
    ∙ taken-one p u fs i none st lt refl

-- the bits of the classes that one more thread takes alike
pub alike-bits : (alike own class m c : ℕ) → alike < 2 ^ 64 → own < 2 ^ 64 → ((has_bit own class ≡ true) × (m ≡ own)) ⊎ ((has_bit own class ≡ false) × (m ≡ bit_not w64 own)) →
    has_bit (bit_and alike m) c ≡ true → (c < 64) × (has_bit alike c ≡ true) × (has_bit own c ≡ has_bit own class)
alike-bits alike own class m c fits own-fits by bit =
    let both : bit_at (bit_and alike m) c ≡ 1 = is-one (bit_at (bit_and alike m) c) bit in
    let least = bit_at_and alike m c in
    let low = bit_at-lt alike c in
    let low-too = bit_at-lt m c in
    let second : bit_at m c ≡ 1 = omega arith in
    let within : c < 64 = ⊎_elim (λ lt. lt) (λ (le : 64 ≤ c). absurd (let none = bit_at_above alike 64 c fits le in omega arith)) (cases_lt c 64) in
    let turned = bit_at_not w64 own c own-fits within in
    (within, grind (arith, nat_tests), grind (arith, nat_tests))
  where
    is-one : (n : ℕ) → (n == 1) ≡ true → n ≡ 1
    is-one n e = grind (arith, nat_tests)

-- one more class
pub bits-more : (old new class : ℕ) (b : Bool) (f : ℕ → Bool) → class < 64 →
    ((b ≡ true) × (new ≡ bit_or old (1 * 2 ^ class % 18446744073709551616))) ⊎ ((b ≡ false) × (new ≡ old)) → b ≡ f class →
    ((c : ℕ) → c < class → has_bit old c ≡ f c) → ((c : ℕ) → class ≤ c → has_bit old c ≡ false) →
    ((c : ℕ) → c < class + 1 → has_bit new c ≡ f c) × ((c : ℕ) → class + 1 ≤ c → has_bit new c ≡ false)
bits-more old new class b f lt by is done none = grind (arith, common_steps, cases_eq, cases_lt, nat_tests, has_bit-set)

-- one more state
pub taken-push : (p : Program) (k : Classes) (bits : List ℕ) (i b : ℕ) → length bits ≡ i → AreTaken p k bits →
    ((c : ℕ) → c < 64 → has_bit b c ≡ takes_by (takes (state_at p.states i)) (k.member c)) → AreTaken p k (bits ++ b ∷ [])
taken-push p k bits i b len are own q c lt few = grind (arith, get_or_append_left, length-append, get_or_push, cases_lt)

-- a state by its number
pub state-is : (ss : List code.State) (i : ℕ) (s : code.State) → s ≡ slice_index_or ss i s → i < length ss → state_of s ≡ state_at (states_of ss) i
state-is ss i s is lt = grind (arith, common_steps, length-map, get_or-map, get_or_default)

-- threads after others
pub taken-append : (p : Program) (o : Option ℕ) (ts us : List (Thread Source)) → taken p o (ts ++ us) ≡ taken p o ts ++ taken p o us
taken-append p o [] us = refl
taken-append p o (t ∷ ts) us = grind (arith, common_steps, append_assoc, (taken-append p o ts us))

-- one more thread that doesn't take the character
pub taken-none : (p : Program) (o : Option ℕ) (fs : List Frame) (i : ℕ) (none : Frame) → i < length fs → takes_by (takes (state_at p.states (slice_index_or fs i none).state)) o ≡ false →
    taken p o (map frame_of (take i fs)) ≡ [] → taken p o (map frame_of (take (i + 1) fs)) ≡ []
taken-none p o fs i none lt lacks before =
    let f = slice_index_or fs i none in
    let st = state_at p.states f.state in
    sym (taken-one p o fs i none st lt refl) ∙ ap (λ ts. ts ++ map (thread_with (source_of f.source)) (targets_over o st)) before
    ∙ ap (map (thread_with (source_of f.source))) (refused o st lacks)

-- the bits of the classes that one more state doesn't take
pub refused-bits : (bits own c : ℕ) → bits < 2 ^ 64 → own < 2 ^ 64 → has_bit (bit_and bits (bit_not w64 own)) c ≡ true → (c < 64) × (has_bit bits c ≡ true) × (has_bit own c ≡ false)
refused-bits bits own c fits own-fits bit =
    let above : has_bit own 64 ≡ false = let none = bit_at_above own 64 64 own-fits (omega arith) in grind (arith, nat_tests) in
    let both = alike-bits bits own 64 (bit_not w64 own) c fits own-fits (inr (above, refl)) bit in
    (both.0, both.1, both.2 ∙ above)
