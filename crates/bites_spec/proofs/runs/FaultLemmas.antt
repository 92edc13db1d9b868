-- A program is well-formed exactly if `first_fault` finds no fault.
use Rattle.std.proofs.lemmas.Grind.{common_steps}
use Rattle.std.proofs.Common.{◌≡◌, ℕ, ◌*◌, ◌%◌, ◌/◌, ◌<◌, ◌≤◌, Bool, true, false, not, cond, ◌&&◌, List, [], ◌∷◌, Option, Some, None, refl, sym, ap₂, subst, inl, inr, ⊎_elim, true≢false, arith, ltb-true, ltb-false, lt-ltb, leb-true, le-leb, eqb-true, eq-eqb}
use Rattle.std.specs.Prelude.{nat_lt, nat_le}
use Rattle.std.specs.List.{list_all}
use Rattle.std.proofs.lemmas.Option.{none-some}
use Rattle.std.proofs.lemmas.Bool.{and_parts}
use Rattle.bites_spec.specs.Walks.{Among, first_among}
use Rattle.bites_spec.specs.Program.{State, Program, targets_of, AreRanges, HasRanges, HasSlot, AreStates, IsWellFormed}
use Rattle.bites_spec.specs.Program as program
use Rattle.bites_spec.specs.ProgramFaults.{ProgramFault, too_many, bad_slot, bad_target, bad_ranges, are_ranges, has_ranges, has_slot, fault_of, first_fault}
use Rattle.bites_spec.proofs.runs.FirstLemmas.{or_none}

-- where the check finds no fault, the test holds, and the rest of the check finds none
no_fault : (b : Bool) (f : ProgramFault) (rest : Option ProgramFault) → cond (not b) (Some f) rest ≡ None → (b ≡ true) × (rest ≡ None)
no_fault true f rest e = (refl, e)
no_fault false f rest e = absurd (none-some f (sym e))

all_targets : (len : ℕ) (qs : List ℕ) → list_all (λ q. nat_lt q len) qs ≡ true → (q : ℕ) → Among qs q → q < len
all_targets len [] e q h = absurd h
all_targets len (x ∷ qs) e q h =
    let both = and_parts (nat_lt x len) (list_all (λ q. nat_lt q len) qs) e in
    ⊎_elim (λ (is : x ≡ q). subst (λ y. y < len) is (ltb-true x len both.0)) (λ later. all_targets len qs both.1 q later) h

ranges_are : (rs : List (ℕ × ℕ)) → are_ranges rs ≡ true → AreRanges rs
ranges_are [] e = tt
ranges_are (r ∷ []) e = leb-true r.0 r.1 e
ranges_are (r ∷ s ∷ rs) e =
    let both = and_parts (nat_le r.0 r.1) (nat_lt r.1 s.0 && are_ranges (s ∷ rs)) e in
    let more = and_parts (nat_lt r.1 s.0) (are_ranges (s ∷ rs)) both.1 in
    (leb-true r.0 r.1 both.0, ltb-true r.1 s.0 more.0, ranges_are (s ∷ rs) more.1)

state_ranges : (s : State) → has_ranges s ≡ true → HasRanges s
state_ranges (program.ranges q rs) e = ranges_are rs e
state_ranges (program.char q c) e = tt
state_ranges (program.splits qs b) e = tt
state_ranges (program.goto q l) e = tt
state_ranges (program.capture q k) e = tt
state_ranges program.fail e = tt
state_ranges program.match e = tt

state_slot : (slots : ℕ) (s : State) → has_slot slots s ≡ true → HasSlot slots s
state_slot slots (program.capture q k) e = ltb-true k slots e
state_slot slots (program.char q c) e = tt
state_slot slots (program.ranges q rs) e = tt
state_slot slots (program.splits qs b) e = tt
state_slot slots (program.goto q l) e = tt
state_slot slots program.fail e = tt
state_slot slots program.match e = tt

states_are : (len slots : ℕ) (ss : List State) → first_among (fault_of len slots) ss ≡ None → AreStates len slots ss
states_are len slots [] e = tt
states_are len slots (s ∷ ss) e =
    let both = or_none (fault_of len slots s) (first_among (fault_of len slots) ss) e in
    let one = no_fault (list_all (λ q. nat_lt q len) (targets_of s)) bad_target _ both.0 in
    let two = no_fault (has_ranges s) bad_ranges _ one.1 in
    let three = no_fault (has_slot slots s) bad_slot _ two.1 in
    (all_targets len (targets_of s) one.0, state_ranges s two.0, state_slot slots s three.0, states_are len slots ss both.1)

within : (n : ℕ) (rest : Option ProgramFault) → cond (nat_lt 4294967295 n) (Some too_many) rest ≡ None → (n ≤ 4294967295) × (rest ≡ None)
within n rest e = grind (arith, common_steps, none-some, ltb-false)

halved : (n : ℕ) → n % 2 ≡ 0 → (k : ℕ) × (n ≡ 2 * k)
halved n e = (n / 2, omega arith)

pub first_fault-IsWellFormed : (p : Program) → first_fault p ≡ None → IsWellFormed p
first_fault-IsWellFormed p e = grind (arith, common_steps, within, no_fault, and_parts, leb-true, halved, eqb-true, ltb-true, states_are)

-- and conversely: where the test holds and the rest of the check finds no fault, the check finds none
pub passed : (b : Bool) (f : ProgramFault) (rest : Option ProgramFault) → b ≡ true → rest ≡ None → cond (not b) (Some f) rest ≡ None
passed true f rest is none = none
passed false f rest is none = absurd (true≢false (sym is))

targets_there : (len : ℕ) (qs : List ℕ) → ((q : ℕ) → Among qs q → q < len) → list_all (λ q. nat_lt q len) qs ≡ true
targets_there len [] all = refl
targets_there len (x ∷ qs) all = ap₂ ◌&&◌ (lt-ltb x len (all x (inl refl))) (targets_there len qs (λ q h. all q (inr h)))

ranges_hold : (rs : List (ℕ × ℕ)) → AreRanges rs → are_ranges rs ≡ true
ranges_hold [] h = refl
ranges_hold (r ∷ []) h = le-leb r.0 r.1 h
ranges_hold (r ∷ s ∷ rs) h = ap₂ ◌&&◌ (le-leb r.0 r.1 h.0) (ap₂ ◌&&◌ (lt-ltb r.1 s.0 h.1) (ranges_hold (s ∷ rs) h.2))

has_its_ranges : (s : State) → HasRanges s → has_ranges s ≡ true
has_its_ranges (program.ranges q rs) h = ranges_hold rs h
has_its_ranges (program.char q c) h = refl
has_its_ranges (program.splits qs b) h = refl
has_its_ranges (program.goto q l) h = refl
has_its_ranges (program.capture q k) h = refl
has_its_ranges program.fail h = refl
has_its_ranges program.match h = refl

has_its_slot : (slots : ℕ) (s : State) → HasSlot slots s → has_slot slots s ≡ true
has_its_slot slots (program.capture q k) h = lt-ltb k slots h
has_its_slot slots (program.char q c) h = refl
has_its_slot slots (program.ranges q rs) h = refl
has_its_slot slots (program.splits qs b) h = refl
has_its_slot slots (program.goto q l) h = refl
has_its_slot slots program.fail h = refl
has_its_slot slots program.match h = refl

states_pass : (len slots : ℕ) (ss : List State) → AreStates len slots ss → first_among (fault_of len slots) ss ≡ None
states_pass len slots [] are = refl
states_pass len slots (s ∷ ss) are = grind (arith, common_steps, passed, targets_there, has_its_ranges, has_its_slot, (states_pass len slots ss are.3))

few_enough : (n : ℕ) (rest : Option ProgramFault) → n ≤ 4294967295 → rest ≡ None → cond (nat_lt 4294967295 n) (Some too_many) rest ≡ None
few_enough n rest le none = grind (arith, common_steps, ltb-true)

is_even : (n k : ℕ) → n ≡ 2 * k → n % 2 ≡ 0
is_even n k e = omega (arith, e)

pub IsWellFormed-first_fault : (p : Program) → IsWellFormed p → first_fault p ≡ None
IsWellFormed-first_fault p well = grind (arith, common_steps, few_enough, passed, le-leb, eq-eqb, is_even, lt-ltb, states_pass)
