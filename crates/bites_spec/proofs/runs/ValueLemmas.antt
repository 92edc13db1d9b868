-- Each slot of a run holds what the run wrote last to it.
use Rattle.std.proofs.lemmas.Grind.{common_steps}
use Rattle.std.proofs.Common.{◌≡◌, ℕ, zero, suc, ◌<◌, ◌≤◌, List, [], ◌∷◌, ◌++◌, None, refl, subst, ⊎_elim, arith, ◌⊎◌, ltb-true, ne_eqb, max}
use Rattle.std.proofs.lemmas.List.{get_or_past}
use Rattle.std.proofs.lemmas.List.FromFn.{get_or-map-range_with_len, length-map-range_with_len}
use Rattle.bites_spec.specs.Walks.{Among}
use Rattle.bites_spec.specs.Tree.{greatest}
use Rattle.bites_spec.specs.Program.{State, Program, Configuration, state_at, AreStates, IsWellFormed}
use Rattle.bites_spec.specs.Run.{Run, write_of, last_write, writes, written, slots}
use Rattle.bites_spec.specs.Slots.{slot_in}
use Rattle.bites_spec.specs.RunLaws.{SlotsAreWritten}

pub slot_known : (p : Program) (r : Run) (k : ℕ) → k < p.slots → slot_in (slots p r) k ≡ written p r k
slot_known p r k lt = get_or-map-range_with_len (written p r) 0 p.slots k k None lt (omega arith)

pub slot_past : (p : Program) (r : Run) (k : ℕ) → p.slots ≤ k → slot_in (slots p r) k ≡ None
slot_past p r k le =
    get_or_past (slots p r) k None (omega (arith, le, length-map-range_with_len (written p r) 0 p.slots))

-- no element is above the greatest
pub at_most_greatest : (xs : List ℕ) (x : ℕ) → Among xs x → x ≤ greatest xs
at_most_greatest [] x h = absurd h
at_most_greatest (y ∷ xs) x h =
    ⊎_elim (λ (e : y ≡ x). subst (λ z. z ≤ max y (greatest xs)) e (omega arith))
    (λ later. let more = at_most_greatest xs x later in omega (arith, more)) h

pub less_or_not : (k n : ℕ) → (k < n) ⊎ (n ≤ k)
less_or_not k n = grind (arith, common_steps, ltb-true)

-- all writes are to slots below n
abbrev AllBelow : ℕ → List (ℕ × ℕ) → Type 0
AllBelow n [] = Unit {0}
AllBelow n (w ∷ ws) = (w.0 < n) × AllBelow n ws

AllBelow-append : (n : ℕ) (a b : List (ℕ × ℕ)) → AllBelow n a → AllBelow n b → AllBelow n (a ++ b)
AllBelow-append n [] b x y = y
AllBelow-append n (w ∷ a) b x y = (x.0, AllBelow-append n a b x.1 y)

none_above : (n k : ℕ) (ws : List (ℕ × ℕ)) → AllBelow n ws → n ≤ k → last_write ws k ≡ None
none_above n k [] below le = refl
none_above n k (w ∷ ws) below le = grind (arith, common_steps, ne_eqb, (none_above n k ws below.1 le))

-- a state of a well-formed program writes below the number of slots
state_below : (len slots : ℕ) (ss : List State) (q i : ℕ) → AreStates len slots ss → AllBelow slots (write_of (state_at ss q) i)
state_below len slots [] q i are = tt
state_below len slots (s ∷ ss) zero i are = grind arith
state_below len slots (s ∷ ss) (suc q) i are = state_below len slots ss q i are.3

writes_below : (p : Program) → IsWellFormed p → (s : Configuration) (r : List Configuration) → AllBelow p.slots (writes p s r)
writes_below p well s [] = tt
writes_below p well s (t ∷ r) = grind (arith, common_steps, AllBelow-append, state_below, (writes_below p well t r))

-- each slot of a run of a well-formed program holds what the run wrote last to it
pub slots_are_written : SlotsAreWritten
slots_are_written p well r k = grind (arith, common_steps, slot_known, slot_past, none_above, writes_below)
