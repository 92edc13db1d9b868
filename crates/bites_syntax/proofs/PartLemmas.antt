-- Faults of parts.
use Rattle.std.proofs.Common.{◌≡◌, ◌≤◌, ◌<◌, Ok, Err, Some, Result, ◌∷◌, ℕ, length}
use Rattle.std.specs.Prelude.{OnOk}
use Rattle.std.proofs.lemmas.Bool.{ne_eqb}
use Rattle.bites_spec.specs.Pattern.{Text, Flags, right_brace}
use Rattle.bites_spec.specs.Reader.{Stop, ReadResult, and_then, after_comma, after_max, after_min, counted, decimal}
use Rattle.bites_syntax.specs.declared.refusal.Refusal.{Refusal}
use Rattle.bites_syntax.specs.Parts.{ReadsOn, ReadsSome, fault_in}

-- a first part's fault is that of the whole
pub fault_in_first : {A B : Type 0} (a : ReadResult A) (f : A → Text → Result B Stop) (e : Refusal) → fault_in a ≡ Some e → fault_in (and_then a f) ≡ Some e
fault_in_first (Ok x) f e fault = let wrong : fault_in (Ok x) ≡ Some e = fault in cc
fault_in_first (Err s) f e fault = fault

-- after the comma, a fault of the second decimal
pub after_comma_fault : (n : ℕ) (flags : Flags) (min : ℕ) (t u : Text) (c : ℕ) (e : Refusal) → t ≡ c ∷ u → (c ≡ right_brace → ⊥) →
    fault_in (decimal n flags t) ≡ Some e → fault_in (after_comma n flags min t) ≡ Some e
after_comma_fault n flags min t u c e at other fault =
    let first : fault_in (decimal n flags (c ∷ u)) ≡ Some e = rw (← at) fault in
    rw at (rw (ne_eqb c right_brace other) (fault_in_first (decimal n flags (c ∷ u)) (after_max flags min) e first))

-- a fault of the first decimal
pub counted_fault : (n : ℕ) (flags : Flags) (t u : Text) (c : ℕ) (e : Refusal) → t ≡ c ∷ u → fault_in (decimal n flags t) ≡ Some e →
    fault_in (counted n flags t) ≡ Some e
counted_fault n flags t u c e at fault =
    let first : fault_in (decimal n flags (c ∷ u)) ≡ Some e = rw (← at) fault in
    rw at (fault_in_first (decimal n flags (c ∷ u)) (after_min n flags) e first)

-- what a part of the parser reads, and that no more text is left
pub no_longer : {old new : Text} {P : Type 0} → length new ≤ length old → P → ReadsOn old new P
no_longer forward reads = record { reads = reads; forward = forward }

-- the same of a part that reads something
pub reads_some : {A : Type 0} {result : Result A Refusal} {old new : Text} {P : Type 0} → length new ≤ length old → OnOk result (length new < length old) → P →
    ReadsSome result old new P
reads_some forward progress reads = record { reads = reads; forward = forward; progress = progress }
