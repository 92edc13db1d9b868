-- The program of a tree holds the tree, and has no fault.
use Rattle.bites_machine.proofs.Library.{cond-false, and_from, common_steps, ◌≡◌, ◌∙◌, ℕ, ◌+◌, ◌*◌, ◌%◌, ◌≤◌, true, false, ◌&&◌, [], ◌∷◌, length, Option, None, Result, refl, lt-ltb, le-leb, eq-eqb, arith, nat_lt, nat_le, ◌==◌, IsTrue, is_none, IfOk, IfSome, nat_tests, Tree, group, captures_len, Program, IsWellFormed, Built, HasForm, Contents, ok_or, first_fault, emit, HasClasses, match, whole, program_of_tree}
use Rattle.bites_spec.proofs.runs.FaultLemmas.{first_fault-IsWellFormed, passed}
use Rattle.bites_text.specs.declared.error.Error.{Error}
use Rattle.bites_machine.proofs.compile.EmitLemmas.{below, Forms, Forms-emit, Forms-grouped, Counts-one, Counts-append_up}
use Rattle.bites_machine.proofs.compile.FaultLemmas.{Sound-emit, Sound-grouped}

from_zero : (q a b : ℕ) → a + below 0 q ≡ b → a ≡ b
from_zero q a b e = grind (arith, nat_tests)

pub whole_forms : (t : Tree) → Forms (λ l. HasForm l (group 0 None t)) 0 (match ∷ []) (whole t)
whole_forms t = Forms-grouped (λ l. HasForm l t) (emit t) (Forms-emit t) 0 0 (match ∷ [])

-- The program of a tree is built from it.
pub Built-compiled : (n : ℕ) (t : Tree) → captures_len t ≤ n → Built t (program_of_tree n t)
Built-compiled n t room =
    let r = whole_forms t in
    let x = r.form (whole t).states (record { same = λ q from below. refl }) in
    let all = Counts-append_up (0 ∷ []) x.0 0 1 (length (whole t).states) (Counts-one 0 1 refl) x.2 in
    record {
      last = 0;
      used = x.0;
      form = x.1;
      ends = r.extends.kept 0 (omega arith);
      each_once = λ q. from_zero q _ _ (all.counts q);
      groups = n;
      slots = refl;
      room = room;
    }

few_enough : (n : ℕ) → n ≤ 4294967295 → nat_lt 4294967295 n ≡ false
few_enough n h = grind (arith, nat_tests)

even_slots : (n : ℕ) → 1 ≤ n → (nat_le 2 (2 * n) && ((2 * n % 2) == 0)) ≡ true
even_slots n some = and_from _ _ (le-leb 2 (2 * n) (omega arith)) (eq-eqb ((2 * n) % 2) 0 (omega arith))

-- The program of a tree has no fault.
pub first_fault-compiled : (n : ℕ) (t : Tree) → captures_len t ≤ n → HasClasses t → length (program_of_tree n t).states ≤ 4294967295 →
    first_fault (program_of_tree n t) ≡ None
first_fault-compiled n t room classes few =
    let len = length (whole t).states in
    let slots = 2 * n in
    let long = (whole_forms t).extends.longer in
    let s = Sound-grouped len slots (λ l. HasForm l t) (emit t) (Forms-emit t) (Sound-emit len slots t classes (omega arith)) 0 (omega arith) 0 (match ∷ []) refl (omega (arith, long)) (omega arith) in
    cond-false _ _ _ (few_enough len few) ∙ (passed _ _ _ (even_slots n (omega arith)) (passed _ _ _ (lt-ltb (whole t).from len s.entered) s.fine))

-- The program of a tree is well-formed.
pub IsWellFormed-compiled : (n : ℕ) (t : Tree) → captures_len t ≤ n → HasClasses t → length (program_of_tree n t).states ≤ 4294967295 →
    IsWellFormed (program_of_tree n t)
IsWellFormed-compiled n t room classes few = first_fault-IsWellFormed (program_of_tree n t) (first_fault-compiled n t room classes few)

-- a program without a fault is well-formed
pub sound_program : (p : Program) → IsTrue (is_none (first_fault p)) → IsWellFormed p
sound_program p h = first_fault-IsWellFormed p (grind (arith, common_steps))

-- what holds of the contents of a program holds of the program that is returned
pub ok_or_program : (o : Option Contents) (r : Result Contents Error) (e : Error) (x : Contents) → r ≡ ok_or o e → IfSome o (λ p. p ≡ x) →
    (P : Contents → Type 0) → P x → IfOk r P
ok_or_program g r e x is made q h = grind (arith, common_steps)
