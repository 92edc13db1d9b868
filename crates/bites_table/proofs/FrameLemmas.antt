-- Frames that are pushed, the last one first, and the bits of their sources.
use Rattle.bites_table.proofs.Library.{◌≡◌, ℕ, zero, suc, ◌*◌, ◌%◌, ◌^◌, ◌<◌, Bool, true, false, ◌||◌, List, [], ◌∷◌, length, sym, ap, ◌∙◌, subst, arith, ⊎_elim, bit_or, ◌==◌, w64, cases_Bool, nat_tests, has_bit, bit_at_set_same, bit_at_set_other, state_at, AreStates, HasRanges, IsWellFormed}
use mathlib.Core.Path.{fun_ext}
use Rattle.bites_spec.specs.Program as program
use Rattle.bites_table.proofs.Words.{write, source_of}
use Rattle.bites_table.specs.declared.thread_list.Source.{Source}

-- one more bit
pub has_bit-set : (bits slot k : ℕ) → slot < 64 → has_bit (bit_or bits (1 * 2 ^ slot % 18446744073709551616)) k ≡ ((k == slot) || has_bit bits k)
has_bit-set bits slot k within =
    ⊎_elim
    (λ (e : (k == slot) ≡ true).
    let is : k ≡ slot = grind (arith, nat_tests) in
    let one = bit_at_set_same w64 bits slot within in
    rw is (ap (λ x. x == 1) one ∙ grind (arith, nat_tests)))
    (λ (e : (k == slot) ≡ false).
    let other : k ≡ slot → ⊥ = λ is. grind (arith, nat_tests) in
    ap (λ x. x == 1) (bit_at_set_other w64 bits slot within k other) ∙ ap (λ b. b || has_bit bits k) (sym e))
    (cases_Bool (k == slot))

-- a source with one more slot written
pub source-written : (s : Source) (slot : ℕ) → slot < 64 → source_of (record { register = s.register; writes = bit_or s.writes (1 * 2 ^ slot % 18446744073709551616) }) ≡ write slot (source_of s)
source-written s slot within = ap (λ (h : ℕ → Bool). record { register = s.register; writes = h }) (fun_ext (λ k. has_bit-set s.writes slot k within))

ranges_rise : (len slots : ℕ) (ss : List program.State) (q : ℕ) → AreStates len slots ss → q < length ss → HasRanges (state_at ss q)
ranges_rise len slots [] q are lt = absurd (omega arith)
ranges_rise len slots (s ∷ ss) zero are lt = are.1
ranges_rise len slots (s ∷ ss) (suc q) are lt = ranges_rise len slots ss q are.3 (omega arith)

-- the ranges of a state of a program are in order
pub has_ranges : (p : program.Program) → IsWellFormed p → (s : program.State) (q : ℕ) → q < length p.states → s ≡ state_at p.states q → HasRanges s
has_ranges p well s q lt is = subst HasRanges (sym is) (ranges_rise (length p.states) p.slots p.states q well.states lt)
