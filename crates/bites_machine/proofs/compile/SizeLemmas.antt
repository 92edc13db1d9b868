-- Sizes whose numbers saturate.
use Rattle.bites_machine.proofs.Library.{common_steps, ◌≡◌, ℕ, suc, List, [], ◌∷◌, length, refl, ap, arith, Tree, sequence, alternation, trees_of, count, Size, size, size_of, held_size, both_sizes}

count-trees_of : (ts : List Tree) → count (trees_of ts) ≡ length ts
count-trees_of [] = refl
count-trees_of (t ∷ ts) = ap suc (count-trees_of ts)

-- a choice between these parts
pub alternation_size : (ts us : List Tree) (k : ℕ) (all more whole : Size) → all ≡ held_size (size_of (sequence (trees_of us))) → more ≡ size 2 k 0 →
    us ≡ ts → length us ≡ k → whole ≡ held_size (both_sizes all more) → whole ≡ held_size (size_of (alternation (trees_of ts)))
alternation_size ts us k all more whole e f same len g = grind (arith, common_steps, count-trees_of)
