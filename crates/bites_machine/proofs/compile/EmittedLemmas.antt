-- Steps of the code that writes the states of a tree.
use Rattle.bites_machine.proofs.Library.{length_push, common_steps, ◌≡◌, ℕ, zero, suc, ◌+◌, ◌-◌, ◌<◌, ◌≤◌, false, List, [], ◌∷◌, ◌++◌, length, get_or, drop, None, Result, IfOk, sym, ap, ◌∙◌, subst, arith, append_assoc, Tree, alternation, tree_and, trees_of, IsReduced, AllAreReduced, State, tree_of, Kind, Emitted, emitted, pushed, Branches, branches, emit, emit_all, emit_each, parts_from, parts_end, goto, splits}
use Rattle.std.specs.declared.alloc.AllocError.{AllocError}
use Rattle.bites_machine.proofs.compile.EmitLemmas.{Forms-emit}

-- branches after others
abbrev pub with_rounds : List ℕ → Branches → Branches
with_rounds rounds b = branches b.states (rounds ++ b.rounds)

-- a state that was reserved is there still, once a tree was written
pub reserved : (t : Tree) (s : State) (ss one new : List State) (place from : ℕ) → emitted one place ≡ pushed ss s →
    emitted new from ≡ emit t place one → place < length new
reserved t s ss one new place from e f =
    let is = ap (λ (x : Emitted). x.from) e in
    let len = ap (λ (x : Emitted). length x.states) e in
    let more = ap (λ (x : Emitted). length x.states) f in
    omega (arith, length_push ss s, (Forms-emit t place one).extends.longer)

-- each of some reduced trees is reduced
reduced_at : (ts : List Tree) (i : ℕ) (d : Tree) → i < length ts → AllAreReduced (trees_of ts) → IsReduced (get_or ts i d)
reduced_at [] i d h reduced = absurd (omega arith)
reduced_at (t ∷ ts) zero d h reduced = reduced.0
reduced_at (t ∷ ts) (suc i) d h reduced = reduced_at ts i d (omega arith) reduced.1

pub part_reduced : (ts : List Tree) (i : ℕ) (t : Tree) → t ≡ get_or ts i t → i < length ts → AllAreReduced (trees_of ts) → IsReduced t
part_reduced ts i t e h reduced = rw e (reduced_at ts i t h reduced)

-- one more part before the others
pub emit_all-more : (ts : List Tree) (i : ℕ) (t : Tree) (to : ℕ) (ss mid new : List State) (from next : ℕ) → 0 < i →
    t ≡ get_or ts (i - 1) t → i - 1 < length ts →
    emitted mid from ≡ emit_all (trees_of (drop i ts)) to ss → emitted new next ≡ emit t from mid → emitted new next ≡ emit_all (trees_of (drop (i - 1) ts)) to ss
unfolding emit emit_all emit_each
emit_all-more ts i t to ss mid new from next some is below e f = grind (arith, common_steps, parts_from)

-- no part is there yet
pub emit_all-end : (ts : List Tree) (i to : ℕ) (ss : List State) → length ts ≤ i → emitted ss to ≡ emit_all (trees_of (drop i ts)) to ss
unfolding emit emit_all emit_each
emit_all-end ts i to ss h = ap (λ x. emit_all x to ss) (sym (parts_end ts i h))

-- one more branch
pub emit_each-more : (ts : List Tree) (i : ℕ) (t : Tree) (out : ℕ) (ss mid new : List State) (rounds more : List ℕ) (round : ℕ) →
    trees_of (drop i ts) ≡ tree_and t (trees_of (drop (i + 1) ts)) →
    emit_each (trees_of ts) out ss ≡ with_rounds rounds (emit_each (trees_of (drop i ts)) out mid) → emitted new round ≡ emit t out mid →
    more ≡ rounds ++ round ∷ [] →
    emit_each (trees_of ts) out ss ≡ with_rounds more (emit_each (trees_of (drop (i + 1) ts)) out new)
unfolding emit emit_all emit_each
emit_each-more ts i t out ss mid new rounds more round parts e f g = grind (arith, common_steps, append_assoc)

-- all branches are there
pub emit_each-end : (ts : List Tree) (i to out : ℕ) (old ss mid : List State) (rounds : List ℕ) → length ts ≤ i →
    emitted ss out ≡ pushed old (goto to None) →
    emit_each (trees_of ts) out ss ≡ with_rounds rounds (emit_each (trees_of (drop i ts)) out mid) →
    pushed mid (splits rounds false) ≡ emit (alternation (trees_of ts)) to old
unfolding emit emit_all emit_each
emit_each-end ts i to out old ss mid rounds h e f = grind (arith, common_steps, parts_end)

-- a tree by its kind
pub tree_by_kind : (k l : Kind) (t : Tree) → tree_of k ≡ t → k ≡ l → tree_of l ≡ t
tree_by_kind k l t e f = ap tree_of (sym f) ∙ e

-- what was written is what is written for an equal tree
pub emit_same : (r : Result ℕ AllocError) (new old : List State) (to : ℕ) (t u : Tree) → t ≡ u →
    IfOk r (λ from. emitted new from ≡ emit t to old) → IfOk r (λ from. emitted new from ≡ emit u to old)
emit_same r new old to t u e h = subst (λ x. IfOk r (λ from. emitted new from ≡ emit x to old)) e h
