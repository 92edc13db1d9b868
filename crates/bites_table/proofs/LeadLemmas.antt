-- Where states lead at a place is where they lead by the kind of the byte before and the character after.
use Rattle.bites_table.proofs.Library.{common_steps, State, Program, Configuration, at, state_at, takes, next_character, ◌≡◌, ℕ, ◌≤◌, Bool, false, cond, ◌&&◌, List, [], ◌∷◌, map, length, Option, Some, None, refl, sym, ap, ap₂, ◌∙◌, true≢false, arith, Look, before, after, holds_between, holds}
use Rattle.bites_table.specs.Kinds.{Kind, kind_of, kind_of_byte, holds_by, leads_by, leads_at, asserts, AreAlikeKinds, AreAlike}
use Rattle.bites_table.proofs.KindLemmas.{between, edge_before, edge_after}
use Rattle.bites_table.proofs.PieceKinds.{kind_after}

-- an assertion at a place sees the kinds of the byte before and the character after
looks : (look : Look) (hay : List ℕ) (i : ℕ) → i ≤ length hay → holds_by look (kind_of (before hay i)) (kind_of (next_character hay i)) ≡ holds look hay i
unfolding holds
looks look hay i le =
    ap (holds_by look (kind_of (before hay i))) (sym (kind_after hay i))
    ∙ sym (between look (before hay i) (after hay i))
    ∙ ap₂ (holds_between look (before hay i) (after hay i)) (edge_before hay i le) (edge_after hay i le)

taken : (b : Bool) (test : ℕ → Bool) (q c i j : ℕ) (o : Option ℕ) → o ≡ cond b (Some c) None → (over : Option ℕ → List ℕ) → over None ≡ [] → ((d : ℕ) → over (Some d) ≡ cond (test d) (q ∷ []) []) →
    over o ≡ map (λ s. s.state) (cond (b && test c) (at q j ∷ []) [])
taken b test q c i j o is over none some = grind (arith, common_steps)

held : (b : Bool) (q i : ℕ) → cond b (q ∷ []) [] ≡ map (λ (s : Configuration). s.state) (cond b (at q i ∷ []) [])
held b q i = grind (arith, common_steps)

split_on : (qs : List ℕ) (i : ℕ) → qs ≡ map (λ (s : Configuration). s.state) (map (λ q. at q i) qs)
split_on [] i = refl
split_on (q ∷ qs) i = ap (λ l. q ∷ l) (split_on qs i)

-- where a state leads at a place
pub leads_is : (hay : List ℕ) (i : ℕ) → i ≤ length hay → (st : State) → leads_by (kind_of (before hay i)) (next_character hay i) st ≡ leads_at hay i st
leads_is hay i le st = grind (arith, common_steps, taken, split_on, looks, held)

-- characters that no state and no assertion tells apart
over_alike : (k : Kind) (c d : ℕ) (st : State) → takes st c ≡ takes st d → kind_of_byte c ≡ kind_of_byte d → leads_by k (Some c) st ≡ leads_by k (Some d) st
over_alike k c d st e same = grind (arith, common_steps)

pub alike_itself : (p : Program) (o : Option ℕ) → AreAlike p o o
alike_itself p o = record { leads = λ k q. refl; kinds = λ u q. refl; some = refl }

-- where no state of a program asserts anything, all kinds are alike
kinds_of : (st : State) → asserts st ≡ false → (k l : Kind) (o : Option ℕ) → leads_by k o st ≡ leads_by l o st
kinds_of st e k l o = grind (arith, common_steps, true≢false)

pub alike_kinds : (p : Program) → ((q : ℕ) → asserts (state_at p.states q) ≡ false) → (k l : Kind) → AreAlikeKinds p k l
alike_kinds p none k l o q = kinds_of (state_at p.states q) (none q) k l o

plain_over : (c d : ℕ) (st : State) → asserts st ≡ false → takes st c ≡ takes st d → (k : Kind) → leads_by k (Some c) st ≡ leads_by k (Some d) st
plain_over c d st none e k = grind (arith, common_steps, true≢false)

-- and characters are alike by what takes them alone
pub alike_plain : (p : Program) → ((q : ℕ) → asserts (state_at p.states q) ≡ false) → (c d : ℕ) → ((q : ℕ) → takes (state_at p.states q) c ≡ takes (state_at p.states q) d) → AreAlike p (Some c) (Some d)
alike_plain p none c d same = grind (arith, common_steps, plain_over, alike_kinds)
