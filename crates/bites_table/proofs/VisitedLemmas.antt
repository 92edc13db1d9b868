-- Listed states are taken out of a set, the last one first.
use Rattle.bites_table.proofs.Library.{common_steps, ◌==◌, slice_index_or, slice_set, list_any, cases_Bool, nat_tests, length-set, get_or-set_same, get_or-set_other, reverse-append, list_any-append, ◌≡◌, ℕ, ◌<◌, Bool, true, false, ◌||◌, List, [], ◌∷◌, ◌++◌, length, reverse, ap, ◌∙◌, arith, eq-eqb, refl}
use Rattle.bites_table.specs.Visited.{AreMembers, AreApart}

-- all members are listed, and all listed states are known
pub record AreListed (members : List Bool) (states : List ℕ) : Type 0 where
  pub known : (q : ℕ) → list_any (λ s. s == q) states ≡ true → q < length members
  pub listed : (q : ℕ) → slice_index_or members q false ≡ true → list_any (λ s. s == q) states ≡ true

-- the last one is known
pub first_known : (members : List Bool) (q : ℕ) (states : List ℕ) → AreListed members (q ∷ states) → q < length members
first_known members q states are = are.known q (ap (λ b. b || list_any (λ s. s == q) states) (eq-eqb q q refl))

-- and is taken out
pub one_removed : (members : List Bool) (q : ℕ) (states : List ℕ) → AreListed members (q ∷ states) → AreListed (slice_set members q false) states
one_removed members q states are = grind (arith, common_steps, length-set, nat_tests, get_or-set_same, first_known, get_or-set_other, cases_Bool)

-- a state is inserted
pub one_added : (members : List Bool) (q : ℕ) (states : List ℕ) → AreMembers members states → q < length members → AreMembers (slice_set members q true) (q ∷ states)
one_added members q states are within = grind (arith, common_steps, length-set, nat_tests, get_or-set_same, get_or-set_other, cases_Bool)

-- where none is listed there is no member
pub none_left : (members : List Bool) → AreListed members [] → AreMembers members []
none_left members are = grind (arith, common_steps, cases_Bool)

-- a list without its last item, in reverse
pub last_first : (front : List ℕ) (q : ℕ) (all : List ℕ) → all ≡ front ++ q ∷ [] → reverse all ≡ q ∷ reverse front
last_first front q all is = ap reverse is ∙ reverse-append front (q ∷ [])

any-reverse : (q : ℕ) (xs : List ℕ) → list_any (λ s. s == q) (reverse xs) ≡ true → list_any (λ s. s == q) xs ≡ true
any-reverse q [] e = e
any-reverse q (x ∷ xs) e = grind (arith, common_steps, reverse-append, list_any-append, (any-reverse q xs))

-- listed states that are no members are none of the members
pub apart_of : (members : List Bool) (own states : List ℕ) → AreMembers members own → ((q : ℕ) → list_any (λ s. s == q) states ≡ true → slice_index_or members q false ≡ false) → AreApart own (reverse states)
apart_of members own states are none q e = grind (arith, common_steps, any-reverse, cases_Bool)
