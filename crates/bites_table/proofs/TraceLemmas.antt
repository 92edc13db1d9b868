-- What a trace of a search by a table says, from where the search stands.
use Rattle.bites_table.proofs.Library.{common_steps, reverse-append, cases_lt, Record, Program, Searching, SearchedTo, ◌≡◌, ℕ, zero, suc, ◌+◌, ◌<◌, ◌≤◌, Bool, List, [], ◌∷◌, ◌++◌, reverse, Option, sym, ap, ◌∙◌, subst, ⊎_elim, arith, piece}
use Rattle.bites_table.proofs.Words.{row_of, Asked, IsAtRow, ComesTo, Says, LeadTo, Stretch}
use Rattle.bites_table.proofs.SearchesLemmas.{row_once}

-- a search that stands at a thread list comes to the place with it
pub comes_to_list : (s : Asked) (place row : ℕ) (registers : List (Option ℕ)) (is_found : Bool) (slots : List (Option ℕ)) (walked : Record) → IsAtRow s place row registers is_found slots walked →
    (n : ℕ) → row ≡ row_of s.table n → ComesTo s place n
comes_to_list s place row registers is_found slots walked at n e = grind (arith, common_steps, row_once)

-- the place behind n places
abbrev place_after : List ℕ → ℕ → ℕ → ℕ
place_after hay start zero = start
place_after hay start (suc n) = place_after hay start n + (piece hay (place_after hay start n)).len

searched_place : (hay : List ℕ) (p : Program) (width : ℕ) (longest anchored earliest : Bool) (start n : ℕ) (t : Searching) →
    SearchedTo hay longest p width anchored earliest start n t → t.place ≡ place_after hay start n
searched_place hay p width longest anchored earliest start zero t to = ap (λ (x : Searching). x.place) (sym to)
searched_place hay p width longest anchored earliest start (suc n) t to = grind (arith, common_steps, (searched_place hay p width longest anchored earliest start n to.0 to.1))

grows : (hay : List ℕ) (start n m : ℕ) → n ≤ m → place_after hay start n ≤ place_after hay start m
grows hay start n zero le = let e : n ≡ 0 = omega (arith, le) in subst (λ k. place_after hay start k ≤ start) (sym e) (omega arith)
grows hay start n (suc m) le =
    ⊎_elim
    (λ (lt : n < suc m). let on = grows hay start n m (omega (arith, lt)) in omega (arith, on))
    (λ (ge : suc m ≤ n). let e : n ≡ suc m = omega (arith, ge, le) in subst (λ k. place_after hay start k ≤ place_after hay start (suc m)) (sym e) (omega arith))
    (cases_lt n (suc m))

later : (hay : List ℕ) (start n m place to : ℕ) → place ≡ place_after hay start n → to ≡ place_after hay start m → place < to → place + (piece hay place).len ≤ to
later hay start n m place to here far lt =
    ⊎_elim
    (λ (less : n < m).
    subst (λ i. i + (piece hay i).len ≤ to) (sym here)
    (subst (λ i. place_after hay start (suc n) ≤ i) (sym far) (grows hay start (suc n) m (omega (arith, less)))))
    (λ (more : m ≤ n). let back = grows hay start m n more in absurd (omega (arith, back, here, far, lt)))
    (cases_lt n m)

at_place : (s : Asked) (place row : ℕ) (registers : List (Option ℕ)) (is_found : Bool) (slots : List (Option ℕ)) (walked : Record) (at : IsAtRow s place row registers is_found slots walked) →
    place ≡ place_after s.input.hay s.input.start at.here.places
at_place s place row registers is_found slots walked at = grind (arith, common_steps, searched_place)

-- a place that comes later is the next one or lies behind it
pub next_within : (s : Asked) (place row : ℕ) (registers : List (Option ℕ)) (is_found : Bool) (slots : List (Option ℕ)) (walked : Record) → IsAtRow s place row registers is_found slots walked →
    (to row2 : ℕ) (registers2 : List (Option ℕ)) (is_found2 : Bool) (slots2 : List (Option ℕ)) (walked2 : Record) → IsAtRow s to row2 registers2 is_found2 slots2 walked2 →
    place < to → place + (piece s.input.hay place).len ≤ to
next_within s place row registers is_found slots walked at to row2 registers2 is_found2 slots2 walked2 there lt =
    later s.input.hay s.input.start at.here.places there.here.places place to
    (at_place s place row registers is_found slots walked at) (at_place s to row2 registers2 is_found2 slots2 walked2 there) lt

-- one more stretch leads on
pub lead_on : (s : Asked) (old new : List Stretch) (e : Stretch) → new ≡ old ++ e ∷ [] → LeadTo s (reverse old) e.from →
    (to : ℕ) → Says s e.from e.how to → LeadTo s (reverse new) to
lead_on s old new e is before to said = subst (λ l. LeadTo s l to) (sym (ap reverse is ∙ reverse-append old (e ∷ []))) (before, said)
