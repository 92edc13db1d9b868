-- The table of the example is one, a search by it ends as that of the Pike VM, and other transitions are refused.
use Rattle.bites_table.proofs.Library.{common_steps, ◌==◌, cases_Bool, none-some, nat_tests, state_at, takes, before, ◌≡◌, ℕ, zero, suc, ◌+◌, Bool, true, false, List, [], ◌∷◌, Option, Some, None, refl, sym, ap, subst, arith, piece, front_piece, stepped, visited}
use Rattle.bites_table.proofs.Words.{other, AreClasses, kind_of, leads_by, asserts, Thread, Source, unwritten, Starts, everywhere, Transition, IsTransition, IsTable, TableSearch, list_at, with_list, search_after, program, member, classes, idle_list, letter_list, over_letter, over_other, to_match, transition, table, ExampleIsTable, input, ExampleEnds, EndsAtLetter, TransitionsRefuse}
use Rattle.bites_table.proofs.LeadLemmas.{alike_kinds, alike_plain, alike_itself}
use Rattle.bites_table.proofs.TransitionLemmas.{is_one}
use Rattle.bites_table.proofs.TableLemmas.{begins, runs, ends}

no_looks : (q : ℕ) → asserts (state_at program.states q) ≡ false
no_looks q = grind (arith, common_steps)

untaken : (c : ℕ) → (c == 97) ≡ false → (q : ℕ) → takes (state_at program.states q) 98 ≡ takes (state_at program.states q) c
untaken c e q = grind (arith, common_steps)

are_classes : AreClasses program classes
are_classes h is = grind (arith, common_steps, alike_itself, nat_tests, alike_plain, no_looks, untaken, cases_Bool)

abbrev Right : ℕ → ℕ → Transition ℕ → Type 0
Right n c t = IsTransition program (leads_by (list_at table n).kind (member c)) (list_at table n) (with_list table t)

this : (n c : ℕ) (t u : Transition ℕ) → Some t ≡ Some u → Right n c t → Right n c u
this n c t u e right = subst (Right n c) (let is : t ≡ u = cc in is) right

are_right : (n c : ℕ) (t : Transition ℕ) → transition n c ≡ Some t → Right n c t
unfolding stepped visited
are_right zero zero t e = this 0 0 _ t e (record { last = _; walks = (2, refl); over = refl; next = refl; hit = refl; starts = refl; seen = refl; looks = refl })
are_right zero (suc zero) t e = this 0 1 _ t e (record { last = _; walks = (2, refl); over = refl; next = refl; hit = refl; starts = refl; seen = refl; looks = refl })
are_right zero (suc (suc c)) t e = this 0 (suc (suc c)) _ t e (record { last = _; walks = (2, refl); over = refl; next = refl; hit = refl; starts = refl; seen = refl; looks = refl })
are_right (suc zero) c t e = this 1 c _ t e (record { last = _; walks = (2, refl); over = refl; next = refl; hit = refl; starts = refl; seen = refl; looks = refl })
are_right (suc (suc zero)) c t e = absurd (none-some t e)
are_right (suc (suc (suc zero))) zero t e = this 3 0 _ t e (record { last = _; walks = (2, refl); over = refl; next = refl; hit = refl; starts = refl; seen = refl; looks = refl })
are_right (suc (suc (suc zero))) (suc zero) t e = this 3 1 _ t e (record { last = _; walks = (2, refl); over = refl; next = refl; hit = refl; starts = refl; seen = refl; looks = refl })
are_right (suc (suc (suc zero))) (suc (suc c)) t e = this 3 (suc (suc c)) _ t e (record { last = _; walks = (2, refl); over = refl; next = refl; hit = refl; starts = refl; seen = refl; looks = refl })
are_right (suc (suc (suc (suc zero)))) c t e = this 4 c _ t e (record { last = _; walks = (2, refl); over = refl; next = refl; hit = refl; starts = refl; seen = refl; looks = refl })
are_right (suc (suc (suc (suc (suc n))))) c t e = absurd (none-some t e)

is_table : IsTable program classes table
is_table = record { transition = are_right; kind = λ n c t e d f. alike_kinds program no_looks (list_at table t.next).kind (kind_of (Some d)) }

pub example_is_table : ExampleIsTable
example_is_table = (are_classes, is_table)

-- where a search begins at a thread list, and goes on
abbrev first : ℕ → ℕ → TableSearch
first place list = record { place = place; list = list; registers = λ r. []; best = None; visits = []; looks = 0 }

-- from 0 on: over the x, over the letter, to the match
abbrev after_x : TableSearch
after_x = search_after (input 0 false) (over_other 0) (first 0 0)

abbrev after_letter : TableSearch
after_letter = search_after (input 0 false) (over_letter 1) after_x

abbrev last : TableSearch
last = search_after (input 0 false) (to_match 2) after_letter

ends_at_letter : EndsAtLetter 0 false
unfolding piece front_piece
ends_at_letter =
    let begun = begins program table (input 0 false) (first 0 0) refl (omega arith) (λ e. e) refl refl refl refl refl (alike_kinds program no_looks other (kind_of (before (input 0 false).hay 0))) in
    let reached = runs program classes are_classes table is_table (input 0 false) (λ e. e) 0 2 (first 0 0) after_letter begun (after_x, (first 0 0, refl, refl, refl), refl, refl) in
    (last, ends program classes are_classes table is_table (input 0 false) (λ e. e) (0 + 2) after_letter last reached refl refl, refl)

-- at 1 alone: over the letter, to the match
abbrev after_letter_there : TableSearch
after_letter_there = search_after (input 1 true) (over_letter 4) (first 1 3)

abbrev last_there : TableSearch
last_there = search_after (input 1 true) (to_match 2) after_letter_there

ends_at_letter_there : EndsAtLetter 1 true
unfolding piece front_piece
ends_at_letter_there =
    let begun = begins program table (input 1 true) (first 1 3) refl (omega arith) (λ e. refl) refl refl refl refl refl (alike_kinds program no_looks other (kind_of (before (input 1 true).hay 1))) in
    let reached = runs program classes are_classes table is_table (input 1 true) (λ e. refl) 0 1 (first 1 3) after_letter_there begun (first 1 3, refl, refl, refl) in
    (last_there, ends program classes are_classes table is_table (input 1 true) (λ e. refl) (0 + 1) after_letter_there last_there reached refl refl, refl)

pub example_ends : ExampleEnds
example_ends = (ends_at_letter, ends_at_letter_there)

-- what differs
abbrev first_or : {X : Type 0} → X → List X → X
first_or d [] = d
first_or d (x ∷ xs) = x

abbrev writes_1 : Option (Thread Source) → Bool
writes_1 None = false
writes_1 (Some t) = t.row.writes 1

abbrev is_everywhere : Starts → Bool
is_everywhere everywhere = true
is_everywhere _ = false

abbrev is_none : List ℕ → Bool
is_none [] = true
is_none (q ∷ qs) = false

no : true ≡ false → ⊥
no e = absurd (let f : true ≡ false = e in cc)

pub transitions_refuse : TransitionsRefuse
transitions_refuse = (
  λ is. no (ap (λ l. (first_or unwritten l).writes 0) (is_one program (leads_by other (Some 97)) idle_list _ _ (are_right 0 0 _ refl) is).5),
  λ is. absurd (let e : 2 ≡ 3 = ap (first_or 0) (is_one program (leads_by other (Some 97)) idle_list _ _ (are_right 0 0 _ refl) is).4 in omega (arith, e)),
  λ is. no (ap is_none (is_one program (leads_by other (Some 98)) idle_list _ _ (are_right 0 1 _ refl) is).4),
  λ is. no (ap writes_1 (is_one program (leads_by other (Some 97)) letter_list _ _ (are_right 1 0 _ refl) is).2),
  λ is. no (ap is_everywhere (sym (is_one program (leads_by other (Some 97)) letter_list _ _ (are_right 1 0 _ refl) is).3)),
  λ is. no (ap writes_1 (is_one program (leads_by other (Some 97)) letter_list _ _ (are_right 1 0 _ refl) is).2),
  λ is. absurd (let e : 1 ≡ 0 = ap (first_or 9) (is_one program (leads_by other (Some 97)) idle_list _ _ (are_right 0 0 _ refl) is).0 in omega (arith, e)),
  λ is. absurd (let e : 2 ≡ 1 = (is_one program (leads_by other (Some 97)) idle_list _ _ (are_right 0 0 _ refl) is).1 in omega (arith, e)),
)
