-- The definitions in the promises are false of wrong values.
use Rattle.std.proofs.lemmas.Grind.{common_steps}
use Rattle.std.proofs.Common.{◌≡◌, ℕ, ◌<◌, ◌≤◌, List, [], ◌∷◌, length, Option, Some, None, IsSome, refl, sym, ap, ◌∙◌, subst, inl, inr, arith, codes, true≢false, ⊎_elim, eqb-true}
use Rattle.std.specs.Prelude.{◌==◌, if◌then◌else◌, is_some}
use Rattle.std.proofs.lemmas.Bool.{cases_Bool}
use Rattle.bites_spec.specs.Utf8.{piece, front_piece, places}
use Rattle.bites_spec.specs.Walks.{Among, AllApart, Walk}
use Rattle.bites_spec.specs.Tree.{char}
use Rattle.bites_spec.specs.Match.{Span, span, Matches}
use Rattle.bites_spec.specs.Preference.{ParseTo, parses}
use Rattle.bites_spec.specs.Program.{Configuration, at, match, fail}
use Rattle.bites_spec.specs.Run.{run, IsRun, Ends, leads}
use Rattle.bites_spec.specs.Refutations.{BoundsAreReached, BoundsRefuse, one_way, VisitsRefuse, AnsweredRefuses, FoundRefuses, PreferredRefuses, LeftmostRefuses, SpansRefuse, LeavingOutRefuses, BordersRefuse, ParticipantsRefuse, ItsGroupsRefuse, AppendsRefuse}

no_state : (q r i j : ℕ) → at q i ≡ at r j → q ≡ r
no_state q r i j e = ap (λ (s : Configuration). s.state) e

pub bounds_are_reached : BoundsAreReached
unfolding places
bounds_are_reached = grind (arith, common_steps)

pub bounds_refuse : BoundsRefuse
unfolding places
bounds_refuse = grind arith

seen_twice : (t : Configuration) (i : ℕ) → Among (at 1 i ∷ []) t → Among (at 0 0 ∷ []) t → ⊥
seen_twice t i (inl here) (inl seen) = let never : ◌≡◌ {A = ℕ} 1 0 = no_state 1 0 i 0 (here ∙ sym seen) in absurd (cc)
seen_twice t i (inr h) seen = h
seen_twice t i (inl here) (inr seen) = seen

end_unvisited : (i j : ℕ) (configurations : List Configuration) → IsRun (one_way match) [] i configurations j →
    ((t : Configuration) → Among (at 0 i ∷ configurations) t → Among (at 0 0 ∷ []) t) → ⊥
end_unvisited i j [] runs visited = true≢false (sym runs.0)
end_unvisited i j (q ∷ configurations) runs visited = seen_twice q i runs.0 (visited q (inr (inl refl)))

stuck : (i j : ℕ) (rest : List Configuration) → Walk (leads (one_way fail) []) (Ends (one_way fail) [] j) (at 1 i) rest → ⊥
stuck i j [] ends = true≢false (sym ends.0)
stuck i j (q ∷ rest) ends = ends.0

no_run : (i j : ℕ) (configurations : List Configuration) → IsRun (one_way fail) [] i configurations j → ⊥
no_run i j [] runs = true≢false (sym runs.0)
no_run i j (q ∷ configurations) (inl here, more) = stuck i j configurations (subst (λ s. Walk (leads (one_way fail) []) (Ends (one_way fail) [] j) s configurations) (sym here) more)
no_run i j (q ∷ configurations) (inr none, more) = none

both_visited : (t : Configuration) → Among (at 0 0 ∷ at 1 0 ∷ []) t → Among (at 1 0 ∷ at 0 0 ∷ []) t
both_visited t (inl here) = inr (inl here)
both_visited t (inr (inl here)) = inl here
both_visited t (inr (inr none)) = absurd none

pub visits_refuse : VisitsRefuse
unfolding places
visits_refuse = (
  (run 0 (at 1 0 ∷ []) 0, (inl refl, (refl, refl)), inl refl, both_visited),
  λ (x, runs, from, visited). end_unvisited x.start x.end x.configurations runs visited,
  λ (x, runs, from, visited). no_run x.start x.end x.configurations runs,
  λ h. seen_twice (at 1 0) 0 (inl refl) (h 0 (inl refl) (at 1 0) (at 1 0 ∷ [], (inl refl, refl))),
)

pub answered_refuses : AnsweredRefuses
answered_refuses = grind (arith, common_steps)

a_at_0 : Matches (codes "aa") (char 97) 0 1
unfolding piece front_piece
a_at_0 = (omega arith, refl, refl)

ends_at_1 : (j : ℕ) → Matches (codes "aa") (char 97) 0 j → j ≡ 1
unfolding piece front_piece
ends_at_1 j m = m.2

pub found_refuses : FoundRefuses
unfolding places piece front_piece
found_refuses = (
  λ none. none 0 (inl refl) 1 a_at_0,
  λ f. f.first.none_before 0 (inl refl) (omega arith) 1 a_at_0,
  λ f. let e : ◌≡◌ {A = ℕ} 2 1 = ends_at_1 2 f.parse.0 in absurd (cc),
  λ f. let e : None ≡ Some (span 0 1) = f.groups 0 in absurd (cc),
  λ none. none 0 (inl refl) 1 a_at_0,
  λ least. let le : 2 ≤ 1 = least.1 0 (inl refl) 1 a_at_0 in absurd (omega arith),
)

end_of : Option ParseTo → ℕ
end_of None = 0
end_of (Some w) = w.end

pub preferred_refuses : PreferredRefuses
unfolding places piece front_piece parses end_of
preferred_refuses = (
  λ f. let never : ◌≡◌ {A = ℕ} 1 2 = ap end_of (f.chosen refl) in absurd (cc),
  λ f. let le : 2 ≤ 1 = f.chosen.0 2 (inr (inl (1, (omega arith, refl, refl), (2, (omega arith, refl, refl), refl)))) in absurd (omega arith),
)

pub leftmost_refuses : LeftmostRefuses
leftmost_refuses = grind arith

pub spans_refuse : SpansRefuse
spans_refuse = (
  λ h. let lt : 1 < 1 = h.0 in absurd (omega arith),
  λ h. let le : 2 ≤ 1 = h.2.0 in absurd (omega arith),
  λ h. let le : 3 ≤ 2 = h.2 in absurd (omega arith),
  λ h. let le : 1 ≤ 0 = h.0 in absurd (omega arith),
)

pub leaving_out_refuses : LeavingOutRefuses
unfolding places piece front_piece
leaving_out_refuses = (
  λ h. let e : ◌≡◌ {A = ℕ} 1 2 = (h.2.0.empty (omega arith) 2 (omega arith, refl, refl)).2 in absurd (cc),
  λ h. let e : ◌≡◌ {A = ℕ} 2 3 = (h.2.3.empty tt 3 (omega arith, refl, refl)).2 in absurd (cc),
  λ h. h.0.none_before 0 (inl refl) (omega arith) 1 (omega arith, refl, refl),
)

pub borders_refuse : BordersRefuse
borders_refuse = grind arith

pub its_groups_refuse : ItsGroupsRefuse
its_groups_refuse = (
  λ h. let lt : 1 < 1 = (h (1, None) (inl refl)).0 in absurd (omega arith),
  λ h. let e : None ≡ Some (codes "n") = (h (1, Some (codes "n")) (inl refl)).1 in absurd (cc),
)

same_codes : (c d : ℕ) (xs ys : List ℕ) → c ∷ xs ≡ d ∷ ys → c ≡ d
same_codes c d xs ys e = cc

pub appends_refuse : AppendsRefuse
appends_refuse = grind (arith, common_steps, codes, same_codes)

no_span : (o : Option Span) → o ≡ None → IsSome o → ⊥
no_span o e h = true≢false (sym h ∙ ap is_some e)

-- two groups that participate would both be group 0
pub participants_refuse : ParticipantsRefuse
participants_refuse (ks, len, apart, some) = two ks len apart some
  where
    only : (k : ℕ) → IsSome (if k == 0 then Some (span 0 0) else None) → k ≡ 0
    only k h = ⊎_elim (λ is. eqb-true k 0 is) (λ is. absurd (no_span (if k == 0 then Some (span 0 0) else None) (rw is refl) h)) (cases_Bool (k == 0))

    two : (ks : List ℕ) → length ks ≡ 2 → AllApart ks → ((k : ℕ) → Among ks k → IsSome (if k == 0 then Some (span 0 0) else None)) → ⊥
    two [] len apart some = let never : ◌≡◌ {A = ℕ} 0 2 = len in absurd (cc)
    two (a ∷ []) len apart some = let never : ◌≡◌ {A = ℕ} 1 2 = len in absurd (cc)
    two (a ∷ b ∷ ks) len apart some = apart.0 (inl (only b (some b (inr (inl refl))) ∙ sym (only a (some a (inl refl)))))
