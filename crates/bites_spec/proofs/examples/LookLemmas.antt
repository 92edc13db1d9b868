-- A search of a program without runs takes as many looks as the bound allows.
use Rattle.std.proofs.lemmas.Grind.{common_steps}
use Rattle.std.proofs.Common.{◌≡◌, ℕ, zero, suc, ◌+◌, ◌*◌, ◌<◌, ◌≤◌, ◌⊎◌, Bool, true, false, cond, List, [], ◌∷◌, length, map, refl, sym, ap, subst, inl, inr, ⊎_elim, true≢false, arith}
use Rattle.std.specs.Prelude.{nat_le}
use Rattle.std.proofs.lemmas.List.{length-map}
use Rattle.bites_spec.specs.Utf8.{places, places_within, step_len}
use Rattle.bites_spec.specs.Walks.{Among, AllApart, Walk}
use Rattle.bites_spec.specs.Program.{Configuration, at}
use Rattle.bites_spec.specs.Run.{IsRun, Ends, leads}
use Rattle.bites_spec.specs.Counts.{Record, VisitedAll, VisitedBy}
use Rattle.bites_spec.specs.Refutations.{dead_end, SearchesReachBounds}
use Rattle.bites_spec.proofs.utf8.PieceLemmas.{places_within_above}
use Rattle.bites_spec.proofs.regex.PartCountLemmas.{apart_length}

-- ## A number for each configuration

abbrev number : Configuration → ℕ
number t = 2 * t.place + t.state

-- the numbers of both states at each place
abbrev numbers : List ℕ → List ℕ
numbers [] = []
numbers (i ∷ is) = number (at 0 i) ∷ number (at 1 i) ∷ numbers is

length-numbers : (is : List ℕ) → length (numbers is) ≡ 2 * length is
length-numbers [] = omega arith
length-numbers (i ∷ is) = let more = length-numbers is in omega (arith, more)

-- each of the numbers is that of a configuration at one of the places
numbered : (is : List ℕ) (k : ℕ) → Among (numbers is) k → (i : ℕ) × Among is i × ((k ≡ number (at 0 i)) ⊎ (k ≡ number (at 1 i)))
numbered [] k h = absurd h
numbered (i ∷ is) k (inl here) = (i, inl refl, inl (sym here))
numbered (i ∷ is) k (inr (inl here)) = (i, inl refl, inr (sym here))
numbered (i ∷ is) k (inr (inr later)) = let more = numbered is k later in (more.0, inr more.1, more.2)

module _ (hay : List ℕ) where
  -- the numbers of later places are greater
  later_numbers : (n i k : ℕ) → Among (numbers (places_within n hay (i + step_len hay i))) k → 2 * i + 1 < k
  later_numbers n i k h = grind (arith, common_steps, numbered, places_within_above)

  numbers_apart : (n i : ℕ) → AllApart (numbers (places_within n hay i))
  numbers_apart zero i = tt
  numbers_apart (suc n) i = by (nat_le i (length hay)) (numbers_apart n (i + step_len hay i))
    where
      by : (b : Bool) → AllApart (numbers (places_within n hay (i + step_len hay i))) →
          AllApart (numbers (cond b (i ∷ places_within n hay (i + step_len hay i)) []))
      by false rest = tt
      by true rest = (
        λ h. ⊎_elim (λ (e : number (at 1 i) ≡ number (at 0 i)). omega (arith, e))
            (λ later. let lt = later_numbers n i (number (at 0 i)) later in omega (arith, lt)) h,
        (λ h. let lt = later_numbers n i (number (at 1 i)) h in omega (arith, lt), rest),
      )

  -- ## No run, and all configurations

  stuck : (i j : ℕ) (rest : List Configuration) → Walk (leads dead_end hay) (Ends dead_end hay j) (at 1 i) rest → ⊥
  stuck i j [] ends = true≢false (sym ends.0)
  stuck i j (q ∷ rest) ends = ends.0

  no_run : (i j : ℕ) (configurations : List Configuration) → IsRun dead_end hay i configurations j → ⊥
  no_run i j [] runs = true≢false (sym runs.0)
  no_run i j (q ∷ configurations) (inl here, more) =
      stuck i j configurations (subst (λ s. Walk (leads dead_end hay) (Ends dead_end hay j) s configurations) (sym here) more)
  no_run i j (q ∷ configurations) (inr none, more) = none

  module _ (s : ℕ) (c : Record) where
    visited_all : (found : Bool) → VisitedBy dead_end hay (places hay s) found c → VisitedAll dead_end hay (places hay s) c
    visited_all true (x, runs, from, visited) = absurd (no_run x.start x.end x.configurations runs)
    visited_all false all = all

    among_map : (ts : List Configuration) (t : Configuration) → Among ts t → Among (map number ts) (number t)
    among_map [] t h = absurd h
    among_map (u ∷ ts) t h = ⊎_elim (λ (e : u ≡ t). inl (ap number e)) (λ later. inr (among_map ts t later)) h

    all_numbers : VisitedAll dead_end hay (places hay s) c → (k : ℕ) → Among (numbers (places hay s)) k → Among (map number c.visits) k
    all_numbers all k h =
        let at_place = numbered (places hay s) k h in let i = at_place.0 in
        ⊎_elim
        (λ (e : k ≡ number (at 0 i)).
        subst (λ (n : ℕ). Among (map number c.visits) n) (sym e) (among_map c.visits (at 0 i) (all i at_place.1 (at 0 i) ([], refl))))
        (λ (e : k ≡ number (at 1 i)).
        subst (λ (n : ℕ). Among (map number c.visits) n) (sym e)
        (among_map c.visits (at 1 i) (all i at_place.1 (at 1 i) (at 1 i ∷ [], (inl refl, refl)))))
        at_place.2

    place_numbers_apart : AllApart (numbers (places hay s))
    unfolding places
    place_numbers_apart = numbers_apart (suc (length hay)) s

    enough : (found : Bool) → VisitedBy dead_end hay (places hay s) found c → 2 * length (places hay s) ≤ length c.visits
    enough found visited =
        let le = apart_length (numbers (places hay s)) (map number c.visits) place_numbers_apart (all_numbers (visited_all found visited)) in
        let size = length-numbers (places hay s) in let same = length-map c.visits number in omega (arith, le, size, same)

pub searches_reach_bounds : SearchesReachBounds
searches_reach_bounds hay s found c walked = grind (arith, common_steps, enough)
