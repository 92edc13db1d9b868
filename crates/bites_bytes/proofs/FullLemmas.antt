-- What a search for a match of the whole haystack leaves in slots, and says of a regex's tree.
use Rattle.std.proofs.Common.{◌≡◌, ℕ, ◌≤◌, Bool, true, false, List, ◌++◌, length, take, drop, Option, Some, None, option_map, refl, sym, ap, ◌∙◌, subst, ⊎_elim, eq-eqb, eqb-true, true≢false, arith}
use Rattle.std.proofs.lemmas.Option.{same_Some}
use Rattle.std.specs.Prelude.{◌↔◌, ◌==◌, IsTrue, is_some}
use Rattle.std.specs.Option.{option_eq}
use Rattle.std.proofs.lemmas.List.{take_all}
use Rattle.bites_spec.specs.Utf8.{start_alone}
use Rattle.bites_spec.specs.Walks.{Before}
use Rattle.bites_spec.specs.Program.{Configuration, at}
use Rattle.bites_spec.specs.Run.{Run, run, Answered, IsRun, IsSimple, IsFirstOf, FirstRun, leads, first_run, longest_run, chosen_run, slots}
use Rattle.bites_spec.specs.Slots.{slot_in, group_in, span_of_run, answer_of}
use Rattle.bites_spec.specs.Regex.{Regex, IsCompiled}
use Rattle.bites_spec.specs.Captured.{captured}
use Rattle.bites_bytes.specs.Calls.{groups_if, FindsCapturedFull}
use Rattle.bites_spec.specs.Full.{IsFullMatch, full_run, full_slots, FindsGroupsFull}
use Rattle.bites_spec.proofs.utf8.StartLemmas.{alone_is_start, start_is_alone}
use Rattle.bites_spec.proofs.programs.LongestLemmas.{run_to, no_run_to}
use Rattle.bites_spec.proofs.programs.OneLemmas.{same_run}
use Rattle.bites_spec.proofs.programs.PlainLemmas.{Before-asym}
use Rattle.bites_spec.proofs.programs.FoundLemmas.{group_0_is_span}
use Rattle.bites_spec.proofs.regex.AlikeLemmas.{chosen_run_lies}
use Rattle.bites_spec.proofs.regex.FullLemmas.{longest_full, longest_not_full, full_run_is_found, full_finds_some}
use Rattle.bites_bytes.specs.NextMatch.{LeavesRun}
use Rattle.bites_bytes.proofs.LongestLemmas.{first_is}
use Rattle.bites_bytes.proofs.SearchLemmas.{known_end}
use Rattle.bites_bytes.proofs.SlotLemmas.{length-slots, front_group, slots_of, regex_of, haystack_of, written_over}

same_place : (o : Option ℕ) (n : ℕ) (b : Bool) → b ≡ option_eq (λ x y. x == y) o (Some n) → IsTrue b ↔ (o ≡ Some n)
same_place None n b e = (λ yes. absurd (true≢false (sym yes ∙ e)), λ (never : None ≡ Some n). absurd (cc))
same_place (Some k) n b e = (λ yes. ap (λ x. Some x) (eqb-true k n (sym e ∙ yes)), λ same. e ∙ eq-eqb k n (same_Some k n same))

-- whether the end that stands in the slots is this place
pub same_end : (slots : List (Option ℕ)) (n : ℕ) (o : Option ℕ) (b : Bool) → o ≡ slot_in slots 1 → b ≡ option_eq (λ x y. x == y) o (Some n) →
    IsTrue b ↔ (slot_in slots 1 ≡ Some n)
same_end slots n o b at e = subst (λ p. IsTrue b ↔ (p ≡ Some n)) at (same_place o n b e)

module _ (r : Regex) (is : IsCompiled r) (hay : List ℕ) where
  -- what slots hold that are those of the run over the whole haystack
  pub full_on_tree : (o : Option (List (Option ℕ))) → full_slots r hay ≡ o → FindsGroupsFull r hay o
  full_on_tree o e = subst (FindsGroupsFull r hay) e (full_run_is_found r is hay).1

  -- the captures of a match of the whole haystack, by what stands in the slots
  pub captured_full : (o : Option (List (Option ℕ))) → full_slots r hay ≡ o → FindsCapturedFull r hay (option_map (captured r hay) o)
  captured_full o e = record {
    found = ap (option_map (captured r hay)) (sym e);
    on_tree = full_on_tree (option_map (λ x. x.slots) (option_map (captured r hay) o)) (e ∙ slots_of r hay o);
    regex = regex_of r hay o;
    haystack = haystack_of r hay o;
  }

  -- these slots, by whether they were found
  pub full_if : (found : Bool) (new : List (Option ℕ)) → (found ≡ true → full_slots r hay ≡ Some new) → (found ≡ false → full_slots r hay ≡ None) →
      full_slots r hay ≡ groups_if found new
  full_if true new known missing = known refl
  full_if false new known missing = missing refl

  -- where the run ends that a search from the start finds, the longest or the first
  end_of : (longest : Bool) (old new : List (Option ℕ)) → 2 ≤ length old → (x : Run) → chosen_run longest r.program hay (start_alone hay 0) ≡ Some x →
      new ≡ take (length old) (slots r.program x) → slot_in new 1 ≡ Some x.end
  end_of longest old new two x e is_new =
      let b = chosen_run_lies r.program hay is.well_formed longest 0 _ (alone_is_start hay 0) x e in
      known_end (slot_in new 0) (slot_in new 1) (span_of_run x)
      (ap (λ l. group_in l 0) is_new ∙ front_group (length old) (slots r.program x) two
      ∙ group_0_is_span r.tree r.program hay is.compilable is.built x b.1)

  first_at_0 : (q : Option Run) → first_run r.program hay (start_alone hay 0) ≡ q → FirstRun r.program hay (start_alone hay 0) q
  first_at_0 = first_is r is hay 0 _ (alone_is_start hay 0)

  -- where no run begins at 0, none goes over the whole haystack
  no_first_no_full : first_run r.program hay (start_alone hay 0) ≡ None → full_run r hay ≡ None
  no_first_no_full e = by_answer (full_run r hay) refl
    where
      by_answer : (o : Option Run) → full_run r hay ≡ o → o ≡ None
      by_answer None none = refl
      by_answer (Some y) some =
          let b = run_to r.program hay is.well_formed 0 (length hay) y some (omega arith) in
          absurd (first_at_0 None e 0 ((start_is_alone hay 0 0).1 (refl, omega arith)) b.0 (length hay) b.2)

  -- the first run from 0 is the first over the whole haystack, if it ends at its end
  first_full : (x : Run) → first_run r.program hay (start_alone hay 0) ≡ Some x → x.end ≡ length hay → full_run r hay ≡ Some x
  first_full x e end = by_answer (full_run r hay) refl
    where
      f : FirstRun r.program hay (start_alone hay 0) (Some x)
      f = first_at_0 (Some x) e

      start : x.start ≡ 0
      start = ((start_is_alone hay 0 x.start).0 f.0.from).0

      runs : IsRun r.program hay 0 x.configurations (length hay)
      runs =
          subst (λ (i : ℕ). IsRun r.program hay i x.configurations (length hay)) start
          (subst (λ (j : ℕ). IsRun r.program hay x.start x.configurations j) end f.0.runs)

      -- a run over the whole haystack that no other one comes before has the same configurations
      same : (c : List Configuration) → IsRun r.program hay 0 c (length hay) → IsFirstOf r.program hay (λ j. j ≡ length hay) (run 0 c (length hay)) →
          c ≡ x.configurations
      same c over g =
          ⊎_elim
          (λ e. e)
          (λ before.
          ⊎_elim
          (λ e. sym e)
          (λ back.
          absurd (Before-asym (leads r.program hay) (at r.program.start 0) x.configurations c
          (subst (λ (i : ℕ). Before (leads r.program hay) (at r.program.start i) x.configurations c) start before) back))
          (g.first x.configurations (length hay) runs (subst (λ (i : ℕ). IsSimple r.program hay i x.configurations) start f.1.simple) refl))
          (f.1.first c (length hay) (subst (λ (i : ℕ). IsRun r.program hay i c (length hay)) (sym start) over)
          (subst (λ (i : ℕ). IsSimple r.program hay i c) (sym start) g.simple) tt)

      by_answer : (o : Option Run) → full_run r hay ≡ o → full_run r hay ≡ Some x
      by_answer None none = absurd (no_run_to r.program hay is.well_formed 0 (length hay) none (omega arith) x.configurations runs)
      by_answer (Some y) some =
          let b = run_to r.program hay is.well_formed 0 (length hay) y some (omega arith) in
          some ∙ ap Some (sym b.1 ∙ same_run 0 x.start (length hay) x.end b.0 x.configurations (sym start) (same b.0 b.2 b.3) (sym end))

  -- a search that finds nothing where nothing matches the whole haystack then
  missing : (q : Option Run) → (q ≡ None → full_run r hay ≡ None) → (found : Bool) (n : ℕ) (old new : List (Option ℕ)) → found ≡ false → Answered r.program q found old new →
      LeavesRun r.program (full_run r hay) false n new
  missing None none found n old new missed h = subst (λ (o : Option Run). LeavesRun r.program o false n new) (sym (none refl)) refl
  missing (Some x) none found n old new missed h = absurd (true≢false (sym h.0 ∙ missed))

  -- a search that finds a run whose end is that of the haystack, and which is the one over the whole haystack then
  there : (longest : Bool) (x : Run) → chosen_run longest r.program hay (start_alone hay 0) ≡ Some x → (x.end ≡ length hay → full_run r hay ≡ Some x) → (old new : List (Option ℕ)) →
      2 ≤ length old → new ≡ take (length old) (slots r.program x) → slot_in new 1 ≡ Some (length hay) → LeavesRun r.program (full_run r hay) true (length old) new
  there longest x e is_full old new two is_new ends =
      let end : x.end ≡ length hay = same_Some x.end (length hay) (sym (end_of longest old new two x e is_new) ∙ ends) in
      subst (λ (o : Option Run). LeavesRun r.program o true (length old) new) (sym (is_full end)) (refl, is_new)

  -- where no run begins at 0, nothing matches the whole haystack
  pub first_missing : (found : Bool) (n : ℕ) (old new : List (Option ℕ)) → found ≡ false → Answered r.program (first_run r.program hay (start_alone hay 0)) found old new →
      LeavesRun r.program (full_run r hay) false n new
  first_missing = missing _ no_first_no_full

  -- the first run from 0 matches the whole haystack if it ends at its end
  pub first_there : (found : Bool) (old new : List (Option ℕ)) → found ≡ true → 2 ≤ length old → Answered r.program (first_run r.program hay (start_alone hay 0)) found old new →
      slot_in new 1 ≡ Some (length hay) → LeavesRun r.program (full_run r hay) true (length old) new
  first_there found old new holds two h ends = by_run (first_run r.program hay (start_alone hay 0)) refl h
    where
      by_run : (q : Option Run) → first_run r.program hay (start_alone hay 0) ≡ q → Answered r.program q found old new →
          LeavesRun r.program (full_run r hay) true (length old) new
      by_run None e h = absurd (true≢false (sym holds ∙ h.0))
      by_run (Some x) e h = there false x e (first_full x e) old new two h.1 ends

  -- where nothing begins at 0, nothing matches the whole haystack
  pub full_missing : (found : Bool) (n : ℕ) (old new : List (Option ℕ)) → found ≡ false → Answered r.program (longest_run r.program hay (start_alone hay 0)) found old new →
      LeavesRun r.program (full_run r hay) false n new
  full_missing = missing _ (λ e. longest_not_full r.program hay is.well_formed None e (λ x some end. let never : None ≡ Some x = some in cc))

  -- the longest run from 0 matches the whole haystack where it ends at its end
  pub full_there : (found result : Bool) (old new : List (Option ℕ)) → found ≡ true → 2 ≤ length old → Answered r.program (longest_run r.program hay (start_alone hay 0)) found old new →
      IsTrue result ↔ (slot_in new 1 ≡ Some (length hay)) → LeavesRun r.program (full_run r hay) result (length old) new
  full_there found result old new holds two h ends = by_run (longest_run r.program hay (start_alone hay 0)) refl h
    where
      by_result : (x : Run) → longest_run r.program hay (start_alone hay 0) ≡ Some x → new ≡ take (length old) (slots r.program x) → (b : Bool) → result ≡ b →
          LeavesRun r.program (full_run r hay) b (length old) new
      by_result x e is_new true holds = there true x e (longest_full r.program hay is.well_formed x e) old new two is_new (ends.0 holds)
      by_result x e is_new false missing =
          subst (λ (o : Option Run). LeavesRun r.program o false (length old) new)
          (sym (longest_not_full r.program hay is.well_formed (Some x) e
          (λ y same end.
          true≢false (sym (ends.1 (end_of true old new two x e is_new ∙ ap Some (ap (λ (z : Run). z.end) (same_Some x y same) ∙ end))) ∙ missing)))) refl

      by_run : (q : Option Run) → longest_run r.program hay (start_alone hay 0) ≡ q → Answered r.program q found old new → LeavesRun r.program (full_run r hay) result (length old) new
      by_run None e h = absurd (true≢false (sym holds ∙ h.0))
      by_run (Some x) e h = by_result x e h.1 result refl

  -- whether the whole haystack is matched
  pub full_matches : (found : Bool) (n : ℕ) (new : List (Option ℕ)) → LeavesRun r.program (full_run r hay) found n new → IsTrue found ↔ IsFullMatch r.tree hay
  full_matches found n new h =
      let all = full_finds_some r.tree hay (option_map (answer_of r.program) (full_run r hay)) (full_run_is_found r is hay).0 in
      let same : found ≡ is_some (full_run r hay) = by_run (full_run r hay) h in
      (λ holds. all.0 (mapped _ (full_run r hay) ∙ sym same ∙ holds), λ matches. same ∙ sym (mapped _ (full_run r hay)) ∙ all.1 matches)
    where
      by_run : (q : Option Run) → LeavesRun r.program q found n new → found ≡ is_some q
      by_run None h = h
      by_run (Some x) h = h.0

      mapped : {B : Type 0} (f : Run → B) (q : Option Run) → is_some (option_map f q) ≡ is_some q
      mapped f None = refl
      mapped f (Some x) = refl

  -- all slots of the run over the whole haystack
  pub full_known : (found : Bool) (n : ℕ) (new : List (Option ℕ)) → r.program.slots ≤ n → LeavesRun r.program (full_run r hay) found n new → found ≡ true →
      full_slots r hay ≡ Some new
  full_known found n new all h holds = by_run (full_run r hay) h
    where
      by_run : (q : Option Run) → LeavesRun r.program q found n new → option_map (slots r.program) q ≡ Some new
      by_run None h = absurd (true≢false (sym holds ∙ h))
      by_run (Some x) h =
          ap (λ l. Some l) (sym (h.1 ∙ take_all n (slots r.program x) (let len = length-slots r.program x in omega arith)))

  -- and so they are in a list that is written over its whole length
  pub full_written : (found : Bool) (old items now new : List (Option ℕ)) (n : ℕ) → old ≡ items → now ≡ items → length old ≡ r.program.slots → n ≡ length now →
      LeavesRun r.program (full_run r hay) found (length now) new → found ≡ true → full_slots r hay ≡ Some (take n (new ++ drop (length new) items))
  full_written found old items now new n view same fits len h holds =
      let size : length now ≡ r.program.slots = ap length same ∙ ap length (sym view) ∙ fits in
      full_known found (length now) new (omega arith) h holds
      ∙ ap (λ l. Some l) (sym (written_over n new items (length_of (full_run r hay) size h ∙ sym size ∙ ap length same) (len ∙ ap length same)))
    where
      length_of : (q : Option Run) → length now ≡ r.program.slots → LeavesRun r.program q found (length now) new → length new ≡ r.program.slots
      length_of None size h = absurd (true≢false (sym holds ∙ h))
      length_of (Some x) size h =
          ap length (h.1 ∙ take_all (length now) (slots r.program x) (let all = length-slots r.program x in omega arith)) ∙ length-slots r.program x

  pub full_unknown : (found : Bool) (n : ℕ) (new : List (Option ℕ)) → LeavesRun r.program (full_run r hay) found n new → found ≡ false → full_slots r hay ≡ None
  full_unknown found n new h missing = by_run (full_run r hay) h
    where
      by_run : (q : Option Run) → LeavesRun r.program q found n new → option_map (slots r.program) q ≡ None
      by_run None h = refl
      by_run (Some x) h = absurd (true≢false (sym h.0 ∙ missing))
