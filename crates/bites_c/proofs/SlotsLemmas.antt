-- The slots that a search returns, and the groups that are put.
use Rattle.std.proofs.Common.{◌≡◌, ◌≤◌, ◌+◌, ◌*◌, ◌/◌, ℕ, Bool, true, false, List, length, Option, Some, None, is_some, option_map, unwrap_or, refl, sym, ap, subst, ◌∙◌, arith}
use Rattle.bites_spec.specs.Utf8.{AreStarts}
use Rattle.bites_spec.specs.Run.{Run, slots}
use Rattle.bites_spec.specs.Slots.{slot_in, span_of_run}
use Rattle.bites_spec.specs.Regex.{Regex, IsCompiled, run_at, slots_at}
use Rattle.bites_spec.specs.Captured.{Excerpt, SlotsAreFound, SlotsAreGroups, excerpt}
use Rattle.bites_spec.specs.Counts.{Room, Fit, fit_of}
use Rattle.bites_spec.proofs.utf8.StartLemmas.{all_are_starts, alone_is_start}
use Rattle.bites_machine.specs.Inputs.{starts_of}
use Rattle.bites_bytes.specs.Calls.{ReadsGroups, SearchedBy}
use Rattle.bites_c.specs.Codes.{matched}
use Rattle.bites_c.specs.Put.{HasPrefix, PutsFront, PutsGroups}
use Rattle.bites_c.specs.Searched.{PutsCaptures}
use Rattle.bites_c.specs.declared.span.BitesSpan.{BitesSpan}
use Rattle.bites_c.specs.declared.taken.Search.{Search}

module _ (r : Regex) (compiled : IsCompiled r) (hay : List ℕ) (s : ℕ) (ps : List ℕ) (are : AreStarts hay s ps)
    {M : Type 0} (view : M → Excerpt) (m : Option M) (was new : List (Option ℕ)) (read : ReadsGroups r hay ps (option_map view m) was new) where
  -- locations that were read keep their number
  pub read_len : SlotsAreGroups → length was ≡ r.program.slots → length new ≡ r.program.slots
  read_len groups len = by_answer (slots_at r hay ps) refl read.groups
    where
      by_answer : (o : Option (List (Option ℕ))) → slots_at r hay ps ≡ o → new ≡ unwrap_or o was → length new ≡ r.program.slots
      by_answer None e is = ap length is ∙ len
      by_answer (Some xs) e is = ap length is ∙ (groups r compiled hay s ps are xs e).count

  -- both slots of a group are written, or neither, where something is found
  pub both_written : SlotsAreGroups → (x : M) → m ≡ Some x → (k : ℕ) → is_some (slot_in new (2 * k)) ≡ is_some (slot_in new (2 * k + 1))
  both_written groups x is = by_run (run_at r hay ps) refl (sym (ap (option_map view) is) ∙ read.found.span) read.groups
    where
      by_run : (o : Option Run) → run_at r hay ps ≡ o → Some (view x) ≡ option_map (excerpt hay) (option_map span_of_run o) → new ≡ unwrap_or (option_map (slots r.program) o) was →
          (k : ℕ) → is_some (slot_in new (2 * k)) ≡ is_some (slot_in new (2 * k + 1))
      by_run None at e w = let never : Some (view x) ≡ None = e in absurd (cc)
      by_run (Some y) at e w =
          subst (λ xs. (k : ℕ) → is_some (slot_in xs (2 * k)) ≡ is_some (slot_in xs (2 * k + 1))) (sym w)
          (groups r compiled hay s ps are (slots r.program y) (ap (option_map (slots r.program)) at)).both

  -- the groups that are found are put
  pub found_put : SlotsAreFound → (old put : List BitesSpan) → length r.names ≤ length old → (x : M) → m ≡ Some x → length new / 2 ≡ length r.names →
      PutsFront new old put → PutsCaptures r hay ps matched old put
  found_put found old put wide x is half front = (
    λ small. absurd (omega (arith, small, wide)),
    λ _. ((found r compiled hay s ps are).0, by_run (run_at r hay ps) (sym (ap (option_map view) is) ∙ read.found.span) read.groups),
  )
    where
      by_run : (o : Option Run) → Some (view x) ≡ option_map (excerpt hay) (option_map span_of_run o) → new ≡ unwrap_or (option_map (slots r.program) o) was →
          PutsGroups (option_map (slots r.program) o) (length r.names) matched old put
      by_run None e w = let never : Some (view x) ≡ None = e in absurd (cc)
      by_run (Some y) e w =
          (refl, subst (λ k. HasPrefix (slots r.program y) k old put) half (subst (λ ys. HasPrefix ys (length new / 2) old put) w front.prefix))

pub are_starts : (hay : List ℕ) (anchored : Bool) (s : ℕ) → AreStarts hay s (starts_of hay anchored s)
are_starts hay true s = alone_is_start hay s
are_starts hay false s = all_are_starts hay s

pub still_fits : (r : Regex) (hay : List ℕ) (anchored : Bool) (s : ℕ) (found : Bool) (old new : Room) → SearchedBy anchored r hay s found old new → new.fits ≡ old.fits
still_fits r hay true s found old new h = h.fits
still_fits r hay false s found old new h = h.fits

-- what a search that was taken out of two handles lends: room that fits its regex
module _ (s : Search) (cache lent : Room) (view_is : cache ≡ lent) (value : lent ≡ s.room.value) where
  pub room_same : cache.fits ≡ s.room.value.fits
  room_same = ap (λ (v : Room). v.fits) (view_is ∙ value)

  pub room_fits : (new : Room) → new.fits ≡ cache.fits → new.fits ≡ fit_of s.held.value.regex.program
  room_fits new same = same ∙ room_same ∙ s.fits

  pub room_len : (was : List (Option ℕ)) → length was ≡ cache.fits.slots → length was ≡ s.held.value.regex.program.slots
  room_len was len = len ∙ ap (λ (f : Fit). f.slots) (room_fits cache refl)
