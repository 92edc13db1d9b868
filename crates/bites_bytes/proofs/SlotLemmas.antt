-- What a search leaves in slots.
use Rattle.std.proofs.Common.{◌≡◌, ℕ, zero, suc, ◌≤◌, Bool, true, false, List, [], ◌∷◌, ◌++◌, length, take, drop, Option, Some, None, option_map, refl, sym, ap, ◌∙◌, subst, ⊎_elim, ◌⊎◌, true≢false, arith}
use Rattle.std.specs.Prelude.{unwrap_or, is_some, IfSome, MatchOption, if◌then◌else◌}
use Rattle.std.specs.List.{range_with_len}
use Rattle.std.proofs.lemmas.List.{take_all, append-nil, length-append, length-drop, length-map, length-take-le}
use Rattle.std.proofs.lemmas.List.FromFn.{length-range_with_len}
use Rattle.bites_spec.specs.Utf8.{AreStarts}
use Rattle.bites_spec.specs.Match.{Span, span}
use Rattle.bites_spec.specs.Program.{Program}
use Rattle.bites_spec.specs.Run.{Run, Answered, chosen_run, slots, written}
use Rattle.bites_spec.specs.Slots.{group_in, span_of_run}
use Rattle.bites_spec.specs.Counts.{Room}
use Rattle.bites_spec.specs.Regex.{Regex, IsCompiled, run_at, span_at, slots_at}
use Rattle.bites_spec.specs.Captured.{Excerpt, excerpt, FindsSpan, FindsMatch, FindsGroups, AreGroupsFrom, captured}
use Rattle.bites_bytes.specs.Calls.{groups_if, FindsCaptured, ReadsGroups}
use Rattle.bites_spec.specs.Found.{NoMatch}
use Rattle.bites_spec.proofs.utf8.StartLemmas.{all_are_starts, alone_is_start}
use Rattle.bites_spec.proofs.regex.RegexRuns.{run_at-whole, span_at-lies, found_span, found_groups}
use Rattle.bites_machine.specs.Inputs.{starts_of}
use Rattle.bites_machine.specs.declared.vm.Input.{Input}
use Rattle.bites_machine.specs.declared.vm.MatchKind.TheVariants.{First, Longest}
use Rattle.bites_bytes.specs.NextMatch.{kind_of, starts_in, IsSearched}

pub length-slots : (p : Program) (r : Run) → length (slots p r) ≡ p.slots
length-slots p r = length-map (range_with_len 0 p.slots) (written p r) ∙ length-range_with_len 0 p.slots

-- a slice of all slots has the slots of the run, or stays
pub answered_slots : (p : Program) (o : Option Run) (found : Bool) (old new : List (Option ℕ)) → length old ≡ p.slots → Answered p o found old new →
    (new ≡ unwrap_or (option_map (slots p) o) old) × (length new ≡ length old)
answered_slots p None found old new fits h = (h.1, ap length h.1)
answered_slots p (Some r) found old new fits h =
    let all : new ≡ slots p r = h.1 ∙ take_all (length old) (slots p r) (let e = length-slots p r in omega arith) in
    (all, ap length all ∙ length-slots p r ∙ sym fits)

drop_past : {A : Type 0} (n : ℕ) (xs : List A) → length xs ≤ n → drop n xs ≡ []
drop_past zero [] h = refl
drop_past (suc n) [] h = refl
drop_past zero (x ∷ xs) h = absurd (omega arith)
drop_past (suc n) (x ∷ xs) h = drop_past n xs (omega arith)

-- a list that is written over its whole length
pub written_over : {A : Type 0} (n : ℕ) (new old : List A) → length new ≡ length old → n ≡ length old → take n (new ++ drop (length new) old) ≡ new
written_over n new old same is =
    ap (λ l. take n (new ++ l)) (drop_past (length new) old (omega arith))
    ∙ ap (take n) (append-nil new)
    ∙ take_all n new (omega arith)

-- and however much of it is written, it stays as long
pub length-over : {A : Type 0} (n : ℕ) (new old : List A) → n ≡ length old → length (take n (new ++ drop (length new) old)) ≡ length old
length-over n new old is =
    length-take-le n (new ++ drop (length new) old) (let all = length-append new (drop (length new) old) in let rest = length-drop (length new) old in omega (arith, all, rest, is))
    ∙ is

pub slots_written : (p : Program) (o : Option Run) (found : Bool) (old items now new : List (Option ℕ)) (n : ℕ) →
    old ≡ items → now ≡ items → length old ≡ p.slots → n ≡ length now → Answered p o found now new →
    take n (new ++ drop (length new) items) ≡ unwrap_or (option_map (slots p) o) old
slots_written p o found old items now new n view is fits len h =
    let g = answered_slots p o found items new (ap length (sym view) ∙ fits) (subst (λ l. Answered p o found l new) is h) in
    written_over n new items g.1 (len ∙ ap length is) ∙ g.0 ∙ ap (unwrap_or (option_map (slots p) o)) (sym view)

-- two places that are a span
abbrev pub ends : ℕ × ℕ → Span
ends e = span e.0 e.1

-- the starts of a search are places from its start on
pub starts_are : (hay : List ℕ) (b : Bool) (s : ℕ) → AreStarts hay s (starts_of hay b s)
starts_are hay true s = alone_is_start hay s
starts_are hay false s = all_are_starts hay s

-- the run that the regex asks for is what the search found
pub answered : (r : Regex) (i : Input) (found : Bool) (old new : List (Option ℕ)) (before after : Room) → IsSearched r i found old new before after →
    i.kind ≡ kind_of r → Answered r.program (run_at r i.haystack.now (starts_in i)) found old new
answered r i found old new before after search kind = by r.leftmost_longest kind
  where
    by : (b : Bool) → i.kind ≡ (if b then Longest else First) → Answered r.program (chosen_run b r.program i.haystack.now (starts_in i)) found old new
    by true e = search.answered.longest e
    by false e = search.answered.first e

-- a slice of two slots, or of all, has two
pub two_at_least : (r : Regex) → IsCompiled r → (n : ℕ) → (n ≡ 2) ⊎ (n ≡ r.program.slots) → 2 ≤ n
two_at_least r is n h = ⊎_elim (λ (e : n ≡ 2). omega arith) (λ (e : n ≡ r.program.slots). let two = is.well_formed.slots in omega arith) h

-- the first n slots have group 0, if n is 2 or more
pub front_group : (n : ℕ) (xs : List (Option ℕ)) → 2 ≤ n → group_in (take n xs) 0 ≡ group_in xs 0
front_group zero xs le = absurd (omega arith)
front_group (suc zero) xs le = absurd (omega arith)
front_group (suc (suc n)) [] le = refl
front_group (suc (suc n)) (x ∷ []) le = refl
front_group (suc (suc n)) (x ∷ y ∷ xs) le = refl

-- what is mapped is there exactly if it was
pub some_mapped : {A B : Type 0} (f : A → B) (o : Option A) → is_some (option_map f o) ≡ is_some o
some_mapped f None = refl
some_mapped f (Some x) = refl

pub slots_of : (r : Regex) (hay : List ℕ) (o : Option (List (Option ℕ))) → o ≡ option_map (λ y. y.slots) (option_map (captured r hay) o)
slots_of r hay None = refl
slots_of r hay (Some l) = refl

pub regex_of : (r : Regex) (hay : List ℕ) (o : Option (List (Option ℕ))) → IfSome (option_map (captured r hay) o) (λ x. x.regex ≡ r)
regex_of r hay None = tt
regex_of r hay (Some l) = refl

pub haystack_of : (r : Regex) (hay : List ℕ) (o : Option (List (Option ℕ))) → IfSome (option_map (captured r hay) o) (λ x. x.haystack ≡ hay)
haystack_of r hay None = tt
haystack_of r hay (Some l) = refl

module _ (r : Regex) (is : IsCompiled r) (hay : List ℕ) (s : ℕ) (ps : List ℕ) (are : AreStarts hay s ps) where
  -- two slots or more have the span of the run
  pub front_slots : (found : Bool) (old new : List (Option ℕ)) → Answered r.program (run_at r hay ps) found old new → found ≡ true → 2 ≤ length old →
      group_in new 0 ≡ span_at r hay ps
  front_slots found old new h holds two = by (run_at r hay ps) refl h
    where
      by : (o : Option Run) → run_at r hay ps ≡ o → Answered r.program o found old new → group_in new 0 ≡ option_map span_of_run o
      by None e h = absurd (true≢false (sym holds ∙ h.0))
      by (Some x) e h = ap (λ l. group_in l 0) h.1 ∙ front_group (length old) (slots r.program x) two ∙ run_at-whole r is hay s ps are x e

  -- where nothing is found there is no span
  pub none_there : (found : Bool) (old new : List (Option ℕ)) → Answered r.program (run_at r hay ps) found old new → found ≡ false →
      None ≡ span_at r hay ps
  none_there found old new h missing = by (run_at r hay ps) h
    where
      by : (o : Option Run) → Answered r.program o found old new → None ≡ option_map span_of_run o
      by None h = refl
      by (Some x) h = absurd (true≢false (sym h.0 ∙ missing))

  -- known ends lie in the haystack
  pub ends_lie : (o : Option (ℕ × ℕ)) → option_map ends o ≡ span_at r hay ps → IfSome o (λ e. (e.0 ≤ e.1) × (e.1 ≤ length hay))
  ends_lie None h = tt
  ends_lie (Some e) h = let lies = span_at-lies r is hay s ps are (ends e) (sym h) in (lies.1, lies.2)

  -- the part of the haystack that a search finds
  pub found_match : (m : Option Excerpt) → m ≡ option_map (excerpt hay) (span_at r hay ps) → FindsMatch r hay ps m
  found_match m h = record {
    span = h;
    on_tree = subst (FindsSpan r hay ps) (spans (span_at r hay ps) ∙ ap (option_map (λ (x : Excerpt). x.span)) (sym h)) (found_span r is hay s ps are);
  }
    where
      spans : (o : Option Span) → o ≡ option_map (λ x. x.span) (option_map (excerpt hay) o)
      spans None = refl
      spans (Some g) = refl

  -- a part is found exactly if there is a run
  pub found_some : {M : Type 0} (f : M → Excerpt) (m : Option M) → option_map f m ≡ option_map (excerpt hay) (span_at r hay ps) →
      (found : Bool) (old new : List (Option ℕ)) → Answered r.program (run_at r hay ps) found old new → found ≡ is_some m
  found_some f m h found old new a = by (run_at r hay ps) a ∙ sym (parts (run_at r hay ps)) ∙ ap is_some (sym h) ∙ some_mapped f m
    where
      by : (o : Option Run) → Answered r.program o found old new → found ≡ is_some o
      by None h = h.0
      by (Some x) h = h.0

      parts : (o : Option Run) → is_some (option_map (excerpt hay) (option_map span_of_run o)) ≡ is_some o
      parts None = refl
      parts (Some x) = refl

  -- what a search of the tree finds, for slots that it wrote
  pub read_on_tree : (m : Option Excerpt) → m ≡ option_map (excerpt hay) (span_at r hay ps) → (old new : List (Option ℕ)) →
      new ≡ unwrap_or (slots_at r hay ps) old → MatchOption m (NoMatch r.tree hay ps) (λ x. AreGroupsFrom r hay ps new)
  read_on_tree m h old new w = by (run_at r hay ps) refl m h w
    where
      by : (x : Option Run) → run_at r hay ps ≡ x → (o : Option Excerpt) → o ≡ option_map (excerpt hay) (option_map span_of_run x) →
          new ≡ unwrap_or (option_map (slots r.program) x) old → MatchOption o (NoMatch r.tree hay ps) (λ m. AreGroupsFrom r hay ps new)
      by None e None same w = subst (λ q. FindsGroups r hay ps (option_map (slots r.program) q)) e (found_groups r is hay s ps are)
      by None e (Some m) same w = let never : Some m ≡ None = same in absurd (cc)
      by (Some x) e None same w = let never : None ≡ Some (excerpt hay (span_of_run x)) = same in absurd (cc)
      by (Some x) e (Some m) same w =
          subst (AreGroupsFrom r hay ps) (sym w) (subst (λ q. FindsGroups r hay ps (option_map (slots r.program) q)) e (found_groups r is hay s ps are))

  -- the groups of a search, by what stands in the slots
  pub captured_by : (o : Option (List (Option ℕ))) → slots_at r hay ps ≡ o → FindsCaptured r hay ps (option_map (captured r hay) o)
  captured_by o e = record {
    found = ap (option_map (captured r hay)) (sym e);
    on_tree = subst (FindsGroups r hay ps) (e ∙ slots_of r hay o) (found_groups r is hay s ps are);
    regex = regex_of r hay o;
    haystack = haystack_of r hay o;
  }

  -- the slots that a search has read, if something was found
  pub read_if : (m : Option Excerpt) (old new : List (Option ℕ)) → ReadsGroups r hay ps m old new → slots_at r hay ps ≡ groups_if (is_some m) new
  read_if m old new h = by (run_at r hay ps) h.found.span h.groups
    where
      by : (x : Option Run) → m ≡ option_map (excerpt hay) (option_map span_of_run x) → new ≡ unwrap_or (option_map (slots r.program) x) old →
          option_map (slots r.program) x ≡ groups_if (is_some m) new
      by None e w = ap (λ o. groups_if (is_some o) new) (sym e)
      by (Some x) e w = ap (λ l. Some l) (sym w) ∙ ap (λ o. groups_if (is_some o) new) (sym e)

  -- as many as the program has, if they were as many before
  pub read_length : (m : Option Excerpt) (old new : List (Option ℕ)) → ReadsGroups r hay ps m old new → length old ≡ r.program.slots →
      length new ≡ r.program.slots
  read_length m old new h fits = ap length h.groups ∙ by (run_at r hay ps)
    where
      by : (x : Option Run) → length (unwrap_or (option_map (slots r.program) x) old) ≡ r.program.slots
      by None = fits
      by (Some x) = length-slots r.program x
