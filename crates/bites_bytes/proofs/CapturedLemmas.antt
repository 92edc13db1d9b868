-- The groups that a search reads, and those that it returns.
use Rattle.std.proofs.Common.{◌≡◌, ℕ, Bool, List, Option, Some, None, option_map, sym, ap, ◌∙◌, subst}
use Rattle.std.specs.Prelude.{is_some, IfSome, Result, IfOk}
use Rattle.std.proofs.lemmas.Result.{IfOk-weaker}
use Rattle.bites_spec.specs.Utf8.{AreStarts}
use Rattle.bites_spec.specs.Regex.{Regex, IsCompiled, slots_at}
use Rattle.bites_spec.specs.Captured.{Excerpt, AreGroups, captured}
use Rattle.bites_spec.proofs.regex.RegexRuns.{slots_are_groups}
use Rattle.bites_bytes.specs.Calls.{groups_if, FindsCaptured, ReadsGroups}
use Rattle.bites_bytes.proofs.SlotLemmas.{captured_by, read_if, some_mapped}

-- what is known of slots that were found
pub if_found : {A : Type 0} (P : A → Type 0) (q : Option A) → ((x : A) → q ≡ Some x → P x) → (o : Option A) → q ≡ o → IfSome o P
if_found P q known None e = tt
if_found P q known (Some x) e = known x e

-- a call returns this, or memory is refused
pub returned : {A E : Type 0} (P : A → Type 0) (y : A) → P y → (c : Result A E) → IfOk c (λ x. x ≡ y) → IfOk c P
returned P y holds c same = IfOk-weaker c (λ x. x ≡ y) P (λ x e. subst P (sym e) holds) same

module _ (r : Regex) (is : IsCompiled r) (hay : List ℕ) (s : ℕ) (ps : List ℕ) (are : AreStarts hay s ps) {M : Type 0} (f : M → Excerpt) (m : Option M)
    (old new : List (Option ℕ)) (reads : ReadsGroups r hay ps (option_map f m) old new) (there : Bool) (same : is_some m ≡ there) where
  slots_there : slots_at r hay ps ≡ groups_if there new
  slots_there = read_if r is hay s ps are (option_map f m) old new reads ∙ ap (λ b. groups_if b new) (some_mapped f m ∙ same)

  -- the slots hold groups, if something was found
  pub groups_there : IfSome (groups_if there new) (AreGroups r hay)
  groups_there = if_found (AreGroups r hay) (slots_at r hay ps) (slots_are_groups r is hay s ps are) (groups_if there new) slots_there

  -- and these are what the search finds
  pub captured_there : FindsCaptured r hay ps (option_map (captured r hay) (groups_if there new))
  captured_there = captured_by r is hay s ps are (groups_if there new) slots_there
