-- What a trace of a search says of a regex.
use Rattle.std.proofs.Common.{◌≡◌, ℕ, ◌≤◌, Bool, true, false, true≢false, List, [], ◌∷◌, Option, Some, None, Result, Ok, Err, IfOk, length, replicate, reverse, refl, sym, ap, subst, ◌∙◌}
use Rattle.std.specs.Prelude.{is_some, IfSome, if◌then◌else◌}
use Rattle.std.specs.Borrow.{Bor}
use Rattle.std.proofs.lemmas.List.{length-replicate}
use Rattle.bites_spec.specs.Counts.{Record}
use Rattle.bites_spec.specs.Program.{Program}
use Rattle.bites_spec.specs.Regex.{Regex}
use Rattle.bites_machine.specs.Inputs.{is_longest, is_earliest}
use Rattle.bites_machine.specs.Sweep.{SearchResult}
use Rattle.bites_machine.specs.declared.vm.Input as input
use Rattle.bites_machine.specs.declared.vm.MatchKind.{MatchKind}
use Rattle.bites_machine.specs.declared.vm.MatchKind.TheVariants.{First, Longest}
use Rattle.bites_table.specs.Packed.{Packed, IsTableOf}
use Rattle.bites_table.specs.Standing.{Asked}
use Rattle.bites_table.specs.Trace.{LeadTo, asked_of}
use Rattle.bites_table.specs.declared.trace.How.TheVariants.{Walked}
use Rattle.bites_table.specs.declared.trace.TracedSearch.{TracedSearch}
use Rattle.bites_bytes.specs.Calls.{BeginsAt}
use Rattle.bites_bytes.specs.NextMatch.{kind_of}
use Rattle.bites_bytes.specs.Parts.{HoldsTable}
use Rattle.bites_bytes.specs.Traced.{IsTraced, IsTracedBy, asked_by}

longest_by : (b : Bool) → is_longest (if b then Longest else First) ≡ b
longest_by true = refl
longest_by false = refl

earliest_by : (b : Bool) → is_earliest (if b then Longest else First) ≡ false
earliest_by true = refl
earliest_by false = refl

-- which match is asked for
pub longest_of : (r : Regex) (k : MatchKind) → k ≡ kind_of r → is_longest k ≡ r.leftmost_longest
longest_of r k e = ap is_longest e ∙ longest_by r.leftmost_longest

earliest_of : (r : Regex) (k : MatchKind) → k ≡ kind_of r → is_earliest k ≡ false
earliest_of r k e = ap is_earliest e ∙ earliest_by r.leftmost_longest

abbrev asked : Packed → input.Input → Program → (anchored longest earliest : Bool) → ℕ → List (Option ℕ) → Asked
asked x i q anchored longest earliest width l = record {
  program = q;
  table = x;
  input = record { hay = i.haystack.now; start = i.start; width = width; anchored = anchored; longest = longest; earliest = earliest };
  slots = l;
}

-- what is given to the search is what is searched
asked_is : (r : Regex) (p : Program) (x : Packed) (i : input.Input) (slots : List (Option ℕ)) → p ≡ r.program → i.kind ≡ kind_of r → i.anchored ≡ false →
    slots ≡ replicate r.program.slots None → asked_of p x i slots ≡ asked_by r i.haystack.now i.start x
asked_is r p x i slots program kind anchored empty =
    ap (λ q. asked x i q i.anchored (is_longest i.kind) (is_earliest i.kind) (length slots) slots) program
    ∙ ap (λ b. asked x i r.program b (is_longest i.kind) (is_earliest i.kind) (length slots) slots) anchored
    ∙ ap (λ b. asked x i r.program false b (is_earliest i.kind) (length slots) slots) (longest_of r i.kind kind)
    ∙ ap (λ b. asked x i r.program false r.leftmost_longest b (length slots) slots) (earliest_of r i.kind kind)
    ∙ ap (λ n. asked x i r.program false r.leftmost_longest false n slots) (ap length empty ∙ length-replicate r.program.slots None)
    ∙ ap (λ l. asked x i r.program false r.leftmost_longest false r.program.slots l) empty

-- what holds of a value that is there
there : {A : Type 0} (P Q : A → Type 0) (o : Option A) → IfSome o P → IfSome o Q → is_some o ≡ true → (a : A) × P a × Q a
there P Q None p q e = absurd (true≢false (sym e))
there P Q (Some a) p q e = (a, p, q)

not_there : {A : Type 0} (o : Option A) → is_some o ≡ false → o ≡ None
not_there None e = refl
not_there (Some a) e = absurd (true≢false e)

-- what the machine's trace says of the regex whose program and table it was given
pub traced_by : {E : Type 0} (r : Regex) (p : Program) (table : Option (Bor Packed)) (i : input.Input) (old new : List (Option ℕ)) (walked : Record) →
    p ≡ r.program → HoldsTable r table → (o : Result TracedSearch E) →
    IfOk o (λ t. IfSome table (λ x. (end : ℕ) × LeadTo (asked_of p x.now i old) (reverse t.stretches.items) end)) →
    IfOk o (λ t. table ≡ None → t.stretches.items ≡ record { from = i.start; how = Walked } ∷ []) →
    IfOk o (λ t. i.start ≤ length i.haystack.now →
    SearchResult p i.haystack.now (is_longest i.kind) i.anchored (is_earliest i.kind) i.start t.is_found old new walked) →
    IfOk o (IsTracedBy r i old)
traced_by r p table i old new walked is holds (Ok t) leads walks searched = record {
  searched = λ within. (
    new,
    walked,
    subst (λ (q : Program). SearchResult q i.haystack.now (is_longest i.kind) i.anchored (is_earliest i.kind) i.start t.is_found old new walked) is
        (searched within),
  );
  lead = λ has.
      let l = there (λ x. IsTableOf r.program x.now) (λ x. (end : ℕ) × LeadTo (asked_of p x.now i old) (reverse t.stretches.items) end)
      table holds.of leads (holds.is ∙ has) in (
        l.0.now,
        l.1,
        l.2.0,
        subst (λ (q : Program). LeadTo (asked_of q l.0.now i old) (reverse t.stretches.items) l.2.0) is l.2.1,
      );
  walked = λ none. walks (not_there table (holds.is ∙ none));
}
traced_by r p table i old new walked is holds (Err e) leads walks searched = tt

-- and of a search from a place on that is asked for empty slots
pub traced_from : {E : Type 0} (r : Regex) (start : ℕ) (i : input.Input) (old : List (Option ℕ)) → BeginsAt r i.haystack.now start i.start →
    i.kind ≡ kind_of r → i.anchored ≡ false → old ≡ replicate r.program.slots None → (o : Result TracedSearch E) → IfOk o (IsTracedBy r i old) →
    IfOk o (IsTraced r i.haystack.now start)
traced_from r start i old begins kind anchored empty (Ok t) by = record {
  place = i.start;
  begins = begins;
  searched = λ within.
      let s = by.searched within in (
        s.0,
        s.1,
        subst (λ (l : List (Option ℕ)). SearchResult r.program i.haystack.now r.leftmost_longest false false i.start t.is_found l s.0 s.1) empty
            (subst (λ b. SearchResult r.program i.haystack.now r.leftmost_longest false b i.start t.is_found old s.0 s.1) (earliest_of r i.kind kind)
            (subst (λ b. SearchResult r.program i.haystack.now r.leftmost_longest b (is_earliest i.kind) i.start t.is_found old s.0 s.1) anchored
            (subst (λ b. SearchResult r.program i.haystack.now b i.anchored (is_earliest i.kind) i.start t.is_found old s.0 s.1) (longest_of r i.kind kind) s.2))),
      );
  lead = λ has.
      let l = by.lead has in (
        l.0,
        l.1,
        l.2,
        subst (λ (a : Asked). LeadTo a (reverse t.stretches.items) l.2) (asked_is r r.program l.0 i old refl kind anchored empty) l.3,
      );
  walked = by.walked;
}
traced_from r start i old begins kind anchored empty (Err e) by = tt
