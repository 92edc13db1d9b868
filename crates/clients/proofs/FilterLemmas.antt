-- What is done with each line selects lines.
use Rattle.std.proofs.Common.{◌≡◌, ℕ, ◌+◌, true, false, List, [], ◌∷◌, ◌++◌, length, Option, Some, None, IfSome, refl, ap, ◌∙◌, subst, inl, inr, arith}
use Rattle.std.specs.Io.KnownBytes.{Appends}
use Rattle.bites_filter.specs.Lines.{lines_of, DoesEach}
use Rattle.bites_filter.proofs.Written.{appends_both}
use Rattle.clients.specs.declared.lines.filter.Filter.{Filter}
use Rattle.clients.specs.Selected.{Selected, selected, AreSelected, AreShown, ending, IsFiltered}
use Rattle.clients.specs.Filtered.{Filters}

-- the lines that are selected, with what is written for them
abbrev Selects : Filter → ℕ → List (List ℕ) → List ℕ → ℕ → Type 0
Selects s n ls text count =
    (found : List Selected) × AreSelected s.searcher.tree s.invert n ls found × AreShown s.searcher s.format found text × (count ≡ length found)

selects : (n : ℕ) (ls : List (List ℕ)) (s : Filter) (text : List ℕ) (count : ℕ) (t : Filter) →
    DoesEach Filters n ls s text count t → Selects s n ls text count
selects n [] s text count t does = ([], refl, does.0, does.1)
selects n (l ∷ ls) s text count t (first, true, m, rest, more, ((asked, shown), same), does, text_is, count_is) =
    let on = selects (n + 1) ls s rest more t (subst (λ f. DoesEach Filters (n + 1) ls f rest more t) same does) in
    let more_is : more ≡ length on.0 = on.3 in (
      selected (n + 1) l ∷ on.0,
      inl (asked, on.0, refl, on.1),
      (first, rest, shown, on.2, text_is),
      omega (arith, count_is, more_is),
    )
selects n (l ∷ ls) s text count t (first, false, m, rest, more, ((asked, first_is), same), does, text_is, count_is) =
    let on = selects (n + 1) ls s rest more t (subst (λ f. DoesEach Filters (n + 1) ls f rest more t) same does) in
    let more_is : more ≡ length on.0 = on.3 in
    let text_same : text ≡ rest = text_is ∙ ap (λ x. x ++ rest) first_is in
    (on.0, inr (asked, on.1), rw text_same on.2, omega (arith, count_is, more_is))

pub filtered : (s t : Filter) (count : ℕ) (old mid new input : Option (List ℕ)) →
    IfSome input (λ bytes. (text : List ℕ) × DoesEach Filters 0 (lines_of bytes) s text count t × Appends old mid text) →
    Appends mid new (ending s.format s.format.show count) →
    IfSome input (λ bytes. IsFiltered s.searcher s.invert s.format (lines_of bytes) count old new)
filtered s t count old mid new None does b = tt
filtered s t count old mid new (Some xs) (text, does, a) b =
    let on = selects 0 (lines_of xs) s text count t does in record {
      found = on.0;
      selected = on.1;
      count_is = on.3;
      texts = text;
      shown = on.2;
      written = appends_both old mid new text (ending s.format s.format.show count) a b;
    }
