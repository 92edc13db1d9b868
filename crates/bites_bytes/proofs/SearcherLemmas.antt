-- What a searcher's iterators keep.
use Rattle.std.proofs.Common.{◌≡◌, List, [], ◌∷◌, Option, refl, ◌∙◌, subst}
use Rattle.std.specs.Borrow.{GName, MutBor}
use Rattle.std.specs.Iterator.{Yields}
use Rattle.bites_spec.specs.Regex.{Regex}
use Rattle.bites_bytes.specs.Lent.{BorrowsBy, KeepsSearcher, StepsBy}

-- what each step keeps, all of them keep
pub kept_along : {S I : Type 0} (searcher : S → MutBor Regex) (yields : S → Option I → S → Type 0) (first : S) (items : List I) (later : S) →
    Yields (StepsBy searcher yields) first items later → KeepsSearcher searcher first later
kept_along searcher yields first [] later run = subst (KeepsSearcher searcher first) run (refl, refl)
kept_along searcher yields first (item ∷ items) later run =
    let step = run.1.1 in let rest = kept_along searcher yields run.0 items later run.2 in (rest.0 ∙ step.0, rest.1 ∙ step.1)

-- so an iterator that begins with this keeps the regex along
pub borrows : {S I B : Type 0} (searcher : S → MutBor Regex) (yields : S → Option I → S → Type 0) (left : S → List B) (items : List B) (name : GName) (r : Regex)
    (first : S) → left first ≡ items → (searcher first).ghost_name ≡ name → (searcher first).now ≡ r → BorrowsBy searcher yields left items name r first
borrows searcher yields left items name r first rest same is = record {
  rest = rest;
  same_reference = same;
  stays = λ things later run. let kept = kept_along searcher yields first things later run in (kept.0, kept.1 ∙ is);
}
