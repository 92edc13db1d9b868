-- What iterators leave of the searcher that they borrow.
use Rattle.std.specs.Prelude.{◌≡◌, List, Option}
use Rattle.std.specs.Borrow.{GName, MutBor}
use Rattle.std.specs.Iterator.{Yields}
use Rattle.bites_spec.specs.Regex.{Regex}

module _ {S : Type 0} (searcher : S → MutBor Regex) where
  -- t borrows the searcher that s borrows, and leaves it as it is
  abbrev pub KeepsSearcher : S → S → Type 0
  KeepsSearcher s t = ((searcher t).ghost_name ≡ (searcher s).ghost_name) × ((searcher t).now ≡ (searcher s).now)

  module _ {I : Type 0} (yields : S → Option I → S → Type 0) where
    -- `next` took s to t, and returned the first of what was left
    abbrev pub StepsBy : S → Option I → S → Type 0
    StepsBy s r t = yields s r t × KeepsSearcher s t

    -- each state that calls of `next` lead to borrows the same searcher, which is this regex still
    abbrev pub KeepsAlongBy : S → Regex → Type 0
    KeepsAlongBy first r =
        (items : List I) (later : S) → Yields StepsBy first items later →
        ((searcher later).ghost_name ≡ (searcher first).ghost_name) × ((searcher later).now ≡ r)

    -- an iterator has this left, borrows the searcher of this name, and keeps it along
    pub record BorrowsBy {B : Type 0} (left : S → List B) (items : List B) (name : GName) (r : Regex) (first : S) : Type 0 where
      pub rest : left first ≡ items
      pub same_reference : (searcher first).ghost_name ≡ name
      pub stays : KeepsAlongBy first r
