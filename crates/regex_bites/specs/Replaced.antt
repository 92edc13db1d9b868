-- Texts with each match replaced by what a replacer gives.
use Rattle.std.specs.Prelude.{◌≡◌, ◌↔◌, ℕ, List, [], map, Option, Result, IfOk, OnErr}
use Rattle.std.specs.Cow.{cow_str_bytes, IsBorrowedStr}
use Rattle.std.specs.declared.borrow.CowStr.{CowStr}
use Rattle.bites_spec.specs.Pieces.{limited, replaced}
use Rattle.bites_spec.specs.Regex.{Regex}
use Rattle.bites_spec.specs.Captured.{Captured}
use Rattle.bites_spec.specs.Iteration.{captures_in}
use Rattle.bites_spec.specs.Replace.{Gave, GaveSome}
use Rattle.bites_spec.specs.Replaced.{span_in, ReplacesIn, IsRefusedIn}

-- the text is borrowed exactly if nothing matches
abbrev pub BorrowsText : {A E : Type 0} → Regex → List ℕ → Result (CowStr A) E → Type 0
BorrowsText r hay result = IfOk result (λ text. IsBorrowedStr text ↔ captures_in r hay ≡ [])

-- a call returns the text with its first n matches replaced by one text, all for 0, or memory is refused
pub record IsReplacedBy {A E : Type 0} (text : List ℕ) (r : Regex) (hay : List ℕ) (n : ℕ) (result : Result (CowStr A) E) : Type 0 where
  pub replaces : IfOk result (λ all. cow_str_bytes all ≡ replaced hay n (map span_in (captures_in r hay)) (map (λ c. text) (limited n (captures_in r hay))))
  pub borrowed : BorrowsText r hay result

module _ {S : Type 0} (gives : S → Captured → List ℕ → S → Type 0) (answers : S → Option (List ℕ) → S → Type 0) where
  -- a call returns the text with its first n matches replaced, all for 0, as the replacer says, and borrows the text exactly
  -- if nothing matches; or memory is refused
  pub record IsReplacement {A E : Type 0} (r : Regex) (hay : List ℕ) (n : ℕ) (s : S) (result : Result (CowStr A) E) : Type 0 where
    pub replaces : IfOk result (λ text. (end : S) × ReplacesIn gives answers r hay n s (cow_str_bytes text) end)
    pub borrowed : BorrowsText r hay result

  -- it leaves the replacer that it borrows in this state, after as many matches as it served
  pub record IsReplacementBy {A E : Type 0} (refuses : S → Captured → List ℕ → S → Type 0) (r : Regex) (hay : List ℕ) (n : ℕ) (s : S)
      (result : Result (CowStr A) E) (end : S) : Type 0 where
    pub replaces : IfOk result (λ text. ReplacesIn gives answers r hay n s (cow_str_bytes text) end)
    pub refused : OnErr result (IsRefusedIn gives answers refuses r hay n s end)
    pub borrowed : BorrowsText r hay result

  -- the same of a replacer that gives a text for each match
  pub record IsEachReplaced {A E : Type 0} (refuses : S → Captured → List ℕ → S → Type 0) (r : Regex) (hay : List ℕ) (n : ℕ) (s : S)
      (result : Result (CowStr A) E) (end : S) : Type 0 where
    pub replaces : IfOk result (λ text. (texts : List (List ℕ)) × Gave gives answers s (limited n (captures_in r hay)) texts end
        × (cow_str_bytes text ≡ replaced hay n (map span_in (captures_in r hay)) texts))
    pub served : OnErr result (GaveSome gives answers refuses s (limited n (captures_in r hay)) end)
    pub borrowed : BorrowsText r hay result
