-- Haystacks with their matches replaced.
use Rattle.std.specs.Prelude.{◌≡◌, ◌↔◌, ℕ, List, [], Option, Result, IfOk, OnErr}
use Rattle.std.specs.Cow.{cow_slice_items, IsBorrowedSlice}
use Rattle.std.specs.declared.borrow.CowSlice.{CowSlice}
use Rattle.bites_spec.specs.Counts.{Room, fit_of}
use Rattle.bites_spec.specs.Regex.{Regex}
use Rattle.bites_spec.specs.Captured.{Captured}
use Rattle.bites_spec.specs.Iteration.{captures_in}
use Rattle.bites_spec.specs.Replaced.{ReplacesIn}
use Rattle.bites_bytes.specs.Calls.{BothFit}

module _ {S : Type 0} (can_replace : S → Type 0) (r : Regex) (room : Room) where
  -- the replacer may be asked in each of its states, and the cache fits
  pub record MayReplace : Type 0 where
    pub callable : (state : S) → can_replace state
    pub fits : room.fits ≡ fit_of r.program

  -- and so do the slots
  pub record MayReplaceBy (slots : List (Option ℕ)) : Type 0 where
    pub callable : (state : S) → can_replace state
    pub fit : BothFit r room slots

module _ {S : Type 0} (gives : S → Captured → List ℕ → S → Type 0) (answers : S → Option (List ℕ) → S → Type 0) where
  -- a call returns the haystack with its first n matches replaced, all for 0, as the replacer says, and borrows the haystack exactly
  -- if nothing matches; or memory is refused
  pub record IsReplacement {A E : Type 0} (r : Regex) (hay : List ℕ) (n : ℕ) (s : S) (result : Result (CowSlice ℕ A) E) : Type 0 where
    pub replaces : IfOk result (λ bytes. (end : S) × ReplacesIn gives answers r hay n s (cow_slice_items bytes) end)
    pub borrowed : IfOk result (λ bytes. IsBorrowedSlice bytes ↔ captures_in r hay ≡ [])

  -- it leaves the replacer that it borrows in this state, and if memory is refused this holds
  pub record IsReplacementBy {A E : Type 0} (r : Regex) (hay : List ℕ) (n : ℕ) (s : S) (result : Result (CowSlice ℕ A) E) (end : S) (refusal : Type 0) : Type 0 where
    pub replaces : IfOk result (λ bytes. ReplacesIn gives answers r hay n s (cow_slice_items bytes) end)
    pub refused : OnErr result refusal
    pub borrowed : IfOk result (λ bytes. IsBorrowedSlice bytes ↔ captures_in r hay ≡ [])
