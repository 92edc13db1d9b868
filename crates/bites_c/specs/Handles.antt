-- What calls do with handles.
use Rattle.std.specs.Prelude.{◌≡◌, ◌≢◌, ◌↔◌, ℕ, Option, None, Some, Result, MatchOption, MatchResult, IsSomeAnd}
use Rattle.bites_text.specs.Texts.{code_of}
use Rattle.bites_text.specs.declared.error.Error.TheVariants.{Memory}
use Rattle.bites_c.specs.Codes.{done, empty_handle}
use Rattle.bites_c.specs.declared.cache.BitesCache.{BitesCache}
use Rattle.bites_c.specs.declared.regex.Bites.{Bites}
use Rattle.bites_c.specs.declared.taken.Search.{Search}

-- the handle holds what it held; P says of that what was returned, and S holds if it is nothing
pub record ReadsHandle {A : Type 0} (old new : Option A) (S : Type 0) (P : A → Type 0) : Type 0 where
  pub same : new ≡ old
  pub answered : MatchOption old S P

-- the handle holds what it held; if the call is done, P says what was made of that for another handle, else the other handle holds
-- nothing, and the number says whether this one does or memory ran out
pub record MakesHandle {A B : Type 0} (old new : Option A) (out : Option B) (number : ℕ) (P : A → B → Type 0) : Type 0 where
  pub same : new ≡ old
  pub made : number ≡ done → IsSomeAnd old (λ h. IsSomeAnd out (P h))
  pub refused : number ≢ done → out ≡ None
  pub empty : number ≡ empty_handle ↔ old ≡ None
  pub known : number ≢ done → number ≢ empty_handle → number ≡ code_of Memory

-- a search has what the handles held, and P holds of it; or there is none, the handles are unchanged, and Q holds of the number
abbrev pub Begins : Result Search ℕ → Bites → Bites → BitesCache → BitesCache → (Search → Type 0) → (ℕ → Type 0) → Type 0
Begins result regex regex_after cache cache_after P Q =
    MatchResult result (λ s. (regex.held ≡ Some s.held.value) × (cache.room ≡ Some s.room.value) × P s)
    (λ n. (regex_after.held ≡ regex.held) × (cache_after.room ≡ cache.room) × Q n)

-- this is what the search found; it still has the same regex, and room for the same regexes
pub record SearchFinds (old new : Search) (P : Type 0) : Type 0 where
  pub held : new.held.value ≡ old.held.value
  pub fits : new.room.value.fits ≡ old.room.value.fits
  pub found : P
