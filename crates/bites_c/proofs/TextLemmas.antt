-- What searches over texts require.
use Rattle.std.proofs.Common.{◌≡◌, ℕ, Bool, true, false, List, Option, Some, None, sym, subst, ◌∙◌}
use Rattle.std.specs.Prelude.{⊤, MatchOption}
use Rattle.bites_spec.specs.Counts.{Room}
use Rattle.bites_spec.specs.Regex.{Regex}
use Rattle.bites_c.specs.Handles.{ReadsHandle}
use Rattle.bites_c.specs.Searched.{AnswersHeld, SearchedFrom}
use Rattle.bites_c.specs.Texts.{AsksFrom, AsksGroups}
use Rattle.bites_c.specs.declared.cache.BitesCache.{BitesCache}
use Rattle.bites_c.specs.declared.regex.Bites.{Bites}
use Rattle.bites_c.specs.declared.held.Held.{Held}
use Rattle.bites_c.specs.declared.span.BitesSpan.{BitesSpan}

-- what holds of what was taken out of a handle and put back
pub of_held :
    (P : Held → Type 0) (S : Type 0) (was : Bites) (after : Option Held) (value here : Held) → was.held ≡ Some value →
    after ≡ Some value → here ≡ value → P here → ReadsHandle was.held after S P
of_held P S was after value here held back is p =
    record { same = back ∙ sym held; answered = subst (λ q. MatchOption q S P) (sym held) (subst P is p) }

pub still_refused :
    (b : Bool) (hay : List ℕ) (start number : ℕ) (S A : Type 0) → S → AsksFrom b hay start number ⊤ ⊥ → AsksFrom b hay start number S A
still_refused false hay start number S A s h = absurd h
still_refused true hay start number S A s h =
    ((λ no. ((h.0 no).0, s)), λ utf8. let k = h.1 utf8 in ((λ no. ((k.0 no).0, s)), λ border. absurd (k.1 border)))

-- a search that is refused finds nothing
pub refused_from :
    (hay : List ℕ) (start : ℕ) (regex regex_after : Bites) (cache cache_after : BitesCache) (number : ℕ) (S : Type 0) (P : Regex → Type 0) →
    S → SearchedFrom hay start regex regex_after cache cache_after number ⊤ (λ r. ⊥) → SearchedFrom hay start regex regex_after cache cache_after number S P
refused_from hay start regex regex_after cache cache_after number S P s h = record { same = h.same; fits = h.fits; answered = by regex.held cache.room h.answered }
  where
    by :
        (held : Option Held) (room : Option Room) → AnswersHeld held room number ⊤ (λ x. AsksFrom x.is_text hay start number ⊤ ⊥) →
        AnswersHeld held room number S (λ x. AsksFrom x.is_text hay start number S (P x.regex))
    by None room h = (h.0, s)
    by (Some x) None h = (h.0, s)
    by (Some x) (Some m) h = ((λ fits. still_refused x.is_text hay start number S (P x.regex) s (h.0 fits)), λ other. ((h.1 other).0, s))

module _ (b : Bool) (hay : List ℕ) (groups : List BitesSpan) (template : List ℕ) (R : ℕ → Type 0) where
  -- the number of what is wrong is the one that is returned
  pub wrong :
      (A : Type 0) (n : ℕ) → AsksGroups b hay groups template (λ number. n ≡ number) ⊥ → R n → AsksGroups b hay groups template R A
  wrong A n told r = by b told
    where
      by : (b : Bool) → AsksGroups b hay groups template (λ number. n ≡ number) ⊥ → AsksGroups b hay groups template R A
      by false h = ((λ no. subst R (h.0 no) r), λ lie. absurd (h.1 lie))
      by true h = (
        (λ no. subst R (h.0 no) r),
        λ utf8. let k = h.1 utf8 in
            ((λ no. subst R (k.0 no) r), λ lie. let m = k.1 lie in ((λ no. subst R (m.0 no) r), λ borders. absurd (m.1 borders))),
      )
