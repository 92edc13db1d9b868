-- Sets of patterns: what they are built from, and what a search of them finds.
use Rattle.std.specs.Prelude.{◌≡◌, ◌↔◌, ℕ, ◌+◌, Bool, true, List, [], ◌∷◌, cond, length, map, slice_get, Some}
use Rattle.bites_spec.specs.Counts.{Fit, Room, fit_of}
use Rattle.bites_spec.specs.Found.{HasMatch}
use Rattle.bites_spec.specs.Regex.{Regex}
use Rattle.bites_spec.specs.Settings.{Settings, Accepts, by_default}

-- the same settings for another pattern
abbrev pub with_pattern : Settings → List ℕ → Settings
with_pattern s pattern = record s { pattern = pattern }

-- patterns, and the settings of all of them; the pattern that stands in those means nothing
pub record SetSettings : Type 0 where
  pub patterns : List (List ℕ)
  pub all : Settings

-- set settings by their parts
abbrev pub set_settings : List (List ℕ) → Settings → SetSettings
set_settings patterns all = record { patterns = patterns; all = all }

-- the settings that a builder of a set of these patterns begins with
abbrev pub set_by_default : List (List ℕ) → SetSettings
set_by_default patterns = set_settings patterns (by_default [])

-- the regex is the one that is built under these settings
pub record IsBuilt (s : Settings) (r : Regex) : Type 0 where
  pub pattern : r.pattern ≡ s.pattern
  pub flags : r.flags ≡ s.flags
  pub keep_dropped_groups : r.keep_dropped_groups ≡ s.keep_dropped_groups
  pub leftmost_longest : r.leftmost_longest ≡ s.leftmost_longest
  pub prefilter : r.prefilter ≡ s.prefilter
  pub accepted : Accepts s r.tree

-- there is a regex for each pattern, built under the settings of all
pub record AreBuilt (s : SetSettings) (regexes : List Regex) : Type 0 where
  pub patterns : map (λ r. r.pattern) regexes ≡ s.patterns
  pub each : (k : ℕ) (r : Regex) → slice_get regexes k ≡ Some r → IsBuilt (with_pattern s.all r.pattern) r

module _ (regexes : List Regex) (hay starts : List ℕ) where
  -- the tree of the regex with this number matches from some start
  abbrev pub HasMatchOf : ℕ → Type 0
  HasMatchOf k = (r : Regex) × (slice_get regexes k ≡ Some r) × HasMatch r.tree hay starts

  -- the tree of some regex matches from some start
  abbrev pub HasMatchOfAny : Type 0
  HasMatchOfAny = (k : ℕ) × HasMatchOf k

  -- of each regex, whether its tree matches from some start
  pub record AreMatched (matched : List Bool) : Type 0 where
    pub len : length matched ≡ length regexes
    pub each : (k : ℕ) → (slice_get matched k ≡ Some true) ↔ HasMatchOf k

-- the numbers of the entries that are true, counted from n on
abbrev pub numbers_from : ℕ → List Bool → List ℕ
numbers_from n [] = []
numbers_from n (b ∷ bs) = cond b (n ∷ numbers_from (n + 1) bs) (numbers_from (n + 1) bs)

-- the rooms for searches, as what each fits
abbrev pub fits_of : List Room → List Fit
fits_of = map (λ room. room.fits)

-- what a room for the searches of each regex fits
abbrev pub fits_for : List Regex → List Fit
fits_for = map (λ r. fit_of r.program)
