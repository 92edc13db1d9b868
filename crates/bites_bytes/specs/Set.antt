-- What builders of sets return, sets with tables, and what an iterator over the numbers of patterns has left.
use Rattle.std.specs.Prelude.{◌≡◌, ◌≢◌, ◌++◌, ℕ, ◌<◌, Bool, false, List, codes, decimal, length, map, slice_get, Some, Result, IfOk, IfErr}
use Rattle.std.specs.List.{list_any}
use Rattle.std.specs.Borrow.{Bor}
use Rattle.bites_spec.specs.Regex.{Regex, with_prefilter, with_table}
use Rattle.bites_spec.specs.Tree.{Tree}
use Rattle.bites_spec.specs.Settings.{Settings, Accepts}
use Rattle.bites_spec.specs.Counts.{Room}
use Rattle.bites_spec.specs.Set.{SetSettings, AreBuilt, IsBuilt, fits_for, fits_of, with_pattern}
use Rattle.bites_text.specs.declared.error.Error.{Error}
use Rattle.bites_text.specs.declared.error.Error.TheVariants.{Memory}
use Rattle.bites_text.specs.Texts.{error_text}
use Rattle.bites_bytes.specs.Settings.{Refuses}

-- the number of a pattern that is not built, and why
pub record Refusal : Type 0 where
  pub index : ℕ
  pub error : Error

-- the number of the pattern, and the message of the error
abbrev pub refusal_text : Refusal → List ℕ
refusal_text r = codes "pattern " ++ decimal r.index ++ codes ": " ++ error_text r.error

-- a build of one pattern returns its regex, whatever its table may take, or why it isn't accepted, or memory is refused
pub record BuildsOne (s : Settings) (result : Result Regex Error) : Type 0 where
  pub built : IfOk result (IsBuilt s)
  pub refused : IfErr result (λ e. e ≢ Memory → (t : Tree) → Accepts s t → ⊥)
  pub message : IfErr result (λ e. e ≢ Memory → Refuses s e)

-- The pattern with this number is not accepted, with this error. Those before it are.
pub record IsRefused (s : SetSettings) (refusal : Refusal) : Type 0 where
  pub pattern : List ℕ
  pub at : slice_get s.patterns refusal.index ≡ Some pattern
  pub none : (t : Tree) → Accepts (with_pattern s.all pattern) t → ⊥
  pub message : Refuses (with_pattern s.all pattern) refusal.error
  pub first : (k : ℕ) (p : List ℕ) → k < refusal.index → slice_get s.patterns k ≡ Some p → (t : Tree) × Accepts (with_pattern s.all p) t

-- a build of a set with these settings returns its regexes, or which pattern is not accepted and why, or memory is refused
pub record BuildsSet (s : SetSettings) (result : Result (List Regex) Refusal) : Type 0 where
  pub built : IfOk result (AreBuilt s)
  pub refused : IfErr result (λ e. e.error ≢ Memory → IsRefused s e)

-- the regexes, each without a table
abbrev pub without_tables : List Regex → List Regex
without_tables = map (with_table false)

-- the regexes, each with this switch
abbrev pub with_prefilters : Bool → List Regex → List Regex
with_prefilters prefilter = map (with_prefilter prefilter)

-- each regex after is the one before with this switch and with a table or without one, in the same order; with the limit 0 none
-- has a table
pub record ArePrepared (limit : ℕ) (prefilter : Bool) (before after : List Regex) : Type 0 where
  pub same : without_tables after ≡ without_tables (with_prefilters prefilter before)
  pub none : limit ≡ 0 → after ≡ without_tables (with_prefilters prefilter before)

-- a search of the set may write an entry for each regex: the caches fit, and there is an entry for each
pub record MayWriteEach (rs : List Regex) (rooms : List Room) (matched : List Bool) : Type 0 where
  pub fits : fits_of rooms ≡ fits_for rs
  pub entries : length matched ≡ length rs

-- whether any of the regexes has a table
abbrev pub has_any_table : List Regex → Bool
has_any_table = list_any (λ r. r.has_table)

-- a pattern by its bytes
abbrev pub bytes_of : Bor (List ℕ) → List ℕ
bytes_of text = text.now

-- a refusal by its parts
abbrev pub refusal : ℕ → Error → Refusal
refusal index error = record { index = index; error = error }
