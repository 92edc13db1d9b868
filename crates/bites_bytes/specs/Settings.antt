-- What a builder of regexes returns.
use Rattle.std.specs.Prelude.{◌≡◌, ◌≢◌, ℕ, false, List, Option, chars, Result, IfOk, IfErr}
use Rattle.bites_spec.specs.Tree.{Tree}
use Rattle.bites_spec.specs.Built.{IsCompilable}
use Rattle.bites_spec.specs.Message.{Message}
use Rattle.bites_spec.specs.Fault.{Fault}
use Rattle.bites_spec.specs.Grammar.{Reading}
use Rattle.bites_spec.specs.Measure.{Limits, groups_kept, groups_opened}
use Rattle.bites_spec.specs.Regex.{Regex}
use Rattle.bites_spec.specs.Settings.{Settings, Accepts}
use Rattle.bites_text.specs.Messages.{error_of}
use Rattle.bites_text.specs.declared.error.Error.{Error}
use Rattle.bites_text.specs.declared.error.Error.TheVariants.{Memory}
use Rattle.bites_machine.specs.Compiled as compiled

-- the pattern is read as this tree within the limits, and opens these groups
pub record IsRead (s : Settings) (t : Tree) (opened : List (Option (List ℕ))) : Type 0 where
  pub read : Limits (chars s.pattern) s.flags s.nest_limit t
  pub groups : (reading : Reading (chars s.pattern) s.flags t) → opened ≡ groups_opened reading
  pub compilable : IsCompilable t

-- the error of a pattern that is not accepted, where memory suffices: that of its first fault, or of the first limit that its
-- tree exceeds
pub data Refuses (s : Settings) (e : Error) : Type 0 where
  fault : (m : Message) → Fault (chars s.pattern) s.flags s.nest_limit m → e ≡ error_of m → Refuses s e
  limit : (t : Tree) (read : Limits (chars s.pattern) s.flags s.nest_limit t) →
      compiled.RefusesTree s.size_limit (groups_kept s.keep_dropped_groups read.reading) t e → Refuses s e

-- a build with these settings returns their regex, or the error of a pattern that is not accepted, or memory is refused
pub record Builds (s : Settings) (result : Result Regex Error) : Type 0 where
  pub kept : IfOk result (λ r. (r.pattern ≡ s.pattern) × (r.flags ≡ s.flags) × (r.keep_dropped_groups ≡ s.keep_dropped_groups)
      × (r.leftmost_longest ≡ s.leftmost_longest) × (r.prefilter ≡ s.prefilter))
  pub table : IfOk result (λ r. s.dfa_size_limit ≡ 0 → r.has_table ≡ false)
  pub accepted : IfOk result (λ r. Accepts s r.tree)
  pub refused : IfErr result (λ e. e ≢ Memory → (t : Tree) → Accepts s t → ⊥)
  pub message : IfErr result (λ e. e ≢ Memory → Refuses s e)
