-- What a regex is made from, and how it is prepared.
use Rattle.std.specs.Prelude.{◌≡◌, ℕ, Bool, true, false}
use Rattle.bites_spec.specs.Regex.{Regex, with_prefilter, with_table}
use Rattle.bites_spec.specs.Settings.{Settings, Accepts}
use Rattle.bites_c.specs.declared.held.Held.{Held}

-- the pattern, the flags and all switches are those of the settings, which accept the pattern as the regex's tree; with the limit
-- 0 there is no table
pub record IsMadeBy (s : Settings) (r : Regex) : Type 0 where
  pub pattern : r.pattern ≡ s.pattern
  pub flags : r.flags ≡ s.flags
  pub keep_dropped_groups : r.keep_dropped_groups ≡ s.keep_dropped_groups
  pub leftmost_longest : r.leftmost_longest ≡ s.leftmost_longest
  pub prefilter : r.prefilter ≡ s.prefilter
  pub table : s.dfa_size_limit ≡ 0 → r.has_table ≡ false
  pub accepts : Accepts s r.tree

-- the second is the first with a table or without one, and without one if the limit is 0; its searches look for a literal first
pub record IsPrepared (limit : ℕ) (before after : Held) : Type 0 where
  pub regex : (b : Bool) × (after.regex ≡ with_prefilter true (with_table b before.regex))
  pub is_text : after.is_text ≡ before.is_text
  pub none : limit ≡ 0 → after.regex.has_table ≡ false
