-- The settings of a builder of regexes, and what it accepts under them.
use Rattle.std.specs.Prelude.{ℕ, Bool, false, List, chars}
use Rattle.bites_spec.specs.Pattern.{Flags}
use Rattle.bites_spec.specs.Tree.{Tree}
use Rattle.bites_spec.specs.Measure.{Limits, TreeLimitsWith, groups_kept}

-- no flag is set
abbrev pub no_flags : Flags
no_flags = record {
  case_insensitive = false;
  multi_line = false;
  dot_matches_new_line = false;
  crlf = false;
  swap_greed = false;
  ignore_whitespace = false;
}

-- the bytes of a pattern, flags, limits, whether groups that the tree drops are kept, whether searches return the longest match,
-- and whether they look for a literal first. The last limit is that of the bytes of a table of thread lists.
pub record Settings : Type 0 where
  pub pattern : List ℕ
  pub flags : Flags
  pub size_limit : ℕ
  pub nest_limit : ℕ
  pub dfa_size_limit : ℕ
  pub keep_dropped_groups : Bool
  pub leftmost_longest : Bool
  pub prefilter : Bool

-- settings by their parts
abbrev pub settings : List ℕ → Flags → ℕ → ℕ → ℕ → Bool → Bool → Bool → Settings
settings pattern flags size_limit nest_limit dfa_size_limit keep_dropped_groups leftmost_longest prefilter = record {
  pattern = pattern;
  flags = flags;
  size_limit = size_limit;
  nest_limit = nest_limit;
  dfa_size_limit = dfa_size_limit;
  keep_dropped_groups = keep_dropped_groups;
  leftmost_longest = leftmost_longest;
  prefilter = prefilter;
}

-- the settings that a builder of this pattern begins with
abbrev pub by_default : List ℕ → Settings
by_default pattern = settings pattern no_flags 10485760 50 1048576 false false false

-- the grammar reads the pattern as this tree, and all limits hold, with the groups that are kept
pub record Accepts (s : Settings) (t : Tree) : Type 0 where
  pub read : Limits (chars s.pattern) s.flags s.nest_limit t
  pub small : TreeLimitsWith s.size_limit (groups_kept s.keep_dropped_groups read.reading) t
