-- A regex by its parts.
use Rattle.std.specs.Prelude.{◌≡◌, ℕ, ◌/◌, ◌<◌, ◌^◌, Bool, true, false, List, length, Option, is_some, IfSome}
use Rattle.std.specs.Borrow.{Bor}
use Rattle.bites_spec.specs.Pattern.{Flags}
use Rattle.bites_spec.specs.Tree.{Tree, captures_len}
use Rattle.bites_spec.specs.Measure.{groups_left}
use Rattle.bites_spec.specs.Regex.{Regex, IsCompiled, NamesAreKept, with_prefilter, with_table}
use Rattle.bites_spec.specs.Contents.{Contents}
use Rattle.bites_table.specs.Packed.{Packed, IsTableOf}

-- the regex of these flags, this tree, whether dropped groups are kept, whether searches return the longest match, and what is in
-- the tree's program; no table was made for it, and its searches look for no literal
abbrev pub regex_of : Flags → Tree → Bool → Bool → Contents → Regex
regex_of flags tree keep_dropped_groups leftmost_longest contents = record {
  pattern = contents.pattern;
  flags = flags;
  tree = tree;
  program = contents.program;
  names = contents.names;
  static_captures_len = contents.static_captures_len;
  keep_dropped_groups = keep_dropped_groups;
  leftmost_longest = leftmost_longest;
  has_table = false;
  prefilter = false;
}

-- all of these groups, or those that are left in the tree
abbrev pub chosen : Bool → List (Option (List ℕ)) → Tree → List (Option (List ℕ))
chosen true groups t = groups
chosen false groups t = groups_left t

-- the contents of the regex's program, which is built from its tree
pub record HoldsProgram (r : Regex) (p : Contents) : Type 0 where
  pub pattern : p.pattern ≡ r.pattern
  pub program : p.program ≡ r.program
  pub names : p.names ≡ r.names
  pub static_len : p.static_captures_len ≡ r.static_captures_len
  pub compiled : IsCompiled r

-- the table of the regex's program, if there is one
pub record HoldsTable (r : Regex) (table : Option (Bor Packed)) : Type 0 where
  pub is : is_some table ≡ r.has_table
  pub of : IfSome table (λ t. IsTableOf r.program t.now)

-- a table of the regex's program that a search uses, if it uses one
pub record UsesTable (r : Regex) (table : Option (Bor Packed)) : Type 0 where
  pub none : r.has_table ≡ false → is_some table ≡ false
  pub of : IfSome table (λ t. IsTableOf r.program t.now)

-- the pattern of the regex, and what holds of every regex
pub record IsPatternOf (r : Regex) (text : List ℕ) : Type 0 where
  pub pattern : text ≡ r.pattern
  pub compiled : IsCompiled r

-- how many groups the regex has, group 0 counted
pub record IsGroupCount (r : Regex) (n : ℕ) : Type 0 where
  pub groups : n ≡ length r.names
  pub slots : n ≡ r.program.slots / 2
  pub left : r.keep_dropped_groups ≡ false → n ≡ captures_len r.tree
  pub kept : NamesAreKept r

-- the names of the groups, from group 0 on
pub record AreGroupNames (r : Regex) (all : List (Option (List ℕ))) : Type 0 where
  pub names : all ≡ r.names
  pub left : r.keep_dropped_groups ≡ false → all ≡ groups_left r.tree
  pub kept : NamesAreKept r
  pub fits : length all < 2 ^ 64

-- the same regex with this switch, and with a table or without one; with the limit 0 without one
pub record IsPrepared (limit : ℕ) (prefilter : Bool) (before after : Regex) : Type 0 where
  pub same : (b : Bool) × (after ≡ with_prefilter prefilter (with_table b before))
  pub none : limit ≡ 0 → after.has_table ≡ false
