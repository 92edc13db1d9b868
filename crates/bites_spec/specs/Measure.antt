-- Measures of trees and of readings, and the limits on them.
use Rattle.std.specs.Prelude.{◌≡◌, ℕ, suc, ◌+◌, ◌-◌, ◌*◌, ◌<◌, ◌≤◌, ◌⊎◌, max, Bool, true, false, not, ◌&&◌, ◌==◌, List, [], ◌∷◌, ◌++◌, length, map, reverse, slice_index_or, sum_by, encode_utf8_all, Option, Some, None, option_map, unwrap_or, if◌then◌else◌}
use Rattle.std.specs.List.{range_with_len}
use Rattle.bites_spec.specs.Walks.{Among}
use Rattle.bites_spec.specs.Tree.{Tree, Trees, empty, char, class, look, repetition, group, sequence, alternation, no_tree, tree_and, count, captures_len, is_nullable}
use Rattle.bites_spec.specs.Pattern.{Text, Flags, Front}
use Rattle.bites_spec.specs.Grammar as grammar
use Rattle.bites_spec.specs.Grammar.{Reading, Reads, ReadsChoice, ReadsSequence, ReadsItem, one, several, ends, goes_on, atom, operator, directive}

abbrev mutual
  -- 0 for a tree without parts, else one more than the tallest part
  pub height : Tree → ℕ
  height empty = 0
  height (char c) = 0
  height (class ranges) = 0
  height (look l) = 0
  height (repetition min max greedy t) = suc (height t)
  height (group n name t) = suc (height t)
  height (sequence ts) = suc (tallest ts)
  height (alternation ts) = suc (tallest ts)

  -- the height of the tallest of the trees
  pub tallest : Trees → ℕ
  tallest no_tree = 0
  tallest (tree_and t ts) = max (height t) (tallest ts)

abbrev mutual
  -- the groups that are left in the tree, with their names
  pub groups_of : Tree → List (ℕ × Option (List ℕ))
  groups_of empty = []
  groups_of (char c) = []
  groups_of (class ranges) = []
  groups_of (look l) = []
  groups_of (repetition min max greedy t) = groups_of t
  groups_of (group n name t) = (n, name) ∷ groups_of t
  groups_of (sequence ts) = groups_of_all ts
  groups_of (alternation ts) = groups_of_all ts

  -- the groups of all of the trees
  pub groups_of_all : Trees → List (ℕ × Option (List ℕ))
  groups_of_all no_tree = []
  groups_of_all (tree_and t ts) = groups_of t ++ groups_of_all ts

-- the name of the first group with this number
abbrev pub name_in : List (ℕ × Option (List ℕ)) → ℕ → Option (List ℕ)
name_in [] n = None
name_in (g ∷ groups) n = if g.0 == n then g.1 else name_in groups n

-- the name of a group that is left in the tree
abbrev pub group_name : Tree → ℕ → Option (List ℕ)
group_name t n = name_in (groups_of t) n

-- an entry for each group from 0 up to the greatest that is left in the tree: the bytes of its name, if it is left and has one
abbrev pub groups_left : Tree → List (Option (List ℕ))
groups_left t = map (group_name t) (range_with_len 0 (captures_len t))

-- an entry for group 0 and each group that the pattern so far opens, in order of number: the bytes of its name, if it has one
abbrev pub opened_by : Front → List (Option (List ℕ))
opened_by front = None ∷ reverse (map (option_map encode_utf8_all) front.names)

-- like `opened_by`, but of a whole pattern
abbrev pub groups_opened : {pattern : Text} {flags : Flags} {t : Tree} → Reading pattern flags t → List (Option (List ℕ))
groups_opened reading = opened_by reading.behind

-- the groups that a program is to have: all that the reading opens if dropped ones are kept, else those left in the tree
abbrev pub groups_kept : {pattern : Text} {flags : Flags} {t : Tree} → Bool → Reading pattern flags t → List (Option (List ℕ))
groups_kept true reading = groups_opened reading
groups_kept {t = t} false reading = groups_left t

-- each group that is left in the tree stands among the groups, by its number and with its name
abbrev pub HasItsGroups : List (Option (List ℕ)) → Tree → Type 0
HasItsGroups groups t =
    (g : ℕ × Option (List ℕ)) → Among (groups_of t) g → (g.0 < length groups) × (slice_index_or groups g.0 None ≡ g.1)

-- the sum of two numbers, if both are there
abbrev pub both : Option ℕ → Option ℕ → Option ℕ
both (Some m) (Some n) = Some (m + n)
both (Some m) None = None
both None b = None

-- the number of two branches, if they agree
abbrev pub agreed : Option ℕ → Option ℕ → Option ℕ
agreed (Some m) (Some n) = if m == n then Some m else None
agreed (Some m) None = None
agreed None b = None

-- the number of a repetition: that of its body, but none if the body may be left out and has groups
abbrev pub repeated_count : ℕ → Option ℕ → Option ℕ
repeated_count min None = None
repeated_count min (Some n) = if (min == 0) && not (n == 0) then None else Some n

abbrev mutual
  -- how many groups participate at least, if the form says so
  pub static_count : Tree → Option ℕ
  static_count empty = Some 0
  static_count (char c) = Some 0
  static_count (class ranges) = Some 0
  static_count (look l) = Some 0
  static_count (repetition min max greedy t) = repeated_count min (static_count t)
  static_count (group n name t) = both (Some 1) (static_count t)
  static_count (sequence ts) = static_sum ts
  static_count (alternation ts) = static_agreed ts

  -- the sum over all of the trees, if each has a number
  pub static_sum : Trees → Option ℕ
  static_sum no_tree = Some 0
  static_sum (tree_and t ts) = both (static_count t) (static_sum ts)

  -- the number of all of the trees, if they agree
  pub static_agreed : Trees → Option ℕ
  static_agreed no_tree = None
  static_agreed (tree_and t no_tree) = static_count t
  static_agreed (tree_and t (tree_and u ts)) = agreed (static_count t) (static_agreed (tree_and u ts))

-- how many groups participate at least, group 0 counted, if the form says so
abbrev pub static_captures_len : Tree → Option ℕ
static_captures_len t = option_map suc (static_count t)

-- the size of compiled states: the numbers of states, of targets of splits, and of ranges
pub record Size : Type 0 where
  pub states : ℕ
  pub targets : ℕ
  pub ranges : ℕ

-- a size by its three numbers
abbrev pub size : ℕ → ℕ → ℕ → Size
size s t r = record { states = s; targets = t; ranges = r }

-- n copies of the body, with s more states and t more targets
abbrev pub copies : ℕ → ℕ → ℕ → Size → Size
copies n s t b = size (n * b.states + s) (n * b.targets + t) (n * b.ranges)

-- the size of a repetition, by its bounds and whether the body is nullable
abbrev pub repeated_size : ℕ → Option ℕ → Bool → Size → Size
repeated_size min None empty_body b =
    if min == 0 then (if empty_body then copies 1 3 4 b else copies 1 1 2 b) else copies min 1 2 b
repeated_size min (Some max) empty_body b =
    if min == 0 then (if max == 1 then copies 1 2 2 b else copies max (max + 2) (2 * max) b)
    else if min == max then copies max 0 0 b
    else copies max (max - min + 1) (2 * (max - min)) b

abbrev mutual
  -- the size of a tree's states
  pub size_of : Tree → Size
  size_of empty = size 1 0 0
  size_of (char c) = size 1 0 0
  size_of (class ranges) = size 1 0 (length ranges)
  size_of (look l) = size 1 0 0
  size_of (repetition min max greedy t) = repeated_size min max (is_nullable t) (size_of t)
  size_of (group n name t) = copies 1 2 0 (size_of t)
  size_of (sequence ts) = size_of_all ts
  size_of (alternation ts) = size ((size_of_all ts).states + 2) ((size_of_all ts).targets + count ts) (size_of_all ts).ranges

  -- the sum over all of the trees
  pub size_of_all : Trees → Size
  size_of_all no_tree = size 0 0 0
  size_of_all (tree_and t ts) =
      size ((size_of t).states + (size_of_all ts).states) ((size_of t).targets + (size_of_all ts).targets)
      ((size_of t).ranges + (size_of_all ts).ranges)

-- the number of states of the whole program: those of the tree, two for group 0 around it, and the match
abbrev pub states : Tree → ℕ
states t = (size_of t).states + 3

-- the size of a group's name: its bytes and 4 more
abbrev pub name_size : List ℕ → ℕ
name_size name = length name + 4

-- the size of a group: 16, and that of its name if it has one
abbrev pub group_size : Option (List ℕ) → ℕ
group_size None = 16
group_size (Some name) = 16 + name_size name

-- the size of a tree's program that is to have these groups
abbrev pub size_with : List (Option (List ℕ)) → Tree → ℕ
size_with groups t = 32 * states t + 4 * (size_of t).targets + 8 * (size_of t).ranges + sum_by group_size groups

-- the size of a tree's program with the groups that are left in the tree
abbrev pub program_size : Tree → ℕ
program_size t = size_with (groups_left t) t

abbrev mutual
  -- how many groups are open at most in a choice
  pub open_in_choice : {front behind : Front} {t rest : Text} {branches : List Tree} → ReadsChoice front t branches behind rest → ℕ
  open_in_choice (one front behind t rest nodes branches s _) = open_in_sequence s
  open_in_choice (several front middle behind t more rest nodes others branches s c _) = max (open_in_sequence s) (open_in_choice c)

  -- how many groups are open at most in a sequence
  pub open_in_sequence : {front behind : Front} {t rest : Text} {nodes all : List Tree} → ReadsSequence front t nodes all behind rest → ℕ
  open_in_sequence (ends front behind t rest nodes all _ _ _ _) = 0
  open_in_sequence (goes_on front middle behind t next rest nodes more all i s) = max (open_in_item i) (open_in_sequence s)

  -- how many groups are open at most in an item; a group is open in itself
  pub open_in_item : {front behind : Front} {t rest : Text} {nodes all : List Tree} → ReadsItem front t nodes all behind rest → ℕ
  open_in_item (atom front behind t rest nodes all node _ _ _) = 0
  open_in_item (operator front behind t rest nodes all before last min max greedy _ _ _ _) = 0
  open_in_item (directive front behind t next marks run rest c letters nodes all _ _ _ _ _ _) = 0
  open_in_item (grammar.group front inner middle behind t inside rest nodes all branches opening _ c _ _) = suc (open_in_choice c)

abbrev mutual
  -- the greatest count of an operator in a choice
  pub count_in_choice : {front behind : Front} {t rest : Text} {branches : List Tree} → ReadsChoice front t branches behind rest → ℕ
  count_in_choice (one front behind t rest nodes branches s _) = count_in_sequence s
  count_in_choice (several front middle behind t more rest nodes others branches s c _) = max (count_in_sequence s) (count_in_choice c)

  -- the greatest count of an operator in a sequence
  pub count_in_sequence : {front behind : Front} {t rest : Text} {nodes all : List Tree} → ReadsSequence front t nodes all behind rest → ℕ
  count_in_sequence (ends front behind t rest nodes all _ _ _ _) = 0
  count_in_sequence (goes_on front middle behind t next rest nodes more all i s) = max (count_in_item i) (count_in_sequence s)

  -- the greatest count of an operator in an item
  pub count_in_item : {front behind : Front} {t rest : Text} {nodes all : List Tree} → ReadsItem front t nodes all behind rest → ℕ
  count_in_item (atom front behind t rest nodes all node _ _ _) = 0
  count_in_item (operator front behind t rest nodes all before last least most greedy _ _ _ _) = max least (unwrap_or most 0)
  count_in_item (directive front behind t next marks run rest c letters nodes all _ _ _ _ _ _) = 0
  count_in_item (grammar.group front inner middle behind t inside rest nodes all branches opening _ c _ _) = count_in_choice c

-- the tree's height is above the limit, or at least 4294967295
abbrev pub IsTooTall : ℕ → Tree → Type 0
IsTooTall nest_limit t = (nest_limit < height t) ⊎ (4294967295 ≤ height t)

-- a reading of the pattern as this tree, within the limits on reading
pub record Limits (pattern : Text) (flags : Flags) (nest_limit : ℕ) (t : Tree) : Type 0 where
  pub reading : Reading pattern flags t
  pub open_groups : open_in_choice reading.reads ≤ nest_limit
  pub low : height t ≤ nest_limit
  pub counted_height : height t < 4294967295
  pub group_number : reading.behind.groups ≤ 4294967295
  pub counts : count_in_choice reading.reads ≤ 4294967295

-- the limits on the tree and the groups that its program is to have, in the order in which they are checked; groups are
-- numbered from 0 on, below 2147483648
pub record TreeLimitsWith (size_limit : ℕ) (groups : List (Option (List ℕ))) (t : Tree) : Type 0 where
  pub light : size_with groups t ≤ size_limit
  pub few_states : states t ≤ 4294967295
  pub few_groups : length groups ≤ 2147483648

-- the limits on the tree with the groups that are left in it
abbrev pub TreeLimits : ℕ → Tree → Type 0
TreeLimits size_limit t = TreeLimitsWith size_limit (groups_left t) t
