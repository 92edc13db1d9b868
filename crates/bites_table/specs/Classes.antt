-- Classes as the code keeps them: a class for each interval of characters, and a member of each class.
use Rattle.std.specs.Prelude.{◌≡◌, ℕ, suc, ◌<◌, ◌≤◌, List, [], ◌∷◌, length, Option, Some, None, if◌then◌else◌, nat_le, slice_get}
use Rattle.std.specs.List.Sorted.{IsStrictlyIncreasing}
use Rattle.bites_table.specs.Kinds.{Classes}
use Rattle.bites_table.specs.Blocks.{at}

-- where intervals of characters begin, the class of each interval, and the members of the classes in order
pub record Intervals : Type 0 where
  pub begins : List ℕ
  pub classes : List ℕ
  pub members : List ℕ

-- the interval of a number, where these numbers begin the intervals
abbrev pub interval_at : List ℕ → ℕ → ℕ
interval_at [] c = 0
interval_at (b ∷ []) c = 0
interval_at (b ∷ d ∷ bs) c = if nat_le d c then suc (interval_at (d ∷ bs) c) else 0

-- the class of a character by its interval; the end has the last class
abbrev pub class_by : Intervals → Option ℕ → ℕ
class_by v None = length v.members
class_by v (Some c) = at v.classes (interval_at v.begins c)

abbrev pub classes_of : Intervals → Classes
classes_of v = record { class_of = class_by v; member = slice_get v.members; len = suc (length v.members) }

-- each interval has a class, and each class a member of its own
pub record AreSound (v : Intervals) : Type 0 where
  pub rising : IsStrictlyIncreasing v.begins
  pub first : at v.begins 0 ≡ 0
  pub begun : 0 < length v.begins
  pub classes : length v.classes ≡ length v.begins
  pub below : (i : ℕ) → i < length v.begins → at v.classes i < length v.members
  pub few : length v.members ≤ 254
  pub some : 0 < length v.members
  pub own : (m : ℕ) → m < length v.members → class_by v (Some (at v.members m)) ≡ m

-- for each byte of ASCII its class, and for each other byte the number of classes
pub record AreOfBytes (v : Intervals) (bytes : List ℕ) : Type 0 where
  pub ascii : (b : ℕ) → b < 128 → at bytes b ≡ class_by v (Some b)
  pub low : (b : ℕ) → b < 128 → at bytes b < length v.members
  pub past : (b : ℕ) → 128 ≤ b → b < 256 → at bytes b ≡ suc (length v.members)

-- the interval of the first character past ASCII
pub record IsPast (v : Intervals) (i : ℕ) : Type 0 where
  pub within : i < length v.begins
  pub up_to : at v.begins i ≤ 128
