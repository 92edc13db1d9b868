-- Classes of characters as sets, and the ranges that list a set.
use Rattle.std.specs.Prelude.{◌≡◌, ℕ, ◌+◌, ◌-◌, ◌<◌, ◌≤◌, Bool, true, false, not, ◌&&◌, ◌||◌, ◌==◌, nat_le, nat_lt, List, [], ◌∷◌, codes, if◌then◌else◌}
use Rattle.bites_spec.specs.Code.{code}
use Rattle.bites_spec.specs.Range.{Range, in_ranges}

-- a set of characters: a test on code points; only scalar values count
abbrev pub Set : Type 0
Set = ℕ → Bool

-- 0 to D7FF and E000 to 10FFFF
abbrev pub is_scalar : ℕ → Bool
is_scalar c = nat_lt c 0xD800 || (nat_le 0xE000 c && nat_le c 0x10_FFFF)

-- no character
abbrev pub none : Set
none c = false

-- this character alone
abbrev pub single : ℕ → Set
single d c = c == d

-- the code points from the first to the second
abbrev pub between : ℕ → ℕ → Set
between low high c = nat_le low c && nat_le c high

-- the characters of one set or the other
abbrev pub union : Set → Set → Set
union a b c = a c || b c

-- all other scalar values
abbrev pub complement : Set → Set
complement a c = is_scalar c && not (a c)

-- a to z
abbrev pub is_lower : Set
is_lower = between (code "a") (code "z")

-- A to Z
abbrev pub is_upper : Set
is_upper = between (code "A") (code "Z")

-- the ASCII letters
abbrev pub is_letter : Set
is_letter = union is_lower is_upper

-- the set with both cases of each ASCII letter in it
abbrev pub folded : Set → Set
folded a c = a c || (is_lower c && a (c - 32)) || (is_upper c && a (c + 32))

-- the names of POSIX, and word
pub data NamedClass : Type 0 where
  alnum alpha ascii blank cntrl digit graph lower print punct space upper word xdigit : NamedClass

-- how a named class is written
abbrev pub class_name : NamedClass → List ℕ
class_name alnum = codes "alnum"
class_name alpha = codes "alpha"
class_name ascii = codes "ascii"
class_name blank = codes "blank"
class_name cntrl = codes "cntrl"
class_name digit = codes "digit"
class_name graph = codes "graph"
class_name lower = codes "lower"
class_name print = codes "print"
class_name punct = codes "punct"
class_name space = codes "space"
class_name upper = codes "upper"
class_name word = codes "word"
class_name xdigit = codes "xdigit"

-- all named classes
abbrev pub named_classes : List NamedClass
named_classes = alnum ∷ alpha ∷ ascii ∷ blank ∷ cntrl ∷ digit ∷ graph ∷ lower ∷ print ∷ punct ∷ space ∷ upper ∷ word ∷ xdigit ∷ []

-- the characters of a named class, all of them ASCII
abbrev pub members : NamedClass → Set
members alnum = in_ranges ((code "0", code "9") ∷ (code "A", code "Z") ∷ (code "a", code "z") ∷ [])
members alpha = in_ranges ((code "A", code "Z") ∷ (code "a", code "z") ∷ [])
members ascii = between 0x00 0x7F
members blank = in_ranges ((9, 9) ∷ (code " ", code " ") ∷ [])
members cntrl = in_ranges ((0x00, 0x1F) ∷ (0x7F, 0x7F) ∷ [])
members digit = between (code "0") (code "9")
members graph = between 0x21 0x7E
members lower = between (code "a") (code "z")
members print = between 0x20 0x7E
members punct = in_ranges ((0x21, 0x2F) ∷ (0x3A, 0x40) ∷ (0x5B, 0x60) ∷ (0x7B, 0x7E) ∷ [])
members space = in_ranges ((0x09, 0x0D) ∷ (0x20, 0x20) ∷ [])
members upper = between (code "A") (code "Z")
members word = in_ranges ((code "0", code "9") ∷ (code "A", code "Z") ∷ (code "_", code "_") ∷ (code "a", code "z") ∷ [])
members xdigit = in_ranges ((code "0", code "9") ∷ (code "A", code "F") ∷ (code "a", code "f") ∷ [])

-- the next scalar value; it skips the surrogates
abbrev pub following : ℕ → ℕ
following c = if c == 0xD7FF then 0xE000 else c + 1

-- both ends are scalar values, the first not above the second
abbrev pub IsRange : Range → Type 0
IsRange r = (is_scalar r.0 ≡ true) × (is_scalar r.1 ≡ true) × (r.0 ≤ r.1)

-- canonical ranges: they rise, with a scalar value between each two, so that none could be longer
abbrev pub AreCanonical : List Range → Type 0
AreCanonical [] = Unit {0}
AreCanonical (r ∷ []) = IsRange r
AreCanonical (r ∷ s ∷ ranges) = IsRange r × (following r.1 < s.0) × AreCanonical (s ∷ ranges)

-- the list of the canonical ranges of a set
pub record Lists (ranges : List Range) (set : Set) : Type 0 where
  pub canonical : AreCanonical ranges
  pub same : (c : ℕ) → is_scalar c ≡ true → in_ranges ranges c ≡ set c

-- a set has one list
abbrev pub ListsOnce : Type 0
ListsOnce = (set : Set) (a b : List Range) → Lists a set → Lists b set → a ≡ b
