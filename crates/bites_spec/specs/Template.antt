-- What a template stands for.
use Rattle.std.specs.Prelude.{◌≡◌, ◌≢◌, ℕ, zero, suc, ◌+◌, ◌-◌, ◌*◌, ◌<◌, Bool, true, false, ◌&&◌, ◌||◌, List, [], ◌∷◌, ◌++◌, length, Option, Some, None, option_map, option_and_then, unwrap_or, if◌then◌else◌, nat_le, ◌==◌, flat_map, ◌⊎◌, IsUtf8}
use Rattle.std.specs.List.{list_all, take_while}
use Rattle.std.specs.Str.{is_utf8}
use Rattle.std.specs.Option.{option_map_or}
use Rattle.bites_spec.specs.Code.{code}
use Rattle.bites_spec.specs.Range.{in_range}
use Rattle.bites_spec.specs.Look.{is_word_byte}
use Rattle.bites_spec.specs.Walks.{IsNew}

-- a byte that stands for itself, or the name of a group
pub data Part : Type 0 where
  byte : ℕ → Part
  name : List ℕ → Part

-- no word byte is next
abbrev pub EndsWord : List ℕ → Type 0
EndsWord [] = Unit {0}
EndsWord (b ∷ bytes) = is_word_byte b ≡ false

-- a name in braces: any bytes if `any` is true, else UTF-8
abbrev pub IsName : Bool → List ℕ → Type 0
IsName any word = (any ≡ true) ⊎ IsUtf8 word

-- A `$` before these bytes stands for itself: no `$`, no word byte and no name in braces is next.
abbrev pub StandsAlone : Bool → List ℕ → Type 0
StandsAlone any rest =
    ((tail : List ℕ) → rest ≢ code "$" ∷ tail)
    × EndsWord rest
    × ((word tail : List ℕ) → rest ≡ code "{" ∷ word ++ code "}" ∷ tail → IsNew (code "}") word → IsName any word → ⊥)

-- The template is cut into these parts: `$$` is a `$`, `$` and the longest run of word bytes names a group, and so do braces up
-- to the first `}`; any other `$` and all else stand for themselves.
pub data Cuts (any : Bool) : List ℕ → List Part → Type 0 where
  ends : Cuts any [] []
  plain : (b : ℕ) (rest : List ℕ) (parts : List Part) → b ≢ code "$" → Cuts any rest parts → Cuts any (b ∷ rest) (byte b ∷ parts)
  doubled : (rest : List ℕ) (parts : List Part) → Cuts any rest parts → Cuts any (code "$" ∷ code "$" ∷ rest) (byte (code "$") ∷ parts)
  named : (template word rest : List ℕ) (parts : List Part) → template ≡ code "$" ∷ word ++ rest →
      0 < length word → list_all is_word_byte word ≡ true → EndsWord rest →
      Cuts any rest parts → Cuts any template (name word ∷ parts)
  braced : (template word rest : List ℕ) (parts : List Part) → template ≡ code "$" ∷ code "{" ∷ word ++ code "}" ∷ rest →
      IsNew (code "}") word → IsName any word →
      Cuts any rest parts → Cuts any template (name word ∷ parts)
  alone : (rest : List ℕ) (parts : List Part) → StandsAlone any rest → Cuts any rest parts →
      Cuts any (code "$" ∷ rest) (byte (code "$") ∷ parts)

-- 0 to 9
abbrev pub is_digit : ℕ → Bool
is_digit b = in_range (code "0", code "9") b

-- the number that n and the digits after it make
abbrev pub value_from : ℕ → List ℕ → ℕ
value_from n [] = n
value_from n (d ∷ ds) = value_from (n * 10 + (d - code "0")) ds

-- the number that digits write, if there is a digit and the number is not above the largest
abbrev pub number_of_digits : ℕ → List ℕ → Option ℕ
number_of_digits largest [] = None
number_of_digits largest (d ∷ ds) =
    if list_all is_digit (d ∷ ds) && nat_le (value_from 0 (d ∷ ds)) largest then Some (value_from 0 (d ∷ ds)) else None

-- like `number_of_digits`, but one `+` may come first
abbrev pub number_in : ℕ → List ℕ → Option ℕ
number_in largest [] = None
number_in largest (b ∷ bytes) = if b == code "+" then number_of_digits largest bytes else number_of_digits largest (b ∷ bytes)

-- the largest number, the text of each group that participated, and the number of each name
module _ (largest : ℕ) (text_of : ℕ → Option (List ℕ)) (index_of : List ℕ → Option ℕ) where
  -- the group that a name means: a number means itself
  abbrev pub group_named : List ℕ → Option ℕ
  group_named word = option_map_or (λ k. Some k) (number_in largest word) (index_of word)

  -- what a part stands for; a group that is unknown or did not participate gives nothing
  abbrev pub stands_for : Part → List ℕ
  stands_for (byte b) = b ∷ []
  stands_for (name word) = unwrap_or (option_and_then text_of (group_named word)) []

  -- the text is what the parts of the template stand for, joined
  abbrev pub Expands : Bool → List ℕ → List ℕ → Type 0
  Expands any template text = (parts : List Part) × Cuts any template parts × (text ≡ flat_map stands_for parts)

-- a part, and how many of the bytes after its first one belong to it
pub record Cut : Type 0 where
  pub part : Part
  pub len : ℕ

-- a part of this length
abbrev pub cut : Part → ℕ → Cut
cut p n = record { part = p; len = n }

-- what stands before the first `}`, if there is one
unfoldable pub before_brace : List ℕ → Option (List ℕ)
before_brace [] = None
before_brace (b ∷ bytes) = if b == code "}" then Some [] else option_map (λ word. b ∷ word) (before_brace bytes)

-- the part that `${` begins, with what stands before the first `}`
abbrev pub braced_cut : Bool → Option (List ℕ) → Cut
braced_cut any None = cut (byte (code "$")) 0
braced_cut any (Some word) = if any || is_utf8 word then cut (name word) (length word + 2) else cut (byte (code "$")) 0

-- the part that a `$` before these word bytes begins
abbrev pub word_cut : List ℕ → Cut
word_cut [] = cut (byte (code "$")) 0
word_cut (b ∷ word) = cut (name (b ∷ word)) (length (b ∷ word))

-- the part that a `$` before these bytes begins
unfoldable pub dollar_cut : Bool → List ℕ → Cut
dollar_cut any [] = cut (byte (code "$")) 0
dollar_cut any (b ∷ rest) =
    if b == code "$" then cut (byte (code "$")) 1
    else if b == code "{" then braced_cut any (before_brace rest)
    else word_cut (take_while is_word_byte (b ∷ rest))

-- the part that a byte before these bytes begins
abbrev pub first_cut : Bool → ℕ → List ℕ → Cut
first_cut any b rest = if b == code "$" then dollar_cut any rest else cut (byte b) 0

-- the parts of a template after its first n bytes
unfoldable pub parts_after : Bool → ℕ → List ℕ → List Part
parts_after any n [] = []
parts_after any zero (b ∷ rest) = (first_cut any b rest).part ∷ parts_after any (first_cut any b rest).len rest
parts_after any (suc n) (b ∷ rest) = parts_after any n rest

-- the parts that a template is cut into
abbrev pub parts_of : Bool → List ℕ → List Part
parts_of any template = parts_after any 0 template

-- The text that a template stands for.
unfoldable pub expansion : Bool → ℕ → (ℕ → Option (List ℕ)) → (List ℕ → Option ℕ) → List ℕ → List ℕ
expansion any largest text_of index_of template = flat_map (stands_for largest text_of index_of) (parts_of any template)
