-- How a text stands in a JSON document that may stand in a page.
use Rattle.std.specs.Prelude.{◌≡◌, ◌==◌, ℕ, ◌+◌, ◌-◌, ◌/◌, ◌%◌, Bool, true, not, ◌&&◌, ◌||◌, nat_le, nat_lt, List, [], ◌∷◌, ◌++◌, if◌then◌else◌}
use Rattle.std.specs.List.{list_all}

-- the character of a hexadecimal digit
abbrev pub digit_of : ℕ → ℕ
digit_of d = if nat_lt d 10 then 48 + d else 97 + (d - 10)

-- the last hexadecimal digit of a number
abbrev pub digit : ℕ → ℕ
digit n = digit_of (n % 16)

-- `\u` and the four hexadecimal digits of a number
abbrev pub unit : ℕ → List ℕ
unit n = 92 ∷ 117 ∷ digit (n / 4096) ∷ digit (n / 256) ∷ digit (n / 16) ∷ digit n ∷ []

-- a visible character of ASCII or a space, but none of `"`, `&`, `'`, `<`, `>` and `\`
abbrev pub is_plain : ℕ → Bool
is_plain c = (nat_le 32 c && nat_le c 126) && not (c == 34 || (c == 38 || (c == 39 || (c == 60 || (c == 62 || c == 92)))))

-- the two numbers that UTF-16 has for a character above U+FFFF
abbrev pub pair : ℕ → List ℕ
pair c = unit (55296 + (c - 65536) / 1024) ++ unit (56320 + c % 1024)

-- a character as it is, or by its number, or by the two numbers that UTF-16 has for it
abbrev pub written_char : ℕ → List ℕ
written_char c = if is_plain c then c ∷ [] else if nat_lt c 65536 then unit c else pair c

-- what is written of a text, between quotes
abbrev pub quoted : List ℕ → List ℕ
quoted text = (34 ∷ text) ++ 34 ∷ []

-- it means nothing in JSON or HTML, but that a backslash begins a number
abbrev pub is_harmless : ℕ → Bool
is_harmless b = is_plain b || b == 92

-- A character is written in harmless bytes, whatever it is. So none ends the text, an attribute, an element or a script.
abbrev pub StaysInPlace : Type 0
StaysInPlace = (c : ℕ) → list_all is_harmless (written_char c) ≡ true
