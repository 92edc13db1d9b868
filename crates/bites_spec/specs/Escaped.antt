-- Texts as patterns in which each character stands for itself.
use Rattle.std.specs.Prelude.{ℕ, Bool, [], ◌∷◌, codes, map, if◌then◌else◌}
use Rattle.bites_spec.specs.Pattern.{Text, one_of, backslash}
use Rattle.bites_spec.specs.Tree.{Tree, char, sequence_of}

-- the characters that may have a meaning in a pattern
abbrev pub is_marked : ℕ → Bool
is_marked = one_of (codes "\\.+*?()|[]{}^$#&-~")

-- the text with a backslash before each such character
abbrev pub escaped : Text → Text
escaped [] = []
escaped (c ∷ text) = if is_marked c then backslash ∷ c ∷ escaped text else c ∷ escaped text

-- the tree of a text: its characters, one after another
unfoldable pub text_tree : Text → Tree
text_tree text = sequence_of (map char text)
