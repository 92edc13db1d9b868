-- What opens a group.
use Rattle.std.specs.Prelude.{◌≡◌, Bool, true, codes, List, [], ◌∷◌, ◌==◌, encode_utf8_all}
use Rattle.std.specs.BTreeSet.{contains_text}
use Rattle.bites_spec.specs.Group.{is_used}
use Rattle.bites_spec.specs.Pattern.{Text, one_of, right_angle}
use Rattle.bites_syntax.specs.declared.group_names.Names.{Names}

-- a run of flags ends here
abbrev pub ends_flags : Text → Bool
ends_flags [] = true
ends_flags (c ∷ t) = one_of (codes ":)") c

-- a name ends here
abbrev pub ends_name : Text → Bool
ends_name [] = true
ends_name (c ∷ t) = c == right_angle

-- the program has these names, and no others
abbrev pub AreNames : Names → List Text → Type 0
AreNames names all = (q : Text) → contains_text names.texts (encode_utf8_all q) ≡ is_used all q
