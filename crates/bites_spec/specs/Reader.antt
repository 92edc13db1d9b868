-- The grammar read as a function of the text: the trees of the branches, or the first fault and its place.
use Rattle.std.specs.Prelude.{ℕ, zero, suc, ◌+◌, Bool, true, false, ◌==◌, nat_lt, nat_le, List, [], ◌∷◌, ◌++◌, length, drop, codes, Option, Some, None, option_map, Result, Ok, Err, if◌then◌else◌}
use Rattle.std.specs.Char.{is_whitespace, is_ascii_digit}
use Rattle.bites_spec.specs.Code.{code}
use Rattle.bites_spec.specs.Message as message
use Rattle.bites_spec.specs.Message.{Message}
use Rattle.bites_spec.specs.Range.{Range}
use Rattle.bites_spec.specs.Class.{Set, NamedClass, named_classes, class_name, members, single, between, union, complement, is_scalar}
use Rattle.bites_spec.specs.Class as class
use Rattle.bites_spec.specs.Look.{Look, word}
use Rattle.bites_spec.specs.Tree as tree
use Rattle.bites_spec.specs.Tree.{Tree, sequence_of, alternation_of, repetition_of}
use Rattle.bites_spec.specs.Pattern.{Text, Flags, Front, given, skip, skip_white, one_of, begins, number, question, star, plus, dot, caret, dollar, bar, backslash, dash, comma, colon, left_parenthesis, right_parenthesis, left_bracket, right_bracket, left_brace, right_brace, right_angle}
use Rattle.bites_spec.specs.Operator.{is_greedy}
use Rattle.bites_spec.specs.Escape.{Meaning, character, characters, assertion, control_of, escapes_itself, assertion_of, class_of, digits_of, is_hex_digit, is_boundary_letter, boundary_of}
use Rattle.bites_spec.specs.Bracket.{is_set_operator, with_cases, with_negation}
use Rattle.bites_spec.specs.Group.{Opening, numbered, unnumbered, with_group, changed, is_flag_mark, begins_look_around, ends_with_dash, is_name_front, is_used}
use Rattle.bites_spec.specs.Grammar.{literal_of, dot_set, caret_look, dollar_look, group_of, at_front}
use Rattle.bites_spec.specs.OperatorFault.{greatest_number}

-- a choice; only the taken side is computed
abbrev pub choose : {A : Type 0} → Bool → (Unit {0} → A) → (Unit {0} → A) → A
choose true f g = f tt
choose false f g = g tt

-- a message, and the place where it stands
pub record Stop : Type 0 where
  pub message : Message
  pub place : Text

-- a value and the text after it, or a stop
abbrev pub ReadResult : Type 0 → Type 0
ReadResult A = Result (A × Text) Stop

-- what was read, and the text after it
abbrev pub answer : {A : Type 0} → A → Text → ReadResult A
answer x t = Ok (x, t)

-- a message and its place
abbrev pub stop : {A : Type 0} → Message → Text → Result A Stop
stop m t = Err (record { message = m; place = t })

-- goes on after what was read
abbrev pub and_then : {A B : Type 0} → ReadResult A → (A → Text → Result B Stop) → Result B Stop
and_then (Ok x) f = f x.0 x.1
and_then (Err e) f = Err e

-- all characters of the set that stand here, each followed by a gap
abbrev pub each : ℕ → Flags → Set → Text → Text × Text
each zero flags set t = ([], t)
each (suc n) flags set [] = ([], [])
each (suc n) flags set (c ∷ t) =
    choose (set c) (λ _. (let r = each n flags set (skip flags t) in (c ∷ r.0, r.1))) (λ _. ([], c ∷ t))

-- after white space: the digits, and what follows them
abbrev pub decimal_by : ℕ → Flags → Text → Text → Text → ReadResult ℕ
decimal_by n flags at [] behind = stop message.decimal_without_digits at
decimal_by n flags at (d ∷ digits) behind =
    choose (nat_lt greatest_number (number 10 (d ∷ digits))) (λ _. stop message.invalid_decimal (each n flags is_whitespace behind).1)
    (λ _. answer (number 10 (d ∷ digits)) (each n flags is_whitespace behind).1)

-- a decimal, from its leading white space on
abbrev pub decimal : ℕ → Flags → Text → ReadResult ℕ
decimal n flags t =
    decimal_by n flags (skip_white t) (each n flags is_ascii_digit (skip_white t)).0 (each n flags is_ascii_digit (skip_white t)).1

-- whether a lazy mark stands here, and the text after it
abbrev pub lazy : Text → Bool × Text
lazy [] = (false, [])
lazy (c ∷ t) = choose (c == question) (λ _. (true, t)) (λ _. (false, c ∷ t))

-- the bounds of an operator and whether it is greedy
abbrev pub Bounds : Type 0
Bounds = ℕ × Option ℕ × Bool

-- the least count is above the greatest
abbrev pub are_crossed : ℕ → Option ℕ → Bool
are_crossed min None = false
are_crossed min (Some max) = nat_lt max min

-- after the closing brace and a lazy mark
abbrev pub whole_count : Flags → ℕ → Option ℕ → Bool × Text → ReadResult Bounds
whole_count flags min max mark =
    choose (are_crossed min max) (λ _. stop message.min_above_max mark.1) (λ _. answer (min, max, is_greedy flags mark.0) mark.1)

-- after the second decimal
abbrev pub after_max : Flags → ℕ → ℕ → Text → ReadResult Bounds
after_max flags min max [] = stop message.unclosed_max []
after_max flags min max (c ∷ t) =
    choose (c == right_brace) (λ _. whole_count flags min (Some max) (lazy (skip flags t))) (λ _. stop message.invalid_count (c ∷ t))

-- after the comma and its gap
abbrev pub after_comma : ℕ → Flags → ℕ → Text → ReadResult Bounds
after_comma n flags min [] = stop message.unclosed_comma []
after_comma n flags min (c ∷ t) =
    choose (c == right_brace) (λ _. whole_count flags min None (lazy (skip flags t))) (λ _. and_then (decimal n flags (c ∷ t)) (after_max flags min))

-- after the first decimal
abbrev pub after_min : ℕ → Flags → ℕ → Text → ReadResult Bounds
after_min n flags min [] = stop message.unclosed_min []
after_min n flags min (c ∷ t) =
    choose (c == right_brace) (λ _. whole_count flags min (Some min) (lazy (skip flags t)))
    (λ _. choose (c == comma) (λ _. after_comma n flags min (skip flags t)) (λ _. stop message.invalid_count (c ∷ t)))

-- after the opening brace and its gap
abbrev pub counted : ℕ → Flags → Text → ReadResult Bounds
counted n flags [] = stop message.unclosed_count []
counted n flags (c ∷ t) = and_then (decimal n flags (c ∷ t)) (after_min n flags)

-- after one of the operators without braces
abbrev pub plain_operator : Flags → ℕ → Option ℕ → Bool × Text → ReadResult Bounds
plain_operator flags min max mark = answer (min, max, is_greedy flags mark.0) mark.1

-- the number as a character
abbrev pub scalar : Message → Text → Text → ReadResult ℕ
scalar m digits t = choose (is_scalar (number 16 digits)) (λ _. answer (number 16 digits) t) (λ _. stop m t)

-- after the closing brace
abbrev pub closed_hexadecimal : Text → Text → Text → ReadResult ℕ
closed_hexadecimal [] at t = stop message.brace_hex_empty at
closed_hexadecimal (d ∷ digits) at t = scalar message.brace_hex_invalid (d ∷ digits) t

-- after the digits in braces
abbrev pub in_braces : Text → Text → ReadResult ℕ
in_braces digits [] = stop message.brace_hex_unclosed []
in_braces digits (c ∷ t) =
    choose (c == right_brace) (λ _. closed_hexadecimal digits (c ∷ t) t) (λ _. stop message.brace_hex_digit (c ∷ t))

-- a gap stands between two digits only
abbrev pub between_digits : ℕ → Flags → Text → Text
between_digits zero flags t = t
between_digits (suc k) flags t = skip flags t

-- as many digits as the number says
abbrev pub exactly : ℕ → Flags → Text → ReadResult Text
exactly zero flags t = answer [] t
exactly (suc k) flags [] = stop message.fixed_hex_unfinished []
exactly (suc k) flags (c ∷ t) =
    choose (is_hex_digit c) (λ _. and_then (exactly k flags (between_digits k flags t)) (λ digits rest. answer (c ∷ digits) rest)) (λ _. stop message.fixed_hex_digit (c ∷ t))

-- after x, u or U and a gap
abbrev pub hexadecimal : ℕ → Flags → ℕ → Text → ReadResult ℕ
hexadecimal n flags k [] = stop message.hex_unfinished []
hexadecimal n flags k (c ∷ t) =
    choose (c == left_brace) (λ _. (let digits = each n flags is_hex_digit (skip flags t) in in_braces digits.0 digits.1)) (λ _. and_then (exactly k flags (c ∷ t)) (scalar message.fixed_hex_invalid))

-- the assertion that a name in braces spells
abbrev pub spelled : Option Look → Text → Text → ReadResult Meaning
spelled None at t = stop message.unrecognized_boundary at
spelled (Some l) at t = answer (assertion l) t

-- after the name in braces
abbrev pub boundary_name : Text → Text → ReadResult Meaning
boundary_name name [] = stop message.unclosed_boundary []
boundary_name name (c ∷ t) =
    choose (c == right_brace) (λ _. spelled (boundary_of name) (c ∷ t) t) (λ _. stop message.unclosed_boundary (c ∷ t))

-- after the brace and its gap
abbrev pub braced : ℕ → Flags → Text → Text → ReadResult Meaning
braced n flags at [] = stop message.unfinished_boundary []
braced n flags at (c ∷ t) =
    choose (is_boundary_letter c) (λ _. (let name = each n flags is_boundary_letter (c ∷ t) in boundary_name name.0 name.1)) (λ _. answer (assertion word) at)

-- after \b
abbrev pub boundary : ℕ → Flags → Text → ReadResult Meaning
boundary n flags [] = answer (assertion word) []
boundary n flags (c ∷ t) =
    choose (c == left_brace) (λ _. braced n flags (c ∷ t) (skip flags t)) (λ _. answer (assertion word) (c ∷ t))

-- the first of two that is there
abbrev pub or_else : Option Meaning → Option Meaning → Option Meaning
or_else (Some meaning) other = Some meaning
or_else None other = other

-- what one character after the backslash means alone
abbrev pub meaning_of : ℕ → Option Meaning
meaning_of c =
    or_else (option_map character (control_of c))
    (or_else (option_map assertion (assertion_of c))
    (or_else (option_map characters (class_of c)) (if escapes_itself c then Some (character c) else None)))

-- the meaning of one character, or a number in hexadecimal digits
abbrev pub simple_by : ℕ → Flags → ℕ → Text → Option Meaning → Option ℕ → ReadResult Meaning
simple_by n flags c t (Some meaning) digits = answer meaning t
simple_by n flags c t None (Some k) = and_then (hexadecimal n flags k (skip flags t)) (λ value rest. answer (character value) rest)
simple_by n flags c t None None = stop message.unrecognized_escape (c ∷ t)

-- an escape other than of a word boundary, by its character
abbrev pub simple : ℕ → Flags → ℕ → Text → ReadResult Meaning
simple n flags c t = simple_by n flags c t (meaning_of c) (digits_of c)

-- after the backslash
abbrev pub escape : ℕ → Flags → Text → ReadResult Meaning
escape n flags [] = stop message.escape_unfinished []
escape n flags (c ∷ t) =
    choose (is_ascii_digit c) (λ _. stop message.backreference (c ∷ t))
    (λ _. choose (one_of (codes "pP") c) (λ _. stop message.unicode_class (c ∷ t))
    (λ _. choose (c == code "b") (λ _. boundary n flags t) (λ _. simple n flags c t)))

-- how the members of a class go on: from the set so far
abbrev pub Members : Type 0
Members = Set → Text → ReadResult Set

-- a named class, looked for among these
abbrev pub named : Members → Set → Text → List NamedClass → ReadResult Set
named go set at [] = stop message.nested_class at
named go set at (k ∷ classes) =
    choose (begins (codes "[:" ++ class_name k ++ codes ":]") at) (λ _. go (union set (members k)) (drop (4 + length (class_name k)) at))
    (λ _. choose (begins (codes "[:^" ++ class_name k ++ codes ":]") at) (λ _. go (union set (complement (members k))) (drop (5 + length (class_name k)) at)) (λ _. named go set at classes))

-- an end of a range, or what would be one
abbrev pub class_end : ℕ → Flags → Text → ReadResult Meaning
class_end n flags [] = stop message.unclosed_class []
class_end n flags (c ∷ t) = choose (c == backslash) (λ _. escape n flags t) (λ _. answer (character c) t)

-- a first end that stands alone, and the members after it
abbrev pub alone : Members → Set → Meaning → Text → ReadResult Set
alone go set (character c) at = go (union set (single c)) at
alone go set (characters more) at = go (union set more) at
alone go set (assertion l) at = stop message.invalid_class_escape at

-- a range, and the members after it
abbrev pub range : Members → Set → Meaning → Meaning → Text → ReadResult Set
range go set (character low) (character high) rest =
    choose (nat_le low high) (λ _. go (union set (between low high)) rest) (λ _. stop message.invalid_range rest)
range go set first second rest = stop message.range_of_no_character rest

-- after a first end, a dash and their gaps
abbrev pub after_dash : Members → ℕ → Flags → Set → Meaning → Text → Text → ReadResult Set
after_dash go n flags set first at [] = stop message.unclosed_after_dash []
after_dash go n flags set first at (c ∷ t) =
    choose (one_of (codes "]-") c) (λ _. alone go set first at) (λ _. and_then (class_end n flags (c ∷ t)) (range go set first))

-- after a first end and its gap
abbrev pub after_first : Members → ℕ → Flags → Set → Meaning → Text → ReadResult Set
after_first go n flags set first [] = stop message.unclosed_after_member []
after_first go n flags set first (c ∷ t) =
    choose (c == dash) (λ _. after_dash go n flags set first (c ∷ t) (skip flags t)) (λ _. alone go set first (c ∷ t))

-- the message of an operator on sets
abbrev pub set_operator_message : ℕ → Message
set_operator_message c =
    if c == code "&" then message.class_intersection else if c == dash then message.class_difference else message.class_symmetric_difference

-- where a member or the closing bracket is due
abbrev pub member : Members → ℕ → Flags → Set → Text → ReadResult Set
member go n flags set [] = stop message.unclosed_class []
member go n flags set (c ∷ t) =
    choose (c == right_bracket) (λ _. answer set t)
    (λ _. choose (c == left_bracket) (λ _. named go set (c ∷ t) named_classes)
    (λ _. choose (is_set_operator (c ∷ t)) (λ _. stop (set_operator_message c) (c ∷ t)) (λ _. and_then (class_end n flags (c ∷ t)) (λ first rest. after_first go n flags set first (skip flags rest)))))

-- at most n members up to the closing bracket
abbrev pub class_members : ℕ → Flags → Members
class_members zero flags set t = stop message.unclosed_class []
class_members (suc n) flags set t = member (class_members n flags) n flags set (skip flags t)

-- the union, folded and negated
abbrev pub finished : Flags → Bool → ReadResult Set → ReadResult Set
finished flags negated a = and_then a (λ set rest. answer (with_negation negated (with_cases flags set)) rest)

-- after a literal closing bracket and its gap
abbrev pub after_bracket : ℕ → Flags → Bool → Text → ReadResult Set
after_bracket n flags negated [] = stop message.unclosed_after_bracket []
after_bracket n flags negated (c ∷ t) = finished flags negated (class_members n flags (single right_bracket) (c ∷ t))

-- after the leading dashes
abbrev pub after_dashes : ℕ → Flags → Bool → Text → Text → ReadResult Set
after_dashes n flags negated [] [] = stop message.unclosed_class []
after_dashes n flags negated (d ∷ dashes) [] = stop message.unclosed_after_dash []
after_dashes n flags negated (d ∷ dashes) (c ∷ t) = finished flags negated (class_members n flags (single dash) (c ∷ t))
after_dashes n flags negated [] (c ∷ t) =
    choose (c == right_bracket) (λ _. after_bracket n flags negated (skip flags t)) (λ _. finished flags negated (class_members n flags class.none (c ∷ t)))

-- at the leading dashes
abbrev pub dashes : ℕ → Flags → Bool → Text → ReadResult Set
dashes n flags negated t = let d = each n flags (single dash) t in after_dashes n flags negated d.0 d.1

-- after a caret and its gap
abbrev pub after_caret : ℕ → Flags → Text → ReadResult Set
after_caret n flags [] = stop message.unclosed_after_caret []
after_caret n flags (c ∷ t) = dashes n flags true (c ∷ t)

-- after the opening bracket and its gap
abbrev pub bracket : ℕ → Flags → Text → ReadResult Set
bracket n flags [] = stop message.unclosed_class []
bracket n flags (c ∷ t) = choose (c == caret) (λ _. after_caret n flags (skip flags t)) (λ _. dashes n flags false (c ∷ t))

-- what an opening parenthesis begins
pub data Opened : Type 0 where
  directive : Flags → Opened
  group : Opening → Front → Opened

-- at what ends a run of flags
abbrev pub flags_end : Front → Text → ℕ → Text → ReadResult Opened
flags_end front [] c t =
    choose (c == colon) (λ _. answer (group unnumbered front) t) (λ _. stop message.empty_flags (c ∷ t))
flags_end front (d ∷ run) c t =
    choose (ends_with_dash (d ∷ run)) (λ _. stop message.dangling_negation (c ∷ t))
    (λ _. choose (c == colon) (λ _. answer (group unnumbered (record front { flags = changed true (d ∷ run) front.flags })) t) (λ _. answer (directive (changed true (d ∷ run) front.flags)) t))

-- the message of a run of flags that the end cuts off
abbrev pub flags_unclosed : Text → Message
flags_unclosed [] = message.unclosed_question
flags_unclosed (c ∷ run) = message.unclosed_flags

-- after the question mark and a run of flags
abbrev pub flags_from : Front → Text → Text → ReadResult Opened
flags_from front run [] = stop (flags_unclosed run) []
flags_from front run (c ∷ t) =
    choose (one_of (codes ":)") c) (λ _. flags_end front run c t)
    (λ _. choose (is_flag_mark c)
    (λ _. choose (one_of run c) (λ _. stop (if c == dash then message.repeated_negation else message.duplicate_flag) (c ∷ t)) (λ _. flags_from front (run ++ c ∷ []) t)) (λ _. stop message.unrecognized_flag (c ∷ t)))

-- the message of a name that the end cuts off
abbrev pub name_unclosed : Text → Message
name_unclosed [] = message.missing_name
name_unclosed (c ∷ name) = message.unclosed_name

-- at the closing angle bracket
abbrev pub name_end : List Text → Text → Text → Text → ReadResult Text
name_end names [] at t = stop message.empty_name at
name_end names (c ∷ name) at t =
    choose (is_used names (c ∷ name)) (λ _. stop message.duplicate_name t) (λ _. answer (c ∷ name) t)

-- after the angle bracket and a prefix of a name
abbrev pub name_from : List Text → Text → Text → ReadResult Text
name_from names name [] = stop (name_unclosed name) []
name_from names name (c ∷ t) =
    choose (c == right_angle) (λ _. name_end names name (c ∷ t) t)
    (λ _. choose (is_name_front (name ++ c ∷ [])) (λ _. name_from names (name ++ c ∷ []) t) (λ _. stop message.invalid_name (c ∷ t)))

-- a group with a number, if one more is allowed
abbrev pub with_number : Front → Text → ReadResult Opened → ReadResult Opened
with_number front at a = choose (nat_lt greatest_number (front.groups + 1)) (λ _. stop message.too_many_groups at) (λ _. a)

-- after the angle bracket that opens a name
abbrev pub named_group : Front → Text → ReadResult Opened
named_group front t =
    with_number front t
    (and_then (name_from (given front.names) [] t) (λ name rest. answer (group (numbered (Some name)) (with_group (Some name) front)) rest))

-- what opens a group without a name, or a directive
abbrev pub no_name : Front → Text → ReadResult Opened
no_name front [] = with_number front [] (answer (group (numbered None) (with_group None front)) [])
no_name front (c ∷ t) =
    choose (c == question) (λ _. flags_from front [] t) (λ _. with_number front (c ∷ t) (answer (group (numbered None) (with_group None front)) (c ∷ t)))

-- after the opening parenthesis and its gap
abbrev pub opened : Front → Text → ReadResult Opened
opened front t =
    choose (begins_look_around t) (λ _. stop message.look_around t)
    (λ _. choose (begins (codes "?P<") t) (λ _. named_group front (drop 3 t))
    (λ _. choose (begins (codes "?<") t) (λ _. named_group front (drop 2 t)) (λ _. no_name front t)))

-- what a choice is read as, up to the end or a closing parenthesis
pub record ReadChoice : Type 0 where
  pub branches : List Tree
  pub behind : Front
  pub rest : Text

-- a `ReadChoice` by its parts
abbrev pub found : List Tree → Front → Text → Result ReadChoice Stop
found branches behind rest = Ok (record { branches = branches; behind = behind; rest = rest })

-- goes on after a choice
abbrev pub and_found : Result ReadChoice Stop → (ReadChoice → Result ReadChoice Stop) → Result ReadChoice Stop
and_found (Ok x) f = f x
and_found (Err e) f = Err e

-- the nodes, the last of them repeated; the first is given apart
abbrev pub repeat_last : Bounds → Tree → List Tree → List Tree
repeat_last b t [] = repetition_of b.0 b.1 b.2 t ∷ []
repeat_last b t (u ∷ nodes) = t ∷ repeat_last b u nodes

-- how reading goes on: from the number of open groups, the front, the branches and nodes so far, and the text
abbrev pub Reader : Type 0
Reader = ℕ → Front → List Tree → List Tree → Text → Result ReadChoice Stop

module _ (list_of : Set → List Range) (nest_limit : ℕ) where
  -- at the end of the pattern
  abbrev pub at_end : ℕ → Front → List Tree → List Tree → Result ReadChoice Stop
  at_end zero front branches nodes = found (branches ++ sequence_of nodes ∷ []) front []
  at_end (suc depth) front branches nodes = stop message.unclosed_group []

  -- at a closing parenthesis
  abbrev pub at_closing : ℕ → Front → List Tree → List Tree → Text → Result ReadChoice Stop
  at_closing zero front branches nodes t = stop message.unopened_group t
  at_closing (suc depth) front branches nodes t = found (branches ++ sequence_of nodes ∷ []) front t

  -- at an operator, which repeats the last node
  abbrev pub at_operator : Reader → ℕ → Front → List Tree → List Tree → Message → Text → ReadResult Bounds → Result ReadChoice Stop
  at_operator go depth front branches [] m at a = stop m at
  at_operator go depth front branches (t ∷ nodes) m at a = and_then a (λ b rest. go depth front branches (repeat_last b t nodes) rest)

  -- the node of an escape
  abbrev pub node_of : Flags → Meaning → Tree
  node_of flags (character c) = literal_of flags c
  node_of flags (characters set) = tree.class (list_of set)
  node_of flags (assertion l) = tree.look l

  -- after a group
  abbrev pub behind_group : Reader → ℕ → Front → List Tree → List Tree → Opening → ReadChoice → Result ReadChoice Stop
  behind_group go depth front branches nodes opening f =
      go depth (record (f.behind) { flags = front.flags }) branches (nodes ++ group_of opening front.groups f.branches ∷ []) (drop 1 f.rest)

  -- after what opens a group
  abbrev pub at_opened : Reader → ℕ → Front → List Tree → List Tree → Opened → Text → Result ReadChoice Stop
  at_opened go depth front branches nodes (directive flags) t = go depth (record front { flags = flags }) branches nodes t
  at_opened go depth front branches nodes (group opening inner) t =
      choose (nat_lt nest_limit (depth + 1)) (λ _. stop message.too_much_nesting t) (λ _. and_found (go (suc depth) inner [] [] t) (behind_group go depth front branches nodes opening))

  -- an item, by its first character
  abbrev pub at_item : Reader → ℕ → ℕ → Front → List Tree → List Tree → Text → Result ReadChoice Stop
  at_item go n depth front branches nodes [] = at_end depth front branches nodes
  at_item go n depth front branches nodes (c ∷ t) =
      choose (c == right_parenthesis) (λ _. at_closing depth front branches nodes (c ∷ t))
      (λ _. choose (c == bar) (λ _. go depth front (branches ++ sequence_of nodes ∷ []) [] t)
      (λ _. choose (c == left_parenthesis) (λ _. and_then (opened front (skip front.flags t)) (at_opened go depth front branches nodes))
      (λ _. choose (c == question) (λ _. at_operator go depth front branches nodes message.nothing_to_repeat (c ∷ t) (plain_operator front.flags 0 (Some 1) (lazy t)))
      (λ _. choose (c == star) (λ _. at_operator go depth front branches nodes message.nothing_to_repeat (c ∷ t) (plain_operator front.flags 0 None (lazy t)))
      (λ _. choose (c == plus) (λ _. at_operator go depth front branches nodes message.nothing_to_repeat (c ∷ t) (plain_operator front.flags 1 None (lazy t)))
      (λ _. choose (c == left_brace) (λ _. at_operator go depth front branches nodes message.nothing_to_count (c ∷ t) (counted n front.flags (skip front.flags t)))
      (λ _. choose (c == left_bracket) (λ _. and_then (bracket n front.flags (skip front.flags t)) (λ set rest. go depth front branches (nodes ++ tree.class (list_of set) ∷ []) rest))
      (λ _. choose (c == backslash) (λ _. and_then (escape n front.flags t) (λ meaning rest. go depth front branches (nodes ++ node_of front.flags meaning ∷ []) rest))
      (λ _. choose (c == dot) (λ _. go depth front branches (nodes ++ tree.class (list_of (dot_set front.flags)) ∷ []) t)
      (λ _. choose (c == caret) (λ _. go depth front branches (nodes ++ tree.look (caret_look front.flags) ∷ []) t)
      (λ _. choose (c == dollar) (λ _. go depth front branches (nodes ++ tree.look (dollar_look front.flags) ∷ []) t) (λ _. go depth front branches (nodes ++ literal_of front.flags c ∷ []) t))))))))))))

  -- the number bounds how many items are read
  unfoldable pub inner : ℕ → Reader
  inner zero depth front branches nodes t = stop message.too_much_nesting []
  inner (suc n) depth front branches nodes t = at_item (inner n) n depth front branches nodes (skip front.flags t)

  -- the tree of a pattern, or the first fault
  abbrev pub read : Text → Flags → Result Tree Stop
  read pattern flags =
      elim (inner (suc (length pattern)) 0 (at_front flags) [] [] pattern) [ Ok f ↦ Ok (alternation_of f.branches) | Err e ↦ Err e ]
