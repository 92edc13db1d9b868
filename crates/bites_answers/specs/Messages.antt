-- What rows say of the messages that refuse patterns. The program `generate` writes this module.
use Rattle.std.specs.Prelude.{[], ◌∷◌, codes, Some, None}
use Rattle.bites_answers.specs.Evaluated.{ask, nested, parted, IsRefused}

-- rust: message both (((((((((((((((((((((((((((((((((((((((((((((((((((
abbrev pub Row1 : Type 0
Row1 = IsRefused (ask (codes "(((((((((((((((((((((((((((((((((((((((((((((((((((") []) (Some (codes "pattern has too much nesting"))

-- rust: message both (?<a>)(?<a>)
abbrev pub Row2 : Type 0
Row2 = IsRefused (ask (codes "(?<a>)(?<a>)") []) (Some (codes "duplicate capture group name"))

-- rust: message both (
abbrev pub Row3 : Type 0
Row3 = IsRefused (ask (codes "(") []) (Some (codes "found open group without closing ')'"))

-- rust: message both (?
abbrev pub Row4 : Type 0
Row4 = IsRefused (ask (codes "(?") []) (Some (codes "expected closing ')', but got end of pattern"))

-- rust: message both )
abbrev pub Row5 : Type 0
Row5 = IsRefused (ask (codes ")") []) (Some (codes "found closing ')' without matching '('"))

-- rust: message both (?=a)
abbrev pub Row6 : Type 0
Row6 = IsRefused (ask (codes "(?=a)") []) (Some (codes "look-around is not supported"))

-- rust: message both (?)
abbrev pub Row7 : Type 0
Row7 = IsRefused (ask (codes "(?)") []) (Some (codes "empty flag directive '(?)' is not allowed"))

-- rust: message both (?<
abbrev pub Row8 : Type 0
Row8 = IsRefused (ask (codes "(?<") []) (Some (codes "expected capture group name, but got end of pattern"))

-- rust: message both (?<0>a)
abbrev pub Row9 : Type 0
Row9 = IsRefused (ask (codes "(?<0>a)") []) (Some (codes "invalid group name"))

-- rust: message both (?<a
abbrev pub Row10 : Type 0
Row10 = IsRefused (ask (codes "(?<a") []) (Some (codes "expected end of capture group name, but got end of pattern"))

-- rust: message both (?<>a)
abbrev pub Row11 : Type 0
Row11 = IsRefused (ask (codes "(?<>a)") []) (Some (codes "empty capture group names are not allowed"))

-- rust: message both (?z)
abbrev pub Row12 : Type 0
Row12 = IsRefused (ask (codes "(?z)") []) (Some (codes "unrecognized inline flag"))

-- rust: message both (?--i)
abbrev pub Row13 : Type 0
Row13 = IsRefused (ask (codes "(?--i)") []) (Some (codes "inline flag negation cannot be repeated"))

-- rust: message both (?ii)
abbrev pub Row14 : Type 0
Row14 = IsRefused (ask (codes "(?ii)") []) (Some (codes "duplicate inline flag is not allowed"))

-- rust: message both (?i
abbrev pub Row15 : Type 0
Row15 = IsRefused (ask (codes "(?i") []) (Some (codes "expected ':' or ')' to end inline flags, but got end of pattern"))

-- rust: message both (?i-)
abbrev pub Row16 : Type 0
Row16 = IsRefused (ask (codes "(?i-)") []) (Some (codes "inline flags cannot end with negation directive"))

-- rust: message both a{x}
abbrev pub Row17 : Type 0
Row17 = IsRefused (ask (codes "a{x}") []) (Some (codes "expected decimal number, but found no digits"))

-- rust: message both a{4294967296}
abbrev pub Row18 : Type 0
Row18 = IsRefused (ask (codes "a{4294967296}") []) (Some (codes "got invalid decimal number"))

-- rust: message both *
abbrev pub Row19 : Type 0
Row19 = IsRefused (ask (codes "*") []) (Some (codes "uncounted repetition operator must be applied to a sub-expression"))

-- rust: message both {2}
abbrev pub Row20 : Type 0
Row20 = IsRefused (ask (codes "{2}") []) (Some (codes "counted repetition operator must be applied to a sub-expression"))

-- rust: message both a{
abbrev pub Row21 : Type 0
Row21 = IsRefused (ask (codes "a{") []) (Some (codes "found unclosed counted repetition operator"))

-- rust: message both a{1
abbrev pub Row22 : Type 0
Row22 = IsRefused (ask (codes "a{1") []) (Some (codes "found incomplete and unclosed counted repetition operator"))

-- rust: message both a{1,
abbrev pub Row23 : Type 0
Row23 = IsRefused (ask (codes "a{1,") []) (Some (codes "found counted repetition operator with a comma that is unclosed"))

-- rust: message both a{1,2
abbrev pub Row24 : Type 0
Row24 = IsRefused (ask (codes "a{1,2") []) (Some (codes "found counted repetition with min and max that is unclosed"))

-- rust: message both a{1;
abbrev pub Row25 : Type 0
Row25 = IsRefused (ask (codes "a{1;") []) (Some (codes "expected closing brace for counted repetition, but got something else"))

-- rust: message both a{2,1}
abbrev pub Row26 : Type 0
Row26 = IsRefused (ask (codes "a{2,1}") []) (Some (codes "found counted repetition with a min bigger than its max"))

-- rust: message both \\x{g}
abbrev pub Row27 : Type 0
Row27 = IsRefused (ask (codes "\\x{g}") []) (Some (codes "expected hexadecimal number in braces, but got non-hex digit"))

-- rust: message both \\x{4
abbrev pub Row28 : Type 0
Row28 = IsRefused (ask (codes "\\x{4") []) (Some (codes "expected hexadecimal number, but saw end of pattern before closing brace"))

-- rust: message both \\x{}
abbrev pub Row29 : Type 0
Row29 = IsRefused (ask (codes "\\x{}") []) (Some (codes "expected hexadecimal number in braces, but got no digits"))

-- rust: message both \\x{D800}
abbrev pub Row30 : Type 0
Row30 = IsRefused (ask (codes "\\x{D800}") []) (Some (codes "got invalid hexadecimal number in braces"))

-- rust: message both \\x4
abbrev pub Row31 : Type 0
Row31 = IsRefused (ask (codes "\\x4") []) (Some (codes "expected fixed length hexadecimal number, but saw end of pattern first"))

-- rust: message both \\x4g
abbrev pub Row32 : Type 0
Row32 = IsRefused (ask (codes "\\x4g") []) (Some (codes "expected fixed length hexadecimal number, but got non-hex digit"))

-- rust: message both \\uD800
abbrev pub Row33 : Type 0
Row33 = IsRefused (ask (codes "\\uD800") []) (Some (codes "got invalid fixed length hexadecimal number"))

-- rust: message both \\x
abbrev pub Row34 : Type 0
Row34 = IsRefused (ask (codes "\\x") []) (Some (codes "expected hexadecimal number, but saw end of pattern first"))

-- rust: message both \\
abbrev pub Row35 : Type 0
Row35 = IsRefused (ask (codes "\\") []) (Some (codes "saw start of escape sequence, but saw end of pattern before it finished"))

-- rust: message both \\1
abbrev pub Row36 : Type 0
Row36 = IsRefused (ask (codes "\\1") []) (Some (codes "backreferences are not supported"))

-- rust: message both \\pL
abbrev pub Row37 : Type 0
Row37 = IsRefused (ask (codes "\\pL") []) (Some (codes "Unicode character classes are not supported"))

-- rust: message both \\i
abbrev pub Row38 : Type 0
Row38 = IsRefused (ask (codes "\\i") []) (Some (codes "unrecognized escape sequence"))

-- rust: message both \\b{a
abbrev pub Row39 : Type 0
Row39 = IsRefused (ask (codes "\\b{a") []) (Some (codes "special word boundary assertion is unclosed or has an invalid character"))

-- rust: message both \\b{a}
abbrev pub Row40 : Type 0
Row40 = IsRefused (ask (codes "\\b{a}") []) (Some (codes "special word boundary assertion is unrecognized"))

-- rust: message both \\b{
abbrev pub Row41 : Type 0
Row41 = IsRefused (ask (codes "\\b{") []) (Some (codes "found start of special word boundary or repetition without an end"))

-- rust: message both [a
abbrev pub Row42 : Type 0
Row42 = IsRefused (ask (codes "[a") []) (Some (codes "non-empty character class has no closing bracket"))

-- rust: message both [a-\\d]
abbrev pub Row43 : Type 0
Row43 = IsRefused (ask (codes "[a-\\d]") []) (Some (codes "character class ranges must start and end with a single character"))

-- rust: message both [\\b]
abbrev pub Row44 : Type 0
Row44 = IsRefused (ask (codes "[\\b]") []) (Some (codes "invalid escape sequence in character class"))

-- rust: message both [a-
abbrev pub Row45 : Type 0
Row45 = IsRefused (ask (codes "[a-") []) (Some (codes "non-empty character class has no closing bracket after dash"))

-- rust: message both [^
abbrev pub Row46 : Type 0
Row46 = IsRefused (ask (codes "[^") []) (Some (codes "negated character class has no closing bracket"))

-- rust: message both []
abbrev pub Row47 : Type 0
Row47 = IsRefused (ask (codes "[]") []) (Some (codes "character class begins with literal ']' but has no closing bracket"))

-- rust: message both [b-a]
abbrev pub Row48 : Type 0
Row48 = IsRefused (ask (codes "[b-a]") []) (Some (codes "invalid range in character class"))

-- rust: message both [
abbrev pub Row49 : Type 0
Row49 = IsRefused (ask (codes "[") []) (Some (codes "found unclosed character class"))

-- rust: message both [[a]]
abbrev pub Row50 : Type 0
Row50 = IsRefused (ask (codes "[[a]]") []) (Some (codes "nested character classes are not supported"))

-- rust: message both [a&&b]
abbrev pub Row51 : Type 0
Row51 = IsRefused (ask (codes "[a&&b]") []) (Some (codes "character class intersection is not supported"))

-- rust: message both [a--b]
abbrev pub Row52 : Type 0
Row52 = IsRefused (ask (codes "[a--b]") []) (Some (codes "character class difference is not supported"))

-- rust: message both [a~~b]
abbrev pub Row53 : Type 0
Row53 = IsRefused (ask (codes "[a~~b]") []) (Some (codes "character class symmetric difference is not supported"))

-- rust: message both 0 (
abbrev pub Row54 : Type 0
Row54 = IsRefused (nested 0 (ask (codes "(") [])) (Some (codes "pattern has too much nesting"))

-- rust: message both 0 (?:
abbrev pub Row55 : Type 0
Row55 = IsRefused (nested 0 (ask (codes "(?:") [])) (Some (codes "pattern has too much nesting"))

-- rust: message both 0 ab
abbrev pub Row56 : Type 0
Row56 = IsRefused (nested 0 (ask (codes "ab") [])) (Some (codes "pattern has too much nesting"))

-- rust: message both 1 (a*)
abbrev pub Row57 : Type 0
Row57 = IsRefused (nested 1 (ask (codes "(a*)") [])) (Some (codes "pattern has too much nesting"))

-- rust: message both 0 (?i
abbrev pub Row58 : Type 0
Row58 = IsRefused (nested 0 (ask (codes "(?i") [])) (Some (codes "expected ':' or ')' to end inline flags, but got end of pattern"))

-- rust: message both 0 (?<a
abbrev pub Row59 : Type 0
Row59 = IsRefused (nested 0 (ask (codes "(?<a") [])) (Some (codes "expected end of capture group name, but got end of pattern"))

-- rust: message both 0 ab)
abbrev pub Row60 : Type 0
Row60 = IsRefused (nested 0 (ask (codes "ab)") [])) (Some (codes "found closing ')' without matching '('"))

-- rust: message both (?<a\xC2\xBE>z)
abbrev pub Row61 : Type 0
Row61 = IsRefused (parted ((128, 189) ∷ (190, 190) ∷ (191, 55295) ∷ (57344, 1114111) ∷ []) (ask (40 ∷ 63 ∷ 60 ∷ 97 ∷ 194 ∷ 190 ∷ 62 ∷ 122 ∷ 41 ∷ []) [])) None

-- rust: message both (?<a>x){0}(?<a>y)
abbrev pub Row62 : Type 0
Row62 = IsRefused (ask (codes "(?<a>x){0}(?<a>y)") []) (Some (codes "duplicate capture group name"))

-- rust: message both (?is-:foo)
abbrev pub Row63 : Type 0
Row63 = IsRefused (ask (codes "(?is-:foo)") []) (Some (codes "inline flags cannot end with negation directive"))

-- rust: message both a{5, }
abbrev pub Row64 : Type 0
Row64 = IsRefused (ask (codes "a{5, }") []) (Some (codes "expected decimal number, but found no digits"))

-- rust: message both (?x)a{5, }
abbrev pub Row65 : Type 0
Row65 = IsRefused (ask (codes "(?x)a{5, }") []) None

-- rust: message both (?x)\\b{
abbrev pub Row66 : Type 0
Row66 = IsRefused (ask (codes "(?x)\\b{ ") []) (Some (codes "found start of special word boundary or repetition without an end"))

-- rust: message both [a- -b]
abbrev pub Row67 : Type 0
Row67 = IsRefused (ask (codes "[a- -b]") []) (Some (codes "invalid range in character class"))

-- rust: message both [[:alnum]]
abbrev pub Row68 : Type 0
Row68 = IsRefused (ask (codes "[[:alnum]]") []) (Some (codes "nested character classes are not supported"))

-- rust: message both (b)\\x{}
abbrev pub Row69 : Type 0
Row69 = IsRefused (ask (codes "(b)\\x{}") []) (Some (codes "expected hexadecimal number in braces, but got no digits"))

-- rust: message both [b[c]&&d]
abbrev pub Row70 : Type 0
Row70 = IsRefused (ask (codes "[b[c]&&d]") []) (Some (codes "nested character classes are not supported"))

-- rust: message both a{4294967296;
abbrev pub Row71 : Type 0
Row71 = IsRefused (ask (codes "a{4294967296;") []) (Some (codes "got invalid decimal number"))

-- rust: message both \\b{
abbrev pub Row72 : Type 0
Row72 = IsRefused (ask (codes "\\b{ ") []) (Some (codes "expected decimal number, but found no digits"))

-- rust: message both a)
abbrev pub Row73 : Type 0
Row73 = IsRefused (ask (codes "a)") []) (Some (codes "found closing ')' without matching '('"))

-- rust: message both (?<\xC2\xBE>z)
abbrev pub Row74 : Type 0
Row74 = IsRefused (parted ((128, 189) ∷ (190, 190) ∷ (191, 55295) ∷ (57344, 1114111) ∷ []) (ask (40 ∷ 63 ∷ 60 ∷ 194 ∷ 190 ∷ 62 ∷ 122 ∷ 41 ∷ []) [])) (Some (codes "invalid group name"))

-- rust: message both (?<\xE5\x90\x8D\xE5\xAD\x97>z)
abbrev pub Row75 : Type 0
Row75 = IsRefused (parted ((128, 21516) ∷ (21517, 21517) ∷ (21518, 23382) ∷ (23383, 23383) ∷ (23384, 55295) ∷ (57344, 1114111) ∷ []) (ask (40 ∷ 63 ∷ 60 ∷ 229 ∷ 144 ∷ 141 ∷ 229 ∷ 173 ∷ 151 ∷ 62 ∷ 122 ∷ 41 ∷ []) [])) None

-- rust: message both (?P<a>y)(?P<a>z)
abbrev pub Row76 : Type 0
Row76 = IsRefused (ask (codes "(?P<a>y)(?P<a>z)") []) (Some (codes "duplicate capture group name"))

-- rust: message both (?z:foo)
abbrev pub Row77 : Type 0
Row77 = IsRefused (ask (codes "(?z:foo)") []) (Some (codes "unrecognized inline flag"))

-- rust: message both (?s-i-R)
abbrev pub Row78 : Type 0
Row78 = IsRefused (ask (codes "(?s-i-R)") []) (Some (codes "inline flag negation cannot be repeated"))

-- rust: message both (?is
abbrev pub Row79 : Type 0
Row79 = IsRefused (ask (codes "(?is") []) (Some (codes "expected ':' or ')' to end inline flags, but got end of pattern"))

-- rust: message both *a
abbrev pub Row80 : Type 0
Row80 = IsRefused (ask (codes "*a") []) (Some (codes "uncounted repetition operator must be applied to a sub-expression"))

-- rust: message both a{5,
abbrev pub Row81 : Type 0
Row81 = IsRefused (ask (codes "a{5,") []) (Some (codes "found counted repetition operator with a comma that is unclosed"))

-- rust: message both a{6,5}
abbrev pub Row82 : Type 0
Row82 = IsRefused (ask (codes "a{6,5}") []) (Some (codes "found counted repetition with a min bigger than its max"))

-- rust: message both \\u{D800}
abbrev pub Row83 : Type 0
Row83 = IsRefused (ask (codes "\\u{D800}") []) (Some (codes "got invalid hexadecimal number in braces"))

-- rust: message both \\b{foo}
abbrev pub Row84 : Type 0
Row84 = IsRefused (ask (codes "\\b{foo}") []) (Some (codes "special word boundary assertion is unrecognized"))

-- rust: message both (?x)[-#]
abbrev pub Row85 : Type 0
Row85 = IsRefused (ask (codes "(?x)[-#]") []) (Some (codes "non-empty character class has no closing bracket after dash"))

-- rust: message both (?x)[a-
abbrev pub Row86 : Type 0
Row86 = IsRefused (ask (codes "(?x)[a- ") []) (Some (codes "non-empty character class has no closing bracket after dash"))

-- rust: message both [z-a]
abbrev pub Row87 : Type 0
Row87 = IsRefused (ask (codes "[z-a]") []) (Some (codes "invalid range in character class"))

-- rust: message both 0 (?=
abbrev pub Row88 : Type 0
Row88 = IsRefused (nested 0 (ask (codes "(?=") [])) (Some (codes "look-around is not supported"))

-- rust: message both 0 ab*[
abbrev pub Row89 : Type 0
Row89 = IsRefused (nested 0 (ask (codes "ab*[") [])) (Some (codes "found unclosed character class"))

-- rust: message both ((((((((((((((((((((((((((((((((((((((((((((((((((
abbrev pub Row90 : Type 0
Row90 = IsRefused (ask (codes "((((((((((((((((((((((((((((((((((((((((((((((((((") []) (Some (codes "found open group without closing ')'"))

-- rust: message both 0 a
abbrev pub Row91 : Type 0
Row91 = IsRefused (nested 0 (ask (codes "a") [])) None

-- rust: message both 0 a{1}
abbrev pub Row92 : Type 0
Row92 = IsRefused (nested 0 (ask (codes "a{1}") [])) None

-- rust: message both 0 a**{0}
abbrev pub Row93 : Type 0
Row93 = IsRefused (nested 0 (ask (codes "a**{0}") [])) None

-- rust: message both 0 a*
abbrev pub Row94 : Type 0
Row94 = IsRefused (nested 0 (ask (codes "a*") [])) (Some (codes "pattern has too much nesting"))

-- rust: message both 0 (?:a)
abbrev pub Row95 : Type 0
Row95 = IsRefused (nested 0 (ask (codes "(?:a)") [])) (Some (codes "pattern has too much nesting"))

-- all of these
abbrev pub Messages : Type 0
Messages = Row1 × Row2 × Row3 × Row4 × Row5 × Row6 × Row7 × Row8 × Row9 × Row10 × Row11 × Row12 × Row13 × Row14 × Row15 × Row16 × Row17 × Row18 × Row19 × Row20 × Row21 × Row22 × Row23 × Row24 × Row25 × Row26 × Row27 × Row28 × Row29 × Row30 × Row31 × Row32 × Row33 × Row34 × Row35 × Row36 × Row37 × Row38 × Row39 × Row40 × Row41 × Row42 × Row43 × Row44 × Row45 × Row46 × Row47 × Row48 × Row49 × Row50 × Row51 × Row52 × Row53 × Row54 × Row55 × Row56 × Row57 × Row58 × Row59 × Row60 × Row61 × Row62 × Row63 × Row64 × Row65 × Row66 × Row67 × Row68 × Row69 × Row70 × Row71 × Row72 × Row73 × Row74 × Row75 × Row76 × Row77 × Row78 × Row79 × Row80 × Row81 × Row82 × Row83 × Row84 × Row85 × Row86 × Row87 × Row88 × Row89 × Row90 × Row91 × Row92 × Row93 × Row94 × Row95
