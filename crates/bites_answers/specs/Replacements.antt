-- What rows say of templates and replaced haystacks. The program `generate` writes this module.
use Rattle.std.specs.Prelude.{[], ◌∷◌, codes, Some}
use Rattle.bites_answers.specs.Evaluated.{ask, keeping, longest, parted, Replaces, ReplacesBy, Expands}

-- rust: replace both a banana 2 <$0>
abbrev pub Row1 : Type 0
Row1 = Replaces (ask (codes "a") []) (codes "banana") 2 (codes "<$0>") (codes "b<a>n<a>na")

-- rust: replace both a banana 0 <$0>
abbrev pub Row2 : Type 0
Row2 = Replaces (ask (codes "a") []) (codes "banana") 0 (codes "<$0>") (codes "b<a>n<a>n<a>")

-- rust: replace both x banana 2 <$0>
abbrev pub Row3 : Type 0
Row3 = Replaces (ask (codes "x") []) (codes "banana") 2 (codes "<$0>") (codes "banana")

-- rust: replace both (a)(n) banana 0 [$2$1]
abbrev pub Row4 : Type 0
Row4 = Replaces (ask (codes "(a)(n)") []) (codes "banana") 0 (codes "[$2$1]") (codes "b[na][na]a")

-- rust: replace both a aba 0 x
abbrev pub Row5 : Type 0
Row5 = Replaces (ask (codes "a") []) (codes "aba") 0 (codes "x") (codes "xbx")

-- hand: replace both x banana 0 <$0>
abbrev pub Row6 : Type 0
Row6 = Replaces (ask (codes "x") []) (codes "banana") 0 (codes "<$0>") (codes "banana")

-- hand: replace both L a|ab|abc abcab 0 <$0>
abbrev pub Row7 : Type 0
Row7 = Replaces (longest (ask (codes "a|ab|abc") [])) (codes "abcab") 0 (codes "<$0>") (codes "<abc><ab>")

-- hand: replace both L a|ab|abc abcab 1 <$0>
abbrev pub Row8 : Type 0
Row8 = Replaces (longest (ask (codes "a|ab|abc") [])) (codes "abcab") 1 (codes "<$0>") (codes "<abc>ab")

-- hand: replace both K (?<x>a){0}(b) ab 0 [$x$2]
abbrev pub Row9 : Type 0
Row9 = Replaces (keeping (ask (codes "(?<x>a){0}(b)") [])) (codes "ab") 0 (codes "[$x$2]") (codes "a[b]")

-- rust: replace bytes ((a*)|(a)?){0,2}(b?) bbab 0 ${\xFF}x
abbrev pub Row10 : Type 0
Row10 = Replaces (ask (codes "((a*)|(a)?){0,2}(b?)") []) (codes "bbab") 0 (36 ∷ 123 ∷ 255 ∷ 125 ∷ 120 ∷ []) (36 ∷ 123 ∷ 255 ∷ 125 ∷ 120 ∷ 36 ∷ 123 ∷ 255 ∷ 125 ∷ 120 ∷ 36 ∷ 123 ∷ 255 ∷ 125 ∷ 120 ∷ [])

-- rust: replace bytes \\b{end-half}b\\b{end-half}|b{3,5 }a aaababaab\xE1\x80abbbaab 5 $$$$1${$1}${++1}
abbrev pub Row11 : Type 0
Row11 = Replaces (ask (codes "\\b{end-half}b\\b{end-half}|b{3,5 }a") []) (97 ∷ 97 ∷ 97 ∷ 98 ∷ 97 ∷ 98 ∷ 97 ∷ 97 ∷ 98 ∷ 225 ∷ 128 ∷ 97 ∷ 98 ∷ 98 ∷ 98 ∷ 97 ∷ 97 ∷ 98 ∷ []) 5 (codes "$$$$1${$1}${++1}") (97 ∷ 97 ∷ 97 ∷ 98 ∷ 97 ∷ 98 ∷ 97 ∷ 97 ∷ 98 ∷ 225 ∷ 128 ∷ 97 ∷ 36 ∷ 36 ∷ 49 ∷ 97 ∷ 98 ∷ [])

-- rust: replace both im [\\U00000061[:lower:]]{2,2} aab 0 $x-$n
abbrev pub Row12 : Type 0
Row12 = Replaces (ask (codes "[\\U00000061[:lower:]]{2,2}") (codes "im")) (codes "aab") 0 (codes "$x-$n") (codes "-b")

-- rust: replace both (?-i:(.*{ 2,}|\\!|(?R)){2,}|)| 0 ${1}a$x-$n
abbrev pub Row13 : Type 0
Row13 = Replaces (ask (codes "(?-i:(.*{ 2,}|\\!|(?R)){2,}|)|") []) [] 0 (codes "${1}a$x-$n") (codes "a-")

-- rust: replace bytes (?:(a)|())+? aa\xEF\xBFb\xFE\xFFaaaa 0 ${#}${x}$1-$2
abbrev pub Row14 : Type 0
Row14 = Replaces (ask (codes "(?:(a)|())+?") []) (97 ∷ 97 ∷ 239 ∷ 191 ∷ 98 ∷ 254 ∷ 255 ∷ 97 ∷ 97 ∷ 97 ∷ 97 ∷ []) 0 (codes "${#}${x}$1-$2") (97 ∷ 45 ∷ 97 ∷ 45 ∷ 239 ∷ 191 ∷ 45 ∷ 98 ∷ 45 ∷ 254 ∷ 45 ∷ 255 ∷ 97 ∷ 45 ∷ 97 ∷ 45 ∷ 97 ∷ 45 ∷ 97 ∷ 45 ∷ [])

-- rust: replace both (?P<x>.)(?P<n>.)? ba 2 [$0|$1|$2|$3]
abbrev pub Row15 : Type 0
Row15 = Replaces (ask (codes "(?P<x>.)(?P<n>.)?") []) (codes "ba") 2 (codes "[$0|$1|$2|$3]") (codes "[ba|b|a|]")

-- rust: replace bytes [^\\u0061[:^alnum:]](?P<x>a|) 5 ${\xFF}x
abbrev pub Row16 : Type 0
Row16 = Replaces (ask (codes "[^\\u0061[:^alnum:]](?P<x>a|)") []) [] 5 (36 ∷ 123 ∷ 255 ∷ 125 ∷ 120 ∷ []) []

-- rust: replace both [Y-Z]?(\xE0\xA0\x80\xE2\x98\x83{3,4}?) \xE0\xA0\x80\xE2\x98\x83\xE2\x98\x83\xE2\x98\x83\xE2\x98\x83 0 $
abbrev pub Row17 : Type 0
Row17 = Replaces (parted ((128, 2047) ∷ (2048, 2048) ∷ (2049, 9730) ∷ (9731, 9731) ∷ (9732, 55295) ∷ (57344, 1114111) ∷ []) (ask (91 ∷ 89 ∷ 45 ∷ 90 ∷ 93 ∷ 63 ∷ 40 ∷ 224 ∷ 160 ∷ 128 ∷ 226 ∷ 152 ∷ 131 ∷ 123 ∷ 51 ∷ 44 ∷ 52 ∷ 125 ∷ 63 ∷ 41 ∷ []) [])) (224 ∷ 160 ∷ 128 ∷ 226 ∷ 152 ∷ 131 ∷ 226 ∷ 152 ∷ 131 ∷ 226 ∷ 152 ∷ 131 ∷ 226 ∷ 152 ∷ 131 ∷ []) 0 (codes "$") (36 ∷ 226 ∷ 152 ∷ 131 ∷ [])

-- rust: replace bytes \\S \xE2\xE2bbb\xC3abbab 0 ${}
abbrev pub Row18 : Type 0
Row18 = Replaces (ask (codes "\\S") []) (226 ∷ 226 ∷ 98 ∷ 98 ∷ 98 ∷ 195 ∷ 97 ∷ 98 ∷ 98 ∷ 97 ∷ 98 ∷ []) 0 (codes "${}") []

-- rust: replace both m (_*?\\.| *[^.\\-[:digit:]]|(?:(?s)){0}?)   b 0 ${$1}
abbrev pub Row19 : Type 0
Row19 = Replaces (ask (codes "(_*?\\.| *[^.\\-[:digit:]]|(?:(?s)){0}?)") (codes "m")) (codes "  b") 0 (codes "${$1}") []

-- rust: replace both R [\\U0000ffff]{2} \xF4\x8F\xBF\xBF\xEF\xBF\xBF\xEF\xBF\xBF\x7F 2 $_
abbrev pub Row20 : Type 0
Row20 = Replaces (parted ((128, 55295) ∷ (57344, 65534) ∷ (65535, 65535) ∷ (65536, 1114111) ∷ []) (ask (codes "[\\U0000ffff]{2}") (codes "R"))) (244 ∷ 143 ∷ 191 ∷ 191 ∷ 239 ∷ 191 ∷ 191 ∷ 239 ∷ 191 ∷ 191 ∷ 127 ∷ []) 2 (codes "$_") (244 ∷ 143 ∷ 191 ∷ 191 ∷ 127 ∷ [])

-- rust: replace_lit both , a,b 0 $0
abbrev pub Row21 : Type 0
Row21 = ReplacesBy (ask (codes ",") []) (codes "a,b") 0 (codes "$0") (codes "a$0b")

-- rust: replace_lit both \xE2\x98\x83 0
abbrev pub Row22 : Type 0
Row22 = ReplacesBy (ask [] []) (226 ∷ 152 ∷ 131 ∷ []) 0 (codes "-") (45 ∷ 226 ∷ 152 ∷ 131 ∷ 45 ∷ [])

-- hand: replace_lit both L a+? baac 0
abbrev pub Row23 : Type 0
Row23 = ReplacesBy (longest (ask (codes "a+?") [])) (codes "baac") 0 (codes "-") (codes "b-c")

-- rust: replace_lit bytes (a)(b)? ab\xF4\x90\x80\x80 2 $x-$n
abbrev pub Row24 : Type 0
Row24 = ReplacesBy (ask (codes "(a)(b)?") []) (97 ∷ 98 ∷ 244 ∷ 144 ∷ 128 ∷ 128 ∷ []) 2 (codes "$x-$n") (36 ∷ 120 ∷ 45 ∷ 36 ∷ 110 ∷ 244 ∷ 144 ∷ 128 ∷ 128 ∷ [])

-- rust: replace_lit both s 804 0
abbrev pub Row25 : Type 0
Row25 = ReplacesBy (ask [] (codes "s")) (codes "804") 0 [] (codes "804")

-- rust: replace_lit both (?<x>a)|(?<n>b) aabbab 3 $18446744073709551615
abbrev pub Row26 : Type 0
Row26 = ReplacesBy (ask (codes "(?<x>a)|(?<n>b)") []) (codes "aabbab") 3 (codes "$18446744073709551615") (codes "$18446744073709551615$18446744073709551615$18446744073709551615bab")

-- rust: replace_lit both a[b]\\u0062b ababbbb 5 $x-$n
abbrev pub Row27 : Type 0
Row27 = ReplacesBy (parted ((128, 1578) ∷ (1579, 1579) ∷ (1580, 55295) ∷ (57344, 1114111) ∷ []) (ask (codes "a[b]\\u0062b") [])) (codes "ababbbb") 5 (codes "$x-$n") (codes "ab$x-$nb")

-- rust: expand both (?<bar>y{3})(?<foo>x{3}) yyyxxx test ${wat $bar ok
abbrev pub Row28 : Type 0
Row28 = Expands (ask (codes "(?<bar>y{3})(?<foo>x{3})") []) (codes "yyyxxx") (codes "test ${wat $bar ok") (Some (codes "test ${wat yyy ok"))

-- rust: expand both (?<bar>y{3})(?<foo>x{3}) yyyxxx test$2test
abbrev pub Row29 : Type 0
Row29 = Expands (ask (codes "(?<bar>y{3})(?<foo>x{3})") []) (codes "yyyxxx") (codes "test$2test") (Some (codes "test"))

-- rust: expand both (?<bar>y{3})(?<foo>x{3}) yyyxxx ${+1}
abbrev pub Row30 : Type 0
Row30 = Expands (ask (codes "(?<bar>y{3})(?<foo>x{3})") []) (codes "yyyxxx") (codes "${+1}") (Some (codes "yyy"))

-- rust: expand both (?<bar>y{3})(?<foo>x{3}) yyyxxx test $$foo test
abbrev pub Row31 : Type 0
Row31 = Expands (ask (codes "(?<bar>y{3})(?<foo>x{3})") []) (codes "yyyxxx") (codes "test $$foo test") (Some (codes "test $foo test"))

-- rust: expand both (?<bar>y{3})(?<foo>x{3}) yyyxxx test ${} test
abbrev pub Row32 : Type 0
Row32 = Expands (ask (codes "(?<bar>y{3})(?<foo>x{3})") []) (codes "yyyxxx") (codes "test ${} test") (Some (codes "test  test"))

-- rust: expand both a a $$$0
abbrev pub Row33 : Type 0
Row33 = Expands (ask (codes "a") []) (codes "a") (codes "$$$0") (Some (codes "$a"))

-- rust: expand both a a $+1
abbrev pub Row34 : Type 0
Row34 = Expands (ask (codes "a") []) (codes "a") (codes "$+1") (Some (codes "$+1"))

-- rust: expand both a a a$
abbrev pub Row35 : Type 0
Row35 = Expands (ask (codes "a") []) (codes "a") (codes "a$") (Some (codes "a$"))

-- rust: expand both a a ${1
abbrev pub Row36 : Type 0
Row36 = Expands (ask (codes "a") []) (codes "a") (codes "${1") (Some (codes "${1"))

-- rust: expand both a a ${ 0 }
abbrev pub Row37 : Type 0
Row37 = Expands (ask (codes "a") []) (codes "a") (codes "${ 0 }") (Some [])

-- rust: expand both a a ${+}
abbrev pub Row38 : Type 0
Row38 = Expands (ask (codes "a") []) (codes "a") (codes "${+}") (Some [])

-- rust: expand both a a ${-1}
abbrev pub Row39 : Type 0
Row39 = Expands (ask (codes "a") []) (codes "a") (codes "${-1}") (Some [])

-- rust: expand both a a $00
abbrev pub Row40 : Type 0
Row40 = Expands (ask (codes "a") []) (codes "a") (codes "$00") (Some (codes "a"))

-- rust: expand bytes a a ${\xFF}x
abbrev pub Row41 : Type 0
Row41 = Expands (ask (codes "a") []) (codes "a") (36 ∷ 123 ∷ 255 ∷ 125 ∷ 120 ∷ []) (Some (36 ∷ 123 ∷ 255 ∷ 125 ∷ 120 ∷ []))

-- all of these
abbrev pub Replacements : Type 0
Replacements = Row1 × Row2 × Row3 × Row4 × Row5 × Row6 × Row7 × Row8 × Row9 × Row10 × Row11 × Row12 × Row13 × Row14 × Row15 × Row16 × Row17 × Row18 × Row19 × Row20 × Row21 × Row22 × Row23 × Row24 × Row25 × Row26 × Row27 × Row28 × Row29 × Row30 × Row31 × Row32 × Row33 × Row34 × Row35 × Row36 × Row37 × Row38 × Row39 × Row40 × Row41
