-- What rows say of whether, where and how soon a haystack matches. The program `generate` writes this module.
use Rattle.std.specs.Prelude.{true, false, [], ◌∷◌, codes, Some, None}
use Rattle.bites_spec.specs.Match.{span}
use Rattle.bites_answers.specs.Evaluated.{ask, nested, longest, parted, FindsSpan, IsFound, EndsSoonest}

-- hand: is both L a+? baac 1
abbrev pub Row1 : Type 0
Row1 = IsFound (longest (ask (codes "a+?") [])) (codes "baac") 1 true

-- rust: is bytes (?siu:(?R:(?su:b|\\>.)b).)|b|(?:.(]?-R:)+) b\xC3aa 2
abbrev pub Row2 : Type 0
Row2 = IsFound (ask (codes "(?siu:(?R:(?su:b|\\>.)b).)|b|(?:.(]?-R:)+)") []) (98 ∷ 195 ∷ 97 ∷ 97 ∷ []) 2 false

-- rust: is both b[bb] bbbb 1
abbrev pub Row3 : Type 0
Row3 = IsFound (ask (codes "b[bb]") []) (codes "bbbb") 1 true

-- rust: is both mR ^{2} \x0D\x0D\x0A\x0D\x0Ab 5
abbrev pub Row4 : Type 0
Row4 = IsFound (ask (codes "^{2}") (codes "mR")) (13 ∷ 13 ∷ 10 ∷ 13 ∷ 10 ∷ 98 ∷ []) 5 true

-- rust: is both \\-\\b{end-half} -_5-- 3
abbrev pub Row5 : Type 0
Row5 = IsFound (ask (codes "\\-\\b{end-half}") []) (codes "-_5--") 3 true

-- rust: is bytes .|a* aa\xE0\x80\x80aaaa 6
abbrev pub Row6 : Type 0
Row6 = IsFound (ask (codes ".|a*") []) (97 ∷ 97 ∷ 224 ∷ 128 ∷ 128 ∷ 97 ∷ 97 ∷ 97 ∷ 97 ∷ []) 6 true

-- rust: is both \\b{end-half}5|75 9a75a 6
abbrev pub Row7 : Type 0
Row7 = IsFound (ask (codes "\\b{end-half}5|75") []) (codes "9a75a") 6 false

-- port: shortest both (?i)[Y-b] y 0
abbrev pub Row8 : Type 0
Row8 = EndsSoonest (ask (codes "(?i)[Y-b]") []) (codes "y") 0 (Some 1)

-- port: shortest both (?i)[\\x61-\\x7A] Q 0
abbrev pub Row9 : Type 0
Row9 = EndsSoonest (ask (codes "(?i)[\\x61-\\x7A]") []) (codes "Q") 0 (Some 1)

-- port: shortest both (?x)[a - # wat\x0A] 0
abbrev pub Row10 : Type 0
Row10 = EndsSoonest (ask (40 ∷ 63 ∷ 120 ∷ 41 ∷ 91 ∷ 97 ∷ 32 ∷ 45 ∷ 32 ∷ 35 ∷ 32 ∷ 119 ∷ 97 ∷ 116 ∷ 10 ∷ 93 ∷ []) []) (codes "-") 0 (Some 1)

-- port: shortest both i [\\x61-\\x7A] Q 0
abbrev pub Row11 : Type 0
Row11 = EndsSoonest (ask (codes "[\\x61-\\x7A]") (codes "i")) (codes "Q") 0 (Some 1)

-- hand: shortest both L a+? aaa 0
abbrev pub Row12 : Type 0
Row12 = EndsSoonest (longest (ask (codes "a+?") [])) (codes "aaa") 0 (Some 1)

-- hand: shortest both a(?:b|c)+d xxabcbd 2
abbrev pub Row13 : Type 0
Row13 = EndsSoonest (ask (codes "a(?:b|c)+d") []) (codes "xxabcbd") 2 (Some 7)

-- hand: shortest both a(?:b|c)+d xxabcbd 3
abbrev pub Row14 : Type 0
Row14 = EndsSoonest (ask (codes "a(?:b|c)+d") []) (codes "xxabcbd") 3 None

-- hand: shortest both a(?:b|c)+d xxabcbdabd 3
abbrev pub Row15 : Type 0
Row15 = EndsSoonest (ask (codes "a(?:b|c)+d") []) (codes "xxabcbdabd") 3 (Some 10)

-- hand: shortest both a(?:b|c)+d ad 0
abbrev pub Row16 : Type 0
Row16 = EndsSoonest (ask (codes "a(?:b|c)+d") []) (codes "ad") 0 None

-- hand: shortest both a(?:b|c)+d abd 4
abbrev pub Row17 : Type 0
Row17 = EndsSoonest (ask (codes "a(?:b|c)+d") []) (codes "abd") 4 None

-- hand: shortest both a(?:b|c)+d 0
abbrev pub Row18 : Type 0
Row18 = EndsSoonest (ask (codes "a(?:b|c)+d") []) [] 0 None

-- hand: shortest both aaaa|b aaba 0
abbrev pub Row19 : Type 0
Row19 = EndsSoonest (ask (codes "aaaa|b") []) (codes "aaba") 0 (Some 3)

-- hand: shortest both aaaa|b aaaab 0
abbrev pub Row20 : Type 0
Row20 = EndsSoonest (ask (codes "aaaa|b") []) (codes "aaaab") 0 (Some 4)

-- hand: shortest both ab 0
abbrev pub Row21 : Type 0
Row21 = EndsSoonest (ask [] []) (codes "ab") 0 (Some 0)

-- hand: shortest both ab 1
abbrev pub Row22 : Type 0
Row22 = EndsSoonest (ask [] []) (codes "ab") 1 (Some 1)

-- hand: shortest both \\Bx\\b x xx xx 0
abbrev pub Row23 : Type 0
Row23 = EndsSoonest (ask (codes "\\Bx\\b") []) (codes "x xx xx") 0 (Some 4)

-- hand: shortest bytes [b-d\xEF\xBF\xBD] ae\xE2\x98z 0
abbrev pub Row24 : Type 0
Row24 = EndsSoonest (parted ((128, 55295) ∷ (57344, 65532) ∷ (65533, 65533) ∷ (65534, 1114111) ∷ []) (ask (91 ∷ 98 ∷ 45 ∷ 100 ∷ 239 ∷ 191 ∷ 189 ∷ 93 ∷ []) [])) (97 ∷ 101 ∷ 226 ∷ 152 ∷ 122 ∷ []) 0 (Some 4)

-- hand: shortest both [b-d\xEF\xBF\xBD] aed 0
abbrev pub Row25 : Type 0
Row25 = EndsSoonest (parted ((128, 55295) ∷ (57344, 65532) ∷ (65533, 65533) ∷ (65534, 1114111) ∷ []) (ask (91 ∷ 98 ∷ 45 ∷ 100 ∷ 239 ∷ 191 ∷ 189 ∷ 93 ∷ []) [])) (codes "aed") 0 (Some 3)

-- hand: shortest both [b-d\xEF\xBF\xBD] e\xF0\x9F\x98\x80 0
abbrev pub Row26 : Type 0
Row26 = EndsSoonest (parted ((128, 55295) ∷ (57344, 65532) ∷ (65533, 65533) ∷ (65534, 1114111) ∷ []) (ask (91 ∷ 98 ∷ 45 ∷ 100 ∷ 239 ∷ 191 ∷ 189 ∷ 93 ∷ []) [])) (101 ∷ 240 ∷ 159 ∷ 152 ∷ 128 ∷ []) 0 None

-- rust: shortest bytes mx \\~ \xE1\x80a 0
abbrev pub Row27 : Type 0
Row27 = EndsSoonest (ask (codes "\\~") (codes "mx")) (225 ∷ 128 ∷ 97 ∷ []) 0 None

-- rust: shortest both a\\b{end-half}(?:) a 1
abbrev pub Row28 : Type 0
Row28 = EndsSoonest (ask (codes "a\\b{end-half}(?:)") []) (codes "a") 1 None

-- rust: shortest both m \x0D. b\x0A\x0Db\x0D\x0D\x0A 0
abbrev pub Row29 : Type 0
Row29 = EndsSoonest (ask (13 ∷ 46 ∷ []) (codes "m")) (98 ∷ 10 ∷ 13 ∷ 98 ∷ 13 ∷ 13 ∷ 10 ∷ []) 0 (Some 4)

-- rust: shortest both [^[:blank:][:^digit:]\\u0061] babb6ab 0
abbrev pub Row30 : Type 0
Row30 = EndsSoonest (ask (codes "[^[:blank:][:^digit:]\\u0061]") []) (codes "babb6ab") 0 (Some 5)

-- rust: shortest both \\A.*?\\n tel: 555-0199, tel: 555-0199 street the, Holmes a.b, \xE5\x90\x8D\xE5\xAD\x97, a.b [ok], reading Holmes, evening, Holmes reading, watson street user7@host3 user7@host3 walking\x0Ax, watson x x, tel: 555-0199, evening 2014-10-14 watson, the, na\xC3\xAFve user7@host3\x0A 0
abbrev pub Row31 : Type 0
Row31 = EndsSoonest (ask (codes "\\A.*?\\n") []) (116 ∷ 101 ∷ 108 ∷ 58 ∷ 32 ∷ 53 ∷ 53 ∷ 53 ∷ 45 ∷ 48 ∷ 49 ∷ 57 ∷ 57 ∷ 44 ∷ 32 ∷ 116 ∷ 101 ∷ 108 ∷ 58 ∷ 32 ∷ 53 ∷ 53 ∷ 53 ∷ 45 ∷ 48 ∷ 49 ∷ 57 ∷ 57 ∷ 32 ∷ 115 ∷ 116 ∷ 114 ∷ 101 ∷ 101 ∷ 116 ∷ 32 ∷ 116 ∷ 104 ∷ 101 ∷ 44 ∷ 32 ∷ 72 ∷ 111 ∷ 108 ∷ 109 ∷ 101 ∷ 115 ∷ 32 ∷ 97 ∷ 46 ∷ 98 ∷ 44 ∷ 32 ∷ 229 ∷ 144 ∷ 141 ∷ 229 ∷ 173 ∷ 151 ∷ 44 ∷ 32 ∷ 97 ∷ 46 ∷ 98 ∷ 32 ∷ 91 ∷ 111 ∷ 107 ∷ 93 ∷ 44 ∷ 32 ∷ 114 ∷ 101 ∷ 97 ∷ 100 ∷ 105 ∷ 110 ∷ 103 ∷ 32 ∷ 72 ∷ 111 ∷ 108 ∷ 109 ∷ 101 ∷ 115 ∷ 44 ∷ 32 ∷ 101 ∷ 118 ∷ 101 ∷ 110 ∷ 105 ∷ 110 ∷ 103 ∷ 44 ∷ 32 ∷ 72 ∷ 111 ∷ 108 ∷ 109 ∷ 101 ∷ 115 ∷ 32 ∷ 114 ∷ 101 ∷ 97 ∷ 100 ∷ 105 ∷ 110 ∷ 103 ∷ 44 ∷ 32 ∷ 119 ∷ 97 ∷ 116 ∷ 115 ∷ 111 ∷ 110 ∷ 32 ∷ 115 ∷ 116 ∷ 114 ∷ 101 ∷ 101 ∷ 116 ∷ 32 ∷ 117 ∷ 115 ∷ 101 ∷ 114 ∷ 55 ∷ 64 ∷ 104 ∷ 111 ∷ 115 ∷ 116 ∷ 51 ∷ 32 ∷ 117 ∷ 115 ∷ 101 ∷ 114 ∷ 55 ∷ 64 ∷ 104 ∷ 111 ∷ 115 ∷ 116 ∷ 51 ∷ 32 ∷ 119 ∷ 97 ∷ 108 ∷ 107 ∷ 105 ∷ 110 ∷ 103 ∷ 10 ∷ 120 ∷ 44 ∷ 32 ∷ 119 ∷ 97 ∷ 116 ∷ 115 ∷ 111 ∷ 110 ∷ 32 ∷ 120 ∷ 32 ∷ 120 ∷ 44 ∷ 32 ∷ 116 ∷ 101 ∷ 108 ∷ 58 ∷ 32 ∷ 53 ∷ 53 ∷ 53 ∷ 45 ∷ 48 ∷ 49 ∷ 57 ∷ 57 ∷ 44 ∷ 32 ∷ 101 ∷ 118 ∷ 101 ∷ 110 ∷ 105 ∷ 110 ∷ 103 ∷ 32 ∷ 50 ∷ 48 ∷ 49 ∷ 52 ∷ 45 ∷ 49 ∷ 48 ∷ 45 ∷ 49 ∷ 52 ∷ 32 ∷ 119 ∷ 97 ∷ 116 ∷ 115 ∷ 111 ∷ 110 ∷ 44 ∷ 32 ∷ 116 ∷ 104 ∷ 101 ∷ 44 ∷ 32 ∷ 110 ∷ 97 ∷ 195 ∷ 175 ∷ 118 ∷ 101 ∷ 32 ∷ 117 ∷ 115 ∷ 101 ∷ 114 ∷ 55 ∷ 64 ∷ 104 ∷ 111 ∷ 115 ∷ 116 ∷ 51 ∷ 10 ∷ []) 0 (Some 158)

-- hand: find_at both L abcd|b|bc abce 0
abbrev pub Row32 : Type 0
Row32 = FindsSpan (longest (ask (codes "abcd|b|bc") [])) (codes "abce") 0 (Some (span 1 3))

-- hand: find_at both L a+? aaa 0
abbrev pub Row33 : Type 0
Row33 = FindsSpan (longest (ask (codes "a+?") [])) (codes "aaa") 0 (Some (span 0 3))

-- hand: find_at both L (?:|a)* aa 0
abbrev pub Row34 : Type 0
Row34 = FindsSpan (longest (ask (codes "(?:|a)*") [])) (codes "aa") 0 (Some (span 0 2))

-- hand: find_at both L (?:a*(?:|b))+ ab 0
abbrev pub Row35 : Type 0
Row35 = FindsSpan (longest (ask (codes "(?:a*(?:|b))+") [])) (codes "ab") 0 (Some (span 0 2))

-- rust: find_at both a|ab ab 0
abbrev pub Row36 : Type 0
Row36 = FindsSpan (ask (codes "a|ab") []) (codes "ab") 0 (Some (span 0 1))

-- hand: find_at both (?:a||b)+ ab 0
abbrev pub Row37 : Type 0
Row37 = FindsSpan (ask (codes "(?:a||b)+") []) (codes "ab") 0 (Some (span 0 2))

-- hand: find_at both (?:|a)* a 0
abbrev pub Row38 : Type 0
Row38 = FindsSpan (ask (codes "(?:|a)*") []) (codes "a") 0 (Some (span 0 0))

-- hand: find_at both ^ ab 1
abbrev pub Row39 : Type 0
Row39 = FindsSpan (ask (codes "^") []) (codes "ab") 1 None

-- hand: find_at both ab 3
abbrev pub Row40 : Type 0
Row40 = FindsSpan (ask [] []) (codes "ab") 3 None

-- hand: find_at both ab 2
abbrev pub Row41 : Type 0
Row41 = FindsSpan (ask [] []) (codes "ab") 2 (Some (span 2 2))

-- hand: find_at bytes . \xE2\x98\x83 1
abbrev pub Row42 : Type 0
Row42 = FindsSpan (ask (codes ".") []) (226 ∷ 152 ∷ 131 ∷ []) 1 (Some (span 1 2))

-- hand: find_at both (?i)[\\x61-\\x7A] Q 0
abbrev pub Row43 : Type 0
Row43 = FindsSpan (ask (codes "(?i)[\\x61-\\x7A]") []) (codes "Q") 0 (Some (span 0 1))

-- hand: find_at both (?x)a{1 0} aaaaaaaaaa 0
abbrev pub Row44 : Type 0
Row44 = FindsSpan (ask (codes "(?x)a{1 0}") []) (codes "aaaaaaaaaa") 0 (Some (span 0 10))

-- hand: find_at both (?x)a{5,9} ? aaaaaaaaa 0
abbrev pub Row45 : Type 0
Row45 = FindsSpan (ask (codes "(?x)a{5,9} ?") []) (codes "aaaaaaaaa") 0 (Some (span 0 5))

-- hand: find_at both a+ 0
abbrev pub Row46 : Type 0
Row46 = FindsSpan (ask (codes "a+") []) [] 0 None

-- hand: find_at bytes \\u{FFFD} a\xE2\x98 0
abbrev pub Row47 : Type 0
Row47 = FindsSpan (parted ((128, 55295) ∷ (57344, 65532) ∷ (65533, 65533) ∷ (65534, 1114111) ∷ []) (ask (codes "\\u{FFFD}") [])) (97 ∷ 226 ∷ 152 ∷ []) 0 (Some (span 1 3))

-- hand: find_at both 0 a**{0} a 0
abbrev pub Row48 : Type 0
Row48 = FindsSpan (nested 0 (ask (codes "a**{0}") [])) (codes "a") 0 (Some (span 0 0))

-- hand: find_at both (?x)a* ? aa 0
abbrev pub Row49 : Type 0
Row49 = FindsSpan (ask (codes "(?x)a* ?") []) (codes "aa") 0 (Some (span 0 2))

-- hand: find_at both a xa 0
abbrev pub Row50 : Type 0
Row50 = FindsSpan (ask (codes "a") []) (codes "xa") 0 (Some (span 1 2))

-- hand: find_at both (?:a?)* aa 0
abbrev pub Row51 : Type 0
Row51 = FindsSpan (ask (codes "(?:a?)*") []) (codes "aa") 0 (Some (span 0 2))

-- hand: find_at both (?:|a)+ a 0
abbrev pub Row52 : Type 0
Row52 = FindsSpan (ask (codes "(?:|a)+") []) (codes "a") 0 (Some (span 0 0))

-- rust: find_at both R .+?.+?^ \x0A 0
abbrev pub Row53 : Type 0
Row53 = FindsSpan (ask (codes ".+?.+?^") (codes "R")) (10 ∷ []) 0 None

-- rust: find_at bytes \\b|\\b{start-half}\\> a\xC3\xA977\xC3\xA9\xC3\xA9a 8
abbrev pub Row54 : Type 0
Row54 = FindsSpan (ask (codes "\\b|\\b{start-half}\\>") []) (97 ∷ 195 ∷ 169 ∷ 55 ∷ 55 ∷ 195 ∷ 169 ∷ 195 ∷ 169 ∷ 97 ∷ []) 8 (Some (span 9 9))

-- rust: find_at both b b 0
abbrev pub Row55 : Type 0
Row55 = FindsSpan (ask (codes "b") []) (codes "b") 0 (Some (span 0 1))

-- rust: find_at both iR [K]*??+?+ Kk 0
abbrev pub Row56 : Type 0
Row56 = FindsSpan (ask (codes "[K]*??+?+") (codes "iR")) (codes "Kk") 0 (Some (span 0 0))

-- rust: find_at bytes \\x{001D4B3}*|\xF0\x9D\x92\xB3.\\d{0}{3,}??\xEF\xBF\xBD \xF0\x9F\xC3\xA9 1
abbrev pub Row57 : Type 0
Row57 = FindsSpan (parted ((128, 55295) ∷ (57344, 65532) ∷ (65533, 65533) ∷ (65534, 119986) ∷ (119987, 119987) ∷ (119988, 1114111) ∷ []) (ask (92 ∷ 120 ∷ 123 ∷ 48 ∷ 48 ∷ 49 ∷ 68 ∷ 52 ∷ 66 ∷ 51 ∷ 125 ∷ 42 ∷ 124 ∷ 240 ∷ 157 ∷ 146 ∷ 179 ∷ 46 ∷ 92 ∷ 100 ∷ 123 ∷ 48 ∷ 125 ∷ 123 ∷ 51 ∷ 44 ∷ 125 ∷ 63 ∷ 63 ∷ 239 ∷ 191 ∷ 189 ∷ []) [])) (240 ∷ 159 ∷ 195 ∷ 169 ∷ []) 1 (Some (span 1 1))

-- rust: find_at both m . \x0D\x0Aa\x0A 0
abbrev pub Row58 : Type 0
Row58 = FindsSpan (ask (codes ".") (codes "m")) (13 ∷ 10 ∷ 97 ∷ 10 ∷ []) 0 (Some (span 0 1))

-- rust: find_at both (a)+|\\d| aa\xF0\x9D\x92\xB3 1
abbrev pub Row59 : Type 0
Row59 = FindsSpan (ask (codes "(a)+|\\d|") []) (97 ∷ 97 ∷ 240 ∷ 157 ∷ 146 ∷ 179 ∷ []) 1 (Some (span 1 2))

-- rust: find_at bytes a|. \xF5\xEB\xA2\xE2\x98\x83\xF0\xF4\x90\x80\x80 11
abbrev pub Row60 : Type 0
Row60 = FindsSpan (ask (codes "a|.") []) (245 ∷ 235 ∷ 162 ∷ 226 ∷ 152 ∷ 131 ∷ 240 ∷ 244 ∷ 144 ∷ 128 ∷ 128 ∷ []) 11 None

-- rust: find_at bytes \x0D \xC3\x0D\x0D 3
abbrev pub Row61 : Type 0
Row61 = FindsSpan (ask (13 ∷ []) []) (195 ∷ 13 ∷ 13 ∷ []) 3 None

-- rust: find_at both [\\sI-Z[:punct:]] \x0A\x0A\x0A\x0A\x0A\x0A 6
abbrev pub Row62 : Type 0
Row62 = FindsSpan (ask (codes "[\\sI-Z[:punct:]]") []) (10 ∷ 10 ∷ 10 ∷ 10 ∷ 10 ∷ 10 ∷ []) 6 None

-- all of these
abbrev pub Searches : Type 0
Searches = Row1 × Row2 × Row3 × Row4 × Row5 × Row6 × Row7 × Row8 × Row9 × Row10 × Row11 × Row12 × Row13 × Row14 × Row15 × Row16 × Row17 × Row18 × Row19 × Row20 × Row21 × Row22 × Row23 × Row24 × Row25 × Row26 × Row27 × Row28 × Row29 × Row30 × Row31 × Row32 × Row33 × Row34 × Row35 × Row36 × Row37 × Row38 × Row39 × Row40 × Row41 × Row42 × Row43 × Row44 × Row45 × Row46 × Row47 × Row48 × Row49 × Row50 × Row51 × Row52 × Row53 × Row54 × Row55 × Row56 × Row57 × Row58 × Row59 × Row60 × Row61 × Row62
