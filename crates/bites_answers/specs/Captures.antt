-- What rows say of the groups of single matches. The program `generate` writes this module.
use Rattle.std.specs.Prelude.{[], ◌∷◌, codes, Some, None}
use Rattle.bites_spec.specs.Match.{span}
use Rattle.bites_answers.specs.Evaluated.{ask, nested, keeping, longest, parted, FindsGroups, Extracts}

-- hand: captures_at both L a|ab ab 0
abbrev pub Row1 : Type 0
Row1 = FindsGroups (longest (ask (codes "a|ab") [])) (codes "ab") 0 (Some ((Some (span 0 2)) ∷ []))

-- hand: captures_at both L a|ab|abc abcab 0
abbrev pub Row2 : Type 0
Row2 = FindsGroups (longest (ask (codes "a|ab|abc") [])) (codes "abcab") 0 (Some ((Some (span 0 3)) ∷ []))

-- hand: captures_at both L a|ab|abc abcab 3
abbrev pub Row3 : Type 0
Row3 = FindsGroups (longest (ask (codes "a|ab|abc") [])) (codes "abcab") 3 (Some ((Some (span 3 5)) ∷ []))

-- hand: captures_at both L a|ab|abc abcab 5
abbrev pub Row4 : Type 0
Row4 = FindsGroups (longest (ask (codes "a|ab|abc") [])) (codes "abcab") 5 None

-- hand: captures_at both L abcd|b|bc abce 0
abbrev pub Row5 : Type 0
Row5 = FindsGroups (longest (ask (codes "abcd|b|bc") [])) (codes "abce") 0 (Some ((Some (span 1 3)) ∷ []))

-- hand: captures_at both L b|abc|bcdef abcdef 0
abbrev pub Row6 : Type 0
Row6 = FindsGroups (longest (ask (codes "b|abc|bcdef") [])) (codes "abcdef") 0 (Some ((Some (span 0 3)) ∷ []))

-- hand: captures_at both L (?:a|ab)(?:c|bcd)? abcd 0
abbrev pub Row7 : Type 0
Row7 = FindsGroups (longest (ask (codes "(?:a|ab)(?:c|bcd)?") [])) (codes "abcd") 0 (Some ((Some (span 0 4)) ∷ []))

-- hand: captures_at both L b a 0
abbrev pub Row8 : Type 0
Row8 = FindsGroups (longest (ask (codes "b") [])) (codes "a") 0 None

-- hand: captures_at both L a 2
abbrev pub Row9 : Type 0
Row9 = FindsGroups (longest (ask [] [])) (codes "a") 2 None

-- hand: captures_at both L a+? aaa 0
abbrev pub Row10 : Type 0
Row10 = FindsGroups (longest (ask (codes "a+?") [])) (codes "aaa") 0 (Some ((Some (span 0 3)) ∷ []))

-- hand: captures_at both L a*? aa 0
abbrev pub Row11 : Type 0
Row11 = FindsGroups (longest (ask (codes "a*?") [])) (codes "aa") 0 (Some ((Some (span 0 2)) ∷ []))

-- hand: captures_at both L a*? baac 0
abbrev pub Row12 : Type 0
Row12 = FindsGroups (longest (ask (codes "a*?") [])) (codes "baac") 0 (Some ((Some (span 0 0)) ∷ []))

-- hand: captures_at both L a*? baac 1
abbrev pub Row13 : Type 0
Row13 = FindsGroups (longest (ask (codes "a*?") [])) (codes "baac") 1 (Some ((Some (span 1 3)) ∷ []))

-- hand: captures_at both L a*? baac 4
abbrev pub Row14 : Type 0
Row14 = FindsGroups (longest (ask (codes "a*?") [])) (codes "baac") 4 (Some ((Some (span 4 4)) ∷ []))

-- hand: captures_at both L (a*?)(a*) aaa 0
abbrev pub Row15 : Type 0
Row15 = FindsGroups (longest (ask (codes "(a*?)(a*)") [])) (codes "aaa") 0 (Some ((Some (span 0 3)) ∷ (Some (span 0 0)) ∷ (Some (span 0 3)) ∷ []))

-- hand: captures_at both L (a??)(a??)(a) aa 0
abbrev pub Row16 : Type 0
Row16 = FindsGroups (longest (ask (codes "(a??)(a??)(a)") [])) (codes "aa") 0 (Some ((Some (span 0 2)) ∷ (Some (span 0 0)) ∷ (Some (span 0 1)) ∷ (Some (span 1 2)) ∷ []))

-- hand: captures_at both L (a|ab)(c)? abc 0
abbrev pub Row17 : Type 0
Row17 = FindsGroups (longest (ask (codes "(a|ab)(c)?") [])) (codes "abc") 0 (Some ((Some (span 0 3)) ∷ (Some (span 0 2)) ∷ (Some (span 2 3)) ∷ []))

-- hand: captures_at both L (a|ab)(c|bcd)(d*) abcd 0
abbrev pub Row18 : Type 0
Row18 = FindsGroups (longest (ask (codes "(a|ab)(c|bcd)(d*)") [])) (codes "abcd") 0 (Some ((Some (span 0 4)) ∷ (Some (span 0 1)) ∷ (Some (span 1 4)) ∷ (Some (span 4 4)) ∷ []))

-- hand: captures_at both L (a)|ab ab 0
abbrev pub Row19 : Type 0
Row19 = FindsGroups (longest (ask (codes "(a)|ab") [])) (codes "ab") 0 (Some ((Some (span 0 2)) ∷ None ∷ []))

-- hand: captures_at both L (?:(a)|ab)(b?) ab 0
abbrev pub Row20 : Type 0
Row20 = FindsGroups (longest (ask (codes "(?:(a)|ab)(b?)") [])) (codes "ab") 0 (Some ((Some (span 0 2)) ∷ (Some (span 0 1)) ∷ (Some (span 1 2)) ∷ []))

-- hand: captures_at both L (a|b)*? ab 0
abbrev pub Row21 : Type 0
Row21 = FindsGroups (longest (ask (codes "(a|b)*?") [])) (codes "ab") 0 (Some ((Some (span 0 2)) ∷ (Some (span 1 2)) ∷ []))

-- hand: captures_at both L (?:|a)* aa 0
abbrev pub Row22 : Type 0
Row22 = FindsGroups (longest (ask (codes "(?:|a)*") [])) (codes "aa") 0 (Some ((Some (span 0 2)) ∷ []))

-- hand: captures_at both L (?:a*(?:|b))+ ab 0
abbrev pub Row23 : Type 0
Row23 = FindsGroups (longest (ask (codes "(?:a*(?:|b))+") [])) (codes "ab") 0 (Some ((Some (span 0 2)) ∷ []))

-- hand: captures_at both KL (?:(a){0}|(b))b? bb 0
abbrev pub Row24 : Type 0
Row24 = FindsGroups (longest (keeping (ask (codes "(?:(a){0}|(b))b?") []))) (codes "bb") 0 (Some ((Some (span 0 2)) ∷ None ∷ (Some (span 0 1)) ∷ []))

-- rust: captures_at both a|ab ab 0
abbrev pub Row25 : Type 0
Row25 = FindsGroups (ask (codes "a|ab") []) (codes "ab") 0 (Some ((Some (span 0 1)) ∷ []))

-- rust: captures_at both a+ aaa 0
abbrev pub Row26 : Type 0
Row26 = FindsGroups (ask (codes "a+") []) (codes "aaa") 0 (Some ((Some (span 0 3)) ∷ []))

-- rust: captures_at both a+ 0
abbrev pub Row27 : Type 0
Row27 = FindsGroups (ask (codes "a+") []) [] 0 None

-- rust: captures_at both a*? aa 0
abbrev pub Row28 : Type 0
Row28 = FindsGroups (ask (codes "a*?") []) (codes "aa") 0 (Some ((Some (span 0 0)) ∷ []))

-- rust: captures_at both (?x)a* ? aa 0
abbrev pub Row29 : Type 0
Row29 = FindsGroups (ask (codes "(?x)a* ?") []) (codes "aa") 0 (Some ((Some (span 0 2)) ∷ []))

-- rust: captures_at both (?x)a{1 0} aaaaaaaaaa 0
abbrev pub Row30 : Type 0
Row30 = FindsGroups (ask (codes "(?x)a{1 0}") []) (codes "aaaaaaaaaa") 0 (Some ((Some (span 0 10)) ∷ []))

-- rust: captures_at both (?x)a{1 0} aaaaaaaaa 0
abbrev pub Row31 : Type 0
Row31 = FindsGroups (ask (codes "(?x)a{1 0}") []) (codes "aaaaaaaaa") 0 None

-- rust: captures_at both (?x)a{5,9} ? aaaaaaaaa 0
abbrev pub Row32 : Type 0
Row32 = FindsGroups (ask (codes "(?x)a{5,9} ?") []) (codes "aaaaaaaaa") 0 (Some ((Some (span 0 5)) ∷ []))

-- rust: captures_at both a(?i)* aA 0
abbrev pub Row33 : Type 0
Row33 = FindsGroups (ask (codes "a(?i)*") []) (codes "aA") 0 (Some ((Some (span 0 1)) ∷ []))

-- rust: captures_at both a**{0} a 0
abbrev pub Row34 : Type 0
Row34 = FindsGroups (ask (codes "a**{0}") []) (codes "a") 0 (Some ((Some (span 0 0)) ∷ []))

-- rust: captures_at both (a??)(a*) aa 0
abbrev pub Row35 : Type 0
Row35 = FindsGroups (ask (codes "(a??)(a*)") []) (codes "aa") 0 (Some ((Some (span 0 2)) ∷ (Some (span 0 0)) ∷ (Some (span 0 2)) ∷ []))

-- rust: captures_at both (?:a|ab)(?:c|bcd)(d*) abcd 0
abbrev pub Row36 : Type 0
Row36 = FindsGroups (ask (codes "(?:a|ab)(?:c|bcd)(d*)") []) (codes "abcd") 0 (Some ((Some (span 0 4)) ∷ (Some (span 4 4)) ∷ []))

-- rust: captures_at both (a{2,3}?)(a*) aaaa 0
abbrev pub Row37 : Type 0
Row37 = FindsGroups (ask (codes "(a{2,3}?)(a*)") []) (codes "aaaa") 0 (Some ((Some (span 0 4)) ∷ (Some (span 0 2)) ∷ (Some (span 2 4)) ∷ []))

-- rust: captures_at both (?U)(a+)(a*) aaa 0
abbrev pub Row38 : Type 0
Row38 = FindsGroups (ask (codes "(?U)(a+)(a*)") []) (codes "aaa") 0 (Some ((Some (span 0 1)) ∷ (Some (span 0 1)) ∷ (Some (span 1 1)) ∷ []))

-- rust: captures_at both a xa 0
abbrev pub Row39 : Type 0
Row39 = FindsGroups (ask (codes "a") []) (codes "xa") 0 (Some ((Some (span 1 2)) ∷ []))

-- rust: captures_at both b ab 0
abbrev pub Row40 : Type 0
Row40 = FindsGroups (ask (codes "b") []) (codes "ab") 0 (Some ((Some (span 1 2)) ∷ []))

-- rust: captures_at both a\\.b aab a.b 0
abbrev pub Row41 : Type 0
Row41 = FindsGroups (ask (codes "a\\.b") []) (codes "aab a.b") 0 (Some ((Some (span 4 7)) ∷ []))

-- rust: captures_at both (?:a||b)+ ab 0
abbrev pub Row42 : Type 0
Row42 = FindsGroups (ask (codes "(?:a||b)+") []) (codes "ab") 0 (Some ((Some (span 0 2)) ∷ []))

-- rust: captures_at both (?:a*(?:|b))+ ab 0
abbrev pub Row43 : Type 0
Row43 = FindsGroups (ask (codes "(?:a*(?:|b))+") []) (codes "ab") 0 (Some ((Some (span 0 1)) ∷ []))

-- rust: captures_at both (?:|a)* a 0
abbrev pub Row44 : Type 0
Row44 = FindsGroups (ask (codes "(?:|a)*") []) (codes "a") 0 (Some ((Some (span 0 0)) ∷ []))

-- rust: captures_at both (a*)* b 0
abbrev pub Row45 : Type 0
Row45 = FindsGroups (ask (codes "(a*)*") []) (codes "b") 0 (Some ((Some (span 0 0)) ∷ (Some (span 0 0)) ∷ []))

-- rust: captures_at both (?:a?)* aa 0
abbrev pub Row46 : Type 0
Row46 = FindsGroups (ask (codes "(?:a?)*") []) (codes "aa") 0 (Some ((Some (span 0 2)) ∷ []))

-- rust: captures_at both (?:a?)*? aa 0
abbrev pub Row47 : Type 0
Row47 = FindsGroups (ask (codes "(?:a?)*?") []) (codes "aa") 0 (Some ((Some (span 0 0)) ∷ []))

-- rust: captures_at both (?:|a)+ a 0
abbrev pub Row48 : Type 0
Row48 = FindsGroups (ask (codes "(?:|a)+") []) (codes "a") 0 (Some ((Some (span 0 0)) ∷ []))

-- rust: captures_at both (?:(a)|(b))+ ab 0
abbrev pub Row49 : Type 0
Row49 = FindsGroups (ask (codes "(?:(a)|(b))+") []) (codes "ab") 0 (Some ((Some (span 0 2)) ∷ (Some (span 0 1)) ∷ (Some (span 1 2)) ∷ []))

-- rust: captures_at both (?:(a)|b)* ab 0
abbrev pub Row50 : Type 0
Row50 = FindsGroups (ask (codes "(?:(a)|b)*") []) (codes "ab") 0 (Some ((Some (span 0 2)) ∷ (Some (span 0 1)) ∷ []))

-- rust: captures_at both (a)|b a 0
abbrev pub Row51 : Type 0
Row51 = FindsGroups (ask (codes "(a)|b") []) (codes "a") 0 (Some ((Some (span 0 1)) ∷ (Some (span 0 1)) ∷ []))

-- rust: captures_at both (a)|b x 0
abbrev pub Row52 : Type 0
Row52 = FindsGroups (ask (codes "(a)|b") []) (codes "x") 0 None

-- rust: captures_at both (a)|b b 0
abbrev pub Row53 : Type 0
Row53 = FindsGroups (ask (codes "(a)|b") []) (codes "b") 0 (Some ((Some (span 0 1)) ∷ None ∷ []))

-- rust: captures_at both (a)(b)? xac 0
abbrev pub Row54 : Type 0
Row54 = FindsGroups (ask (codes "(a)(b)?") []) (codes "xac") 0 (Some ((Some (span 1 2)) ∷ (Some (span 1 2)) ∷ None ∷ []))

-- rust: captures_at both (\\d)(\\d) x42 0
abbrev pub Row55 : Type 0
Row55 = FindsGroups (ask (codes "(\\d)(\\d)") []) (codes "x42") 0 (Some ((Some (span 1 3)) ∷ (Some (span 1 2)) ∷ (Some (span 2 3)) ∷ []))

-- rust: captures_at both (a|ab)(c)? abc 0
abbrev pub Row56 : Type 0
Row56 = FindsGroups (ask (codes "(a|ab)(c)?") []) (codes "abc") 0 (Some ((Some (span 0 1)) ∷ (Some (span 0 1)) ∷ None ∷ []))

-- rust: captures_at both (?<x>a){0}(b) b 0
abbrev pub Row57 : Type 0
Row57 = FindsGroups (ask (codes "(?<x>a){0}(b)") []) (codes "b") 0 (Some ((Some (span 0 1)) ∷ None ∷ (Some (span 0 1)) ∷ []))

-- rust: captures_at both (?x)\x0A(?P<year>\\d{4})  # the year\x0A-\x0A(?P<month>\\d{2}) # the month\x0A-\x0A(?P<day>\\d{2})   # the day\x0A 2010-03-14 0
abbrev pub Row58 : Type 0
Row58 = FindsGroups (ask (40 ∷ 63 ∷ 120 ∷ 41 ∷ 10 ∷ 40 ∷ 63 ∷ 80 ∷ 60 ∷ 121 ∷ 101 ∷ 97 ∷ 114 ∷ 62 ∷ 92 ∷ 100 ∷ 123 ∷ 52 ∷ 125 ∷ 41 ∷ 32 ∷ 32 ∷ 35 ∷ 32 ∷ 116 ∷ 104 ∷ 101 ∷ 32 ∷ 121 ∷ 101 ∷ 97 ∷ 114 ∷ 10 ∷ 45 ∷ 10 ∷ 40 ∷ 63 ∷ 80 ∷ 60 ∷ 109 ∷ 111 ∷ 110 ∷ 116 ∷ 104 ∷ 62 ∷ 92 ∷ 100 ∷ 123 ∷ 50 ∷ 125 ∷ 41 ∷ 32 ∷ 35 ∷ 32 ∷ 116 ∷ 104 ∷ 101 ∷ 32 ∷ 109 ∷ 111 ∷ 110 ∷ 116 ∷ 104 ∷ 10 ∷ 45 ∷ 10 ∷ 40 ∷ 63 ∷ 80 ∷ 60 ∷ 100 ∷ 97 ∷ 121 ∷ 62 ∷ 92 ∷ 100 ∷ 123 ∷ 50 ∷ 125 ∷ 41 ∷ 32 ∷ 32 ∷ 32 ∷ 35 ∷ 32 ∷ 116 ∷ 104 ∷ 101 ∷ 32 ∷ 100 ∷ 97 ∷ 121 ∷ 10 ∷ []) []) (codes "2010-03-14") 0 (Some ((Some (span 0 10)) ∷ (Some (span 0 4)) ∷ (Some (span 5 7)) ∷ (Some (span 8 10)) ∷ []))

-- rust: captures_at both ^ ab 1
abbrev pub Row59 : Type 0
Row59 = FindsGroups (ask (codes "^") []) (codes "ab") 1 None

-- rust: captures_at both (?m)^ a\x0Ab 1
abbrev pub Row60 : Type 0
Row60 = FindsGroups (ask (codes "(?m)^") []) (97 ∷ 10 ∷ 98 ∷ []) 1 (Some ((Some (span 2 2)) ∷ []))

-- rust: captures_at both ab 3
abbrev pub Row61 : Type 0
Row61 = FindsGroups (ask [] []) (codes "ab") 3 None

-- rust: captures_at both ^ ab 3
abbrev pub Row62 : Type 0
Row62 = FindsGroups (ask (codes "^") []) (codes "ab") 3 None

-- rust: captures_at both a* ab 3
abbrev pub Row63 : Type 0
Row63 = FindsGroups (ask (codes "a*") []) (codes "ab") 3 None

-- rust: captures_at both 1
abbrev pub Row64 : Type 0
Row64 = FindsGroups (ask [] []) [] 1 None

-- rust: captures_at both ab 2
abbrev pub Row65 : Type 0
Row65 = FindsGroups (ask [] []) (codes "ab") 2 (Some ((Some (span 2 2)) ∷ []))

-- rust: captures_at both ab 18446744073709551615
abbrev pub Row66 : Type 0
Row66 = FindsGroups (ask [] []) (codes "ab") 18446744073709551615 None

-- rust: captures_at both . \xE2\x98\x83a 3
abbrev pub Row67 : Type 0
Row67 = FindsGroups (ask (codes ".") []) (226 ∷ 152 ∷ 131 ∷ 97 ∷ []) 3 (Some ((Some (span 3 4)) ∷ []))

-- rust: captures_at bytes . \xE2\x98\x83 1
abbrev pub Row68 : Type 0
Row68 = FindsGroups (ask (codes ".") []) (226 ∷ 152 ∷ 131 ∷ []) 1 (Some ((Some (span 1 2)) ∷ []))

-- rust: captures_at both . \x0A 0
abbrev pub Row69 : Type 0
Row69 = FindsGroups (ask (codes ".") []) (10 ∷ []) 0 None

-- rust: captures_at bytes . \xE2\x98\xF0 0
abbrev pub Row70 : Type 0
Row70 = FindsGroups (ask (codes ".") []) (226 ∷ 152 ∷ 240 ∷ []) 0 (Some ((Some (span 0 2)) ∷ []))

-- rust: captures_at bytes . \xFF 0
abbrev pub Row71 : Type 0
Row71 = FindsGroups (ask (codes ".") []) (255 ∷ []) 0 (Some ((Some (span 0 1)) ∷ []))

-- rust: captures_at bytes . \xF0\x9F\x92 0
abbrev pub Row72 : Type 0
Row72 = FindsGroups (ask (codes ".") []) (240 ∷ 159 ∷ 146 ∷ []) 0 (Some ((Some (span 0 3)) ∷ []))

-- rust: captures_at both \\u{FFFD} 0
abbrev pub Row73 : Type 0
Row73 = FindsGroups (parted ((128, 55295) ∷ (57344, 65532) ∷ (65533, 65533) ∷ (65534, 1114111) ∷ []) (ask (codes "\\u{FFFD}") [])) [] 0 None

-- rust: captures_at bytes \\u{FFFD} a\xE2\x98 0
abbrev pub Row74 : Type 0
Row74 = FindsGroups (parted ((128, 55295) ∷ (57344, 65532) ∷ (65533, 65533) ∷ (65534, 1114111) ∷ []) (ask (codes "\\u{FFFD}") [])) (97 ∷ 226 ∷ 152 ∷ []) 0 (Some ((Some (span 1 3)) ∷ []))

-- port: captures_at both (?i)[Y-b] y 0
abbrev pub Row75 : Type 0
Row75 = FindsGroups (ask (codes "(?i)[Y-b]") []) (codes "y") 0 (Some ((Some (span 0 1)) ∷ []))

-- port: captures_at both (?i)[\\x61-\\x7A] Q 0
abbrev pub Row76 : Type 0
Row76 = FindsGroups (ask (codes "(?i)[\\x61-\\x7A]") []) (codes "Q") 0 (Some ((Some (span 0 1)) ∷ []))

-- port: captures_at both (?x)[a - # wat\x0A] 0
abbrev pub Row77 : Type 0
Row77 = FindsGroups (ask (40 ∷ 63 ∷ 120 ∷ 41 ∷ 91 ∷ 97 ∷ 32 ∷ 45 ∷ 32 ∷ 35 ∷ 32 ∷ 119 ∷ 97 ∷ 116 ∷ 10 ∷ 93 ∷ []) []) (codes "-") 0 (Some ((Some (span 0 1)) ∷ []))

-- rust: captures_at both (?x)[a- -b] . 0
abbrev pub Row78 : Type 0
Row78 = FindsGroups (ask (codes "(?x)[a- -b]") []) (codes ".") 0 (Some ((Some (span 0 1)) ∷ []))

-- rust: captures_at both (?x)[- - -a] . 0
abbrev pub Row79 : Type 0
Row79 = FindsGroups (ask (codes "(?x)[- - -a]") []) (codes ".") 0 None

-- rust: captures_at both [^\\s\\S] a 0
abbrev pub Row80 : Type 0
Row80 = FindsGroups (ask (codes "[^\\s\\S]") []) (codes "a") 0 None

-- rust: captures_at both (?i)[^k] K 0
abbrev pub Row81 : Type 0
Row81 = FindsGroups (ask (codes "(?i)[^k]") []) (codes "K") 0 None

-- rust: captures_at both (?R). \x0D 0
abbrev pub Row82 : Type 0
Row82 = FindsGroups (ask (codes "(?R).") []) (13 ∷ []) 0 None

-- rust: captures_at both (?i:a)b AB 0
abbrev pub Row83 : Type 0
Row83 = FindsGroups (ask (codes "(?i:a)b") []) (codes "AB") 0 None

-- rust: captures_at both (?:a(?i)b)c aBC 0
abbrev pub Row84 : Type 0
Row84 = FindsGroups (ask (codes "(?:a(?i)b)c") []) (codes "aBC") 0 None

-- rust: captures_at both 144 0 a**{0} a 0
abbrev pub Row85 : Type 0
Row85 = FindsGroups (nested 0 (ask (codes "a**{0}") [])) (codes "a") 0 (Some ((Some (span 0 0)) ∷ []))

-- hand: captures_at both K (?:(a){0}) 0
abbrev pub Row86 : Type 0
Row86 = FindsGroups (keeping (ask (codes "(?:(a){0})") [])) [] 0 (Some ((Some (span 0 0)) ∷ None ∷ []))

-- hand: captures_at both K (a)(a){0} a 0
abbrev pub Row87 : Type 0
Row87 = FindsGroups (keeping (ask (codes "(a)(a){0}") [])) (codes "a") 0 (Some ((Some (span 0 1)) ∷ (Some (span 0 1)) ∷ None ∷ []))

-- hand: captures_at both K (?<x>a){0}(b) ab 0
abbrev pub Row88 : Type 0
Row88 = FindsGroups (keeping (ask (codes "(?<x>a){0}(b)") [])) (codes "ab") 0 (Some ((Some (span 1 2)) ∷ None ∷ (Some (span 1 2)) ∷ []))

-- hand: captures_at both K (?:(a){0}b|(c)) c 0
abbrev pub Row89 : Type 0
Row89 = FindsGroups (keeping (ask (codes "(?:(a){0}b|(c))") [])) (codes "c") 0 (Some ((Some (span 0 1)) ∷ None ∷ (Some (span 0 1)) ∷ []))

-- hand: captures_at both K ((a)){0} a 1
abbrev pub Row90 : Type 0
Row90 = FindsGroups (keeping (ask (codes "((a)){0}") [])) (codes "a") 1 (Some ((Some (span 1 1)) ∷ None ∷ None ∷ []))

-- rust: captures_at both (a|)bb()|a(?:|a)* abba 0
abbrev pub Row91 : Type 0
Row91 = FindsGroups (ask (codes "(a|)bb()|a(?:|a)*") []) (codes "abba") 0 (Some ((Some (span 0 3)) ∷ (Some (span 0 1)) ∷ (Some (span 3 3)) ∷ []))

-- rust: captures_at both (?:(a)|a?)+b bbaa 0
abbrev pub Row92 : Type 0
Row92 = FindsGroups (ask (codes "(?:(a)|a?)+b") []) (codes "bbaa") 0 (Some ((Some (span 0 1)) ∷ None ∷ []))

-- rust: captures_at both ^^*{1,} ab 0
abbrev pub Row93 : Type 0
Row93 = FindsGroups (ask (codes "^^*{1,}") []) (codes "ab") 0 (Some ((Some (span 0 0)) ∷ []))

-- rust: captures_at both (a|)bb()|a(?:|a)* aaba 0
abbrev pub Row94 : Type 0
Row94 = FindsGroups (ask (codes "(a|)bb()|a(?:|a)*") []) (codes "aaba") 0 (Some ((Some (span 0 1)) ∷ None ∷ None ∷ []))

-- rust: captures_at bytes sx [# - ]\x0A`-b]#c\x0A \xC3` 0
abbrev pub Row95 : Type 0
Row95 = FindsGroups (ask (91 ∷ 35 ∷ 32 ∷ 45 ∷ 32 ∷ 93 ∷ 10 ∷ 96 ∷ 45 ∷ 98 ∷ 93 ∷ 35 ∷ 99 ∷ 10 ∷ []) (codes "sx")) (195 ∷ 96 ∷ []) 0 (Some ((Some (span 1 2)) ∷ []))

-- rust: captures_at both a?[\\[-\\^][^a]|(?:[b\\Db]?|a^) abbb 0
abbrev pub Row96 : Type 0
Row96 = FindsGroups (ask (codes "a?[\\[-\\^][^a]|(?:[b\\Db]?|a^)") []) (codes "abbb") 0 (Some ((Some (span 0 1)) ∷ []))

-- rust: captures_at both x?(?:(b)*|(a|b)){1,} baa 0
abbrev pub Row97 : Type 0
Row97 = FindsGroups (ask (codes "x?(?:(b)*|(a|b)){1,}") []) (codes "baa") 0 (Some ((Some (span 0 3)) ∷ (Some (span 0 1)) ∷ (Some (span 2 3)) ∷ []))

-- rust: captures_at both [n-x]|. abbaa 0
abbrev pub Row98 : Type 0
Row98 = FindsGroups (ask (codes "[n-x]|.") []) (codes "abbaa") 0 (Some ((Some (span 0 1)) ∷ []))

-- rust: captures_at both (?:a??)*+*+{2,}?()\\b bbbb 0
abbrev pub Row99 : Type 0
Row99 = FindsGroups (ask (codes "(?:a??)*+*+{2,}?()\\b") []) (codes "bbbb") 0 (Some ((Some (span 0 0)) ∷ (Some (span 0 0)) ∷ []))

-- rust: captures_at both x?(?:(b)*|(a|b)){1,} baab 0
abbrev pub Row100 : Type 0
Row100 = FindsGroups (ask (codes "x?(?:(b)*|(a|b)){1,}") []) (codes "baab") 0 (Some ((Some (span 0 4)) ∷ (Some (span 3 4)) ∷ (Some (span 2 3)) ∷ []))

-- rust: captures_at both (?:(b)|a(b)){1,} baba 0
abbrev pub Row101 : Type 0
Row101 = FindsGroups (ask (codes "(?:(b)|a(b)){1,}") []) (codes "baba") 0 (Some ((Some (span 0 3)) ∷ (Some (span 0 1)) ∷ (Some (span 2 3)) ∷ []))

-- rust: captures_at both (a|)?{0} aa 0
abbrev pub Row102 : Type 0
Row102 = FindsGroups (ask (codes "(a|)?{0}") []) (codes "aa") 0 (Some ((Some (span 0 0)) ∷ []))

-- rust: captures_at both (ab|(b)){0,2}b baba 0
abbrev pub Row103 : Type 0
Row103 = FindsGroups (ask (codes "(ab|(b)){0,2}b") []) (codes "baba") 0 (Some ((Some (span 0 1)) ∷ None ∷ None ∷ []))

-- rust: captures_at both x?(?:()|()|(a)(b))+?$ aab 0
abbrev pub Row104 : Type 0
Row104 = FindsGroups (ask (codes "x?(?:()|()|(a)(b))+?$") []) (codes "aab") 0 (Some ((Some (span 1 3)) ∷ None ∷ None ∷ (Some (span 1 2)) ∷ (Some (span 2 3)) ∷ []))

-- rust: captures_at both x (  ?i)#\x0Aab ^a|b$ abbb 0
abbrev pub Row105 : Type 0
Row105 = FindsGroups (ask (40 ∷ 32 ∷ 32 ∷ 63 ∷ 105 ∷ 41 ∷ 35 ∷ 10 ∷ 97 ∷ 98 ∷ 32 ∷ 94 ∷ 97 ∷ 124 ∷ 98 ∷ 36 ∷ []) (codes "x")) (codes "abbb") 0 (Some ((Some (span 3 4)) ∷ []))

-- rust: captures_at both x?(?:(a)|(a)?){2,} baaa 0
abbrev pub Row106 : Type 0
Row106 = FindsGroups (ask (codes "x?(?:(a)|(a)?){2,}") []) (codes "baaa") 0 (Some ((Some (span 0 0)) ∷ None ∷ None ∷ []))

-- rust: captures_at both (?:|a)(a|)a bba 0
abbrev pub Row107 : Type 0
Row107 = FindsGroups (ask (codes "(?:|a)(a|)a") []) (codes "bba") 0 (Some ((Some (span 2 3)) ∷ (Some (span 2 2)) ∷ []))

-- rust: captures_at both ()++?{0,2} abab 0
abbrev pub Row108 : Type 0
Row108 = FindsGroups (ask (codes "()++?{0,2}") []) (codes "abab") 0 (Some ((Some (span 0 0)) ∷ (Some (span 0 0)) ∷ []))

-- rust: captures_at both (a|)bb()|a(?:|a)* babb 0
abbrev pub Row109 : Type 0
Row109 = FindsGroups (ask (codes "(a|)bb()|a(?:|a)*") []) (codes "babb") 0 (Some ((Some (span 1 4)) ∷ (Some (span 1 2)) ∷ (Some (span 4 4)) ∷ []))

-- rust: captures_at both (a|)\\b^{0,2}a(?:|a) aba 0
abbrev pub Row110 : Type 0
Row110 = FindsGroups (ask (codes "(a|)\\b^{0,2}a(?:|a)") []) (codes "aba") 0 (Some ((Some (span 0 1)) ∷ (Some (span 0 0)) ∷ []))

-- rust: captures_at both \\b|(?:|a)()$+?a| aaab 0
abbrev pub Row111 : Type 0
Row111 = FindsGroups (ask (codes "\\b|(?:|a)()$+?a|") []) (codes "aaab") 0 (Some ((Some (span 0 0)) ∷ None ∷ []))

-- rust: captures_at both \\b{end-half}|(?:(){1})*?{1,}* AbzBK 0
abbrev pub Row112 : Type 0
Row112 = FindsGroups (ask (codes "\\b{end-half}|(?:(){1})*?{1,}*") []) (codes "AbzBK") 0 (Some ((Some (span 0 0)) ∷ None ∷ []))

-- rust: captures_at both aba 0
abbrev pub Row113 : Type 0
Row113 = FindsGroups (ask [] []) (codes "aba") 0 (Some ((Some (span 0 0)) ∷ []))

-- rust: captures_at both x?(?:(a)|((a)|b)|(a)b|a(b)){1,}b abb 0
abbrev pub Row114 : Type 0
Row114 = FindsGroups (ask (codes "x?(?:(a)|((a)|b)|(a)b|a(b)){1,}b") []) (codes "abb") 0 (Some ((Some (span 0 3)) ∷ (Some (span 0 1)) ∷ (Some (span 1 2)) ∷ None ∷ None ∷ None ∷ []))

-- rust: captures_at both |(?:)a{0,2}(?:|a)??^$ abbb 0
abbrev pub Row115 : Type 0
Row115 = FindsGroups (ask (codes "|(?:)a{0,2}(?:|a)??^$") []) (codes "abbb") 0 (Some ((Some (span 0 0)) ∷ []))

-- rust: captures_at both a?[\\[-\\^][^a]|(?:[b\\Db]?|a^) baba 0
abbrev pub Row116 : Type 0
Row116 = FindsGroups (ask (codes "a?[\\[-\\^][^a]|(?:[b\\Db]?|a^)") []) (codes "baba") 0 (Some ((Some (span 0 1)) ∷ []))

-- rust: captures_at both (?x)b babb 0
abbrev pub Row117 : Type 0
Row117 = FindsGroups (ask (codes "(?x)b") []) (codes "babb") 0 (Some ((Some (span 0 1)) ∷ []))

-- rust: captures_at both \\b?\\b(?:a??) aab 0
abbrev pub Row118 : Type 0
Row118 = FindsGroups (ask (codes "\\b?\\b(?:a??)") []) (codes "aab") 0 (Some ((Some (span 0 0)) ∷ []))

-- rust: captures_at both (?:()|(a)?|(a)(b)|()){2,} abba 0
abbrev pub Row119 : Type 0
Row119 = FindsGroups (ask (codes "(?:()|(a)?|(a)(b)|()){2,}") []) (codes "abba") 0 (Some ((Some (span 0 0)) ∷ (Some (span 0 0)) ∷ None ∷ None ∷ None ∷ None ∷ []))

-- rust: captures_at both b|a+{2,}??^?(?:a??)b baab 0
abbrev pub Row120 : Type 0
Row120 = FindsGroups (ask (codes "b|a+{2,}??^?(?:a??)b") []) (codes "baab") 0 (Some ((Some (span 0 1)) ∷ []))

-- port: captures_at both a*(?x)[a-#c\x0A]](b) bbaa 0
abbrev pub Row121 : Type 0
Row121 = FindsGroups (ask (97 ∷ 42 ∷ 40 ∷ 63 ∷ 120 ∷ 41 ∷ 91 ∷ 97 ∷ 45 ∷ 35 ∷ 99 ∷ 10 ∷ 93 ∷ 93 ∷ 40 ∷ 98 ∷ 41 ∷ []) []) (codes "bbaa") 0 None

-- port: captures_at both a*(?x)[a-#c\x0A]](b) aaba 0
abbrev pub Row122 : Type 0
Row122 = FindsGroups (ask (97 ∷ 42 ∷ 40 ∷ 63 ∷ 120 ∷ 41 ∷ 91 ∷ 97 ∷ 45 ∷ 35 ∷ 99 ∷ 10 ∷ 93 ∷ 93 ∷ 40 ∷ 98 ∷ 41 ∷ []) []) (codes "aaba") 0 None

-- port: captures_at both a*(?x)[a-#c\x0A]](b) baba 0
abbrev pub Row123 : Type 0
Row123 = FindsGroups (ask (97 ∷ 42 ∷ 40 ∷ 63 ∷ 120 ∷ 41 ∷ 91 ∷ 97 ∷ 45 ∷ 35 ∷ 99 ∷ 10 ∷ 93 ∷ 93 ∷ 40 ∷ 98 ∷ 41 ∷ []) []) (codes "baba") 0 None

-- port: captures_at both a*(?x)[a-#c\x0A]](b) ba 0
abbrev pub Row124 : Type 0
Row124 = FindsGroups (ask (97 ∷ 42 ∷ 40 ∷ 63 ∷ 120 ∷ 41 ∷ 91 ∷ 97 ∷ 45 ∷ 35 ∷ 99 ∷ 10 ∷ 93 ∷ 93 ∷ 40 ∷ 98 ∷ 41 ∷ []) []) (codes "ba") 0 None

-- port: captures_at both a*(?x)[a-#c\x0A]](b) aaaa 0
abbrev pub Row125 : Type 0
Row125 = FindsGroups (ask (97 ∷ 42 ∷ 40 ∷ 63 ∷ 120 ∷ 41 ∷ 91 ∷ 97 ∷ 45 ∷ 35 ∷ 99 ∷ 10 ∷ 93 ∷ 93 ∷ 40 ∷ 98 ∷ 41 ∷ []) []) (codes "aaaa") 0 None

-- port: captures_at both a*(?x)[a-#c\x0A]](b) bb 0
abbrev pub Row126 : Type 0
Row126 = FindsGroups (ask (97 ∷ 42 ∷ 40 ∷ 63 ∷ 120 ∷ 41 ∷ 91 ∷ 97 ∷ 45 ∷ 35 ∷ 99 ∷ 10 ∷ 93 ∷ 93 ∷ 40 ∷ 98 ∷ 41 ∷ []) []) (codes "bb") 0 None

-- port: captures_at both a*(?x)[a-#c\x0A]](b) abaa 0
abbrev pub Row127 : Type 0
Row127 = FindsGroups (ask (97 ∷ 42 ∷ 40 ∷ 63 ∷ 120 ∷ 41 ∷ 91 ∷ 97 ∷ 45 ∷ 35 ∷ 99 ∷ 10 ∷ 93 ∷ 93 ∷ 40 ∷ 98 ∷ 41 ∷ []) []) (codes "abaa") 0 None

-- port: captures_at both a*(?x)[a-#c\x0A]](b) aab 0
abbrev pub Row128 : Type 0
Row128 = FindsGroups (ask (97 ∷ 42 ∷ 40 ∷ 63 ∷ 120 ∷ 41 ∷ 91 ∷ 97 ∷ 45 ∷ 35 ∷ 99 ∷ 10 ∷ 93 ∷ 93 ∷ 40 ∷ 98 ∷ 41 ∷ []) []) (codes "aab") 0 None

-- rust: captures_at both R \\B|[\\U0000004D-O\\D]\xEF\xBF\xBF\\b{1,3}\\: \xDF\xBF\xF4\x8F\xBF\xBF\xC2\x80\xEF\xBF\xBF: 11
abbrev pub Row129 : Type 0
Row129 = FindsGroups (parted ((128, 55295) ∷ (57344, 65534) ∷ (65535, 65535) ∷ (65536, 1114111) ∷ []) (ask (92 ∷ 66 ∷ 124 ∷ 91 ∷ 92 ∷ 85 ∷ 48 ∷ 48 ∷ 48 ∷ 48 ∷ 48 ∷ 48 ∷ 52 ∷ 68 ∷ 45 ∷ 79 ∷ 92 ∷ 68 ∷ 93 ∷ 239 ∷ 191 ∷ 191 ∷ 92 ∷ 98 ∷ 123 ∷ 49 ∷ 44 ∷ 51 ∷ 125 ∷ 92 ∷ 58 ∷ []) (codes "R"))) (223 ∷ 191 ∷ 244 ∷ 143 ∷ 191 ∷ 191 ∷ 194 ∷ 128 ∷ 239 ∷ 191 ∷ 191 ∷ 58 ∷ []) 11 (Some ((Some (span 11 11)) ∷ []))

-- rust: extract both a ba
abbrev pub Row130 : Type 0
Row130 = Extracts (ask (codes "a") []) (codes "ba") (Some ((codes "a") ∷ []))

-- rust: extract both (a) b
abbrev pub Row131 : Type 0
Row131 = Extracts (ask (codes "(a)") []) (codes "b") None

-- rust: extract both ()
abbrev pub Row132 : Type 0
Row132 = Extracts (ask (codes "()") []) [] (Some ([] ∷ [] ∷ []))

-- rust: extract both (\\d{4})-(\\d{2}) on 2010-03
abbrev pub Row133 : Type 0
Row133 = Extracts (ask (codes "(\\d{4})-(\\d{2})") []) (codes "on 2010-03") (Some ((codes "2010-03") ∷ (codes "2010") ∷ (codes "03") ∷ []))

-- rust: extract both (?<year>\\d{4})-(?<month>\\d{2}) on 2010-03, 2011-04
abbrev pub Row134 : Type 0
Row134 = Extracts (ask (codes "(?<year>\\d{4})-(?<month>\\d{2})") []) (codes "on 2010-03, 2011-04") (Some ((codes "2010-03") ∷ (codes "2010") ∷ (codes "03") ∷ []))

-- rust: extract both (a)((b)c) xabcabc
abbrev pub Row135 : Type 0
Row135 = Extracts (ask (codes "(a)((b)c)") []) (codes "xabcabc") (Some ((codes "abc") ∷ (codes "a") ∷ (codes "bc") ∷ (codes "b") ∷ []))

-- rust: extract both (a)|(b) xb
abbrev pub Row136 : Type 0
Row136 = Extracts (ask (codes "(a)|(b)") []) (codes "xb") (Some ((codes "b") ∷ (codes "b") ∷ []))

-- rust: extract both (?:(a)|(b))+ ab
abbrev pub Row137 : Type 0
Row137 = Extracts (ask (codes "(?:(a)|(b))+") []) (codes "ab") (Some ((codes "ab") ∷ (codes "a") ∷ []))

-- rust: extract both (?:(a)|(b))(c) bc
abbrev pub Row138 : Type 0
Row138 = Extracts (ask (codes "(?:(a)|(b))(c)") []) (codes "bc") (Some ((codes "bc") ∷ (codes "b") ∷ (codes "c") ∷ []))

-- rust: extract both ((a)|(b)) b
abbrev pub Row139 : Type 0
Row139 = Extracts (ask (codes "((a)|(b))") []) (codes "b") (Some ((codes "b") ∷ (codes "b") ∷ (codes "b") ∷ []))

-- rust: extract bytes (.)(.) \xFF\xC3\xA9
abbrev pub Row140 : Type 0
Row140 = Extracts (ask (codes "(.)(.)") []) (255 ∷ 195 ∷ 169 ∷ []) (Some ((255 ∷ 195 ∷ 169 ∷ []) ∷ (255 ∷ []) ∷ (195 ∷ 169 ∷ []) ∷ []))

-- rust: extract bytes \xE2\x98\x83(.) \xE2\x98\x83\xE2\x98
abbrev pub Row141 : Type 0
Row141 = Extracts (parted ((128, 9730) ∷ (9731, 9731) ∷ (9732, 55295) ∷ (57344, 1114111) ∷ []) (ask (226 ∷ 152 ∷ 131 ∷ 40 ∷ 46 ∷ 41 ∷ []) [])) (226 ∷ 152 ∷ 131 ∷ 226 ∷ 152 ∷ []) (Some ((226 ∷ 152 ∷ 131 ∷ 226 ∷ 152 ∷ []) ∷ (226 ∷ 152 ∷ []) ∷ []))

-- rust: extract both \xC3\xA4 b\xC3\xA4
abbrev pub Row142 : Type 0
Row142 = Extracts (parted ((128, 227) ∷ (228, 228) ∷ (229, 55295) ∷ (57344, 1114111) ∷ []) (ask (195 ∷ 164 ∷ []) [])) (98 ∷ 195 ∷ 164 ∷ []) (Some ((195 ∷ 164 ∷ []) ∷ []))

-- rust: extract both (\xC3\xA4) b
abbrev pub Row143 : Type 0
Row143 = Extracts (parted ((128, 227) ∷ (228, 228) ∷ (229, 55295) ∷ (57344, 1114111) ∷ []) (ask (40 ∷ 195 ∷ 164 ∷ 41 ∷ []) [])) (codes "b") None

-- rust: extract both (\xC3\xA4)((\xE2\x98\x83)c) x\xC3\xA4\xE2\x98\x83c\xC3\xA4\xE2\x98\x83c
abbrev pub Row144 : Type 0
Row144 = Extracts (parted ((128, 227) ∷ (228, 228) ∷ (229, 9730) ∷ (9731, 9731) ∷ (9732, 55295) ∷ (57344, 1114111) ∷ []) (ask (40 ∷ 195 ∷ 164 ∷ 41 ∷ 40 ∷ 40 ∷ 226 ∷ 152 ∷ 131 ∷ 41 ∷ 99 ∷ 41 ∷ []) [])) (120 ∷ 195 ∷ 164 ∷ 226 ∷ 152 ∷ 131 ∷ 99 ∷ 195 ∷ 164 ∷ 226 ∷ 152 ∷ 131 ∷ 99 ∷ []) (Some ((195 ∷ 164 ∷ 226 ∷ 152 ∷ 131 ∷ 99 ∷ []) ∷ (195 ∷ 164 ∷ []) ∷ (226 ∷ 152 ∷ 131 ∷ 99 ∷ []) ∷ (226 ∷ 152 ∷ 131 ∷ []) ∷ []))

-- rust: extract both (\xC3\xA4)|(\xE2\x98\x83) x\xE2\x98\x83
abbrev pub Row145 : Type 0
Row145 = Extracts (parted ((128, 227) ∷ (228, 228) ∷ (229, 9730) ∷ (9731, 9731) ∷ (9732, 55295) ∷ (57344, 1114111) ∷ []) (ask (40 ∷ 195 ∷ 164 ∷ 41 ∷ 124 ∷ 40 ∷ 226 ∷ 152 ∷ 131 ∷ 41 ∷ []) [])) (120 ∷ 226 ∷ 152 ∷ 131 ∷ []) (Some ((226 ∷ 152 ∷ 131 ∷ []) ∷ (226 ∷ 152 ∷ 131 ∷ []) ∷ []))

-- rust: extract both (?:(\xC3\xA4)|(\xE2\x98\x83))+ \xC3\xA4\xE2\x98\x83
abbrev pub Row146 : Type 0
Row146 = Extracts (parted ((128, 227) ∷ (228, 228) ∷ (229, 9730) ∷ (9731, 9731) ∷ (9732, 55295) ∷ (57344, 1114111) ∷ []) (ask (40 ∷ 63 ∷ 58 ∷ 40 ∷ 195 ∷ 164 ∷ 41 ∷ 124 ∷ 40 ∷ 226 ∷ 152 ∷ 131 ∷ 41 ∷ 41 ∷ 43 ∷ []) [])) (195 ∷ 164 ∷ 226 ∷ 152 ∷ 131 ∷ []) (Some ((195 ∷ 164 ∷ 226 ∷ 152 ∷ 131 ∷ []) ∷ (195 ∷ 164 ∷ []) ∷ []))

-- rust: extract both (.)(.) \xF0\x9D\x84\x9E\xC3\xA9
abbrev pub Row147 : Type 0
Row147 = Extracts (ask (codes "(.)(.)") []) (240 ∷ 157 ∷ 132 ∷ 158 ∷ 195 ∷ 169 ∷ []) (Some ((240 ∷ 157 ∷ 132 ∷ 158 ∷ 195 ∷ 169 ∷ []) ∷ (240 ∷ 157 ∷ 132 ∷ 158 ∷ []) ∷ (195 ∷ 169 ∷ []) ∷ []))

-- all of these
abbrev pub Captures : Type 0
Captures = Row1 × Row2 × Row3 × Row4 × Row5 × Row6 × Row7 × Row8 × Row9 × Row10 × Row11 × Row12 × Row13 × Row14 × Row15 × Row16 × Row17 × Row18 × Row19 × Row20 × Row21 × Row22 × Row23 × Row24 × Row25 × Row26 × Row27 × Row28 × Row29 × Row30 × Row31 × Row32 × Row33 × Row34 × Row35 × Row36 × Row37 × Row38 × Row39 × Row40 × Row41 × Row42 × Row43 × Row44 × Row45 × Row46 × Row47 × Row48 × Row49 × Row50 × Row51 × Row52 × Row53 × Row54 × Row55 × Row56 × Row57 × Row58 × Row59 × Row60 × Row61 × Row62 × Row63 × Row64 × Row65 × Row66 × Row67 × Row68 × Row69 × Row70 × Row71 × Row72 × Row73 × Row74 × Row75 × Row76 × Row77 × Row78 × Row79 × Row80 × Row81 × Row82 × Row83 × Row84 × Row85 × Row86 × Row87 × Row88 × Row89 × Row90 × Row91 × Row92 × Row93 × Row94 × Row95 × Row96 × Row97 × Row98 × Row99 × Row100 × Row101 × Row102 × Row103 × Row104 × Row105 × Row106 × Row107 × Row108 × Row109 × Row110 × Row111 × Row112 × Row113 × Row114 × Row115 × Row116 × Row117 × Row118 × Row119 × Row120 × Row121 × Row122 × Row123 × Row124 × Row125 × Row126 × Row127 × Row128 × Row129 × Row130 × Row131 × Row132 × Row133 × Row134 × Row135 × Row136 × Row137 × Row138 × Row139 × Row140 × Row141 × Row142 × Row143 × Row144 × Row145 × Row146 × Row147
