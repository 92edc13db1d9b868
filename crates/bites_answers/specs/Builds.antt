-- What rows say of groups, names, sizes and programs of patterns, and escaped texts. The program `generate` writes this module.
use Rattle.std.specs.Prelude.{[], ◌∷◌, codes, Some, None}
use Rattle.bites_answers.specs.Evaluated.{ask, nested, keeping, parted, HasGroups, HasProgram, HasSize, IsEscaped}

-- rust: build both (?P<year>a)b*|(c)$[^\\s\\S]
abbrev pub Row1 : Type 0
Row1 = HasGroups (ask (codes "(?P<year>a)b*|(c)$[^\\s\\S]") []) 3 (Some 2) (None ∷ (Some (codes "year")) ∷ None ∷ [])

-- rust: build both a
abbrev pub Row2 : Type 0
Row2 = HasGroups (ask (codes "a") []) 1 (Some 1) (None ∷ [])

-- rust: build both (a)(b)
abbrev pub Row3 : Type 0
Row3 = HasGroups (ask (codes "(a)(b)") []) 3 (Some 3) (None ∷ None ∷ None ∷ [])

-- rust: build both (a)|(b)
abbrev pub Row4 : Type 0
Row4 = HasGroups (ask (codes "(a)|(b)") []) 3 (Some 2) (None ∷ None ∷ None ∷ [])

-- rust: build both (a)|b
abbrev pub Row5 : Type 0
Row5 = HasGroups (ask (codes "(a)|b") []) 2 None (None ∷ None ∷ [])

-- rust: build both (a)?
abbrev pub Row6 : Type 0
Row6 = HasGroups (ask (codes "(a)?") []) 2 None (None ∷ None ∷ [])

-- rust: build both ((a)?)
abbrev pub Row7 : Type 0
Row7 = HasGroups (ask (codes "((a)?)") []) 3 None (None ∷ None ∷ None ∷ [])

-- rust: build both (a){0,2}
abbrev pub Row8 : Type 0
Row8 = HasGroups (ask (codes "(a){0,2}") []) 2 None (None ∷ None ∷ [])

-- rust: build both (a){2}
abbrev pub Row9 : Type 0
Row9 = HasGroups (ask (codes "(a){2}") []) 2 (Some 2) (None ∷ None ∷ [])

-- rust: build both ((?i)a)a
abbrev pub Row10 : Type 0
Row10 = HasGroups (ask (codes "((?i)a)a") []) 2 (Some 2) (None ∷ None ∷ [])

-- rust: build both (a){0}
abbrev pub Row11 : Type 0
Row11 = HasGroups (ask (codes "(a){0}") []) 1 (Some 1) (None ∷ [])

-- rust: build both (a){0}(a)
abbrev pub Row12 : Type 0
Row12 = HasGroups (ask (codes "(a){0}(a)") []) 3 (Some 2) (None ∷ None ∷ None ∷ [])

-- rust: build both (?:(a)|b){0}(c)
abbrev pub Row13 : Type 0
Row13 = HasGroups (ask (codes "(?:(a)|b){0}(c)") []) 3 (Some 2) (None ∷ None ∷ None ∷ [])

-- rust: build both (?<x>a){0}(b)
abbrev pub Row14 : Type 0
Row14 = HasGroups (ask (codes "(?<x>a){0}(b)") []) 3 (Some 2) (None ∷ None ∷ None ∷ [])

-- rust: build both (?P<outer>(?<inner>a)(b))|(?<_last>c)
abbrev pub Row15 : Type 0
Row15 = HasGroups (ask (codes "(?P<outer>(?<inner>a)(b))|(?<_last>c)") []) 5 None (None ∷ (Some (codes "outer")) ∷ (Some (codes "inner")) ∷ None ∷ (Some (codes "_last")) ∷ [])

-- rust: build both (?<x>a)(?<y>b){0}
abbrev pub Row16 : Type 0
Row16 = HasGroups (ask (codes "(?<x>a)(?<y>b){0}") []) 2 (Some 2) (None ∷ (Some (codes "x")) ∷ [])

-- rust: build both (?i)a(?<n>\xE2\x98\x83)?$
abbrev pub Row17 : Type 0
Row17 = HasGroups (parted ((128, 9730) ∷ (9731, 9731) ∷ (9732, 55295) ∷ (57344, 1114111) ∷ []) (ask (40 ∷ 63 ∷ 105 ∷ 41 ∷ 97 ∷ 40 ∷ 63 ∷ 60 ∷ 110 ∷ 62 ∷ 226 ∷ 152 ∷ 131 ∷ 41 ∷ 63 ∷ 36 ∷ []) [])) 2 None (None ∷ (Some (codes "n")) ∷ [])

-- rust: build both (?P<y>a){0}
abbrev pub Row18 : Type 0
Row18 = HasGroups (ask (codes "(?P<y>a){0}") []) 1 (Some 1) (None ∷ [])

-- hand: build both K (?:(a){0})
abbrev pub Row19 : Type 0
Row19 = HasGroups (keeping (ask (codes "(?:(a){0})") [])) 2 (Some 1) (None ∷ None ∷ [])

-- hand: build both K (a)(a){0}
abbrev pub Row20 : Type 0
Row20 = HasGroups (keeping (ask (codes "(a)(a){0}") [])) 3 (Some 2) (None ∷ None ∷ None ∷ [])

-- hand: build both K (?P<y>a){0}
abbrev pub Row21 : Type 0
Row21 = HasGroups (keeping (ask (codes "(?P<y>a){0}") [])) 2 (Some 1) (None ∷ (Some (codes "y")) ∷ [])

-- hand: build both K (?<x>a){0}(b)
abbrev pub Row22 : Type 0
Row22 = HasGroups (keeping (ask (codes "(?<x>a){0}(b)") [])) 3 (Some 2) (None ∷ (Some (codes "x")) ∷ None ∷ [])

-- hand: build both K ((a)){0}
abbrev pub Row23 : Type 0
Row23 = HasGroups (keeping (ask (codes "((a)){0}") [])) 3 (Some 1) (None ∷ None ∷ None ∷ [])

-- hand: build both K (a)
abbrev pub Row24 : Type 0
Row24 = HasGroups (keeping (ask (codes "(a)") [])) 2 (Some 2) (None ∷ None ∷ [])

-- hand: build both K
abbrev pub Row25 : Type 0
Row25 = HasGroups (keeping (ask [] [])) 1 (Some 1) (None ∷ [])

-- hand: build both (?:(a){0})
abbrev pub Row26 : Type 0
Row26 = HasGroups (ask (codes "(?:(a){0})") []) 1 (Some 1) (None ∷ [])

-- hand: build both (a)
abbrev pub Row27 : Type 0
Row27 = HasGroups (ask (codes "(a)") []) 2 (Some 2) (None ∷ None ∷ [])

-- rust: build both (?x)[- - -a]
abbrev pub Row28 : Type 0
Row28 = HasGroups (ask (codes "(?x)[- - -a]") []) 1 (Some 1) (None ∷ [])

-- rust: build both (?x:a )b
abbrev pub Row29 : Type 0
Row29 = HasGroups (ask (codes "(?x:a )b ") []) 1 (Some 1) (None ∷ [])

-- rust: build both b (?x:b )b
abbrev pub Row30 : Type 0
Row30 = HasGroups (ask (codes "b (?x:b )b ") []) 1 (Some 1) (None ∷ [])

-- rust: build both 0 (?x)\\b{ start }
abbrev pub Row31 : Type 0
Row31 = HasGroups (nested 0 (ask (codes "(?x)\\b{ start }") [])) 1 (Some 1) (None ∷ [])

-- rust: build both m 0 \\w
abbrev pub Row32 : Type 0
Row32 = HasGroups (nested 0 (ask (codes "\\w") (codes "m"))) 1 (Some 1) (None ∷ [])

-- rust: build both 1 a{0,0}b
abbrev pub Row33 : Type 0
Row33 = HasGroups (nested 1 (ask (codes "a{0,0}b") [])) 1 (Some 1) (None ∷ [])

-- rust: build both 0 a{1}
abbrev pub Row34 : Type 0
Row34 = HasGroups (nested 0 (ask (codes "a{1}") [])) 1 (Some 1) (None ∷ [])

-- rust: build both [\\W]
abbrev pub Row35 : Type 0
Row35 = HasGroups (ask (codes "[\\W]") []) 1 (Some 1) (None ∷ [])

-- rust: build both (?:a|b){0}c
abbrev pub Row36 : Type 0
Row36 = HasGroups (ask (codes "(?:a|b){0}c") []) 1 (Some 1) (None ∷ [])

-- rust: build both \\U00000062
abbrev pub Row37 : Type 0
Row37 = HasGroups (ask (codes "\\U00000062") []) 1 (Some 1) (None ∷ [])

-- rust: build both (?x)[\\[.]
abbrev pub Row38 : Type 0
Row38 = HasGroups (ask (codes "(?x)[\\[.]") []) 1 (Some 1) (None ∷ [])

-- rust: build both mU (?x)\\d\xE2\x80\x83+{2,4}[\\S\xE2\x98\x83]??(\xE2\x98\x83|\xF0\x9D\x92\xB3){2,3}||
abbrev pub Row39 : Type 0
Row39 = HasGroups (parted ((128, 8194) ∷ (8195, 8195) ∷ (8196, 9730) ∷ (9731, 9731) ∷ (9732, 55295) ∷ (57344, 119986) ∷ (119987, 119987) ∷ (119988, 1114111) ∷ []) (ask (40 ∷ 63 ∷ 120 ∷ 41 ∷ 92 ∷ 100 ∷ 226 ∷ 128 ∷ 131 ∷ 43 ∷ 123 ∷ 50 ∷ 44 ∷ 52 ∷ 125 ∷ 91 ∷ 92 ∷ 83 ∷ 226 ∷ 152 ∷ 131 ∷ 93 ∷ 63 ∷ 63 ∷ 40 ∷ 226 ∷ 152 ∷ 131 ∷ 124 ∷ 240 ∷ 157 ∷ 146 ∷ 179 ∷ 41 ∷ 123 ∷ 50 ∷ 44 ∷ 51 ∷ 125 ∷ 124 ∷ 124 ∷ []) (codes "mU"))) 2 None (None ∷ None ∷ [])

-- rust: build both
abbrev pub Row40 : Type 0
Row40 = HasGroups (ask [] []) 1 (Some 1) (None ∷ [])

-- rust: build both (?:a|b)*
abbrev pub Row41 : Type 0
Row41 = HasGroups (ask (codes "(?:a|b)*") []) 1 (Some 1) (None ∷ [])

-- rust: build both ((a)|(b))
abbrev pub Row42 : Type 0
Row42 = HasGroups (ask (codes "((a)|(b))") []) 4 (Some 3) (None ∷ None ∷ None ∷ None ∷ [])

-- rust: build both (?:(a)|(b))+
abbrev pub Row43 : Type 0
Row43 = HasGroups (ask (codes "(?:(a)|(b))+") []) 3 (Some 2) (None ∷ None ∷ None ∷ [])

-- rust: build both (?:(a)|(b)|c)
abbrev pub Row44 : Type 0
Row44 = HasGroups (ask (codes "(?:(a)|(b)|c)") []) 3 None (None ∷ None ∷ None ∷ [])

-- rust: build both (a)(b)?
abbrev pub Row45 : Type 0
Row45 = HasGroups (ask (codes "(a)(b)?") []) 3 None (None ∷ None ∷ None ∷ [])

-- rust: build both (a*)*
abbrev pub Row46 : Type 0
Row46 = HasGroups (ask (codes "(a*)*") []) 2 None (None ∷ None ∷ [])

-- rust: build both (a)+
abbrev pub Row47 : Type 0
Row47 = HasGroups (ask (codes "(a)+") []) 2 (Some 2) (None ∷ None ∷ [])

-- rust: build both (a){1,}
abbrev pub Row48 : Type 0
Row48 = HasGroups (ask (codes "(a){1,}") []) 2 (Some 2) (None ∷ None ∷ [])

-- rust: build both (?x)( ?P<nm> b )
abbrev pub Row49 : Type 0
Row49 = HasGroups (ask (codes "(?x)( ?P<nm> b )") []) 2 (Some 2) (None ∷ (Some (codes "nm")) ∷ [])

-- rust: build both ((a)(b)){0,0}
abbrev pub Row50 : Type 0
Row50 = HasGroups (ask (codes "((a)(b)){0,0}") []) 1 (Some 1) (None ∷ [])

-- rust: build both (a)(a){0}
abbrev pub Row51 : Type 0
Row51 = HasGroups (ask (codes "(a)(a){0}") []) 2 (Some 2) (None ∷ None ∷ [])

-- rust: build both (a)|b(c){0}
abbrev pub Row52 : Type 0
Row52 = HasGroups (ask (codes "(a)|b(c){0}") []) 2 None (None ∷ None ∷ [])

-- rust: build both (a)(?<n>b)
abbrev pub Row53 : Type 0
Row53 = HasGroups (ask (codes "(a)(?<n>b)") []) 3 (Some 3) (None ∷ None ∷ (Some (codes "n")) ∷ [])

-- rust: build both (?<\xE5\x90\x8D\xE5\xAD\x97>z)(?<a.b[1]>z)(?<a\xC2\xBE>z)
abbrev pub Row54 : Type 0
Row54 = HasGroups (parted ((128, 189) ∷ (190, 190) ∷ (191, 21516) ∷ (21517, 21517) ∷ (21518, 23382) ∷ (23383, 23383) ∷ (23384, 55295) ∷ (57344, 1114111) ∷ []) (ask (40 ∷ 63 ∷ 60 ∷ 229 ∷ 144 ∷ 141 ∷ 229 ∷ 173 ∷ 151 ∷ 62 ∷ 122 ∷ 41 ∷ 40 ∷ 63 ∷ 60 ∷ 97 ∷ 46 ∷ 98 ∷ 91 ∷ 49 ∷ 93 ∷ 62 ∷ 122 ∷ 41 ∷ 40 ∷ 63 ∷ 60 ∷ 97 ∷ 194 ∷ 190 ∷ 62 ∷ 122 ∷ 41 ∷ []) [])) 4 (Some 4) (None ∷ (Some (229 ∷ 144 ∷ 141 ∷ 229 ∷ 173 ∷ 151 ∷ [])) ∷ (Some (codes "a.b[1]")) ∷ (Some (97 ∷ 194 ∷ 190 ∷ [])) ∷ [])

-- rust: build both (?<a>x)(?<b>y)
abbrev pub Row55 : Type 0
Row55 = HasGroups (ask (codes "(?<a>x)(?<b>y)") []) 3 (Some 3) (None ∷ (Some (codes "a")) ∷ (Some (codes "b")) ∷ [])

-- rust: build both ((a)){0}
abbrev pub Row56 : Type 0
Row56 = HasGroups (ask (codes "((a)){0}") []) 1 (Some 1) (None ∷ [])

-- rust: build both (?P<y>a)
abbrev pub Row57 : Type 0
Row57 = HasGroups (ask (codes "(?P<y>a)") []) 2 (Some 2) (None ∷ (Some (codes "y")) ∷ [])

-- rust: least_size both a|b
abbrev pub Row58 : Type 0
Row58 = HasSize (ask (codes "a|b") []) 248

-- rust: least_size both a{2,3}
abbrev pub Row59 : Type 0
Row59 = HasSize (ask (codes "a{2,3}") []) 280

-- rust: least_size both a{2,}
abbrev pub Row60 : Type 0
Row60 = HasSize (ask (codes "a{2,}") []) 216

-- rust: least_size both (?:a?)*
abbrev pub Row61 : Type 0
Row61 = HasSize (ask (codes "(?:a?)*") []) 328

-- port: least_size both [\\u{D7FF}\\u{E000}]
abbrev pub Row62 : Type 0
Row62 = HasSize (parted ((128, 55294) ∷ (55295, 55295) ∷ (57344, 57344) ∷ (57345, 1114111) ∷ []) (ask (codes "[\\u{D7FF}\\u{E000}]") [])) 152

-- port: least_size both [^\\u{D7FF}\\u{E000}]
abbrev pub Row63 : Type 0
Row63 = HasSize (parted ((128, 55294) ∷ (55295, 55295) ∷ (57344, 57344) ∷ (57345, 1114111) ∷ []) (ask (codes "[^\\u{D7FF}\\u{E000}]") [])) 160

-- rust: least_size both (a)
abbrev pub Row64 : Type 0
Row64 = HasSize (ask (codes "(a)") []) 224

-- rust: least_size both (?<x>a){0}(b)
abbrev pub Row65 : Type 0
Row65 = HasSize (ask (codes "(?<x>a){0}(b)") []) 272

-- rust: least_size both (?P<y>a){0}
abbrev pub Row66 : Type 0
Row66 = HasSize (ask (codes "(?P<y>a){0}") []) 144

-- rust: least_size both \\b
abbrev pub Row67 : Type 0
Row67 = HasSize (ask (codes "\\b") []) 144

-- rust: least_size both [0-9]{2}
abbrev pub Row68 : Type 0
Row68 = HasSize (ask (codes "[0-9]{2}") []) 192

-- hand: least_size both K (a)(a){0}
abbrev pub Row69 : Type 0
Row69 = HasSize (keeping (ask (codes "(a)(a){0}") [])) 272

-- hand: least_size both K (?P<y>a){0}
abbrev pub Row70 : Type 0
Row70 = HasSize (keeping (ask (codes "(?P<y>a){0}") [])) 165

-- hand: least_size both K (?<x>a){0}(b)
abbrev pub Row71 : Type 0
Row71 = HasSize (keeping (ask (codes "(?<x>a){0}(b)") [])) 277

-- hand: least_size both K ((a)){0}
abbrev pub Row72 : Type 0
Row72 = HasSize (keeping (ask (codes "((a)){0}") [])) 176

-- hand: least_size both ((a)){0}
abbrev pub Row73 : Type 0
Row73 = HasSize (ask (codes "((a)){0}") []) 144

-- hand: least_size both K (a)
abbrev pub Row74 : Type 0
Row74 = HasSize (keeping (ask (codes "(a)") [])) 224

-- hand: least_size both K
abbrev pub Row75 : Type 0
Row75 = HasSize (keeping (ask [] [])) 144

-- rust: least_size both ((?i)a)a
abbrev pub Row76 : Type 0
Row76 = HasSize (ask (codes "((?i)a)a") []) 272

-- rust: least_size both U (?x)(?i:a.(?-m:a)|)\x09
abbrev pub Row77 : Type 0
Row77 = HasSize (ask (40 ∷ 63 ∷ 120 ∷ 41 ∷ 40 ∷ 63 ∷ 105 ∷ 58 ∷ 97 ∷ 46 ∷ 40 ∷ 63 ∷ 45 ∷ 109 ∷ 58 ∷ 97 ∷ 41 ∷ 124 ∷ 41 ∷ 9 ∷ []) (codes "U")) 360

-- port: least_size both [\\u{D7FE}-\\u{D7FF}\\u{E000}-\\u{E001}]
abbrev pub Row78 : Type 0
Row78 = HasSize (parted ((128, 55293) ∷ (55294, 55294) ∷ (55295, 55295) ∷ (57344, 57344) ∷ (57345, 57345) ∷ (57346, 1114111) ∷ []) (ask (codes "[\\u{D7FE}-\\u{D7FF}\\u{E000}-\\u{E001}]") [])) 152

-- rust: least_size both x a*?\x0A?
abbrev pub Row79 : Type 0
Row79 = HasSize (ask (97 ∷ 42 ∷ 63 ∷ 10 ∷ 63 ∷ []) (codes "x")) 256

-- rust: least_size both (?x)\\u 0 0 6 1
abbrev pub Row80 : Type 0
Row80 = HasSize (ask (codes "(?x)\\u 0 0 6 1") []) 144

-- port: least_size both (?x)[a-#-\x0Ac]
abbrev pub Row81 : Type 0
Row81 = HasSize (ask (40 ∷ 63 ∷ 120 ∷ 41 ∷ 91 ∷ 97 ∷ 45 ∷ 35 ∷ 45 ∷ 10 ∷ 99 ∷ 93 ∷ []) []) 152

-- rust: least_size both []\\[b]
abbrev pub Row82 : Type 0
Row82 = HasSize (ask (codes "[]\\[b]") []) 168

-- rust: least_size both (?x) (_[^\\s\\S])
abbrev pub Row83 : Type 0
Row83 = HasSize (ask (codes "(?x) (_[^\\s\\S])") []) 256

-- rust: least_size both
abbrev pub Row84 : Type 0
Row84 = HasSize (ask [] []) 144

-- rust: least_size both a*
abbrev pub Row85 : Type 0
Row85 = HasSize (ask (codes "a*") []) 184

-- rust: least_size both a{0,2}
abbrev pub Row86 : Type 0
Row86 = HasSize (ask (codes "a{0,2}") []) 320

-- rust: least_size both \\d{2}
abbrev pub Row87 : Type 0
Row87 = HasSize (ask (codes "\\d{2}") []) 192

-- rust: least_size both a{1000}
abbrev pub Row88 : Type 0
Row88 = HasSize (ask (codes "a{1000}") []) 32112

-- rust: least_size both (?P<y>a)
abbrev pub Row89 : Type 0
Row89 = HasSize (ask (codes "(?P<y>a)") []) 229

-- rust: least_size both (a)(a){0}
abbrev pub Row90 : Type 0
Row90 = HasSize (ask (codes "(a)(a){0}") []) 256

-- rust: least_size both a
abbrev pub Row91 : Type 0
Row91 = HasSize (ask (codes "a") []) 144

-- rust: least_size both [^\\s\\S]
abbrev pub Row92 : Type 0
Row92 = HasSize (ask (codes "[^\\s\\S]") []) 144

-- hand: program bytes (?P<y>a)
abbrev pub Row93 : Type 0
Row93 = HasProgram (ask (codes "(?P<y>a)") []) 6 4 5

-- hand: program bytes a
abbrev pub Row94 : Type 0
Row94 = HasProgram (ask (codes "a") []) 4 2 3

-- hand: program bytes b
abbrev pub Row95 : Type 0
Row95 = HasProgram (ask (codes "b") []) 4 2 3

-- hand: program bytes ab
abbrev pub Row96 : Type 0
Row96 = HasProgram (ask (codes "ab") []) 5 2 4

-- rust: escape both
abbrev pub Row97 : Type 0
Row97 = IsEscaped [] []

-- rust: escape both a.b-c
abbrev pub Row98 : Type 0
Row98 = IsEscaped (codes "a.b-c") (codes "a\\.b\\-c")

-- rust: escape both x&&y~
abbrev pub Row99 : Type 0
Row99 = IsEscaped (codes "x&&y~") (codes "x\\&\\&y\\~")

-- rust: escape both \\.+*?()|[]{}^$#&-~
abbrev pub Row100 : Type 0
Row100 = IsEscaped (codes "\\.+*?()|[]{}^$#&-~") (codes "\\\\\\.\\+\\*\\?\\(\\)\\|\\[\\]\\{\\}\\^\\$\\#\\&\\-\\~")

-- rust: escape both a<>/:\xC3\xA9\xEF\xBF\xBD \x0A0_
abbrev pub Row101 : Type 0
Row101 = IsEscaped (97 ∷ 60 ∷ 62 ∷ 47 ∷ 58 ∷ 195 ∷ 169 ∷ 239 ∷ 191 ∷ 189 ∷ 32 ∷ 10 ∷ 48 ∷ 95 ∷ []) (97 ∷ 60 ∷ 62 ∷ 47 ∷ 58 ∷ 195 ∷ 169 ∷ 239 ∷ 191 ∷ 189 ∷ 32 ∷ 10 ∷ 48 ∷ 95 ∷ [])

-- all of these
abbrev pub Builds : Type 0
Builds = Row1 × Row2 × Row3 × Row4 × Row5 × Row6 × Row7 × Row8 × Row9 × Row10 × Row11 × Row12 × Row13 × Row14 × Row15 × Row16 × Row17 × Row18 × Row19 × Row20 × Row21 × Row22 × Row23 × Row24 × Row25 × Row26 × Row27 × Row28 × Row29 × Row30 × Row31 × Row32 × Row33 × Row34 × Row35 × Row36 × Row37 × Row38 × Row39 × Row40 × Row41 × Row42 × Row43 × Row44 × Row45 × Row46 × Row47 × Row48 × Row49 × Row50 × Row51 × Row52 × Row53 × Row54 × Row55 × Row56 × Row57 × Row58 × Row59 × Row60 × Row61 × Row62 × Row63 × Row64 × Row65 × Row66 × Row67 × Row68 × Row69 × Row70 × Row71 × Row72 × Row73 × Row74 × Row75 × Row76 × Row77 × Row78 × Row79 × Row80 × Row81 × Row82 × Row83 × Row84 × Row85 × Row86 × Row87 × Row88 × Row89 × Row90 × Row91 × Row92 × Row93 × Row94 × Row95 × Row96 × Row97 × Row98 × Row99 × Row100 × Row101
