-- What rows say of the trees of patterns. The program `generate` writes this module.
use Rattle.std.specs.Prelude.{true, false, [], ◌∷◌, codes, Some, None}
use Rattle.bites_spec.specs.Look.{Look}
use Rattle.bites_spec.specs.Tree.{empty, char, class, look, repetition, group, sequence, alternation, trees_of}
use Rattle.bites_answers.specs.Evaluated.{ask, parted, IsRead}

-- hand: tree bytes a
abbrev pub Row1 : Type 0
Row1 = IsRead (ask (codes "a") []) (char 97)

-- hand: tree bytes \xE2\x98\x83
abbrev pub Row2 : Type 0
Row2 = IsRead (parted ((128, 9730) ∷ (9731, 9731) ∷ (9732, 55295) ∷ (57344, 1114111) ∷ []) (ask (226 ∷ 152 ∷ 131 ∷ []) [])) (char 9731)

-- hand: tree bytes }
abbrev pub Row3 : Type 0
Row3 = IsRead (ask (codes "}") []) (char 125)

-- hand: tree bytes ]
abbrev pub Row4 : Type 0
Row4 = IsRead (ask (codes "]") []) (char 93)

-- hand: tree bytes \\a
abbrev pub Row5 : Type 0
Row5 = IsRead (ask (codes "\\a") []) (char 7)

-- hand: tree bytes \\f
abbrev pub Row6 : Type 0
Row6 = IsRead (ask (codes "\\f") []) (char 12)

-- hand: tree bytes \\n
abbrev pub Row7 : Type 0
Row7 = IsRead (ask (codes "\\n") []) (char 10)

-- hand: tree bytes \\v
abbrev pub Row8 : Type 0
Row8 = IsRead (ask (codes "\\v") []) (char 11)

-- hand: tree bytes \\\\
abbrev pub Row9 : Type 0
Row9 = IsRead (ask (codes "\\\\") []) (char 92)

-- hand: tree bytes \\
abbrev pub Row10 : Type 0
Row10 = IsRead (ask (codes "\\ ") []) (char 32)

-- hand: tree bytes \\\x7F
abbrev pub Row11 : Type 0
Row11 = IsRead (ask (92 ∷ 127 ∷ []) []) (char 127)

-- hand: tree bytes \\x{41}
abbrev pub Row12 : Type 0
Row12 = IsRead (ask (codes "\\x{41}") []) (char 65)

-- hand: tree bytes \\x{0}
abbrev pub Row13 : Type 0
Row13 = IsRead (ask (codes "\\x{0}") []) (char 0)

-- hand: tree bytes \\u{2603}
abbrev pub Row14 : Type 0
Row14 = IsRead (parted ((128, 9730) ∷ (9731, 9731) ∷ (9732, 55295) ∷ (57344, 1114111) ∷ []) (ask (codes "\\u{2603}") [])) (char 9731)

-- hand: tree bytes \\U0001f600
abbrev pub Row15 : Type 0
Row15 = IsRead (parted ((128, 55295) ∷ (57344, 128511) ∷ (128512, 128512) ∷ (128513, 1114111) ∷ []) (ask (codes "\\U0001f600") [])) (char 128512)

-- hand: tree bytes (?x)\\x 4 1
abbrev pub Row16 : Type 0
Row16 = IsRead (ask (codes "(?x)\\x 4 1") []) (char 65)

-- hand: tree bytes (?x)\\
abbrev pub Row17 : Type 0
Row17 = IsRead (ask (codes "(?x)\\ ") []) (char 32)

-- hand: tree bytes (?i)\\x6b
abbrev pub Row18 : Type 0
Row18 = IsRead (ask (codes "(?i)\\x6b") []) (class ((75, 75) ∷ (107, 107) ∷ []))

-- hand: tree bytes ^
abbrev pub Row19 : Type 0
Row19 = IsRead (ask (codes "^") []) (look Look.start)

-- hand: tree bytes (?m)^
abbrev pub Row20 : Type 0
Row20 = IsRead (ask (codes "(?m)^") []) (look Look.start_lf)

-- hand: tree bytes (?m)$
abbrev pub Row21 : Type 0
Row21 = IsRead (ask (codes "(?m)$") []) (look Look.end_lf)

-- hand: tree bytes (?mR)^
abbrev pub Row22 : Type 0
Row22 = IsRead (ask (codes "(?mR)^") []) (look Look.start_crlf)

-- hand: tree bytes (?mR)$
abbrev pub Row23 : Type 0
Row23 = IsRead (ask (codes "(?mR)$") []) (look Look.end_crlf)

-- hand: tree bytes (?R)^
abbrev pub Row24 : Type 0
Row24 = IsRead (ask (codes "(?R)^") []) (look Look.start)

-- hand: tree bytes \\A
abbrev pub Row25 : Type 0
Row25 = IsRead (ask (codes "\\A") []) (look Look.start)

-- hand: tree bytes \\z
abbrev pub Row26 : Type 0
Row26 = IsRead (ask (codes "\\z") []) (look Look.end)

-- hand: tree bytes (?m)\\A
abbrev pub Row27 : Type 0
Row27 = IsRead (ask (codes "(?m)\\A") []) (look Look.start)

-- hand: tree bytes \\b
abbrev pub Row28 : Type 0
Row28 = IsRead (ask (codes "\\b") []) (look Look.word)

-- hand: tree bytes \\B
abbrev pub Row29 : Type 0
Row29 = IsRead (ask (codes "\\B") []) (look Look.word_negate)

-- hand: tree bytes \\<
abbrev pub Row30 : Type 0
Row30 = IsRead (ask (codes "\\<") []) (look Look.word_start)

-- hand: tree bytes \\>
abbrev pub Row31 : Type 0
Row31 = IsRead (ask (codes "\\>") []) (look Look.word_end)

-- hand: tree bytes \\b{start}
abbrev pub Row32 : Type 0
Row32 = IsRead (ask (codes "\\b{start}") []) (look Look.word_start)

-- hand: tree bytes \\b{end}
abbrev pub Row33 : Type 0
Row33 = IsRead (ask (codes "\\b{end}") []) (look Look.word_end)

-- hand: tree bytes \\b{start-half}
abbrev pub Row34 : Type 0
Row34 = IsRead (ask (codes "\\b{start-half}") []) (look Look.word_start_half)

-- hand: tree bytes \\b{end-half}
abbrev pub Row35 : Type 0
Row35 = IsRead (ask (codes "\\b{end-half}") []) (look Look.word_end_half)

-- hand: tree bytes (?x)\\b{ start - half }
abbrev pub Row36 : Type 0
Row36 = IsRead (ask (codes "(?x)\\b{ start - half }") []) (look Look.word_start_half)

-- hand: tree bytes \\b{2}
abbrev pub Row37 : Type 0
Row37 = IsRead (ask (codes "\\b{2}") []) (repetition 2 (Some 2) true (look Look.word))

-- hand: tree bytes \\b{ 2}
abbrev pub Row38 : Type 0
Row38 = IsRead (ask (codes "\\b{ 2}") []) (repetition 2 (Some 2) true (look Look.word))

-- hand: tree bytes (?x)\\b {2}
abbrev pub Row39 : Type 0
Row39 = IsRead (ask (codes "(?x)\\b {2}") []) (repetition 2 (Some 2) true (look Look.word))

-- hand: tree bytes a??
abbrev pub Row40 : Type 0
Row40 = IsRead (ask (codes "a??") []) (repetition 0 (Some 1) false (char 97))

-- hand: tree bytes a*?
abbrev pub Row41 : Type 0
Row41 = IsRead (ask (codes "a*?") []) (repetition 0 None false (char 97))

-- hand: tree bytes a+?
abbrev pub Row42 : Type 0
Row42 = IsRead (ask (codes "a+?") []) (repetition 1 None false (char 97))

-- hand: tree bytes a???
abbrev pub Row43 : Type 0
Row43 = IsRead (ask (codes "a???") []) (repetition 0 (Some 1) true (repetition 0 (Some 1) false (char 97)))

-- hand: tree bytes (?x)a* ?
abbrev pub Row44 : Type 0
Row44 = IsRead (ask (codes "(?x)a* ?") []) (repetition 0 (Some 1) true (repetition 0 None true (char 97)))

-- hand: tree bytes (?U)a*
abbrev pub Row45 : Type 0
Row45 = IsRead (ask (codes "(?U)a*") []) (repetition 0 None false (char 97))

-- hand: tree bytes (?U:a+)b+
abbrev pub Row46 : Type 0
Row46 = IsRead (ask (codes "(?U:a+)b+") []) (sequence (trees_of ((repetition 1 None false (char 97)) ∷ (repetition 1 None true (char 98)) ∷ [])))

-- hand: tree bytes a{0,0}?
abbrev pub Row47 : Type 0
Row47 = IsRead (ask (codes "a{0,0}?") []) empty

-- hand: tree bytes a{1,1}?
abbrev pub Row48 : Type 0
Row48 = IsRead (ask (codes "a{1,1}?") []) (char 97)

-- hand: tree bytes a{2}?
abbrev pub Row49 : Type 0
Row49 = IsRead (ask (codes "a{2}?") []) (repetition 2 (Some 2) false (char 97))

-- hand: tree bytes a{2,3}
abbrev pub Row50 : Type 0
Row50 = IsRead (ask (codes "a{2,3}") []) (repetition 2 (Some 3) true (char 97))

-- hand: tree bytes a{1,}
abbrev pub Row51 : Type 0
Row51 = IsRead (ask (codes "a{1,}") []) (repetition 1 None true (char 97))

-- hand: tree bytes a{ 2 }
abbrev pub Row52 : Type 0
Row52 = IsRead (ask (codes "a{ 2 }") []) (repetition 2 (Some 2) true (char 97))

-- hand: tree bytes a{1}{2}
abbrev pub Row53 : Type 0
Row53 = IsRead (ask (codes "a{1}{2}") []) (repetition 2 (Some 2) true (char 97))

-- hand: tree bytes a{2} ?
abbrev pub Row54 : Type 0
Row54 = IsRead (ask (codes "a{2} ?") []) (sequence (trees_of ((repetition 2 (Some 2) true (char 97)) ∷ (repetition 0 (Some 1) true (char 32)) ∷ [])))

-- hand: tree bytes (?x)a{1 0}
abbrev pub Row55 : Type 0
Row55 = IsRead (ask (codes "(?x)a{1 0}") []) (repetition 10 (Some 10) true (char 97))

-- hand: tree bytes (?x)a{5,9} ?
abbrev pub Row56 : Type 0
Row56 = IsRead (ask (codes "(?x)a{5,9} ?") []) (repetition 5 (Some 9) false (char 97))

-- hand: tree bytes
abbrev pub Row57 : Type 0
Row57 = IsRead (ask [] []) empty

-- hand: tree bytes a|b|
abbrev pub Row58 : Type 0
Row58 = IsRead (ask (codes "a|b|") []) (alternation (trees_of ((char 97) ∷ (char 98) ∷ empty ∷ [])))

-- hand: tree bytes (?:)
abbrev pub Row59 : Type 0
Row59 = IsRead (ask (codes "(?:)") []) empty

-- hand: tree bytes (?:ab)c
abbrev pub Row60 : Type 0
Row60 = IsRead (ask (codes "(?:ab)c") []) (sequence (trees_of ((sequence (trees_of ((char 97) ∷ (char 98) ∷ []))) ∷ (char 99) ∷ [])))

-- hand: tree bytes ((a)|(b))
abbrev pub Row61 : Type 0
Row61 = IsRead (ask (codes "((a)|(b))") []) (group 1 None (alternation (trees_of ((group 2 None (char 97)) ∷ (group 3 None (char 98)) ∷ []))))

-- hand: tree bytes (a){0}(b)
abbrev pub Row62 : Type 0
Row62 = IsRead (ask (codes "(a){0}(b)") []) (sequence (trees_of (empty ∷ (group 2 None (char 98)) ∷ [])))

-- hand: tree bytes (?<y>a)
abbrev pub Row63 : Type 0
Row63 = IsRead (ask (codes "(?<y>a)") []) (group 1 (Some (codes "y")) (char 97))

-- hand: tree bytes (?<\xE5\x90\x8D\xE5\xAD\x97>z)
abbrev pub Row64 : Type 0
Row64 = IsRead (parted ((128, 21516) ∷ (21517, 21517) ∷ (21518, 23382) ∷ (23383, 23383) ∷ (23384, 55295) ∷ (57344, 1114111) ∷ []) (ask (40 ∷ 63 ∷ 60 ∷ 229 ∷ 144 ∷ 141 ∷ 229 ∷ 173 ∷ 151 ∷ 62 ∷ 122 ∷ 41 ∷ []) [])) (group 1 (Some (229 ∷ 144 ∷ 141 ∷ 229 ∷ 173 ∷ 151 ∷ [])) (char 122))

-- hand: tree bytes (?x)( ?P<nm> b )
abbrev pub Row65 : Type 0
Row65 = IsRead (ask (codes "(?x)( ?P<nm> b )") []) (group 1 (Some (codes "nm")) (char 98))

-- hand: tree bytes (?i)
abbrev pub Row66 : Type 0
Row66 = IsRead (ask (codes "(?i)") []) empty

-- hand: tree bytes (?i)1\xC3\xA9
abbrev pub Row67 : Type 0
Row67 = IsRead (parted ((128, 232) ∷ (233, 233) ∷ (234, 55295) ∷ (57344, 1114111) ∷ []) (ask (40 ∷ 63 ∷ 105 ∷ 41 ∷ 49 ∷ 195 ∷ 169 ∷ []) [])) (sequence (trees_of ((char 49) ∷ (char 233) ∷ [])))

-- hand: tree bytes (?:(?i)k)k
abbrev pub Row68 : Type 0
Row68 = IsRead (ask (codes "(?:(?i)k)k") []) (sequence (trees_of ((class ((75, 75) ∷ (107, 107) ∷ [])) ∷ (char 107) ∷ [])))

-- hand: tree bytes (?i)k(?-i)k
abbrev pub Row69 : Type 0
Row69 = IsRead (ask (codes "(?i)k(?-i)k") []) (sequence (trees_of ((class ((75, 75) ∷ (107, 107) ∷ [])) ∷ (char 107) ∷ [])))

-- hand: tree bytes (?u)a(?-u)b
abbrev pub Row70 : Type 0
Row70 = IsRead (ask (codes "(?u)a(?-u)b") []) (sequence (trees_of ((char 97) ∷ (char 98) ∷ [])))

-- hand: tree bytes (?s).
abbrev pub Row71 : Type 0
Row71 = IsRead (ask (codes "(?s).") []) (class ((0, 1114111) ∷ []))

-- hand: tree bytes (?sR).
abbrev pub Row72 : Type 0
Row72 = IsRead (ask (codes "(?sR).") []) (class ((0, 1114111) ∷ []))

-- hand: tree bytes (?x)a(?-x) b
abbrev pub Row73 : Type 0
Row73 = IsRead (ask (codes "(?x)a(?-x) b") []) (sequence (trees_of ((char 97) ∷ (char 32) ∷ (char 98) ∷ [])))

-- hand: tree bytes (?x)\xC2\x85a\xE2\x80\xA8b
abbrev pub Row74 : Type 0
Row74 = IsRead (parted ((128, 132) ∷ (133, 133) ∷ (134, 8231) ∷ (8232, 8232) ∷ (8233, 55295) ∷ (57344, 1114111) ∷ []) (ask (40 ∷ 63 ∷ 120 ∷ 41 ∷ 194 ∷ 133 ∷ 97 ∷ 226 ∷ 128 ∷ 168 ∷ 98 ∷ []) [])) (sequence (trees_of ((char 97) ∷ (char 98) ∷ [])))

-- hand: tree bytes [a-cb-d]
abbrev pub Row75 : Type 0
Row75 = IsRead (ask (codes "[a-cb-d]") []) (class ((97, 100) ∷ []))

-- hand: tree bytes []a]
abbrev pub Row76 : Type 0
Row76 = IsRead (ask (codes "[]a]") []) (class ((93, 93) ∷ (97, 97) ∷ []))

-- hand: tree bytes [-a]
abbrev pub Row77 : Type 0
Row77 = IsRead (ask (codes "[-a]") []) (class ((45, 45) ∷ (97, 97) ∷ []))

-- hand: tree bytes [--]
abbrev pub Row78 : Type 0
Row78 = IsRead (ask (codes "[--]") []) (class ((45, 45) ∷ []))

-- hand: tree bytes [a-b-c]
abbrev pub Row79 : Type 0
Row79 = IsRead (ask (codes "[a-b-c]") []) (class ((45, 45) ∷ (97, 99) ∷ []))

-- hand: tree bytes [!-&&]
abbrev pub Row80 : Type 0
Row80 = IsRead (ask (codes "[!-&&]") []) (class ((33, 38) ∷ []))

-- hand: tree bytes [a\\]b]
abbrev pub Row81 : Type 0
Row81 = IsRead (ask (codes "[a\\]b]") []) (class ((93, 93) ∷ (97, 98) ∷ []))

-- hand: tree bytes [.*+?(){}|^$]
abbrev pub Row82 : Type 0
Row82 = IsRead (ask (codes "[.*+?(){}|^$]") []) (class ((36, 36) ∷ (40, 43) ∷ (46, 46) ∷ (63, 63) ∷ (94, 94) ∷ (123, 125) ∷ []))

-- hand: tree bytes [^\\s\\S]
abbrev pub Row83 : Type 0
Row83 = IsRead (ask (codes "[^\\s\\S]") []) (class [])

-- hand: tree bytes (?i)[Y-b]
abbrev pub Row84 : Type 0
Row84 = IsRead (ask (codes "(?i)[Y-b]") []) (class ((65, 66) ∷ (89, 98) ∷ (121, 122) ∷ []))

-- hand: tree bytes (?i)[\\x61-\\x7A]
abbrev pub Row85 : Type 0
Row85 = IsRead (ask (codes "(?i)[\\x61-\\x7A]") []) (class ((65, 90) ∷ (97, 122) ∷ []))

-- hand: tree bytes (?x)[ ] b ]
abbrev pub Row86 : Type 0
Row86 = IsRead (ask (codes "(?x)[ ] b ]") []) (class ((93, 93) ∷ (98, 98) ∷ []))

-- hand: tree bytes \\d
abbrev pub Row87 : Type 0
Row87 = IsRead (ask (codes "\\d") []) (class ((48, 57) ∷ []))

-- hand: tree bytes \\s
abbrev pub Row88 : Type 0
Row88 = IsRead (ask (codes "\\s") []) (class ((9, 13) ∷ (32, 32) ∷ []))

-- hand: tree bytes \\w
abbrev pub Row89 : Type 0
Row89 = IsRead (ask (codes "\\w") []) (class ((48, 57) ∷ (65, 90) ∷ (95, 95) ∷ (97, 122) ∷ []))

-- hand: tree bytes [\\d_]
abbrev pub Row90 : Type 0
Row90 = IsRead (ask (codes "[\\d_]") []) (class ((48, 57) ∷ (95, 95) ∷ []))

-- hand: tree bytes [[:alpha:]-z]
abbrev pub Row91 : Type 0
Row91 = IsRead (ask (codes "[[:alpha:]-z]") []) (class ((45, 45) ∷ (65, 90) ∷ (97, 122) ∷ []))

-- hand: tree bytes [[:^alpha:]-]
abbrev pub Row92 : Type 0
Row92 = IsRead (ask (codes "[[:^alpha:]-]") []) (class ((0, 64) ∷ (91, 96) ∷ (123, 1114111) ∷ []))

-- hand: tree bytes [^[:^xdigit:]]
abbrev pub Row93 : Type 0
Row93 = IsRead (ask (codes "[^[:^xdigit:]]") []) (class ((48, 57) ∷ (65, 70) ∷ (97, 102) ∷ []))

-- hand: tree bytes [[:word:][:blank:]]
abbrev pub Row94 : Type 0
Row94 = IsRead (ask (codes "[[:word:][:blank:]]") []) (class ((9, 9) ∷ (32, 32) ∷ (48, 57) ∷ (65, 90) ∷ (95, 95) ∷ (97, 122) ∷ []))

-- hand: tree bytes (?i)[[:upper:]]
abbrev pub Row95 : Type 0
Row95 = IsRead (ask (codes "(?i)[[:upper:]]") []) (class ((65, 90) ∷ (97, 122) ∷ []))

-- hand: tree bytes [[:digit:][:punct:]]
abbrev pub Row96 : Type 0
Row96 = IsRead (ask (codes "[[:digit:][:punct:]]") []) (class ((33, 64) ∷ (91, 96) ∷ (123, 126) ∷ []))

-- hand: tree bytes U a*b*?
abbrev pub Row97 : Type 0
Row97 = IsRead (ask (codes "a*b*?") (codes "U")) (sequence (trees_of ((repetition 0 None false (char 97)) ∷ (repetition 0 None true (char 98)) ∷ [])))

-- hand: tree bytes i k(?-i)k
abbrev pub Row98 : Type 0
Row98 = IsRead (ask (codes "k(?-i)k") (codes "i")) (sequence (trees_of ((class ((75, 75) ∷ (107, 107) ∷ [])) ∷ (char 107) ∷ [])))

-- hand: tree bytes m ^a$
abbrev pub Row99 : Type 0
Row99 = IsRead (ask (codes "^a$") (codes "m")) (sequence (trees_of ((look Look.start_lf) ∷ (char 97) ∷ (look Look.end_lf) ∷ [])))

-- hand: tree bytes mR ^a$
abbrev pub Row100 : Type 0
Row100 = IsRead (ask (codes "^a$") (codes "mR")) (sequence (trees_of ((look Look.start_crlf) ∷ (char 97) ∷ (look Look.end_crlf) ∷ [])))

-- hand: tree bytes x
abbrev pub Row101 : Type 0
Row101 = IsRead (ask [] (codes "x")) empty

-- hand: tree bytes a\\.b\\-c
abbrev pub Row102 : Type 0
Row102 = IsRead (ask (codes "a\\.b\\-c") []) (sequence (trees_of ((char 97) ∷ (char 46) ∷ (char 98) ∷ (char 45) ∷ (char 99) ∷ [])))

-- hand: tree bytes \\(\\?x\\)\\#
abbrev pub Row103 : Type 0
Row103 = IsRead (ask (codes "\\(\\?x\\)\\#") []) (sequence (trees_of ((char 40) ∷ (char 63) ∷ (char 120) ∷ (char 41) ∷ (char 35) ∷ [])))

-- hand: tree bytes \\\\\\.\\+\\*\\?\\(\\)\\|\\[\\]\\{\\}\\^\\$\\#\\&\\-\\~
abbrev pub Row104 : Type 0
Row104 = IsRead (ask (codes "\\\\\\.\\+\\*\\?\\(\\)\\|\\[\\]\\{\\}\\^\\$\\#\\&\\-\\~") []) (sequence (trees_of ((char 92) ∷ (char 46) ∷ (char 43) ∷ (char 42) ∷ (char 63) ∷ (char 40) ∷ (char 41) ∷ (char 124) ∷ (char 91) ∷ (char 93) ∷ (char 123) ∷ (char 125) ∷ (char 94) ∷ (char 36) ∷ (char 35) ∷ (char 38) ∷ (char 45) ∷ (char 126) ∷ [])))

-- hand: tree bytes ()()()()()()(?<ann\xC3\xA9e>)
abbrev pub Row105 : Type 0
Row105 = IsRead (parted ((128, 232) ∷ (233, 233) ∷ (234, 55295) ∷ (57344, 1114111) ∷ []) (ask (40 ∷ 41 ∷ 40 ∷ 41 ∷ 40 ∷ 41 ∷ 40 ∷ 41 ∷ 40 ∷ 41 ∷ 40 ∷ 41 ∷ 40 ∷ 63 ∷ 60 ∷ 97 ∷ 110 ∷ 110 ∷ 195 ∷ 169 ∷ 101 ∷ 62 ∷ 41 ∷ []) [])) (sequence (trees_of ((group 1 None empty) ∷ (group 2 None empty) ∷ (group 3 None empty) ∷ (group 4 None empty) ∷ (group 5 None empty) ∷ (group 6 None empty) ∷ (group 7 (Some (97 ∷ 110 ∷ 110 ∷ 195 ∷ 169 ∷ 101 ∷ [])) empty) ∷ [])))

-- hand: tree bytes [x-zb-d\\u{E000}ac-fh\\u{D7FF}]
abbrev pub Row106 : Type 0
Row106 = IsRead (parted ((128, 55294) ∷ (55295, 55295) ∷ (57344, 57344) ∷ (57345, 1114111) ∷ []) (ask (codes "[x-zb-d\\u{E000}ac-fh\\u{D7FF}]") [])) (class ((97, 102) ∷ (104, 104) ∷ (120, 122) ∷ (55295, 57344) ∷ []))

-- hand: tree bytes [^\\u{0}-\\u{D7FE}\\u{E001}-\\u{10FFFF}]
abbrev pub Row107 : Type 0
Row107 = IsRead (parted ((128, 55293) ∷ (55294, 55294) ∷ (55295, 55295) ∷ (57344, 57344) ∷ (57345, 57345) ∷ (57346, 1114110) ∷ (1114111, 1114111) ∷ []) (ask (codes "[^\\u{0}-\\u{D7FE}\\u{E001}-\\u{10FFFF}]") [])) (class ((55295, 57344) ∷ []))

-- hand: tree bytes [[:^ascii:][:ascii:]]
abbrev pub Row108 : Type 0
Row108 = IsRead (ask (codes "[[:^ascii:][:ascii:]]") []) (class ((0, 1114111) ∷ []))

-- hand: tree bytes (?i)q
abbrev pub Row109 : Type 0
Row109 = IsRead (ask (codes "(?i)q") []) (class ((81, 81) ∷ (113, 113) ∷ []))

-- hand: tree bytes [[:alnum:]]
abbrev pub Row110 : Type 0
Row110 = IsRead (ask (codes "[[:alnum:]]") []) (class ((48, 57) ∷ (65, 90) ∷ (97, 122) ∷ []))

-- all of these
abbrev pub Trees : Type 0
Trees = Row1 × Row2 × Row3 × Row4 × Row5 × Row6 × Row7 × Row8 × Row9 × Row10 × Row11 × Row12 × Row13 × Row14 × Row15 × Row16 × Row17 × Row18 × Row19 × Row20 × Row21 × Row22 × Row23 × Row24 × Row25 × Row26 × Row27 × Row28 × Row29 × Row30 × Row31 × Row32 × Row33 × Row34 × Row35 × Row36 × Row37 × Row38 × Row39 × Row40 × Row41 × Row42 × Row43 × Row44 × Row45 × Row46 × Row47 × Row48 × Row49 × Row50 × Row51 × Row52 × Row53 × Row54 × Row55 × Row56 × Row57 × Row58 × Row59 × Row60 × Row61 × Row62 × Row63 × Row64 × Row65 × Row66 × Row67 × Row68 × Row69 × Row70 × Row71 × Row72 × Row73 × Row74 × Row75 × Row76 × Row77 × Row78 × Row79 × Row80 × Row81 × Row82 × Row83 × Row84 × Row85 × Row86 × Row87 × Row88 × Row89 × Row90 × Row91 × Row92 × Row93 × Row94 × Row95 × Row96 × Row97 × Row98 × Row99 × Row100 × Row101 × Row102 × Row103 × Row104 × Row105 × Row106 × Row107 × Row108 × Row109 × Row110
