-- What rows say of all matches in a haystack, and the pieces between them. The program `generate` writes this module.
use Rattle.std.specs.Prelude.{[], ◌∷◌, codes, Some, None}
use Rattle.bites_spec.specs.Match.{span}
use Rattle.bites_answers.specs.Evaluated.{ask, keeping, longest, parted, FindsAllGroups, FindsAll, Splits, SplitsUpTo}

-- rust: find_iter both \\A a-\x0D\x0A9\x0D_\x0A
abbrev pub Row1 : Type 0
Row1 = FindsAll (ask (codes "\\A") []) (97 ∷ 45 ∷ 13 ∷ 10 ∷ 57 ∷ 13 ∷ 95 ∷ 10 ∷ []) ((span 0 0) ∷ [])

-- rust: find_iter both \\z a-\x0D\x0A9\x0D_\x0A
abbrev pub Row2 : Type 0
Row2 = FindsAll (ask (codes "\\z") []) (97 ∷ 45 ∷ 13 ∷ 10 ∷ 57 ∷ 13 ∷ 95 ∷ 10 ∷ []) ((span 8 8) ∷ [])

-- rust: find_iter both (?m)^ a-\x0D\x0A9\x0D_\x0A
abbrev pub Row3 : Type 0
Row3 = FindsAll (ask (codes "(?m)^") []) (97 ∷ 45 ∷ 13 ∷ 10 ∷ 57 ∷ 13 ∷ 95 ∷ 10 ∷ []) ((span 0 0) ∷ (span 4 4) ∷ (span 8 8) ∷ [])

-- rust: find_iter both (?m)$ a-\x0D\x0A9\x0D_\x0A
abbrev pub Row4 : Type 0
Row4 = FindsAll (ask (codes "(?m)$") []) (97 ∷ 45 ∷ 13 ∷ 10 ∷ 57 ∷ 13 ∷ 95 ∷ 10 ∷ []) ((span 3 3) ∷ (span 7 7) ∷ (span 8 8) ∷ [])

-- rust: find_iter both (?mR)^ a-\x0D\x0A9\x0D_\x0A
abbrev pub Row5 : Type 0
Row5 = FindsAll (ask (codes "(?mR)^") []) (97 ∷ 45 ∷ 13 ∷ 10 ∷ 57 ∷ 13 ∷ 95 ∷ 10 ∷ []) ((span 0 0) ∷ (span 4 4) ∷ (span 6 6) ∷ (span 8 8) ∷ [])

-- rust: find_iter both (?mR)$ a-\x0D\x0A9\x0D_\x0A
abbrev pub Row6 : Type 0
Row6 = FindsAll (ask (codes "(?mR)$") []) (97 ∷ 45 ∷ 13 ∷ 10 ∷ 57 ∷ 13 ∷ 95 ∷ 10 ∷ []) ((span 2 2) ∷ (span 5 5) ∷ (span 7 7) ∷ (span 8 8) ∷ [])

-- rust: find_iter both \\b a-\x0D\x0A9\x0D_\x0A
abbrev pub Row7 : Type 0
Row7 = FindsAll (ask (codes "\\b") []) (97 ∷ 45 ∷ 13 ∷ 10 ∷ 57 ∷ 13 ∷ 95 ∷ 10 ∷ []) ((span 0 0) ∷ (span 1 1) ∷ (span 4 4) ∷ (span 5 5) ∷ (span 6 6) ∷ (span 7 7) ∷ [])

-- rust: find_iter both \\B a-\x0D\x0A9\x0D_\x0A
abbrev pub Row8 : Type 0
Row8 = FindsAll (ask (codes "\\B") []) (97 ∷ 45 ∷ 13 ∷ 10 ∷ 57 ∷ 13 ∷ 95 ∷ 10 ∷ []) ((span 2 2) ∷ (span 3 3) ∷ (span 8 8) ∷ [])

-- rust: find_iter both \\< a-\x0D\x0A9\x0D_\x0A
abbrev pub Row9 : Type 0
Row9 = FindsAll (ask (codes "\\<") []) (97 ∷ 45 ∷ 13 ∷ 10 ∷ 57 ∷ 13 ∷ 95 ∷ 10 ∷ []) ((span 0 0) ∷ (span 4 4) ∷ (span 6 6) ∷ [])

-- rust: find_iter both \\> a-\x0D\x0A9\x0D_\x0A
abbrev pub Row10 : Type 0
Row10 = FindsAll (ask (codes "\\>") []) (97 ∷ 45 ∷ 13 ∷ 10 ∷ 57 ∷ 13 ∷ 95 ∷ 10 ∷ []) ((span 1 1) ∷ (span 5 5) ∷ (span 7 7) ∷ [])

-- rust: find_iter both \\b{start-half} a-\x0D\x0A9\x0D_\x0A
abbrev pub Row11 : Type 0
Row11 = FindsAll (ask (codes "\\b{start-half}") []) (97 ∷ 45 ∷ 13 ∷ 10 ∷ 57 ∷ 13 ∷ 95 ∷ 10 ∷ []) ((span 0 0) ∷ (span 2 2) ∷ (span 3 3) ∷ (span 4 4) ∷ (span 6 6) ∷ (span 8 8) ∷ [])

-- rust: find_iter both \\b{end-half} a-\x0D\x0A9\x0D_\x0A
abbrev pub Row12 : Type 0
Row12 = FindsAll (ask (codes "\\b{end-half}") []) (97 ∷ 45 ∷ 13 ∷ 10 ∷ 57 ∷ 13 ∷ 95 ∷ 10 ∷ []) ((span 1 1) ∷ (span 2 2) ∷ (span 3 3) ∷ (span 5 5) ∷ (span 7 7) ∷ (span 8 8) ∷ [])

-- hand: find_iter both a* baac
abbrev pub Row13 : Type 0
Row13 = FindsAll (ask (codes "a*") []) (codes "baac") ((span 0 0) ∷ (span 1 3) ∷ (span 4 4) ∷ [])

-- hand: find_iter bytes . \xE2\x98\xF0
abbrev pub Row14 : Type 0
Row14 = FindsAll (ask (codes ".") []) (226 ∷ 152 ∷ 240 ∷ []) ((span 0 2) ∷ (span 2 3) ∷ [])

-- hand: find_iter bytes . \xFF
abbrev pub Row15 : Type 0
Row15 = FindsAll (ask (codes ".") []) (255 ∷ []) ((span 0 1) ∷ [])

-- hand: find_iter bytes \xE2\x98\xF0
abbrev pub Row16 : Type 0
Row16 = FindsAll (ask [] []) (226 ∷ 152 ∷ 240 ∷ []) ((span 0 0) ∷ (span 2 2) ∷ (span 3 3) ∷ [])

-- hand: find_iter both (?mR)$ a\x0D\x0Ab
abbrev pub Row17 : Type 0
Row17 = FindsAll (ask (codes "(?mR)$") []) (97 ∷ 13 ∷ 10 ∷ 98 ∷ []) ((span 1 1) ∷ (span 4 4) ∷ [])

-- hand: find_iter both (?mR)^ a\x0D\x0Ab
abbrev pub Row18 : Type 0
Row18 = FindsAll (ask (codes "(?mR)^") []) (97 ∷ 13 ∷ 10 ∷ 98 ∷ []) ((span 0 0) ∷ (span 3 3) ∷ [])

-- hand: find_iter both |a a
abbrev pub Row19 : Type 0
Row19 = FindsAll (ask (codes "|a") []) (codes "a") ((span 0 0) ∷ (span 1 1) ∷ [])

-- hand: find_iter bytes \\u{FFFD} \xED\xA0\x80
abbrev pub Row20 : Type 0
Row20 = FindsAll (parted ((128, 55295) ∷ (57344, 65532) ∷ (65533, 65533) ∷ (65534, 1114111) ∷ []) (ask (codes "\\u{FFFD}") [])) (237 ∷ 160 ∷ 128 ∷ []) ((span 0 1) ∷ (span 1 2) ∷ (span 2 3) ∷ [])

-- hand: find_iter both L a|ab|abc abcab
abbrev pub Row21 : Type 0
Row21 = FindsAll (longest (ask (codes "a|ab|abc") [])) (codes "abcab") ((span 0 3) ∷ (span 3 5) ∷ [])

-- hand: find_iter both L a*? baac
abbrev pub Row22 : Type 0
Row22 = FindsAll (longest (ask (codes "a*?") [])) (codes "baac") ((span 0 0) ∷ (span 1 3) ∷ (span 4 4) ∷ [])

-- rust: find_iter bytes mR \x0D\x0A{4,5}*() a\xF1\x80\x80
abbrev pub Row23 : Type 0
Row23 = FindsAll (ask (13 ∷ 10 ∷ 123 ∷ 52 ∷ 44 ∷ 53 ∷ 125 ∷ 42 ∷ 40 ∷ 41 ∷ []) (codes "mR")) (97 ∷ 241 ∷ 128 ∷ 128 ∷ []) []

-- rust: find_iter both \\|\\-\\. |-.<*!{|-.
abbrev pub Row24 : Type 0
Row24 = FindsAll (ask (codes "\\|\\-\\.") []) (codes "|-.<*!{|-.") ((span 0 3) ∷ (span 7 10) ∷ [])

-- rust: find_iter both \\b|\\b{end}a a-
abbrev pub Row25 : Type 0
Row25 = FindsAll (ask (codes "\\b|\\b{end}a") []) (codes "a-") ((span 0 0) ∷ (span 1 1) ∷ [])

-- rust: find_iter bytes s \\U{5a} bZZZ\x80a
abbrev pub Row26 : Type 0
Row26 = FindsAll (ask (codes "\\U{5a}") (codes "s")) (98 ∷ 90 ∷ 90 ∷ 90 ∷ 128 ∷ 97 ∷ []) ((span 1 2) ∷ (span 2 3) ∷ (span 3 4) ∷ [])

-- rust: find_iter both \\#\\.?|\\b{1}{4} ##.#
abbrev pub Row27 : Type 0
Row27 = FindsAll (ask (codes "\\#\\.?|\\b{1}{4}") []) (codes "##.#") ((span 0 1) ∷ (span 1 3) ∷ (span 3 4) ∷ [])

-- rust: find_iter both m [\\~].Z| ZKak
abbrev pub Row28 : Type 0
Row28 = FindsAll (ask (codes "[\\~].Z|") (codes "m")) (codes "ZKak") ((span 0 0) ∷ (span 1 1) ∷ (span 2 2) ∷ (span 3 3) ∷ (span 4 4) ∷ [])

-- rust: find_iter bytes (?s). \xED\xA0\x80\xE3\xEF\xBF
abbrev pub Row29 : Type 0
Row29 = FindsAll (ask (codes "(?s).") []) (237 ∷ 160 ∷ 128 ∷ 227 ∷ 239 ∷ 191 ∷ []) ((span 0 1) ∷ (span 1 2) ∷ (span 2 3) ∷ (span 3 4) ∷ (span 4 6) ∷ [])

-- rust: find_iter both msR ($a$^){0}
abbrev pub Row30 : Type 0
Row30 = FindsAll (ask (codes "($a$^){0}") (codes "msR")) [] ((span 0 0) ∷ [])

-- rust: find_iter both \\b \xC3\xA9 -7Z
abbrev pub Row31 : Type 0
Row31 = FindsAll (ask (codes "\\b") []) (195 ∷ 169 ∷ 32 ∷ 45 ∷ 55 ∷ 90 ∷ []) ((span 4 4) ∷ (span 6 6) ∷ [])

-- rust: find_iter bytes \\b{start-half} \xF5
abbrev pub Row32 : Type 0
Row32 = FindsAll (ask (codes "\\b{start-half}") []) (245 ∷ []) ((span 0 0) ∷ (span 1 1) ∷ [])

-- rust: find_iter bytes [\\u{80}-\\u{10FFFF}]+ \xE1\x80a\xF0\x9F
abbrev pub Row33 : Type 0
Row33 = FindsAll (parted ((128, 128) ∷ (129, 55295) ∷ (57344, 1114110) ∷ (1114111, 1114111) ∷ []) (ask (codes "[\\u{80}-\\u{10FFFF}]+") [])) (225 ∷ 128 ∷ 97 ∷ 240 ∷ 159 ∷ []) ((span 0 2) ∷ (span 3 5) ∷ [])

-- rust: find_iter both mR \\s\\n($)| \x0D\x0D\x0A\x0D\x0D\x0A\x0A\x0D\x0A
abbrev pub Row34 : Type 0
Row34 = FindsAll (ask (codes "\\s\\n($)|") (codes "mR")) (13 ∷ 13 ∷ 10 ∷ 13 ∷ 13 ∷ 10 ∷ 10 ∷ 13 ∷ 10 ∷ []) ((span 0 0) ∷ (span 1 3) ∷ (span 4 6) ∷ (span 7 9) ∷ [])

-- rust: find_iter both $ \x0A\x0Da\x0D\x0A\x0A\x0A
abbrev pub Row35 : Type 0
Row35 = FindsAll (ask (codes "$") []) (10 ∷ 13 ∷ 97 ∷ 13 ∷ 10 ∷ 10 ∷ 10 ∷ []) ((span 7 7) ∷ [])

-- rust: find_iter both m (?x)(?i)[b\xE2\x80\x83a]
abbrev pub Row36 : Type 0
Row36 = FindsAll (parted ((128, 8194) ∷ (8195, 8195) ∷ (8196, 55295) ∷ (57344, 1114111) ∷ []) (ask (40 ∷ 63 ∷ 120 ∷ 41 ∷ 40 ∷ 63 ∷ 105 ∷ 41 ∷ 91 ∷ 98 ∷ 226 ∷ 128 ∷ 131 ∷ 97 ∷ 93 ∷ []) (codes "m"))) [] []

-- rust: find_iter bytes \xE2\x98a\xF5\xF5\xE2\x98\x83
abbrev pub Row37 : Type 0
Row37 = FindsAll (ask [] []) (226 ∷ 152 ∷ 97 ∷ 245 ∷ 245 ∷ 226 ∷ 152 ∷ 131 ∷ []) ((span 0 0) ∷ (span 2 2) ∷ (span 3 3) ∷ (span 4 4) ∷ (span 5 5) ∷ (span 8 8) ∷ [])

-- rust: find_iter bytes . \xF0\x9F\xF4\x90\x80\x80\x0A\xC0\x80
abbrev pub Row38 : Type 0
Row38 = FindsAll (ask (codes ".") []) (240 ∷ 159 ∷ 244 ∷ 144 ∷ 128 ∷ 128 ∷ 10 ∷ 192 ∷ 128 ∷ []) ((span 0 2) ∷ (span 2 3) ∷ (span 3 4) ∷ (span 4 5) ∷ (span 5 6) ∷ (span 7 8) ∷ (span 8 9) ∷ [])

-- rust: find_iter bytes \\u{FFFD} \xEA\xA3\xE2\xF5\xF0\x9F\x92
abbrev pub Row39 : Type 0
Row39 = FindsAll (parted ((128, 55295) ∷ (57344, 65532) ∷ (65533, 65533) ∷ (65534, 1114111) ∷ []) (ask (codes "\\u{FFFD}") [])) (234 ∷ 163 ∷ 226 ∷ 245 ∷ 240 ∷ 159 ∷ 146 ∷ []) ((span 0 2) ∷ (span 2 3) ∷ (span 3 4) ∷ (span 4 7) ∷ [])

-- rust: find_iter bytes (?s). \xF0\x80\x80\x80a
abbrev pub Row40 : Type 0
Row40 = FindsAll (ask (codes "(?s).") []) (240 ∷ 128 ∷ 128 ∷ 128 ∷ 97 ∷ []) ((span 0 1) ∷ (span 1 2) ∷ (span 2 3) ∷ (span 3 4) ∷ (span 4 5) ∷ [])

-- rust: find_iter bytes \xF1\x80\x80\xC3\x9D\xE2\x98\x83\xE2\x98
abbrev pub Row41 : Type 0
Row41 = FindsAll (ask [] []) (241 ∷ 128 ∷ 128 ∷ 195 ∷ 157 ∷ 226 ∷ 152 ∷ 131 ∷ 226 ∷ 152 ∷ []) ((span 0 0) ∷ (span 3 3) ∷ (span 5 5) ∷ (span 8 8) ∷ (span 10 10) ∷ [])

-- rust: find_iter bytes \xF5\xDC\xB1\xE2\x98
abbrev pub Row42 : Type 0
Row42 = FindsAll (ask [] []) (245 ∷ 220 ∷ 177 ∷ 226 ∷ 152 ∷ []) ((span 0 0) ∷ (span 1 1) ∷ (span 3 3) ∷ (span 5 5) ∷ [])

-- rust: find_iter bytes (?s). \xF0\x9D\x92\xB3\xF0\x9F\xF1\x80\x80\xBF\xBF\xE2\x98\x83
abbrev pub Row43 : Type 0
Row43 = FindsAll (ask (codes "(?s).") []) (240 ∷ 157 ∷ 146 ∷ 179 ∷ 240 ∷ 159 ∷ 241 ∷ 128 ∷ 128 ∷ 191 ∷ 191 ∷ 226 ∷ 152 ∷ 131 ∷ []) ((span 0 4) ∷ (span 4 6) ∷ (span 6 10) ∷ (span 10 11) ∷ (span 11 14) ∷ [])

-- rust: find_iter bytes (?s). \xF0\x9F\x92\xE2\x98\xF5\xF0\x9F
abbrev pub Row44 : Type 0
Row44 = FindsAll (ask (codes "(?s).") []) (240 ∷ 159 ∷ 146 ∷ 226 ∷ 152 ∷ 245 ∷ 240 ∷ 159 ∷ []) ((span 0 3) ∷ (span 3 5) ∷ (span 5 6) ∷ (span 6 8) ∷ [])

-- rust: find_iter bytes . \xF4\x90\x80\x80\xF4\x90\x80\x80
abbrev pub Row45 : Type 0
Row45 = FindsAll (ask (codes ".") []) (244 ∷ 144 ∷ 128 ∷ 128 ∷ 244 ∷ 144 ∷ 128 ∷ 128 ∷ []) ((span 0 1) ∷ (span 1 2) ∷ (span 2 3) ∷ (span 3 4) ∷ (span 4 5) ∷ (span 5 6) ∷ (span 6 7) ∷ (span 7 8) ∷ [])

-- rust: find_iter bytes .{2} \xF4\x90\x80\x80\xF0\x9D\x92\xB3\xF5\xFE\xFF\xE2\x98
abbrev pub Row46 : Type 0
Row46 = FindsAll (ask (codes ".{2}") []) (244 ∷ 144 ∷ 128 ∷ 128 ∷ 240 ∷ 157 ∷ 146 ∷ 179 ∷ 245 ∷ 254 ∷ 255 ∷ 226 ∷ 152 ∷ []) ((span 0 2) ∷ (span 2 4) ∷ (span 4 9) ∷ (span 9 11) ∷ [])

-- rust: find_iter bytes (?s). \xFE\xFF\xF1\x80\x80
abbrev pub Row47 : Type 0
Row47 = FindsAll (ask (codes "(?s).") []) (254 ∷ 255 ∷ 241 ∷ 128 ∷ 128 ∷ []) ((span 0 1) ∷ (span 1 2) ∷ (span 2 5) ∷ [])

-- rust: find_iter bytes \\u{FFFD} \xC0\x80\xF5\xCF\xBD\xF5
abbrev pub Row48 : Type 0
Row48 = FindsAll (parted ((128, 55295) ∷ (57344, 65532) ∷ (65533, 65533) ∷ (65534, 1114111) ∷ []) (ask (codes "\\u{FFFD}") [])) (192 ∷ 128 ∷ 245 ∷ 207 ∷ 189 ∷ 245 ∷ []) ((span 0 1) ∷ (span 1 2) ∷ (span 2 3) ∷ (span 5 6) ∷ [])

-- rust: find_iter bytes \\u{FFFD} \xF0\x9F\x92
abbrev pub Row49 : Type 0
Row49 = FindsAll (parted ((128, 55295) ∷ (57344, 65532) ∷ (65533, 65533) ∷ (65534, 1114111) ∷ []) (ask (codes "\\u{FFFD}") [])) (240 ∷ 159 ∷ 146 ∷ []) ((span 0 3) ∷ [])

-- rust: find_iter bytes (?s). \xC9\xE2\x98\x83
abbrev pub Row50 : Type 0
Row50 = FindsAll (ask (codes "(?s).") []) (201 ∷ 226 ∷ 152 ∷ 131 ∷ []) ((span 0 1) ∷ (span 1 4) ∷ [])

-- rust: find_iter bytes .{2} \xE0\x80\x80\xF0\x9D\x92\xB3\xFF
abbrev pub Row51 : Type 0
Row51 = FindsAll (ask (codes ".{2}") []) (224 ∷ 128 ∷ 128 ∷ 240 ∷ 157 ∷ 146 ∷ 179 ∷ 255 ∷ []) ((span 0 2) ∷ (span 2 7) ∷ [])

-- rust: find_iter bytes .{2} \xF0\x9F\xF5\xED\xA0\x80
abbrev pub Row52 : Type 0
Row52 = FindsAll (ask (codes ".{2}") []) (240 ∷ 159 ∷ 245 ∷ 237 ∷ 160 ∷ 128 ∷ []) ((span 0 3) ∷ (span 3 5) ∷ [])

-- rust: find_iter bytes . \xF0\x9F\x92
abbrev pub Row53 : Type 0
Row53 = FindsAll (ask (codes ".") []) (240 ∷ 159 ∷ 146 ∷ []) ((span 0 3) ∷ [])

-- rust: find_iter bytes . \xF5
abbrev pub Row54 : Type 0
Row54 = FindsAll (ask (codes ".") []) (245 ∷ []) ((span 0 1) ∷ [])

-- rust: find_iter bytes .{2} \xF5\xDC\xBD\xE0\x80\x80
abbrev pub Row55 : Type 0
Row55 = FindsAll (ask (codes ".{2}") []) (245 ∷ 220 ∷ 189 ∷ 224 ∷ 128 ∷ 128 ∷ []) ((span 0 3) ∷ (span 3 5) ∷ [])

-- rust: find_iter bytes . \xFE\xFF\xE2\xC0\x80\xF1\x80\x80
abbrev pub Row56 : Type 0
Row56 = FindsAll (ask (codes ".") []) (254 ∷ 255 ∷ 226 ∷ 192 ∷ 128 ∷ 241 ∷ 128 ∷ 128 ∷ []) ((span 0 1) ∷ (span 1 2) ∷ (span 2 3) ∷ (span 3 4) ∷ (span 4 5) ∷ (span 5 8) ∷ [])

-- rust: find_iter bytes .{2} \xF0\x9F\xDB\xBB\xF4\x90\x80\x80\xEF\xBF
abbrev pub Row57 : Type 0
Row57 = FindsAll (ask (codes ".{2}") []) (240 ∷ 159 ∷ 219 ∷ 187 ∷ 244 ∷ 144 ∷ 128 ∷ 128 ∷ 239 ∷ 191 ∷ []) ((span 0 4) ∷ (span 4 6) ∷ (span 6 8) ∷ [])

-- rust: find_iter bytes .{2} \xE1\x80a
abbrev pub Row58 : Type 0
Row58 = FindsAll (ask (codes ".{2}") []) (225 ∷ 128 ∷ 97 ∷ []) ((span 0 3) ∷ [])

-- rust: find_iter bytes . \x0A\xF1\x80\x80\x0A\xE2
abbrev pub Row59 : Type 0
Row59 = FindsAll (ask (codes ".") []) (10 ∷ 241 ∷ 128 ∷ 128 ∷ 10 ∷ 226 ∷ []) ((span 1 4) ∷ (span 5 6) ∷ [])

-- rust: find_iter bytes (?s). \xFF\xFF
abbrev pub Row60 : Type 0
Row60 = FindsAll (ask (codes "(?s).") []) (255 ∷ 255 ∷ []) ((span 0 1) ∷ (span 1 2) ∷ [])

-- rust: find_iter bytes . \xF0\x9F\x92\x80\xC0\x80
abbrev pub Row61 : Type 0
Row61 = FindsAll (ask (codes ".") []) (240 ∷ 159 ∷ 146 ∷ 128 ∷ 192 ∷ 128 ∷ []) ((span 0 4) ∷ (span 4 5) ∷ (span 5 6) ∷ [])

-- rust: find_iter bytes . \xE2\x98\xF4\x90\x80\x80\xE0\x80\x80a\xF9
abbrev pub Row62 : Type 0
Row62 = FindsAll (ask (codes ".") []) (226 ∷ 152 ∷ 244 ∷ 144 ∷ 128 ∷ 128 ∷ 224 ∷ 128 ∷ 128 ∷ 97 ∷ 249 ∷ []) ((span 0 2) ∷ (span 2 3) ∷ (span 3 4) ∷ (span 4 5) ∷ (span 5 6) ∷ (span 6 7) ∷ (span 7 8) ∷ (span 8 9) ∷ (span 9 10) ∷ (span 10 11) ∷ [])

-- rust: find_iter both (\xE0\xA0\x80(?<a.1>)) \xE0\xA0\x80\xEF\xBF\xBD\xE0\xA0\x80
abbrev pub Row63 : Type 0
Row63 = FindsAll (parted ((128, 2047) ∷ (2048, 2048) ∷ (2049, 55295) ∷ (57344, 1114111) ∷ []) (ask (40 ∷ 224 ∷ 160 ∷ 128 ∷ 40 ∷ 63 ∷ 60 ∷ 97 ∷ 46 ∷ 49 ∷ 62 ∷ 41 ∷ 41 ∷ []) [])) (224 ∷ 160 ∷ 128 ∷ 239 ∷ 191 ∷ 189 ∷ 224 ∷ 160 ∷ 128 ∷ []) ((span 0 3) ∷ (span 6 9) ∷ [])

-- rust: find_iter both \xE0\xA0\x80. \xE0\xA0\x80\xE0\xA0\x80\x00
abbrev pub Row64 : Type 0
Row64 = FindsAll (parted ((128, 2047) ∷ (2048, 2048) ∷ (2049, 55295) ∷ (57344, 1114111) ∷ []) (ask (224 ∷ 160 ∷ 128 ∷ 46 ∷ []) [])) (224 ∷ 160 ∷ 128 ∷ 224 ∷ 160 ∷ 128 ∷ 0 ∷ []) ((span 0 6) ∷ [])

-- rust: find_iter both \xED\x9F\xBF\\a\xEF\xBF\xBF|\xF4\x8F\xBF\xBF \x7F\xF4\x8F\xBF\xBF\x7F
abbrev pub Row65 : Type 0
Row65 = FindsAll (parted ((128, 55294) ∷ (55295, 55295) ∷ (57344, 65534) ∷ (65535, 65535) ∷ (65536, 1114110) ∷ (1114111, 1114111) ∷ []) (ask (237 ∷ 159 ∷ 191 ∷ 92 ∷ 97 ∷ 239 ∷ 191 ∷ 191 ∷ 124 ∷ 244 ∷ 143 ∷ 191 ∷ 191 ∷ []) [])) (127 ∷ 244 ∷ 143 ∷ 191 ∷ 191 ∷ 127 ∷ []) ((span 1 5) ∷ [])

-- rust: find_iter both \xC2\x80??[\x7F\\\\-`h-z](?-u:|) \xC2\x80\x7F\xC2\x80\x7F\xC2\x80_\xDF\xBF\xF4\x8F\xBF\xBF
abbrev pub Row66 : Type 0
Row66 = FindsAll (parted ((128, 128) ∷ (129, 55295) ∷ (57344, 1114111) ∷ []) (ask (194 ∷ 128 ∷ 63 ∷ 63 ∷ 91 ∷ 127 ∷ 92 ∷ 92 ∷ 45 ∷ 96 ∷ 104 ∷ 45 ∷ 122 ∷ 93 ∷ 40 ∷ 63 ∷ 45 ∷ 117 ∷ 58 ∷ 124 ∷ 41 ∷ []) [])) (194 ∷ 128 ∷ 127 ∷ 194 ∷ 128 ∷ 127 ∷ 194 ∷ 128 ∷ 95 ∷ 223 ∷ 191 ∷ 244 ∷ 143 ∷ 191 ∷ 191 ∷ []) ((span 0 3) ∷ (span 3 6) ∷ (span 6 9) ∷ [])

-- rust: captures_iter both \xE2\x98\x83
abbrev pub Row67 : Type 0
Row67 = FindsAllGroups (ask [] []) (226 ∷ 152 ∷ 131 ∷ []) (((Some (span 0 0)) ∷ []) ∷ ((Some (span 3 3)) ∷ []) ∷ [])

-- rust: captures_iter both a\xE2\x98\x83
abbrev pub Row68 : Type 0
Row68 = FindsAllGroups (ask [] []) (97 ∷ 226 ∷ 152 ∷ 131 ∷ []) (((Some (span 0 0)) ∷ []) ∷ ((Some (span 1 1)) ∷ []) ∷ ((Some (span 4 4)) ∷ []) ∷ [])

-- rust: captures_iter bytes \xE2\x98\xF0
abbrev pub Row69 : Type 0
Row69 = FindsAllGroups (ask [] []) (226 ∷ 152 ∷ 240 ∷ []) (((Some (span 0 0)) ∷ []) ∷ ((Some (span 2 2)) ∷ []) ∷ ((Some (span 3 3)) ∷ []) ∷ [])

-- rust: captures_iter both a* baac
abbrev pub Row70 : Type 0
Row70 = FindsAllGroups (ask (codes "a*") []) (codes "baac") (((Some (span 0 0)) ∷ []) ∷ ((Some (span 1 3)) ∷ []) ∷ ((Some (span 4 4)) ∷ []) ∷ [])

-- rust: captures_iter both |a a
abbrev pub Row71 : Type 0
Row71 = FindsAllGroups (ask (codes "|a") []) (codes "a") (((Some (span 0 0)) ∷ []) ∷ ((Some (span 1 1)) ∷ []) ∷ [])

-- rust: captures_iter both (?mR)$ a\x0D\x0Ab
abbrev pub Row72 : Type 0
Row72 = FindsAllGroups (ask (codes "(?mR)$") []) (97 ∷ 13 ∷ 10 ∷ 98 ∷ []) (((Some (span 1 1)) ∷ []) ∷ ((Some (span 4 4)) ∷ []) ∷ [])

-- rust: captures_iter both (?mR)^ a\x0D\x0Ab
abbrev pub Row73 : Type 0
Row73 = FindsAllGroups (ask (codes "(?mR)^") []) (97 ∷ 13 ∷ 10 ∷ 98 ∷ []) (((Some (span 0 0)) ∷ []) ∷ ((Some (span 3 3)) ∷ []) ∷ [])

-- rust: captures_iter bytes . \xE2\x98\xF0
abbrev pub Row74 : Type 0
Row74 = FindsAllGroups (ask (codes ".") []) (226 ∷ 152 ∷ 240 ∷ []) (((Some (span 0 2)) ∷ []) ∷ ((Some (span 2 3)) ∷ []) ∷ [])

-- rust: captures_iter bytes . \xFF
abbrev pub Row75 : Type 0
Row75 = FindsAllGroups (ask (codes ".") []) (255 ∷ []) (((Some (span 0 1)) ∷ []) ∷ [])

-- rust: captures_iter bytes \\u{FFFD} \xED\xA0\x80
abbrev pub Row76 : Type 0
Row76 = FindsAllGroups (parted ((128, 55295) ∷ (57344, 65532) ∷ (65533, 65533) ∷ (65534, 1114111) ∷ []) (ask (codes "\\u{FFFD}") [])) (237 ∷ 160 ∷ 128 ∷ []) (((Some (span 0 1)) ∷ []) ∷ ((Some (span 1 2)) ∷ []) ∷ ((Some (span 2 3)) ∷ []) ∷ [])

-- rust: captures_iter both (a)|(b) ab
abbrev pub Row77 : Type 0
Row77 = FindsAllGroups (ask (codes "(a)|(b)") []) (codes "ab") (((Some (span 0 1)) ∷ (Some (span 0 1)) ∷ None ∷ []) ∷ ((Some (span 1 2)) ∷ None ∷ (Some (span 1 2)) ∷ []) ∷ [])

-- rust: captures_iter both (\\d{4})-(\\d{2})-(\\d{2}) \x0AOn 2010-03-14, foo happened. On 2014-10-14, bar happened.\x0A
abbrev pub Row78 : Type 0
Row78 = FindsAllGroups (ask (codes "(\\d{4})-(\\d{2})-(\\d{2})") []) (10 ∷ 79 ∷ 110 ∷ 32 ∷ 50 ∷ 48 ∷ 49 ∷ 48 ∷ 45 ∷ 48 ∷ 51 ∷ 45 ∷ 49 ∷ 52 ∷ 44 ∷ 32 ∷ 102 ∷ 111 ∷ 111 ∷ 32 ∷ 104 ∷ 97 ∷ 112 ∷ 112 ∷ 101 ∷ 110 ∷ 101 ∷ 100 ∷ 46 ∷ 32 ∷ 79 ∷ 110 ∷ 32 ∷ 50 ∷ 48 ∷ 49 ∷ 52 ∷ 45 ∷ 49 ∷ 48 ∷ 45 ∷ 49 ∷ 52 ∷ 44 ∷ 32 ∷ 98 ∷ 97 ∷ 114 ∷ 32 ∷ 104 ∷ 97 ∷ 112 ∷ 112 ∷ 101 ∷ 110 ∷ 101 ∷ 100 ∷ 46 ∷ 10 ∷ []) (((Some (span 4 14)) ∷ (Some (span 4 8)) ∷ (Some (span 9 11)) ∷ (Some (span 12 14)) ∷ []) ∷ ((Some (span 33 43)) ∷ (Some (span 33 37)) ∷ (Some (span 38 40)) ∷ (Some (span 41 43)) ∷ []) ∷ [])

-- hand: captures_iter both L (a|ab)(c)? abcab
abbrev pub Row79 : Type 0
Row79 = FindsAllGroups (longest (ask (codes "(a|ab)(c)?") [])) (codes "abcab") (((Some (span 0 3)) ∷ (Some (span 0 2)) ∷ (Some (span 2 3)) ∷ []) ∷ ((Some (span 3 5)) ∷ (Some (span 3 5)) ∷ None ∷ []) ∷ [])

-- hand: captures_iter both K (a){0}|(b) ab
abbrev pub Row80 : Type 0
Row80 = FindsAllGroups (keeping (ask (codes "(a){0}|(b)") [])) (codes "ab") (((Some (span 0 0)) ∷ None ∷ None ∷ []) ∷ ((Some (span 1 1)) ∷ None ∷ None ∷ []) ∷ ((Some (span 2 2)) ∷ None ∷ None ∷ []) ∷ [])

-- hand: captures_iter both KL (a){0}|(b) ab
abbrev pub Row81 : Type 0
Row81 = FindsAllGroups (longest (keeping (ask (codes "(a){0}|(b)") []))) (codes "ab") (((Some (span 0 0)) ∷ None ∷ None ∷ []) ∷ ((Some (span 1 2)) ∷ None ∷ (Some (span 1 2)) ∷ []) ∷ [])

-- hand: captures_iter both K (?:(a){0}\xC3\xA9|(b)) b\xC3\xA9
abbrev pub Row82 : Type 0
Row82 = FindsAllGroups (keeping (parted ((128, 232) ∷ (233, 233) ∷ (234, 55295) ∷ (57344, 1114111) ∷ []) (ask (40 ∷ 63 ∷ 58 ∷ 40 ∷ 97 ∷ 41 ∷ 123 ∷ 48 ∷ 125 ∷ 195 ∷ 169 ∷ 124 ∷ 40 ∷ 98 ∷ 41 ∷ 41 ∷ []) []))) (98 ∷ 195 ∷ 169 ∷ []) (((Some (span 0 1)) ∷ None ∷ (Some (span 0 1)) ∷ []) ∷ ((Some (span 1 3)) ∷ None ∷ None ∷ []) ∷ [])

-- rust: captures_iter both R a!{4}[[:^graph:]b] a!!!!ba!!!!b
abbrev pub Row83 : Type 0
Row83 = FindsAllGroups (ask (codes "a!{4}[[:^graph:]b]") (codes "R")) (codes "a!!!!ba!!!!b") (((Some (span 0 6)) ∷ []) ∷ ((Some (span 6 12)) ∷ []) ∷ [])

-- rust: captures_iter both aabb
abbrev pub Row84 : Type 0
Row84 = FindsAllGroups (ask [] []) (codes "aabb") (((Some (span 0 0)) ∷ []) ∷ ((Some (span 1 1)) ∷ []) ∷ ((Some (span 2 2)) ∷ []) ∷ ((Some (span 3 3)) ∷ []) ∷ ((Some (span 4 4)) ∷ []) ∷ [])

-- rust: captures_iter both () aab
abbrev pub Row85 : Type 0
Row85 = FindsAllGroups (ask (codes "()") []) (codes "aab") (((Some (span 0 0)) ∷ (Some (span 0 0)) ∷ []) ∷ ((Some (span 1 1)) ∷ (Some (span 1 1)) ∷ []) ∷ ((Some (span 2 2)) ∷ (Some (span 2 2)) ∷ []) ∷ ((Some (span 3 3)) ∷ (Some (span 3 3)) ∷ []) ∷ [])

-- rust: captures_iter both [ \\--5]{0,}\\D*?+{0,1}??()
abbrev pub Row86 : Type 0
Row86 = FindsAllGroups (ask (codes "[ \\--5]{0,}\\D*?+{0,1}??()") []) [] (((Some (span 0 0)) ∷ (Some (span 0 0)) ∷ []) ∷ [])

-- rust: captures_iter both \\b{end} --
abbrev pub Row87 : Type 0
Row87 = FindsAllGroups (ask (codes "\\b{end}") []) (codes "--") []

-- rust: captures_iter both [\\x{002603}\\U00002603]\xE2\x98\x83 \xE2\x98\x83\xE2\x98\x83\xE2\x98\x83\xE2\x98\x83\xE2\x98\x83\xE2\x98\x83
abbrev pub Row88 : Type 0
Row88 = FindsAllGroups (parted ((128, 9730) ∷ (9731, 9731) ∷ (9732, 55295) ∷ (57344, 1114111) ∷ []) (ask (91 ∷ 92 ∷ 120 ∷ 123 ∷ 48 ∷ 48 ∷ 50 ∷ 54 ∷ 48 ∷ 51 ∷ 125 ∷ 92 ∷ 85 ∷ 48 ∷ 48 ∷ 48 ∷ 48 ∷ 50 ∷ 54 ∷ 48 ∷ 51 ∷ 93 ∷ 226 ∷ 152 ∷ 131 ∷ []) [])) (226 ∷ 152 ∷ 131 ∷ 226 ∷ 152 ∷ 131 ∷ 226 ∷ 152 ∷ 131 ∷ 226 ∷ 152 ∷ 131 ∷ 226 ∷ 152 ∷ 131 ∷ 226 ∷ 152 ∷ 131 ∷ []) (((Some (span 0 6)) ∷ []) ∷ ((Some (span 6 12)) ∷ []) ∷ ((Some (span 12 18)) ∷ []) ∷ [])

-- rust: captures_iter both ()
abbrev pub Row89 : Type 0
Row89 = FindsAllGroups (ask (codes "()") []) [] (((Some (span 0 0)) ∷ (Some (span 0 0)) ∷ []) ∷ [])

-- rust: captures_iter both \\< - -
abbrev pub Row90 : Type 0
Row90 = FindsAllGroups (ask (codes "\\<") []) (codes "- -") []

-- rust: captures_iter both \\W
abbrev pub Row91 : Type 0
Row91 = FindsAllGroups (ask (codes "\\W") []) [] []

-- rust: captures_iter both \\b -
abbrev pub Row92 : Type 0
Row92 = FindsAllGroups (ask (codes "\\b") []) (codes "- ") []

-- rust: captures_iter both [0a]a*[[:^blank:]] aaaabbaaaabba
abbrev pub Row93 : Type 0
Row93 = FindsAllGroups (ask (codes "[0a]a*[[:^blank:]]") []) (codes "aaaabbaaaabba") (((Some (span 0 5)) ∷ []) ∷ ((Some (span 6 11)) ∷ []) ∷ [])

-- rust: captures_iter both \\b{start-half}
abbrev pub Row94 : Type 0
Row94 = FindsAllGroups (ask (codes "\\b{start-half}") []) (codes "  ") (((Some (span 0 0)) ∷ []) ∷ ((Some (span 1 1)) ∷ []) ∷ ((Some (span 2 2)) ∷ []) ∷ [])

-- rust: captures_iter both aa bbab
abbrev pub Row95 : Type 0
Row95 = FindsAllGroups (ask (codes "aa") []) (codes "bbab") []

-- rust: captures_iter both |a aba
abbrev pub Row96 : Type 0
Row96 = FindsAllGroups (ask (codes "|a") []) (codes "aba") (((Some (span 0 0)) ∷ []) ∷ ((Some (span 1 1)) ∷ []) ∷ ((Some (span 2 2)) ∷ []) ∷ ((Some (span 3 3)) ∷ []) ∷ [])

-- rust: captures_iter both $ \x0Daa
abbrev pub Row97 : Type 0
Row97 = FindsAllGroups (ask (codes "$") []) (13 ∷ 97 ∷ 97 ∷ []) (((Some (span 3 3)) ∷ []) ∷ [])

-- rust: captures_iter both b{0,2}a$(?:|a)(?:){2,}? aabbaabbaaba
abbrev pub Row98 : Type 0
Row98 = FindsAllGroups (ask (codes "b{0,2}a$(?:|a)(?:){2,}?") []) (codes "aabbaabbaaba") (((Some (span 10 12)) ∷ []) ∷ [])

-- rust: captures_iter both $ \x0A\x0D\x0D
abbrev pub Row99 : Type 0
Row99 = FindsAllGroups (ask (codes "$") []) (10 ∷ 13 ∷ 13 ∷ []) (((Some (span 3 3)) ∷ []) ∷ [])

-- rust: captures_iter both \\b{start-half} _ -
abbrev pub Row100 : Type 0
Row100 = FindsAllGroups (ask (codes "\\b{start-half}") []) (codes "_ -") (((Some (span 0 0)) ∷ []) ∷ ((Some (span 2 2)) ∷ []) ∷ ((Some (span 3 3)) ∷ []) ∷ [])

-- rust: captures_iter both \\b{start-half}a\\b{end-half} -aabaab
abbrev pub Row101 : Type 0
Row101 = FindsAllGroups (ask (codes "\\b{start-half}a\\b{end-half}") []) (codes "-aabaab") []

-- rust: captures_iter both a+ baba
abbrev pub Row102 : Type 0
Row102 = FindsAllGroups (ask (codes "a+") []) (codes "baba") (((Some (span 1 2)) ∷ []) ∷ ((Some (span 3 4)) ∷ []) ∷ [])

-- rust: captures_iter bytes m a|.|.*?\\Ba{2,}* a\xE2bb\xE0\x80\x80\xE2\x98ab
abbrev pub Row103 : Type 0
Row103 = FindsAllGroups (ask (codes "a|.|.*?\\Ba{2,}*") (codes "m")) (97 ∷ 226 ∷ 98 ∷ 98 ∷ 224 ∷ 128 ∷ 128 ∷ 226 ∷ 152 ∷ 97 ∷ 98 ∷ []) (((Some (span 0 1)) ∷ []) ∷ ((Some (span 1 2)) ∷ []) ∷ ((Some (span 2 3)) ∷ []) ∷ ((Some (span 3 4)) ∷ []) ∷ ((Some (span 4 5)) ∷ []) ∷ ((Some (span 5 6)) ∷ []) ∷ ((Some (span 6 7)) ∷ []) ∷ ((Some (span 7 9)) ∷ []) ∷ ((Some (span 9 10)) ∷ []) ∷ ((Some (span 10 11)) ∷ []) ∷ [])

-- rust: captures_iter bytes s \\b{start}|11 11\xED\xA0\xFF\x801\xF1\x80\x801
abbrev pub Row104 : Type 0
Row104 = FindsAllGroups (ask (codes "\\b{start}|11") (codes "s")) (49 ∷ 49 ∷ 237 ∷ 160 ∷ 255 ∷ 128 ∷ 49 ∷ 241 ∷ 128 ∷ 128 ∷ 49 ∷ []) (((Some (span 0 0)) ∷ []) ∷ ((Some (span 6 6)) ∷ []) ∷ ((Some (span 10 10)) ∷ []) ∷ [])

-- rust: captures_iter bytes U aa Zz\xE2\x98aa
abbrev pub Row105 : Type 0
Row105 = FindsAllGroups (ask (codes "aa") (codes "U")) (90 ∷ 122 ∷ 226 ∷ 152 ∷ 97 ∷ 97 ∷ []) (((Some (span 4 6)) ∷ []) ∷ [])

-- rust: captures_iter bytes a|^ aa\xF0\x80\x80\x80\xF4\x90\x80\x80a\xE2\x98
abbrev pub Row106 : Type 0
Row106 = FindsAllGroups (ask (codes "a|^") []) (97 ∷ 97 ∷ 240 ∷ 128 ∷ 128 ∷ 128 ∷ 244 ∷ 144 ∷ 128 ∷ 128 ∷ 97 ∷ 226 ∷ 152 ∷ []) (((Some (span 0 1)) ∷ []) ∷ ((Some (span 1 2)) ∷ []) ∷ ((Some (span 10 11)) ∷ []) ∷ [])

-- rust: captures_iter bytes Z{0,}?a[\\u{61}A-I]+?*? bAZZZaaBaaBa\xED\xA0\x80zZZZaAazk
abbrev pub Row107 : Type 0
Row107 = FindsAllGroups (ask (codes "Z{0,}?a[\\u{61}A-I]+?*?") []) (98 ∷ 65 ∷ 90 ∷ 90 ∷ 90 ∷ 97 ∷ 97 ∷ 66 ∷ 97 ∷ 97 ∷ 66 ∷ 97 ∷ 237 ∷ 160 ∷ 128 ∷ 122 ∷ 90 ∷ 90 ∷ 90 ∷ 97 ∷ 65 ∷ 97 ∷ 122 ∷ 107 ∷ []) (((Some (span 2 6)) ∷ []) ∷ ((Some (span 6 7)) ∷ []) ∷ ((Some (span 8 9)) ∷ []) ∷ ((Some (span 9 10)) ∷ []) ∷ ((Some (span 11 12)) ∷ []) ∷ ((Some (span 16 20)) ∷ []) ∷ ((Some (span 21 22)) ∷ []) ∷ [])

-- rust: captures_iter bytes (?x)\xE2\x80\x8355[^[:blank:]\\d_] \x0A ?? \xF1\xBF\xBF\x80\x805\xE0\x80\x805b
abbrev pub Row108 : Type 0
Row108 = FindsAllGroups (parted ((128, 8194) ∷ (8195, 8195) ∷ (8196, 55295) ∷ (57344, 1114111) ∷ []) (ask (40 ∷ 63 ∷ 120 ∷ 41 ∷ 226 ∷ 128 ∷ 131 ∷ 53 ∷ 53 ∷ 91 ∷ 94 ∷ 91 ∷ 58 ∷ 98 ∷ 108 ∷ 97 ∷ 110 ∷ 107 ∷ 58 ∷ 93 ∷ 92 ∷ 100 ∷ 95 ∷ 93 ∷ 32 ∷ 10 ∷ 32 ∷ 63 ∷ 63 ∷ []) [])) (241 ∷ 191 ∷ 191 ∷ 128 ∷ 128 ∷ 53 ∷ 224 ∷ 128 ∷ 128 ∷ 53 ∷ 98 ∷ []) []

-- rust: captures_iter bytes (?uUm:(?s)k{3}??|[\\&K]|B).?*?{2,}? kkkkkkAKaa\xF1\x80\x80kA\xE0\x80\x80
abbrev pub Row109 : Type 0
Row109 = FindsAllGroups (ask (codes "(?uUm:(?s)k{3}??|[\\&K]|B).?*?{2,}?") []) (107 ∷ 107 ∷ 107 ∷ 107 ∷ 107 ∷ 107 ∷ 65 ∷ 75 ∷ 97 ∷ 97 ∷ 241 ∷ 128 ∷ 128 ∷ 107 ∷ 65 ∷ 224 ∷ 128 ∷ 128 ∷ []) (((Some (span 0 0)) ∷ []) ∷ ((Some (span 1 1)) ∷ []) ∷ ((Some (span 2 2)) ∷ []) ∷ ((Some (span 3 3)) ∷ []) ∷ ((Some (span 4 4)) ∷ []) ∷ ((Some (span 5 5)) ∷ []) ∷ ((Some (span 6 6)) ∷ []) ∷ ((Some (span 7 7)) ∷ []) ∷ ((Some (span 8 8)) ∷ []) ∷ ((Some (span 9 9)) ∷ []) ∷ ((Some (span 10 10)) ∷ []) ∷ ((Some (span 13 13)) ∷ []) ∷ ((Some (span 14 14)) ∷ []) ∷ ((Some (span 15 15)) ∷ []) ∷ ((Some (span 16 16)) ∷ []) ∷ ((Some (span 17 17)) ∷ []) ∷ ((Some (span 18 18)) ∷ []) ∷ [])

-- port: captures_iter bytes im $[4\\x{59}-\\u{5F}] 90\xE24
abbrev pub Row110 : Type 0
Row110 = FindsAllGroups (ask (codes "$[4\\x{59}-\\u{5F}]") (codes "im")) (57 ∷ 48 ∷ 226 ∷ 52 ∷ []) []

-- rust: captures_iter bytes iU ~ \xE2\x98\xE2\xBF\xBFb~~
abbrev pub Row111 : Type 0
Row111 = FindsAllGroups (ask (codes "~") (codes "iU")) (226 ∷ 152 ∷ 226 ∷ 191 ∷ 191 ∷ 98 ∷ 126 ∷ 126 ∷ []) (((Some (span 6 7)) ∷ []) ∷ ((Some (span 7 8)) ∷ []) ∷ [])

-- rust: captures_iter bytes \\u{FFFD}+ \xFE\xFF\xED\xA0\x80
abbrev pub Row112 : Type 0
Row112 = FindsAllGroups (parted ((128, 55295) ∷ (57344, 65532) ∷ (65533, 65533) ∷ (65534, 1114111) ∷ []) (ask (codes "\\u{FFFD}+") [])) (254 ∷ 255 ∷ 237 ∷ 160 ∷ 128 ∷ []) (((Some (span 0 5)) ∷ []) ∷ [])

-- rust: captures_iter bytes \\x41(?x)a #b\x0A c \xC3Aac
abbrev pub Row113 : Type 0
Row113 = FindsAllGroups (ask (92 ∷ 120 ∷ 52 ∷ 49 ∷ 40 ∷ 63 ∷ 120 ∷ 41 ∷ 97 ∷ 32 ∷ 35 ∷ 98 ∷ 10 ∷ 32 ∷ 99 ∷ []) []) (195 ∷ 65 ∷ 97 ∷ 99 ∷ []) (((Some (span 1 4)) ∷ []) ∷ [])

-- rust: captures_iter bytes [[:^alnum:]\xE0\xA0\x80a-\xE0\xA0\x80]\xE2\x98\x83*(?R:^|) a\xC3\xA9\xC3\xA9\xE0\xA0\xE2\x80\xF0\x9D\x92\xB3\xF0\x9D\x92\xB3\xE2\x98\x83\xE2\x98\x83\xE2\x98\x83a\xC3\xA9\xE0\xA0\x80\xE2\x98\x83\xFE\xFF\xE2\x98\x83\xE2\x98\x83
abbrev pub Row114 : Type 0
Row114 = FindsAllGroups (parted ((128, 2047) ∷ (2048, 2048) ∷ (2049, 9730) ∷ (9731, 9731) ∷ (9732, 55295) ∷ (57344, 1114111) ∷ []) (ask (91 ∷ 91 ∷ 58 ∷ 94 ∷ 97 ∷ 108 ∷ 110 ∷ 117 ∷ 109 ∷ 58 ∷ 93 ∷ 224 ∷ 160 ∷ 128 ∷ 97 ∷ 45 ∷ 224 ∷ 160 ∷ 128 ∷ 93 ∷ 226 ∷ 152 ∷ 131 ∷ 42 ∷ 40 ∷ 63 ∷ 82 ∷ 58 ∷ 94 ∷ 124 ∷ 41 ∷ []) [])) (97 ∷ 195 ∷ 169 ∷ 195 ∷ 169 ∷ 224 ∷ 160 ∷ 226 ∷ 128 ∷ 240 ∷ 157 ∷ 146 ∷ 179 ∷ 240 ∷ 157 ∷ 146 ∷ 179 ∷ 226 ∷ 152 ∷ 131 ∷ 226 ∷ 152 ∷ 131 ∷ 226 ∷ 152 ∷ 131 ∷ 97 ∷ 195 ∷ 169 ∷ 224 ∷ 160 ∷ 128 ∷ 226 ∷ 152 ∷ 131 ∷ 254 ∷ 255 ∷ 226 ∷ 152 ∷ 131 ∷ 226 ∷ 152 ∷ 131 ∷ []) (((Some (span 0 1)) ∷ []) ∷ ((Some (span 1 3)) ∷ []) ∷ ((Some (span 3 5)) ∷ []) ∷ ((Some (span 5 7)) ∷ []) ∷ ((Some (span 7 9)) ∷ []) ∷ ((Some (span 9 13)) ∷ []) ∷ ((Some (span 13 26)) ∷ []) ∷ ((Some (span 26 27)) ∷ []) ∷ ((Some (span 27 29)) ∷ []) ∷ ((Some (span 29 35)) ∷ []) ∷ ((Some (span 35 36)) ∷ []) ∷ ((Some (span 36 43)) ∷ []) ∷ [])

-- rust: captures_iter bytes |a{2}{2}?(?:|a)ba{0,2}*| a\xFE\xFF
abbrev pub Row115 : Type 0
Row115 = FindsAllGroups (ask (codes "|a{2}{2}?(?:|a)ba{0,2}*|") []) (97 ∷ 254 ∷ 255 ∷ []) (((Some (span 0 0)) ∷ []) ∷ ((Some (span 1 1)) ∷ []) ∷ ((Some (span 2 2)) ∷ []) ∷ ((Some (span 3 3)) ∷ []) ∷ [])

-- rust: captures_iter bytes _ \xF1\x80\x80\xE2_.\xE2\x98_a
abbrev pub Row116 : Type 0
Row116 = FindsAllGroups (ask (codes "_") []) (241 ∷ 128 ∷ 128 ∷ 226 ∷ 95 ∷ 46 ∷ 226 ∷ 152 ∷ 95 ∷ 97 ∷ []) (((Some (span 4 5)) ∷ []) ∷ ((Some (span 8 9)) ∷ []) ∷ [])

-- port: captures_iter both (?x)[+-#b\x0A]] -]
abbrev pub Row117 : Type 0
Row117 = FindsAllGroups (ask (40 ∷ 63 ∷ 120 ∷ 41 ∷ 91 ∷ 43 ∷ 45 ∷ 35 ∷ 98 ∷ 10 ∷ 93 ∷ 93 ∷ []) []) (codes "-]") (((Some (span 0 2)) ∷ []) ∷ [])

-- port: captures_iter both (?i)[Z-a] z
abbrev pub Row118 : Type 0
Row118 = FindsAllGroups (ask (codes "(?i)[Z-a]") []) (codes "z") (((Some (span 0 1)) ∷ []) ∷ [])

-- port: captures_iter both (?x)[a - # wat\x0A ] <$,#-
abbrev pub Row119 : Type 0
Row119 = FindsAllGroups (ask (40 ∷ 63 ∷ 120 ∷ 41 ∷ 91 ∷ 97 ∷ 32 ∷ 45 ∷ 32 ∷ 35 ∷ 32 ∷ 119 ∷ 97 ∷ 116 ∷ 10 ∷ 32 ∷ 93 ∷ []) []) (codes "<$,#-") (((Some (span 4 5)) ∷ []) ∷ [])

-- port: captures_iter both (?i)[\\x61-\\x7A] 5
abbrev pub Row120 : Type 0
Row120 = FindsAllGroups (ask (codes "(?i)[\\x61-\\x7A]") []) (codes "5") []

-- port: captures_iter both (?x)[a-#]\x0Ac] AZaaba
abbrev pub Row121 : Type 0
Row121 = FindsAllGroups (ask (40 ∷ 63 ∷ 120 ∷ 41 ∷ 91 ∷ 97 ∷ 45 ∷ 35 ∷ 93 ∷ 10 ∷ 99 ∷ 93 ∷ []) []) (codes "AZaaba") (((Some (span 2 3)) ∷ []) ∷ ((Some (span 3 4)) ∷ []) ∷ ((Some (span 4 5)) ∷ []) ∷ ((Some (span 5 6)) ∷ []) ∷ [])

-- port: captures_iter both (?x)[a-#]\x0Ac] bb_.b5b
abbrev pub Row122 : Type 0
Row122 = FindsAllGroups (ask (40 ∷ 63 ∷ 120 ∷ 41 ∷ 91 ∷ 97 ∷ 45 ∷ 35 ∷ 93 ∷ 10 ∷ 99 ∷ 93 ∷ []) []) (codes "bb_.b5b") (((Some (span 0 1)) ∷ []) ∷ ((Some (span 1 2)) ∷ []) ∷ ((Some (span 4 5)) ∷ []) ∷ ((Some (span 6 7)) ∷ []) ∷ [])

-- port: captures_iter both (?x)[a-#c\x0A]] a]
abbrev pub Row123 : Type 0
Row123 = FindsAllGroups (ask (40 ∷ 63 ∷ 120 ∷ 41 ∷ 91 ∷ 97 ∷ 45 ∷ 35 ∷ 99 ∷ 10 ∷ 93 ∷ 93 ∷ []) []) (codes "a]") (((Some (span 0 2)) ∷ []) ∷ [])

-- port: captures_iter both (?i)[\\u{61}-z] 5a
abbrev pub Row124 : Type 0
Row124 = FindsAllGroups (ask (codes "(?i)[\\u{61}-z]") []) (codes "5a  ") (((Some (span 1 2)) ∷ []) ∷ [])

-- rust: captures_iter bytes m (?P<\xC3\xA9>\\A)a \xF0\x9D\x92\xB3a\xC0\x80\xF0\xE1\x80a\x9D\x92\xB3\xE0\xA0\x80aa\xE0\xA0\x80\xE0\xA0\x80
abbrev pub Row125 : Type 0
Row125 = FindsAllGroups (parted ((128, 232) ∷ (233, 233) ∷ (234, 55295) ∷ (57344, 1114111) ∷ []) (ask (40 ∷ 63 ∷ 80 ∷ 60 ∷ 195 ∷ 169 ∷ 62 ∷ 92 ∷ 65 ∷ 41 ∷ 97 ∷ []) (codes "m"))) (240 ∷ 157 ∷ 146 ∷ 179 ∷ 97 ∷ 192 ∷ 128 ∷ 240 ∷ 225 ∷ 128 ∷ 97 ∷ 157 ∷ 146 ∷ 179 ∷ 224 ∷ 160 ∷ 128 ∷ 97 ∷ 97 ∷ 224 ∷ 160 ∷ 128 ∷ 224 ∷ 160 ∷ 128 ∷ []) []

-- rust: captures_iter both sx [[:alnum:]\xE0\xA0\x80H-N](a)(?i:)
abbrev pub Row126 : Type 0
Row126 = FindsAllGroups (parted ((128, 2047) ∷ (2048, 2048) ∷ (2049, 55295) ∷ (57344, 1114111) ∷ []) (ask (91 ∷ 91 ∷ 58 ∷ 97 ∷ 108 ∷ 110 ∷ 117 ∷ 109 ∷ 58 ∷ 93 ∷ 224 ∷ 160 ∷ 128 ∷ 72 ∷ 45 ∷ 78 ∷ 93 ∷ 40 ∷ 97 ∷ 41 ∷ 40 ∷ 63 ∷ 105 ∷ 58 ∷ 41 ∷ []) (codes "sx"))) [] []

-- rust: captures_iter both s \\A\\s \x0Aa\x0Aa\x0D\x0D\x0D\x0A
abbrev pub Row127 : Type 0
Row127 = FindsAllGroups (ask (codes "\\A\\s") (codes "s")) (10 ∷ 97 ∷ 10 ∷ 97 ∷ 13 ∷ 13 ∷ 13 ∷ 10 ∷ []) (((Some (span 0 1)) ∷ []) ∷ [])

-- rust: captures_iter both mR \\>|\\S
abbrev pub Row128 : Type 0
Row128 = FindsAllGroups (ask (codes "\\>|\\S") (codes "mR")) [] []

-- rust: captures_iter bytes i \\u{61}{3}a aaa\xC0\x80aaaaaaaaaaaa\xEF\xBF
abbrev pub Row129 : Type 0
Row129 = FindsAllGroups (ask (codes "\\u{61}{3}a") (codes "i")) (97 ∷ 97 ∷ 97 ∷ 192 ∷ 128 ∷ 97 ∷ 97 ∷ 97 ∷ 97 ∷ 97 ∷ 97 ∷ 97 ∷ 97 ∷ 97 ∷ 97 ∷ 97 ∷ 97 ∷ 239 ∷ 191 ∷ []) (((Some (span 5 9)) ∷ []) ∷ ((Some (span 9 13)) ∷ []) ∷ ((Some (span 13 17)) ∷ []) ∷ [])

-- rust: captures_iter bytes UR ^{4,6}?\\>b?*.||.b \xFE\xF0\x9F\xFF
abbrev pub Row130 : Type 0
Row130 = FindsAllGroups (ask (codes "^{4,6}?\\>b?*.||.b") (codes "UR")) (254 ∷ 240 ∷ 159 ∷ 255 ∷ []) (((Some (span 0 0)) ∷ []) ∷ ((Some (span 1 1)) ∷ []) ∷ ((Some (span 3 3)) ∷ []) ∷ ((Some (span 4 4)) ∷ []) ∷ [])

-- rust: captures_iter both U [M-R_-`]*\\{ {
abbrev pub Row131 : Type 0
Row131 = FindsAllGroups (ask (codes "[M-R_-`]*\\{") (codes "U")) (codes "{") (((Some (span 0 1)) ∷ []) ∷ [])

-- rust: captures_iter both mR (.\x0D\x0A)\x0D\x0A[^\x0A]? \x0D\x0Ab\x0D
abbrev pub Row132 : Type 0
Row132 = FindsAllGroups (ask (40 ∷ 46 ∷ 13 ∷ 10 ∷ 41 ∷ 13 ∷ 10 ∷ 91 ∷ 94 ∷ 10 ∷ 93 ∷ 63 ∷ []) (codes "mR")) (13 ∷ 10 ∷ 98 ∷ 13 ∷ []) []

-- rust: captures_iter both U \\S*|.|(?m:.(?s)(?m-i:b|(?:z)\\b{end-half}+)+) bbz
abbrev pub Row133 : Type 0
Row133 = FindsAllGroups (ask (codes "\\S*|.|(?m:.(?s)(?m-i:b|(?:z)\\b{end-half}+)+)") (codes "U")) (codes "bbz") (((Some (span 0 0)) ∷ []) ∷ ((Some (span 1 1)) ∷ []) ∷ ((Some (span 2 2)) ∷ []) ∷ ((Some (span 3 3)) ∷ []) ∷ [])

-- rust: captures_iter both R (?:\\b{start-half}*|BB)bz.|\\<(?RiU)+ BBbzabBBzkb
abbrev pub Row134 : Type 0
Row134 = FindsAllGroups (ask (codes "(?:\\b{start-half}*|BB)bz.|\\<(?RiU)+") (codes "R")) (codes "BBbzabBBzkb") (((Some (span 0 5)) ∷ []) ∷ [])

-- rust: captures_iter both x a{1 0#c\x0A} aaaaaaaaaaa
abbrev pub Row135 : Type 0
Row135 = FindsAllGroups (ask (97 ∷ 123 ∷ 49 ∷ 32 ∷ 48 ∷ 35 ∷ 99 ∷ 10 ∷ 125 ∷ []) (codes "x")) (codes "aaaaaaaaaaa") (((Some (span 0 10)) ∷ []) ∷ [])

-- rust: captures_iter bytes im \\s*|\xC3\xA9a| \xEF\xBF\xBF\xBF
abbrev pub Row136 : Type 0
Row136 = FindsAllGroups (parted ((128, 232) ∷ (233, 233) ∷ (234, 55295) ∷ (57344, 1114111) ∷ []) (ask (92 ∷ 115 ∷ 42 ∷ 124 ∷ 195 ∷ 169 ∷ 97 ∷ 124 ∷ []) (codes "im"))) (239 ∷ 191 ∷ 191 ∷ 191 ∷ []) (((Some (span 0 0)) ∷ []) ∷ ((Some (span 3 3)) ∷ []) ∷ ((Some (span 4 4)) ∷ []) ∷ [])

-- rust: captures_iter both sU (?:a)(?i:a(?-i)b)c zbBkAab
abbrev pub Row137 : Type 0
Row137 = FindsAllGroups (ask (codes "(?:a)(?i:a(?-i)b)c") (codes "sU")) (codes "zbBkAab") []

-- rust: captures_iter bytes \xC0\x80\xEF\xBF\xF0\x9F\x92\xF1\x80\x80\xC6
abbrev pub Row138 : Type 0
Row138 = FindsAllGroups (ask [] []) (192 ∷ 128 ∷ 239 ∷ 191 ∷ 240 ∷ 159 ∷ 146 ∷ 241 ∷ 128 ∷ 128 ∷ 198 ∷ []) (((Some (span 0 0)) ∷ []) ∷ ((Some (span 1 1)) ∷ []) ∷ ((Some (span 2 2)) ∷ []) ∷ ((Some (span 4 4)) ∷ []) ∷ ((Some (span 7 7)) ∷ []) ∷ ((Some (span 10 10)) ∷ []) ∷ ((Some (span 11 11)) ∷ []) ∷ [])

-- rust: captures_iter bytes \\u{FFFD} \x80\xBF\xBF\xE1\x80a
abbrev pub Row139 : Type 0
Row139 = FindsAllGroups (parted ((128, 55295) ∷ (57344, 65532) ∷ (65533, 65533) ∷ (65534, 1114111) ∷ []) (ask (codes "\\u{FFFD}") [])) (128 ∷ 191 ∷ 191 ∷ 225 ∷ 128 ∷ 97 ∷ []) (((Some (span 0 1)) ∷ []) ∷ ((Some (span 1 2)) ∷ []) ∷ ((Some (span 2 3)) ∷ []) ∷ ((Some (span 3 5)) ∷ []) ∷ [])

-- rust: captures_iter bytes (?s). \xE0\x80\x80\xF5\xF0\x9D\x92\xB3\xC0\x80
abbrev pub Row140 : Type 0
Row140 = FindsAllGroups (ask (codes "(?s).") []) (224 ∷ 128 ∷ 128 ∷ 245 ∷ 240 ∷ 157 ∷ 146 ∷ 179 ∷ 192 ∷ 128 ∷ []) (((Some (span 0 1)) ∷ []) ∷ ((Some (span 1 2)) ∷ []) ∷ ((Some (span 2 3)) ∷ []) ∷ ((Some (span 3 4)) ∷ []) ∷ ((Some (span 4 8)) ∷ []) ∷ ((Some (span 8 9)) ∷ []) ∷ ((Some (span 9 10)) ∷ []) ∷ [])

-- rust: captures_iter bytes \xC0\x80
abbrev pub Row141 : Type 0
Row141 = FindsAllGroups (ask [] []) (192 ∷ 128 ∷ []) (((Some (span 0 0)) ∷ []) ∷ ((Some (span 1 1)) ∷ []) ∷ ((Some (span 2 2)) ∷ []) ∷ [])

-- rust: captures_iter bytes .{2} \xF0\x9F\x0A
abbrev pub Row142 : Type 0
Row142 = FindsAllGroups (ask (codes ".{2}") []) (240 ∷ 159 ∷ 10 ∷ []) []

-- rust: captures_iter bytes . a\xED\xA0\x80\xF0\x9F\x92
abbrev pub Row143 : Type 0
Row143 = FindsAllGroups (ask (codes ".") []) (97 ∷ 237 ∷ 160 ∷ 128 ∷ 240 ∷ 159 ∷ 146 ∷ []) (((Some (span 0 1)) ∷ []) ∷ ((Some (span 1 2)) ∷ []) ∷ ((Some (span 2 3)) ∷ []) ∷ ((Some (span 3 4)) ∷ []) ∷ ((Some (span 4 7)) ∷ []) ∷ [])

-- rust: captures_iter both (?R)\\s|\xC3\xA9.?? \xE0\xA0\x80\xE0\xA0\x80\xEF\xBF\xBD\x0D
abbrev pub Row144 : Type 0
Row144 = FindsAllGroups (parted ((128, 232) ∷ (233, 233) ∷ (234, 55295) ∷ (57344, 1114111) ∷ []) (ask (40 ∷ 63 ∷ 82 ∷ 41 ∷ 92 ∷ 115 ∷ 124 ∷ 195 ∷ 169 ∷ 46 ∷ 63 ∷ 63 ∷ []) [])) (224 ∷ 160 ∷ 128 ∷ 224 ∷ 160 ∷ 128 ∷ 239 ∷ 191 ∷ 189 ∷ 13 ∷ []) (((Some (span 9 10)) ∷ []) ∷ [])

-- rust: captures_iter both [\\u{D7FF}\\u{E000}] \xED\x9F\xBF\xEE\x80\x80\xEE\x80\x80
abbrev pub Row145 : Type 0
Row145 = FindsAllGroups (parted ((128, 55294) ∷ (55295, 55295) ∷ (57344, 57344) ∷ (57345, 1114111) ∷ []) (ask (codes "[\\u{D7FF}\\u{E000}]") [])) (237 ∷ 159 ∷ 191 ∷ 238 ∷ 128 ∷ 128 ∷ 238 ∷ 128 ∷ 128 ∷ []) (((Some (span 0 3)) ∷ []) ∷ ((Some (span 3 6)) ∷ []) ∷ ((Some (span 6 9)) ∷ []) ∷ [])

-- rust: captures_iter both \xF0\x90\x80\x80\xE0\xA0\x80
abbrev pub Row146 : Type 0
Row146 = FindsAllGroups (ask [] []) (240 ∷ 144 ∷ 128 ∷ 128 ∷ 224 ∷ 160 ∷ 128 ∷ []) (((Some (span 0 0)) ∷ []) ∷ ((Some (span 4 4)) ∷ []) ∷ ((Some (span 7 7)) ∷ []) ∷ [])

-- rust: captures_iter both [\\u{D7FF}\\u{E000}] <]:.\xED\x9F\xBF\xED\x9F\xBF
abbrev pub Row147 : Type 0
Row147 = FindsAllGroups (parted ((128, 55294) ∷ (55295, 55295) ∷ (57344, 57344) ∷ (57345, 1114111) ∷ []) (ask (codes "[\\u{D7FF}\\u{E000}]") [])) (60 ∷ 93 ∷ 58 ∷ 46 ∷ 237 ∷ 159 ∷ 191 ∷ 237 ∷ 159 ∷ 191 ∷ []) (((Some (span 4 7)) ∷ []) ∷ ((Some (span 7 10)) ∷ []) ∷ [])

-- rust: captures_iter both [\\u{D7FF}\\u{E000}] ak\xED\x9F\xBF\xEE\x80\x80az
abbrev pub Row148 : Type 0
Row148 = FindsAllGroups (parted ((128, 55294) ∷ (55295, 55295) ∷ (57344, 57344) ∷ (57345, 1114111) ∷ []) (ask (codes "[\\u{D7FF}\\u{E000}]") [])) (97 ∷ 107 ∷ 237 ∷ 159 ∷ 191 ∷ 238 ∷ 128 ∷ 128 ∷ 97 ∷ 122 ∷ []) (((Some (span 2 5)) ∷ []) ∷ ((Some (span 5 8)) ∷ []) ∷ [])

-- rust: captures_iter both a[\\u{D7FF}\\u{E000}] a\xED\x9F\xBFaabaa\xEE\x80\x80
abbrev pub Row149 : Type 0
Row149 = FindsAllGroups (parted ((128, 55294) ∷ (55295, 55295) ∷ (57344, 57344) ∷ (57345, 1114111) ∷ []) (ask (codes "a[\\u{D7FF}\\u{E000}]") [])) (97 ∷ 237 ∷ 159 ∷ 191 ∷ 97 ∷ 97 ∷ 98 ∷ 97 ∷ 97 ∷ 238 ∷ 128 ∷ 128 ∷ []) (((Some (span 0 4)) ∷ []) ∷ ((Some (span 8 12)) ∷ []) ∷ [])

-- rust: captures_iter both \x00\xF0\x90\x80\x80 \x00\xF0\x90\x80\x80
abbrev pub Row150 : Type 0
Row150 = FindsAllGroups (parted ((128, 55295) ∷ (57344, 65535) ∷ (65536, 65536) ∷ (65537, 1114111) ∷ []) (ask (0 ∷ 240 ∷ 144 ∷ 128 ∷ 128 ∷ []) [])) (0 ∷ 240 ∷ 144 ∷ 128 ∷ 128 ∷ []) (((Some (span 0 5)) ∷ []) ∷ [])

-- rust: captures_iter both \xC2\x80??[\x7F\\\\-`h-z](?-u:|) \xC2\x80\x7F
abbrev pub Row151 : Type 0
Row151 = FindsAllGroups (parted ((128, 128) ∷ (129, 55295) ∷ (57344, 1114111) ∷ []) (ask (194 ∷ 128 ∷ 63 ∷ 63 ∷ 91 ∷ 127 ∷ 92 ∷ 92 ∷ 45 ∷ 96 ∷ 104 ∷ 45 ∷ 122 ∷ 93 ∷ 40 ∷ 63 ∷ 45 ∷ 117 ∷ 58 ∷ 124 ∷ 41 ∷ []) [])) (194 ∷ 128 ∷ 127 ∷ []) (((Some (span 0 3)) ∷ []) ∷ [])

-- rust: captures_iter bytes \xC2\x80??[\x7F\\\\-`h-z](?-u:|) \xF0\x9F\x92\xDF\xBF\xDF\xBF\x7F\xE0\xA0\x80\xF5\xC2\x80\xE0\x80\x80\x7F`
abbrev pub Row152 : Type 0
Row152 = FindsAllGroups (parted ((128, 128) ∷ (129, 55295) ∷ (57344, 1114111) ∷ []) (ask (194 ∷ 128 ∷ 63 ∷ 63 ∷ 91 ∷ 127 ∷ 92 ∷ 92 ∷ 45 ∷ 96 ∷ 104 ∷ 45 ∷ 122 ∷ 93 ∷ 40 ∷ 63 ∷ 45 ∷ 117 ∷ 58 ∷ 124 ∷ 41 ∷ []) [])) (240 ∷ 159 ∷ 146 ∷ 223 ∷ 191 ∷ 223 ∷ 191 ∷ 127 ∷ 224 ∷ 160 ∷ 128 ∷ 245 ∷ 194 ∷ 128 ∷ 224 ∷ 128 ∷ 128 ∷ 127 ∷ 96 ∷ []) (((Some (span 7 8)) ∷ []) ∷ ((Some (span 17 18)) ∷ []) ∷ ((Some (span 18 19)) ∷ []) ∷ [])

-- rust: captures_iter both R \\B|[\\U0000004D-O\\D]\xEF\xBF\xBF\\b{1,3}\\: \xC2\x80\xEF\xBF\xBF:
abbrev pub Row153 : Type 0
Row153 = FindsAllGroups (parted ((128, 55295) ∷ (57344, 65534) ∷ (65535, 65535) ∷ (65536, 1114111) ∷ []) (ask (92 ∷ 66 ∷ 124 ∷ 91 ∷ 92 ∷ 85 ∷ 48 ∷ 48 ∷ 48 ∷ 48 ∷ 48 ∷ 48 ∷ 52 ∷ 68 ∷ 45 ∷ 79 ∷ 92 ∷ 68 ∷ 93 ∷ 239 ∷ 191 ∷ 191 ∷ 92 ∷ 98 ∷ 123 ∷ 49 ∷ 44 ∷ 51 ∷ 125 ∷ 92 ∷ 58 ∷ []) (codes "R"))) (194 ∷ 128 ∷ 239 ∷ 191 ∷ 191 ∷ 58 ∷ []) (((Some (span 0 0)) ∷ []) ∷ ((Some (span 2 2)) ∷ []) ∷ ((Some (span 5 5)) ∷ []) ∷ ((Some (span 6 6)) ∷ []) ∷ [])

-- rust: split both , a,b,c
abbrev pub Row154 : Type 0
Row154 = Splits (ask (codes ",") []) (codes "a,b,c") ((span 0 1) ∷ (span 2 3) ∷ (span 4 5) ∷ [])

-- rust: split both ab
abbrev pub Row155 : Type 0
Row155 = Splits (ask [] []) (codes "ab") ((span 0 0) ∷ (span 0 1) ∷ (span 1 2) ∷ (span 2 2) ∷ [])

-- rust: split both ,
abbrev pub Row156 : Type 0
Row156 = Splits (ask (codes ",") []) [] ((span 0 0) ∷ [])

-- rust: split both
abbrev pub Row157 : Type 0
Row157 = Splits (ask [] []) [] ((span 0 0) ∷ (span 0 0) ∷ [])

-- rust: split both , a,b
abbrev pub Row158 : Type 0
Row158 = Splits (ask (codes ",") []) (codes "a,b") ((span 0 1) ∷ (span 2 3) ∷ [])

-- rust: split both x ab
abbrev pub Row159 : Type 0
Row159 = Splits (ask (codes "x") []) (codes "ab") ((span 0 2) ∷ [])

-- hand: split both L a|ab|abc abcxab
abbrev pub Row160 : Type 0
Row160 = Splits (longest (ask (codes "a|ab|abc") [])) (codes "abcxab") ((span 0 0) ∷ (span 3 4) ∷ (span 6 6) ∷ [])

-- rust: split bytes \\W \xF5
abbrev pub Row161 : Type 0
Row161 = Splits (ask (codes "\\W") []) (245 ∷ []) ((span 0 0) ∷ (span 1 1) ∷ [])

-- rust: split both m \\n(^) \x0A\x0A\x0D\x0A\x0D
abbrev pub Row162 : Type 0
Row162 = Splits (ask (codes "\\n(^)") (codes "m")) (10 ∷ 10 ∷ 13 ∷ 10 ∷ 13 ∷ []) ((span 0 0) ∷ (span 1 1) ∷ (span 2 3) ∷ (span 4 5) ∷ [])

-- rust: split both a??.*b*?|\\sb((b{3,4}\\~\\z)(?<\xC3\xA9>\\ba(?-x:[a]b)|b+)b)
abbrev pub Row163 : Type 0
Row163 = Splits (parted ((128, 232) ∷ (233, 233) ∷ (234, 55295) ∷ (57344, 1114111) ∷ []) (ask (97 ∷ 63 ∷ 63 ∷ 46 ∷ 42 ∷ 98 ∷ 42 ∷ 63 ∷ 124 ∷ 92 ∷ 115 ∷ 98 ∷ 40 ∷ 40 ∷ 98 ∷ 123 ∷ 51 ∷ 44 ∷ 52 ∷ 125 ∷ 92 ∷ 126 ∷ 92 ∷ 122 ∷ 41 ∷ 40 ∷ 63 ∷ 60 ∷ 195 ∷ 169 ∷ 62 ∷ 92 ∷ 98 ∷ 97 ∷ 40 ∷ 63 ∷ 45 ∷ 120 ∷ 58 ∷ 91 ∷ 97 ∷ 93 ∷ 98 ∷ 41 ∷ 124 ∷ 98 ∷ 43 ∷ 41 ∷ 98 ∷ 41 ∷ []) [])) [] ((span 0 0) ∷ (span 0 0) ∷ [])

-- rust: split both (?x)\\s\x0A*\xE0\xA0\x80?{3,4}(#c\x0A?s-U){4}\\u{e9}??{1}* # note\x0A *?|()+\x09|
abbrev pub Row164 : Type 0
Row164 = Splits (parted ((128, 232) ∷ (233, 233) ∷ (234, 2047) ∷ (2048, 2048) ∷ (2049, 55295) ∷ (57344, 1114111) ∷ []) (ask (40 ∷ 63 ∷ 120 ∷ 41 ∷ 92 ∷ 115 ∷ 10 ∷ 42 ∷ 224 ∷ 160 ∷ 128 ∷ 63 ∷ 123 ∷ 51 ∷ 44 ∷ 52 ∷ 125 ∷ 40 ∷ 35 ∷ 99 ∷ 10 ∷ 63 ∷ 115 ∷ 45 ∷ 85 ∷ 41 ∷ 123 ∷ 52 ∷ 125 ∷ 92 ∷ 117 ∷ 123 ∷ 101 ∷ 57 ∷ 125 ∷ 63 ∷ 63 ∷ 123 ∷ 49 ∷ 125 ∷ 42 ∷ 32 ∷ 35 ∷ 32 ∷ 110 ∷ 111 ∷ 116 ∷ 101 ∷ 10 ∷ 32 ∷ 42 ∷ 63 ∷ 124 ∷ 40 ∷ 41 ∷ 43 ∷ 9 ∷ 124 ∷ []) [])) [] ((span 0 0) ∷ (span 0 0) ∷ [])

-- rust: split both i [\\x41u-z](?u)b*? zkaba
abbrev pub Row165 : Type 0
Row165 = Splits (ask (codes "[\\x41u-z](?u)b*?") (codes "i")) (codes "zkaba") ((span 0 0) ∷ (span 1 2) ∷ (span 3 4) ∷ (span 5 5) ∷ [])

-- rust: split both b*?a ba
abbrev pub Row166 : Type 0
Row166 = Splits (ask (codes "b*?a") []) (codes "ba") ((span 0 0) ∷ (span 2 2) ∷ [])

-- rust: split bytes (\x00[\\s\xE0\xA0\x80](?<x>\xEE\x80\x80?(?Ru:\xF0\x90\x80\x80|\xDF\xBF))) \x7F\x00 \xEE\x80\x80\xDF\xBF\xF0\xEF\xBF\x90\x80\x80\xED\x9F\xBF
abbrev pub Row167 : Type 0
Row167 = Splits (parted ((128, 2046) ∷ (2047, 2047) ∷ (2048, 2048) ∷ (2049, 55295) ∷ (57344, 57344) ∷ (57345, 65535) ∷ (65536, 65536) ∷ (65537, 1114111) ∷ []) (ask (40 ∷ 0 ∷ 91 ∷ 92 ∷ 115 ∷ 224 ∷ 160 ∷ 128 ∷ 93 ∷ 40 ∷ 63 ∷ 60 ∷ 120 ∷ 62 ∷ 238 ∷ 128 ∷ 128 ∷ 63 ∷ 40 ∷ 63 ∷ 82 ∷ 117 ∷ 58 ∷ 240 ∷ 144 ∷ 128 ∷ 128 ∷ 124 ∷ 223 ∷ 191 ∷ 41 ∷ 41 ∷ 41 ∷ []) [])) (127 ∷ 0 ∷ 32 ∷ 238 ∷ 128 ∷ 128 ∷ 223 ∷ 191 ∷ 240 ∷ 239 ∷ 191 ∷ 144 ∷ 128 ∷ 128 ∷ 237 ∷ 159 ∷ 191 ∷ []) ((span 0 1) ∷ (span 8 17) ∷ [])

-- rust: split both [b\\[-a]+a+ aaab
abbrev pub Row168 : Type 0
Row168 = Splits (ask (codes "[b\\[-a]+a+") []) (codes "aaab") ((span 0 0) ∷ (span 3 4) ∷ [])

-- rust: split both \xF4\x8F\xBF\xBF \xED\x9F\xBF\xF0\x90\x80\x80\xEE\x80\x80
abbrev pub Row169 : Type 0
Row169 = Splits (parted ((128, 55295) ∷ (57344, 1114110) ∷ (1114111, 1114111) ∷ []) (ask (244 ∷ 143 ∷ 191 ∷ 191 ∷ []) [])) (237 ∷ 159 ∷ 191 ∷ 240 ∷ 144 ∷ 128 ∷ 128 ∷ 238 ∷ 128 ∷ 128 ∷ []) ((span 0 10) ∷ [])

-- rust: splitn both , a,b,c 0
abbrev pub Row170 : Type 0
Row170 = SplitsUpTo (ask (codes ",") []) (codes "a,b,c") 0 []

-- rust: splitn both , a,b,c 1
abbrev pub Row171 : Type 0
Row171 = SplitsUpTo (ask (codes ",") []) (codes "a,b,c") 1 ((span 0 5) ∷ [])

-- rust: splitn both , a,b,c 2
abbrev pub Row172 : Type 0
Row172 = SplitsUpTo (ask (codes ",") []) (codes "a,b,c") 2 ((span 0 1) ∷ (span 2 5) ∷ [])

-- rust: splitn both , a,b,c 3
abbrev pub Row173 : Type 0
Row173 = SplitsUpTo (ask (codes ",") []) (codes "a,b,c") 3 ((span 0 1) ∷ (span 2 3) ∷ (span 4 5) ∷ [])

-- rust: splitn both , a,b,c 5
abbrev pub Row174 : Type 0
Row174 = SplitsUpTo (ask (codes ",") []) (codes "a,b,c") 5 ((span 0 1) ∷ (span 2 3) ∷ (span 4 5) ∷ [])

-- rust: splitn both ab 2
abbrev pub Row175 : Type 0
Row175 = SplitsUpTo (ask [] []) (codes "ab") 2 ((span 0 0) ∷ (span 0 2) ∷ [])

-- hand: splitn both L a|ab xaby 2
abbrev pub Row176 : Type 0
Row176 = SplitsUpTo (longest (ask (codes "a|ab") [])) (codes "xaby") 2 ((span 0 1) ∷ (span 3 4) ∷ [])

-- rust: splitn both b(?s-R:\\[|)| b[  5
abbrev pub Row177 : Type 0
Row177 = SplitsUpTo (ask (codes "b(?s-R:\\[|)|") []) (codes "b[ ") 5 ((span 0 0) ∷ (span 2 3) ∷ (span 3 3) ∷ [])

-- rust: splitn both \\b{start}* \xE0\xA0\x80 2
abbrev pub Row178 : Type 0
Row178 = SplitsUpTo (ask (codes "\\b{start}*") []) (224 ∷ 160 ∷ 128 ∷ []) 2 ((span 0 0) ∷ (span 0 3) ∷ [])

-- rust: splitn both a++b aaaaabaaaaaaaaaaaab 2
abbrev pub Row179 : Type 0
Row179 = SplitsUpTo (ask (codes "a++b") []) (codes "aaaaabaaaaaaaaaaaab") 2 ((span 0 0) ∷ (span 6 19) ∷ [])

-- rust: splitn bytes m (?-sR:[^_-\\u0060]$|) \x0D\xFE\xFF\xC3\x0A 5
abbrev pub Row180 : Type 0
Row180 = SplitsUpTo (ask (codes "(?-sR:[^_-\\u0060]$|)") (codes "m")) (13 ∷ 254 ∷ 255 ∷ 195 ∷ 10 ∷ []) 5 ((span 0 0) ∷ (span 0 1) ∷ (span 1 2) ∷ (span 2 3) ∷ (span 4 5) ∷ [])

-- rust: splitn both \\Sb KbZ 0
abbrev pub Row181 : Type 0
Row181 = SplitsUpTo (ask (codes "\\Sb") []) (codes "KbZ") 0 []

-- rust: splitn both UR (?x)(\\S{ # note\x0A 0,}\xC2\x85?\xE0\xA0\x80# - ]\x0A??[\xE0\xA0\x80])#c\x0A\xEE\x80\x80 2
abbrev pub Row182 : Type 0
Row182 = SplitsUpTo (parted ((128, 132) ∷ (133, 133) ∷ (134, 2047) ∷ (2048, 2048) ∷ (2049, 55295) ∷ (57344, 57344) ∷ (57345, 1114111) ∷ []) (ask (40 ∷ 63 ∷ 120 ∷ 41 ∷ 40 ∷ 92 ∷ 83 ∷ 123 ∷ 32 ∷ 35 ∷ 32 ∷ 110 ∷ 111 ∷ 116 ∷ 101 ∷ 10 ∷ 32 ∷ 48 ∷ 44 ∷ 125 ∷ 194 ∷ 133 ∷ 63 ∷ 224 ∷ 160 ∷ 128 ∷ 35 ∷ 32 ∷ 45 ∷ 32 ∷ 93 ∷ 10 ∷ 63 ∷ 63 ∷ 91 ∷ 224 ∷ 160 ∷ 128 ∷ 93 ∷ 41 ∷ 35 ∷ 99 ∷ 10 ∷ 238 ∷ 128 ∷ 128 ∷ []) (codes "UR"))) [] 2 ((span 0 0) ∷ [])

-- all of these
abbrev pub Iterations : Type 0
Iterations = Row1 × Row2 × Row3 × Row4 × Row5 × Row6 × Row7 × Row8 × Row9 × Row10 × Row11 × Row12 × Row13 × Row14 × Row15 × Row16 × Row17 × Row18 × Row19 × Row20 × Row21 × Row22 × Row23 × Row24 × Row25 × Row26 × Row27 × Row28 × Row29 × Row30 × Row31 × Row32 × Row33 × Row34 × Row35 × Row36 × Row37 × Row38 × Row39 × Row40 × Row41 × Row42 × Row43 × Row44 × Row45 × Row46 × Row47 × Row48 × Row49 × Row50 × Row51 × Row52 × Row53 × Row54 × Row55 × Row56 × Row57 × Row58 × Row59 × Row60 × Row61 × Row62 × Row63 × Row64 × Row65 × Row66 × Row67 × Row68 × Row69 × Row70 × Row71 × Row72 × Row73 × Row74 × Row75 × Row76 × Row77 × Row78 × Row79 × Row80 × Row81 × Row82 × Row83 × Row84 × Row85 × Row86 × Row87 × Row88 × Row89 × Row90 × Row91 × Row92 × Row93 × Row94 × Row95 × Row96 × Row97 × Row98 × Row99 × Row100 × Row101 × Row102 × Row103 × Row104 × Row105 × Row106 × Row107 × Row108 × Row109 × Row110 × Row111 × Row112 × Row113 × Row114 × Row115 × Row116 × Row117 × Row118 × Row119 × Row120 × Row121 × Row122 × Row123 × Row124 × Row125 × Row126 × Row127 × Row128 × Row129 × Row130 × Row131 × Row132 × Row133 × Row134 × Row135 × Row136 × Row137 × Row138 × Row139 × Row140 × Row141 × Row142 × Row143 × Row144 × Row145 × Row146 × Row147 × Row148 × Row149 × Row150 × Row151 × Row152 × Row153 × Row154 × Row155 × Row156 × Row157 × Row158 × Row159 × Row160 × Row161 × Row162 × Row163 × Row164 × Row165 × Row166 × Row167 × Row168 × Row169 × Row170 × Row171 × Row172 × Row173 × Row174 × Row175 × Row176 × Row177 × Row178 × Row179 × Row180 × Row181 × Row182
