-- What the reader returns for small patterns: the trees and faults that another model of the grammar gave. More patterns stand as
-- rows in `bites_answers`.
use Rattle.std.proofs.Common.{◌≡◌, ℕ, zero, suc, ◌+◌, ◌-◌, true, false, List, [], ◌∷◌, Option, Some, None, Ok, Err, refl}
use Rattle.std.specs.Prelude.{codes}
use Rattle.std.specs.Char.{encode_utf8}
use Rattle.bites_spec.specs.Message as message
use Rattle.bites_spec.specs.Message.{Message}
use Rattle.bites_spec.specs.Look.{end_crlf, start_crlf, word, word_start_half}
use Rattle.bites_spec.specs.Range.{Range}
use Rattle.bites_spec.specs.Class.{Set}
use Rattle.bites_spec.specs.Tree.{Tree, empty, char, class, look, repetition, group, sequence, alternation, no_tree, tree_and}
use Rattle.bites_spec.specs.Pattern.{Text, Flags, skip_blank, skip_white}
use Rattle.bites_spec.specs.Settings.{no_flags}
use Rattle.bites_spec.specs.Reader.{read, inner}

-- the canonical ranges of a set that contains all characters past ASCII or none of them
abbrev from : ℕ → ℕ → Option ℕ → Set → List Range
from zero c (Some first) set = elim (set 128) [ true ↦ (first, 0x10FFFF) ∷ [] | false ↦ (first, c - 1) ∷ [] ]
from zero c None set = elim (set 128) [ true ↦ (128, 0x10FFFF) ∷ [] | false ↦ [] ]
from (suc n) c (Some first) set = elim (set c) [ true ↦ from n (c + 1) (Some first) set | false ↦ (first, c - 1) ∷ from n (c + 1) None set ]
from (suc n) c None set = elim (set c) [ true ↦ from n (c + 1) (Some c) set | false ↦ from n (c + 1) None set ]

abbrev listed : Set → List Range
listed set = from 128 0 None set

abbrev Reads : ℕ → Flags → Text → Tree → Type 0
Reads nest_limit flags pattern t = read listed nest_limit pattern flags ≡ Ok t

-- reading stops with the message, before this rest of the pattern
abbrev Stops : ℕ → Flags → Text → Message → Text → Type 0
Stops nest_limit flags pattern m rest = read listed nest_limit pattern flags ≡ Err (record { message = m; place = rest })

abbrev spaced : Flags
spaced = record no_flags { ignore_whitespace = true }

trees :
    Reads 50 no_flags (codes "a|b*") (alternation (tree_and (char 97) (tree_and (repetition 0 None true (char 98)) no_tree)))
    × Reads 50 no_flags (codes "(?i)a") (class ((65, 65) ∷ (97, 97) ∷ []))
    × Reads 50 no_flags (codes "a{2,3}?") (repetition 2 (Some 3) false (char 97))
    × Reads 50 no_flags (codes "[a-c]") (class ((97, 99) ∷ []))
    × Reads 50 no_flags (codes "|a") (alternation (tree_and empty (tree_and (char 97) no_tree)))
    × Reads 50 no_flags (codes "(?:a||b)+") (repetition 1 None true (alternation (tree_and (char 97) (tree_and empty (tree_and (char 98) no_tree)))))
    × Reads 50 no_flags (codes "(a){0}(a)") (sequence (tree_and empty (tree_and (group 2 None (char 97)) no_tree)))
    × Reads 50 no_flags (codes "a(?i)*") (repetition 0 None true (char 97))
    × Reads 50 no_flags (codes "(?<_.[]>z)") (group 1 (Some (95 ∷ 46 ∷ 91 ∷ 93 ∷ [])) (char 122))
    × Reads 50 no_flags (codes "\\b{start-half}x") (sequence (tree_and (look word_start_half) (tree_and (char 120) no_tree)))
    × Reads 50 no_flags (codes "\\b{5}") (repetition 5 (Some 5) true (look word))
    × Reads 50 spaced (codes "a{5, }") (repetition 5 None true (char 97))
    × Reads 50 spaced (codes "a{1 0}") (repetition 10 (Some 10) true (char 97))
    × Reads 50 spaced (codes "a{5,9} ?") (repetition 5 (Some 9) false (char 97))
    × Reads 50 spaced (codes "[a- -b]") (class ((45, 98) ∷ []))
    × Reads 50 spaced (codes "[a - # wat\n]") (class ((45, 45) ∷ (97, 97) ∷ []))
    × Reads 50 (record no_flags { case_insensitive = true }) (codes "[\\x61-\\x7A]") (class ((65, 90) ∷ (97, 122) ∷ []))
    × Reads 50 (record no_flags { case_insensitive = true }) (codes "[Y-b]") (class ((65, 66) ∷ (89, 98) ∷ (121, 122) ∷ []))
    × Reads 50 no_flags (codes "[^-a]") (class ((0, 44) ∷ (46, 96) ∷ (98, 1114111) ∷ []))
    × Reads 50 no_flags (codes "[]-a]") (class ((45, 45) ∷ (93, 93) ∷ (97, 97) ∷ []))
    × Reads 50 no_flags (codes "[--a]") (class ((45, 45) ∷ (97, 97) ∷ []))
    × Reads 50 no_flags (codes "\\u{FFFD}") (char 65533)
    × Reads 50 no_flags (codes "a{4294967295}") (repetition 4294967295 (Some 4294967295) true (char 97))
    × Reads 50 no_flags (codes "(?mR)$^") (sequence (tree_and (look end_crlf) (tree_and (look start_crlf) no_tree)))
    × Reads 50 no_flags (codes ".") (class ((0, 9) ∷ (11, 1114111) ∷ []))
    × Reads 50 (record no_flags { dot_matches_new_line = true }) (codes ".") (class ((0, 1114111) ∷ []))
    × Reads 50 (record no_flags { crlf = true }) (codes ".") (class ((0, 9) ∷ (11, 12) ∷ (14, 1114111) ∷ []))
    × Reads 50 no_flags (codes "\\d\\W") (sequence (tree_and (class ((48, 57) ∷ [])) (tree_and (class ((0, 47) ∷ (58, 64) ∷ (91, 94) ∷ (96, 96) ∷ (123, 1114111) ∷ [])) no_tree)))
    × Reads 50 no_flags (codes "(?:(?i)a)b") (sequence (tree_and (class ((65, 65) ∷ (97, 97) ∷ [])) (tree_and (char 98) no_tree)))
    × Reads 50 no_flags (codes "(?x: a # c\n b )c d") (sequence (tree_and (sequence (tree_and (char 97) (tree_and (char 98) no_tree))) (tree_and (char 99) (tree_and (char 32) (tree_and (char 100) no_tree)))))
    × Reads 50 (record no_flags { swap_greed = true }) (codes "a+?b??") (sequence (tree_and (repetition 1 None true (char 97)) (tree_and (repetition 0 (Some 1) true (char 98)) no_tree)))
unfolding inner skip_blank skip_white encode_utf8
trees = (refl, refl, refl, refl, refl, refl, refl, refl, refl, refl, refl, refl, refl, refl, refl, refl, refl, refl, refl, refl, refl, refl, refl, refl, refl, refl, refl, refl, refl, refl, refl)

faults :
    Stops 50 no_flags (codes "(a") message.unclosed_group []
    × Stops 50 no_flags (codes "(?P<_>y)(?P<_>z)") message.duplicate_name (codes "z)")
    × Stops 50 no_flags (codes "[[alnum]]") message.nested_class (codes "[alnum]]")
    × Stops 50 no_flags (codes "[\\b{") message.unfinished_boundary []
    × Stops 50 no_flags (codes "[\\b{foo}]") message.unrecognized_boundary (codes "}]")
    × Stops 50 no_flags (codes "[\\b") message.unclosed_after_member []
    × Stops 50 no_flags (codes "a{1 0}") message.invalid_count (codes "0}")
    × Stops 50 no_flags (codes "[a--]") message.class_difference (codes "--]")
    × Stops 50 no_flags (codes "\\xg1") message.fixed_hex_digit (codes "g1")
    × Stops 50 no_flags (codes "\\U0011") message.fixed_hex_unfinished []
    × Stops 50 no_flags (codes "\\p") message.unicode_class (codes "p")
    × Stops 50 no_flags (codes "\\q") message.unrecognized_escape (codes "q")
    × Stops 50 no_flags (codes "(?<=a)") message.look_around (codes "?<=a)")
    × Stops 50 no_flags (codes "(?<!a)") message.look_around (codes "?<!a)")
    × Stops 50 no_flags (codes "(?<_") message.unclosed_name []
    × Stops 50 no_flags (codes "a{,5}") message.decimal_without_digits (codes ",5}")
    × Stops 50 no_flags (codes "a{5x") message.invalid_count (codes "x")
    × Stops 50 no_flags (codes "a{5,6") message.unclosed_max []
    × Stops 50 no_flags (codes "a{5,6x") message.invalid_count (codes "x")
    × Stops 50 no_flags (codes "a{5") message.unclosed_min []
    × Stops 50 no_flags (codes "{5}") message.nothing_to_count (codes "{5}")
    × Stops 50 no_flags (codes "[-") message.unclosed_after_dash []
    × Stops 50 no_flags (codes "[~~") message.class_symmetric_difference (codes "~~")
    × Stops 50 (record no_flags { swap_greed = true }) (codes "[\\d") message.unclosed_after_member []
unfolding inner skip_blank skip_white encode_utf8
faults = (refl, refl, refl, refl, refl, refl, refl, refl, refl, refl, refl, refl, refl, refl, refl, refl, refl, refl, refl, refl, refl, refl, refl, refl)
