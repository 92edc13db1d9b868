-- Among ASCII characters, a name begins with a letter or `_` and goes on with letters, digits and `_.[]`.
use Rattle.std.proofs.Common.{◌≡◌, ℕ, ◌<◌, ◌||◌, ◌&&◌, not, refl, codes}
use Rattle.std.specs.Prelude.{◌==◌}
use Rattle.std.specs.Bool.{beq}
use Rattle.ucd_table.proofs.Facts.{Stepped-below, same_from_beq}
use Rattle.ucd_table.proofs.Stepped.{zip_stepped}
use Rattle.ucd_category.specs.GeneralCategory.{general_category, general_category_number}
use Rattle.ucd_category.proofs.Computing.{ucd_category}
use Rattle.ucd_category.proofs.GeneralCategoryLemmas.{general_category_stepped}
use Rattle.ucd_derived.specs.Binary.{is_alphabetic}
use Rattle.ucd_derived.proofs.BinaryLemmas.{is_alphabetic_stepped}
use Rattle.ucd_derived.proofs.Computing.{ucd_derived}
use Rattle.bites_spec.specs.Code.{code}
use Rattle.bites_spec.specs.Class.{is_letter, between}
use Rattle.bites_spec.specs.Pattern.{one_of, right_angle}
use Rattle.bites_spec.specs.Group.{is_name_start, is_name_part}
use Rattle.bites_spec.specs.CallerLaws.{NamesAreAscii}

starts : (c : ℕ) → c < 128 → is_name_start c ≡ (is_letter c || (c == code "_"))
unfolding ucd_derived
starts c below =
    same_from_beq _ _ (Stepped-below is_alphabetic is_alphabetic_stepped
    (λ x a. beq ((x == code "_") || (not (x == right_angle) && a)) (is_letter x || (x == code "_"))) 128 refl c below)

parts : (c : ℕ) → c < 128 → is_name_part c ≡ (is_letter c || between (code "0") (code "9") c || one_of (codes "_.[]") c)
unfolding ucd_derived ucd_category
parts c below =
    let steps = zip_stepped (λ a g. a || between 8 10 (general_category_number g)) is_alphabetic general_category is_alphabetic_stepped general_category_stepped in
    same_from_beq _ _ (Stepped-below _ steps
    (λ x v. beq (one_of (codes "_.[]") x || (not (x == right_angle) && v)) (is_letter x || between (code "0") (code "9") x || one_of (codes "_.[]") x))
    128 refl c below)

pub names_are_ascii : NamesAreAscii
names_are_ascii c below = (starts c below, parts c below)
