-- Messages of the same rank are the same.
use Rattle.std.proofs.Common.{◌≡◌, ℕ, ◌-◌, ◌/◌, ◌==◌, List, [], ◌∷◌, get_or, refl, sym, ap, ◌∙◌}
use Rattle.std.specs.Prelude.{if◌then◌else◌}
use Rattle.bites_spec.specs.Message as message
use Rattle.bites_spec.specs.Message.{Message, rank}

abbrev messages : List Message
messages =
    message.too_much_nesting ∷ message.too_many_groups ∷ message.duplicate_name ∷ message.unclosed_group ∷ message.unclosed_question ∷
    message.unopened_group ∷ message.look_around ∷ message.empty_flags ∷ message.missing_name ∷ message.invalid_name ∷ message.unclosed_name ∷
    message.empty_name ∷ message.unrecognized_flag ∷ message.repeated_negation ∷ message.duplicate_flag ∷ message.unclosed_flags ∷
    message.dangling_negation ∷ message.decimal_without_digits ∷ message.invalid_decimal ∷ message.brace_hex_digit ∷ message.brace_hex_unclosed ∷
    message.brace_hex_empty ∷ message.brace_hex_invalid ∷ message.fixed_hex_unfinished ∷ message.fixed_hex_digit ∷ message.fixed_hex_invalid ∷
    message.hex_unfinished ∷ message.escape_unfinished ∷ message.backreference ∷ message.unicode_class ∷ message.unrecognized_escape ∷
    message.nothing_to_repeat ∷ message.nothing_to_count ∷ message.unclosed_count ∷ message.unclosed_min ∷ message.unclosed_comma ∷
    message.unclosed_max ∷ message.invalid_count ∷ message.min_above_max ∷ message.unclosed_after_member ∷ message.range_of_no_character ∷
    message.invalid_class_escape ∷ message.unclosed_after_dash ∷ message.unclosed_after_caret ∷ message.unclosed_after_bracket ∷
    message.invalid_range ∷ message.unclosed_class ∷ message.nested_class ∷ message.class_intersection ∷ message.class_difference ∷
    message.class_symmetric_difference ∷ message.unclosed_boundary ∷ message.unrecognized_boundary ∷ message.unfinished_boundary ∷ []

-- the number of the message with this rank
abbrev number_at : ℕ → ℕ
number_at r =
    if r == 2 then 2 else if r == 70 then 34 else if r == 71 then 36 else r / 4

abbrev message_at : ℕ → Message
message_at r = get_or messages (number_at r - 1) message.too_much_nesting

message_at-rank : (m : Message) → message_at (rank m) ≡ m
message_at-rank message.too_much_nesting = refl
message_at-rank m = refl

-- messages of the same rank are the same
pub rank_once : (m k : Message) → rank m ≡ rank k → m ≡ k
rank_once m k same = sym (message_at-rank m) ∙ ap message_at same ∙ message_at-rank k
