-- Each text that the reader comes to is a rest of the text that it began with.
use Rattle.std.proofs.Common.{arith, ◌≡◌, ℕ, zero, suc, Bool, true, false, ◌||◌, ◌==◌, List, [], ◌∷◌, ◌++◌, length, drop, refl, ap, subst, ◌∙◌, ⊎_elim, Option, Some, None, Result, Ok, Err}
use Rattle.std.proofs.lemmas.Grind.{common_steps}
use Rattle.std.specs.Prelude.{nat_lt, nat_le, not, codes, ◌+◌, if◌then◌else◌}
use Rattle.std.specs.Char.{is_whitespace, is_ascii_digit}
use Rattle.bites_spec.specs.Bracket.{is_set_operator}
use Rattle.bites_spec.specs.Group.{Opening, is_flag_mark, begins_look_around, ends_with_dash, is_name_front, is_used}
use Rattle.std.proofs.lemmas.Bool.{cases_Bool}
use Rattle.bites_spec.specs.Class.{Set, NamedClass, class_name, named_classes, members, single, between, union, complement, is_scalar}
use Rattle.bites_spec.specs.Message.{Message, look_around, invalid_name, repeated_negation, duplicate_flag, unrecognized_flag, backreference, unicode_class, brace_hex_invalid, fixed_hex_invalid}
use Rattle.bites_spec.specs.OperatorFault.{greatest_number}
use Rattle.bites_spec.specs.Pattern.{Text, Flags, Front, colon, right_angle, skip, skip_blank, skip_white, hash, line_feed, number, begins, one_of, backslash, dash, left_bracket, right_bracket, left_brace, right_brace, comma}
use Rattle.bites_spec.specs.Escape.{Meaning, character, characters, assertion, is_hex_digit, is_boundary_letter}
use Rattle.bites_spec.specs.Reader.{ReadResult, Stop, and_then, answer, choose, stop, are_crossed, each, decimal, decimal_by, lazy, Bounds, whole_count, after_max, after_comma, after_min, counted, exactly, between_digits, scalar, in_braces, hexadecimal, boundary_name, braced, boundary, simple_by, escape, Members, named, class_end, alone, range, after_dash, after_first, set_operator_message, member, class_members, finished, after_bracket, after_dashes, dashes, after_caret, bracket, Opened, group, flags_end, flags_from, name_end, name_from, with_number, named_group, no_name, opened, directive, ReadChoice, Reader, and_found, at_closing, at_operator, at_opened, at_item, behind_group, repeat_last, inner, read}
use Rattle.bites_spec.specs.Reader as reader
use Rattle.bites_spec.specs.Range.{Range}
use Rattle.bites_spec.specs.Tree.{Tree, alternation_of}
use Rattle.bites_spec.specs.Grammar.{at_front}

-- a text is what follows some text at the start of t
abbrev pub Behind : Text → Text → Type 0
Behind t rest = (before : Text) × (t ≡ before ++ rest)

pub same : {t : Text} → Behind t t
same {t} = ([], refl)

pub more : {c : ℕ} {t u : Text} → Behind t u → Behind (c ∷ t) u
more {c = c} b = (c ∷ b.0, ap (λ x. c ∷ x) b.1)

joined : (a b c : Text) → a ++ (b ++ c) ≡ (a ++ b) ++ c
joined [] b c = refl
joined (x ∷ a) b c = ap (λ t. x ∷ t) (joined a b c)

pub further : {t u v : Text} → Behind t u → Behind u v → Behind t v
further {t} {u} {v} a b = (a.0 ++ b.0, a.1 ∙ ap (λ x. a.0 ++ x) b.1 ∙ joined a.0 b.0 v)

pub at_end : (t : Text) → Behind t []
at_end [] = same
at_end (c ∷ t) = more (at_end t)

-- the reader ends with a rest of t, or stops at one
abbrev pub EndsBehind : {A : Type 0} → Text → ReadResult A → Type 0
EndsBehind t (Ok x) = Behind t x.1
EndsBehind t (Err s) = Behind t s.place

pub later : {A : Type 0} {t u : Text} (a : ReadResult A) → Behind t u → EndsBehind u a → EndsBehind t a
later (Ok x) b e = further b e
later (Err s) b e = further b e

pub goes : {A B : Type 0} (t : Text) (a : ReadResult A) (f : A → Text → ReadResult B) → EndsBehind t a → ((x : A) (rest : Text) → EndsBehind rest (f x rest)) →
    EndsBehind t (and_then a f)
goes t (Ok x) f e on = later (f x.0 x.1) e (on x.0 x.1)
goes t (Err s) f e on = e

skip_blank_behind : (inside : Bool) (t : Text) → Behind t (skip_blank inside t)
unfolding skip_blank
skip_blank_behind inside [] = same
skip_blank_behind inside (c ∷ t) =
    ⊎_elim (λ b. rw b (more (skip_blank_behind (if inside then not (c == line_feed) else c == hash) t))) (λ b. rw b same)
    (cases_Bool (inside || is_whitespace c || (c == hash)))

pub skip_behind : (flags : Flags) (t : Text) → Behind t (skip flags t)
skip_behind flags t = ⊎_elim (λ b. rw b (skip_blank_behind false t)) (λ b. rw b same) (cases_Bool flags.ignore_whitespace)

pub skip_white_behind : (t : Text) → Behind t (skip_white t)
unfolding skip_white
skip_white_behind [] = same
skip_white_behind (c ∷ t) = ⊎_elim (λ b. rw b (more (skip_white_behind t))) (λ b. rw b same) (cases_Bool (is_whitespace c))

pub each_behind : (n : ℕ) (flags : Flags) (set : Set) (t : Text) → Behind t (each n flags set t).1
each_behind zero flags set t = same
each_behind (suc n) flags set [] = same
each_behind (suc n) flags set (c ∷ t) =
    ⊎_elim (λ b. rw b (more (further (skip_behind flags t) (each_behind n flags set (skip flags t))))) (λ b. rw b same) (cases_Bool (set c))

pub lazy_behind : (t : Text) → Behind t (lazy t).1
lazy_behind [] = same
lazy_behind (c ∷ t) = ⊎_elim (λ b. rw b (more same)) (λ b. rw b same) (cases_Bool (c == 63))

decimal_by_behind : (n : ℕ) (flags : Flags) (at digits behind t : Text) → Behind t at → Behind t behind → EndsBehind t (decimal_by n flags at digits behind)
decimal_by_behind n flags at [] behind t a b = a
decimal_by_behind n flags at (d ∷ digits) behind t a b =
    let ends = further b (each_behind n flags is_whitespace behind) in
    ⊎_elim (λ e. rw e ends) (λ e. rw e ends) (cases_Bool (nat_lt greatest_number (number 10 (d ∷ digits))))

pub decimal_behind : (n : ℕ) (flags : Flags) (t : Text) → EndsBehind t (decimal n flags t)
decimal_behind n flags t =
    let white = skip_white_behind t in
    decimal_by_behind n flags (skip_white t) (each n flags is_ascii_digit (skip_white t)).0 (each n flags is_ascii_digit (skip_white t)).1 t white (further white (each_behind n flags is_ascii_digit (skip_white t)))

whole_count_behind : (flags : Flags) (min : ℕ) (max : Option ℕ) (t : Text) → EndsBehind t (whole_count flags min max (lazy (skip flags t)))
whole_count_behind flags min max t =
    let b = further (skip_behind flags t) (lazy_behind (skip flags t)) in ⊎_elim (λ e. rw e b) (λ e. rw e b) (cases_Bool (are_crossed min max))

after_max_behind : (flags : Flags) (min max : ℕ) (t : Text) → EndsBehind t (after_max flags min max t)
after_max_behind flags min max [] = same
after_max_behind flags min max (c ∷ t) =
    let whole = later (whole_count flags min (Some max) (lazy (skip flags t))) (more {c = c} same) (whole_count_behind flags min (Some max) t) in
    ⊎_elim (λ e. rw e whole) (λ e. rw e same) (cases_Bool (c == right_brace))

after_comma_behind : (n : ℕ) (flags : Flags) (min : ℕ) (t : Text) → EndsBehind t (after_comma n flags min t)
after_comma_behind n flags min [] = same
after_comma_behind n flags min (c ∷ t) =
    let whole = later (whole_count flags min None (lazy (skip flags t))) (more {c = c} same) (whole_count_behind flags min None t) in
    let second = goes (c ∷ t) (decimal n flags (c ∷ t)) (after_max flags min) (decimal_behind n flags (c ∷ t)) (after_max_behind flags min) in
    ⊎_elim (λ e. rw e whole) (λ e. rw e second) (cases_Bool (c == right_brace))

after_min_behind : (n : ℕ) (flags : Flags) (min : ℕ) (t : Text) → EndsBehind t (after_min n flags min t)
after_min_behind n flags min [] = same
after_min_behind n flags min (c ∷ t) =
    let whole = later (whole_count flags min (Some min) (lazy (skip flags t))) (more {c = c} same) (whole_count_behind flags min (Some min) t) in
    let second = later (after_comma n flags min (skip flags t)) (more {c = c} (skip_behind flags t)) (after_comma_behind n flags min (skip flags t)) in
    ⊎_elim (λ e. rw e whole) (λ e. rw e (⊎_elim (λ f. rw f second) (λ f. rw f same) (cases_Bool (c == comma)))) (cases_Bool (c == right_brace))

pub counted_behind : (n : ℕ) (flags : Flags) (t : Text) → EndsBehind t (counted n flags t)
counted_behind n flags [] = same
counted_behind n flags (c ∷ t) = goes (c ∷ t) (decimal n flags (c ∷ t)) (after_min n flags) (decimal_behind n flags (c ∷ t)) (after_min_behind n flags)

scalar_behind : (m : Message) (digits t u : Text) → Behind u t → EndsBehind u (scalar m digits t)
scalar_behind m digits t u b = ⊎_elim (λ e. rw e b) (λ e. rw e b) (cases_Bool (is_scalar (number 16 digits)))

in_braces_behind : (digits t : Text) → EndsBehind t (in_braces digits t)
in_braces_behind digits [] = same
in_braces_behind [] (c ∷ t) = ⊎_elim (λ e. rw e same) (λ e. rw e same) (cases_Bool (c == right_brace))
in_braces_behind (d ∷ digits) (c ∷ t) =
    let closed = scalar_behind brace_hex_invalid (d ∷ digits) t (c ∷ t) (more same) in ⊎_elim (λ e. rw e closed) (λ e. rw e same) (cases_Bool (c == right_brace))

between_behind : (k : ℕ) (flags : Flags) (t : Text) → Behind t (between_digits k flags t)
between_behind zero flags t = same
between_behind (suc k) flags t = skip_behind flags t

exactly_behind : (k : ℕ) (flags : Flags) (t : Text) → EndsBehind t (exactly k flags t)
exactly_behind zero flags t = same
exactly_behind (suc k) flags [] = same
exactly_behind (suc k) flags (c ∷ t) =
    let rest = between_digits k flags t in
    let digits = later (and_then (exactly k flags rest) (λ digits rest. answer (c ∷ digits) rest)) (more {c = c} (between_behind k flags t))
    (goes rest (exactly k flags rest) (λ digits rest. answer (c ∷ digits) rest) (exactly_behind k flags rest) (λ digits rest. same)) in
    ⊎_elim (λ e. rw e digits) (λ e. rw e same) (cases_Bool (is_hex_digit c))

pub hexadecimal_behind : (n : ℕ) (flags : Flags) (k : ℕ) (t : Text) → EndsBehind t (hexadecimal n flags k t)
hexadecimal_behind n flags k [] = same
hexadecimal_behind n flags k (c ∷ t) =
    let inside = skip flags t in
    let digits = each n flags is_hex_digit inside in
    let braces = later (in_braces digits.0 digits.1) (more {c = c} (further (skip_behind flags t) (each_behind n flags is_hex_digit inside))) (in_braces_behind digits.0 digits.1) in
    let fixed = goes (c ∷ t) (exactly k flags (c ∷ t)) (scalar fixed_hex_invalid) (exactly_behind k flags (c ∷ t)) (λ digits rest. scalar_behind fixed_hex_invalid digits rest rest same) in
    ⊎_elim (λ e. rw e braces) (λ e. rw e fixed) (cases_Bool (c == left_brace))

boundary_name_behind : (name t : Text) → EndsBehind t (boundary_name name t)
boundary_name_behind name [] = same
boundary_name_behind name (c ∷ t) = grind (arith, common_steps, same, cases_Bool, more)

boundary_behind : (n : ℕ) (flags : Flags) (t : Text) → EndsBehind t (boundary n flags t)
boundary_behind n flags [] = same
boundary_behind n flags (c ∷ t) = ⊎_elim (λ e. rw e (by_gap (skip flags t) (more (skip_behind flags t)))) (λ e. rw e same) (cases_Bool (c == left_brace))
  where
    by_gap : (u : Text) → Behind (c ∷ t) u → EndsBehind (c ∷ t) (braced n flags (c ∷ t) u)
    by_gap [] b = b
    by_gap (d ∷ u) b =
        let name = each n flags is_boundary_letter (d ∷ u) in
        let named = later (boundary_name name.0 name.1) (further b (each_behind n flags is_boundary_letter (d ∷ u))) (boundary_name_behind name.0 name.1) in
        ⊎_elim (λ e. rw e named) (λ e. rw e same) (cases_Bool (is_boundary_letter d))

simple_by_behind : (n : ℕ) (flags : Flags) (c : ℕ) (t : Text) (m : Option Meaning) (digits : Option ℕ) → EndsBehind (c ∷ t) (simple_by n flags c t m digits)
simple_by_behind n flags c t (Some m) digits = more same
simple_by_behind n flags c t None (Some k) = grind (arith, common_steps, later, more, skip_behind, goes, hexadecimal_behind)
simple_by_behind n flags c t None None = same

escape_chosen : (u : Text) (x y z : Bool) (word plain : ReadResult Meaning) → EndsBehind u word → EndsBehind u plain →
    EndsBehind u (choose x (λ _. stop backreference u) (λ _. choose y (λ _. stop unicode_class u) (λ _. choose z (λ _. word) (λ _. plain))))
escape_chosen u true y z word plain w p = same
escape_chosen u false true z word plain w p = same
escape_chosen u false false true word plain w p = w
escape_chosen u false false false word plain w p = p

pub escape_behind : (n : ℕ) (flags : Flags) (t : Text) → EndsBehind t (escape n flags t)
escape_behind n flags [] = same
escape_behind n flags (c ∷ t) = grind (arith, common_steps, escape_chosen, later, more, same, boundary_behind, simple_by_behind)

-- members go on behind the text that they begin with
abbrev pub GoesBehind : Members → Type 0
GoesBehind go = (set : Set) (t : Text) → EndsBehind t (go set t)

drop_behind : (n : ℕ) (t : Text) → Behind t (drop n t)
drop_behind zero t = same
drop_behind (suc n) [] = same
drop_behind (suc n) (c ∷ t) = more (drop_behind n t)

named_behind : (go : Members) → GoesBehind go → (set : Set) (at : Text) (names : List NamedClass) → EndsBehind at (named go set at names)
named_behind go on set at [] = same
named_behind go on set at (k ∷ names) =
    let plain = later (go (union set (members k)) (drop (4 + length (class_name k)) at)) (drop_behind (4 + length (class_name k)) at) (on _ _) in
    let negated = later (go (union set (complement (members k))) (drop (5 + length (class_name k)) at)) (drop_behind (5 + length (class_name k)) at) (on _ _) in
    ⊎_elim (λ e. rw e plain) (λ e. rw e (⊎_elim (λ f. rw f negated) (λ f. rw f (named_behind go on set at names)) (cases_Bool (begins (codes "[:^" ++ class_name k ++ codes ":]") at))))
    (cases_Bool (begins (codes "[:" ++ class_name k ++ codes ":]") at))

class_end_behind : (n : ℕ) (flags : Flags) (t : Text) → EndsBehind t (class_end n flags t)
class_end_behind n flags [] = same
class_end_behind n flags (c ∷ t) =
    let escaped = later (escape n flags t) (more {c = c} same) (escape_behind n flags t) in ⊎_elim (λ e. rw e escaped) (λ e. rw e (more same)) (cases_Bool (c == backslash))

alone_behind : (go : Members) → GoesBehind go → (set : Set) (m : Meaning) (at : Text) → EndsBehind at (alone go set m at)
alone_behind go on set (character c) at = on (union set (single c)) at
alone_behind go on set (characters others) at = on (union set others) at
alone_behind go on set (assertion l) at = same

range_behind : (go : Members) → GoesBehind go → (set : Set) (m k : Meaning) (at : Text) → EndsBehind at (range go set m k at)
range_behind go on set (character low) (character high) at =
    ⊎_elim (λ e. rw e (on (union set (between low high)) at)) (λ e. rw e same) (cases_Bool (nat_le low high))
range_behind go on set (character low) (characters others) at = same
range_behind go on set (character low) (assertion l) at = same
range_behind go on set (characters others) k at = same
range_behind go on set (assertion l) k at = same

after_dash_behind : (go : Members) → GoesBehind go → (n : ℕ) (flags : Flags) (set : Set) (m : Meaning) (at t : Text) → Behind at t → EndsBehind at (after_dash go n flags set m at t)
after_dash_behind go on n flags set m at [] b = b
after_dash_behind go on n flags set m at (c ∷ t) b =
    let second = goes (c ∷ t) (class_end n flags (c ∷ t)) (range go set m) (class_end_behind n flags (c ∷ t)) (λ k rest. range_behind go on set m k rest) in
    let further_on = later (and_then (class_end n flags (c ∷ t)) (range go set m)) b second in
    ⊎_elim (λ e. rw e (alone_behind go on set m at)) (λ e. rw e further_on) (cases_Bool (one_of (codes "]-") c))

after_first_behind : (go : Members) → GoesBehind go → (n : ℕ) (flags : Flags) (set : Set) (m : Meaning) (t : Text) → EndsBehind t (after_first go n flags set m t)
after_first_behind go on n flags set m [] = same
after_first_behind go on n flags set m (c ∷ t) = grind (arith, common_steps, after_dash_behind, more, skip_behind, alone_behind)

member_chosen : (u : Text) (x y z : Bool) (m : Message) (closed inside plain : ReadResult Set) → EndsBehind u closed → EndsBehind u inside → EndsBehind u plain →
    EndsBehind u (choose x (λ _. closed) (λ _. choose y (λ _. inside) (λ _. choose z (λ _. stop m u) (λ _. plain))))
member_chosen u true y z m closed inside plain a b c = a
member_chosen u false true z m closed inside plain a b c = b
member_chosen u false false true m closed inside plain a b c = same
member_chosen u false false false m closed inside plain a b c = c

member_behind : (go : Members) → GoesBehind go → (n : ℕ) (flags : Flags) (set : Set) (t : Text) → EndsBehind t (member go n flags set t)
member_behind go on n flags set [] = same
member_behind go on n flags set (c ∷ t) =
    let goes_on = λ (first : Meaning) (rest : Text). after_first go n flags set first (skip flags rest) in
    let plain = goes (c ∷ t) (class_end n flags (c ∷ t)) goes_on (class_end_behind n flags (c ∷ t))
    (λ first rest. later (after_first go n flags set first (skip flags rest)) (skip_behind flags rest) (after_first_behind go on n flags set first (skip flags rest))) in
    member_chosen (c ∷ t) (c == right_bracket) (c == left_bracket) (is_set_operator (c ∷ t)) (set_operator_message c) (answer set t) (named go set (c ∷ t) named_classes)
    (and_then (class_end n flags (c ∷ t)) goes_on) (more same) (named_behind go on set (c ∷ t) named_classes) plain

class_members_behind : (n : ℕ) (flags : Flags) → GoesBehind (class_members n flags)
class_members_behind zero flags set t = at_end t
class_members_behind (suc n) flags set t =
    later (member (class_members n flags) n flags set (skip flags t)) (skip_behind flags t) (member_behind (class_members n flags) (class_members_behind n flags) n flags set (skip flags t))

finished_behind : (flags : Flags) (negated : Bool) (t : Text) (a : ReadResult Set) → EndsBehind t a → EndsBehind t (finished flags negated a)
finished_behind flags negated t (Ok x) e = e
finished_behind flags negated t (Err s) e = e

after_bracket_behind : (n : ℕ) (flags : Flags) (negated : Bool) (t : Text) → EndsBehind t (after_bracket n flags negated t)
after_bracket_behind n flags negated [] = same
after_bracket_behind n flags negated (c ∷ t) = finished_behind flags negated (c ∷ t) _ (class_members_behind n flags (single right_bracket) (c ∷ t))

after_dashes_behind : (n : ℕ) (flags : Flags) (negated : Bool) (d t : Text) → EndsBehind t (after_dashes n flags negated d t)
after_dashes_behind n flags negated [] [] = same
after_dashes_behind n flags negated (d ∷ dashes) [] = same
after_dashes_behind n flags negated (d ∷ dashes) (c ∷ t) = finished_behind flags negated (c ∷ t) _ (class_members_behind n flags (single dash) (c ∷ t))
after_dashes_behind n flags negated [] (c ∷ t) = grind (arith, common_steps, later, more, skip_behind, after_bracket_behind, finished_behind, class_members_behind)

dashes_behind : (n : ℕ) (flags : Flags) (negated : Bool) (t : Text) → EndsBehind t (dashes n flags negated t)
dashes_behind n flags negated t =
    let d = each n flags (single dash) t in later (after_dashes n flags negated d.0 d.1) (each_behind n flags (single dash) t) (after_dashes_behind n flags negated d.0 d.1)

after_caret_behind : (n : ℕ) (flags : Flags) (t : Text) → EndsBehind t (after_caret n flags t)
after_caret_behind n flags [] = same
after_caret_behind n flags (c ∷ t) = dashes_behind n flags true (c ∷ t)

pub bracket_behind : (n : ℕ) (flags : Flags) (t : Text) → EndsBehind t (bracket n flags t)
bracket_behind n flags [] = same
bracket_behind n flags (c ∷ t) = grind (arith, common_steps, later, more, skip_behind, after_caret_behind, dashes_behind)

flags_end_behind : (front : Front) (run : Text) (c : ℕ) (t : Text) → EndsBehind (c ∷ t) (flags_end front run c t)
flags_end_behind front [] c t = ⊎_elim (λ e. rw e (more same)) (λ e. rw e same) (cases_Bool (c == colon))
flags_end_behind front (d ∷ run) c t =
    ⊎_elim (λ e. rw e same) (λ e. rw e (⊎_elim (λ f. rw f (more same)) (λ f. rw f (more same)) (cases_Bool (c == colon)))) (cases_Bool (ends_with_dash (d ∷ run)))

flags_chosen : (u : Text) (x y z : Bool) (m k : Message) (ended further_on : ReadResult Opened) → EndsBehind u ended → EndsBehind u further_on →
    EndsBehind u (choose x (λ _. ended) (λ _. choose y (λ _. choose z (λ _. stop m u) (λ _. further_on)) (λ _. stop k u)))
flags_chosen u true y z m k ended further_on a b = a
flags_chosen u false true true m k ended further_on a b = same
flags_chosen u false true false m k ended further_on a b = b
flags_chosen u false false z m k ended further_on a b = same

flags_from_behind : (front : Front) (run t : Text) → EndsBehind t (flags_from front run t)
flags_from_behind front run [] = same
flags_from_behind front run (c ∷ t) =
    flags_chosen (c ∷ t) (one_of (codes ":)") c) (is_flag_mark c) (one_of run c) (if c == dash then repeated_negation else duplicate_flag) unrecognized_flag
    (flags_end front run c t) (flags_from front (run ++ c ∷ []) t) (flags_end_behind front run c t)
    (later (flags_from front (run ++ c ∷ []) t) (more {c = c} same) (flags_from_behind front (run ++ c ∷ []) t))

name_end_behind : (names : List Text) (name : Text) (c : ℕ) (t : Text) → EndsBehind (c ∷ t) (name_end names name (c ∷ t) t)
name_end_behind names [] c t = same
name_end_behind names (d ∷ name) c t = ⊎_elim (λ e. rw e (more same)) (λ e. rw e (more same)) (cases_Bool (is_used names (d ∷ name)))

name_chosen : {A : Type 0} (u : Text) (x y : Bool) (m : Message) (ended further_on : ReadResult A) → EndsBehind u ended → EndsBehind u further_on →
    EndsBehind u (choose x (λ _. ended) (λ _. choose y (λ _. further_on) (λ _. stop m u)))
name_chosen u true y m ended further_on a b = a
name_chosen u false true m ended further_on a b = b
name_chosen u false false m ended further_on a b = same

name_from_behind : (names : List Text) (name t : Text) → EndsBehind t (name_from names name t)
name_from_behind names name [] = same
name_from_behind names name (c ∷ t) =
    name_chosen (c ∷ t) (c == right_angle) (is_name_front (name ++ c ∷ [])) invalid_name (name_end names name (c ∷ t) t) (name_from names (name ++ c ∷ []) t)
    (name_end_behind names name c t) (later (name_from names (name ++ c ∷ []) t) (more {c = c} same) (name_from_behind names (name ++ c ∷ []) t))

with_number_behind : (front : Front) (t : Text) (a : ReadResult Opened) → EndsBehind t a → EndsBehind t (with_number front t a)
with_number_behind front t a e = ⊎_elim (λ b. rw b same) (λ b. rw b e) (cases_Bool (nat_lt greatest_number (front.groups + 1)))

named_group_behind : (front : Front) (t : Text) → EndsBehind t (named_group front t)
named_group_behind front t = grind (arith, common_steps, with_number_behind, goes, name_from_behind)

no_name_behind : (front : Front) (t : Text) → EndsBehind t (no_name front t)
no_name_behind front [] = with_number_behind front [] _ same
no_name_behind front (c ∷ t) = grind (arith, common_steps, later, more, same, flags_from_behind, with_number_behind)

opened_chosen : (u : Text) (x y z : Bool) (m : Message) (long short plain : ReadResult Opened) → EndsBehind u long → EndsBehind u short → EndsBehind u plain →
    EndsBehind u (choose x (λ _. stop m u) (λ _. choose y (λ _. long) (λ _. choose z (λ _. short) (λ _. plain))))
opened_chosen u true y z m long short plain a b c = same
opened_chosen u false true z m long short plain a b c = a
opened_chosen u false false true m long short plain a b c = b
opened_chosen u false false false m long short plain a b c = c

pub opened_behind : (front : Front) (t : Text) → EndsBehind t (opened front t)
opened_behind front t =
    opened_chosen t (begins_look_around t) (begins (codes "?P<") t) (begins (codes "?<") t) look_around (named_group front (drop 3 t)) (named_group front (drop 2 t)) (no_name front t)
    (later (named_group front (drop 3 t)) (drop_behind 3 t) (named_group_behind front (drop 3 t)))
    (later (named_group front (drop 2 t)) (drop_behind 2 t) (named_group_behind front (drop 2 t))) (no_name_behind front t)

-- the reader finds a choice before a rest of t, or stops at one
abbrev pub FoundBehind : Text → Result ReadChoice Stop → Type 0
FoundBehind t (Ok f) = Behind t f.rest
FoundBehind t (Err s) = Behind t s.place

found_later : {t u : Text} (a : Result ReadChoice Stop) → Behind t u → FoundBehind u a → FoundBehind t a
found_later (Ok f) b e = further b e
found_later (Err s) b e = further b e

found_goes : {A : Type 0} (t : Text) (a : ReadResult A) (f : A → Text → Result ReadChoice Stop) → EndsBehind t a → ((x : A) (rest : Text) → FoundBehind rest (f x rest)) →
    FoundBehind t (and_then a f)
found_goes t (Ok x) f e on = found_later (f x.0 x.1) e (on x.0 x.1)
found_goes t (Err s) f e on = e

-- reading goes on behind the text that it begins with
abbrev pub ReadsBehind : Reader → Type 0
ReadsBehind go = (depth : ℕ) (front : Front) (bs ts : List Tree) (t : Text) → FoundBehind t (go depth front bs ts t)

-- the result for the whole pattern, from the result for its choice
abbrev ended : Result ReadChoice Stop → Result Tree Stop
ended a = elim a [ Ok f ↦ Ok (alternation_of f.branches) | Err s ↦ Err s ]

module _ (list_of : Set → List Range) (nest_limit : ℕ) where
  at_end_behind : (depth : ℕ) (front : Front) (bs ts : List Tree) → FoundBehind [] (reader.at_end list_of nest_limit depth front bs ts)
  at_end_behind zero front bs ts = same
  at_end_behind (suc depth) front bs ts = same

  at_closing_behind : (depth : ℕ) (front : Front) (bs ts : List Tree) (t : Text) → FoundBehind t (at_closing list_of nest_limit depth front bs ts t)
  at_closing_behind zero front bs ts t = same
  at_closing_behind (suc depth) front bs ts t = same

  at_operator_behind : (go : Reader) → ReadsBehind go → (depth : ℕ) (front : Front) (bs ts : List Tree) (m : Message) (at : Text) (a : ReadResult Bounds) → EndsBehind at a →
      FoundBehind at (at_operator list_of nest_limit go depth front bs ts m at a)
  at_operator_behind go on depth front bs [] m at a e = same
  at_operator_behind go on depth front bs (t ∷ ts) m at a e =
      found_goes at a (λ b rest. go depth front bs (repeat_last b t ts) rest) e (λ b rest. on depth front bs (repeat_last b t ts) rest)

  behind_group_behind : (go : Reader) → ReadsBehind go → (depth : ℕ) (front : Front) (bs ts : List Tree) (opening : Opening) (t : Text) (a : Result ReadChoice Stop) → FoundBehind t a →
      FoundBehind t (and_found a (behind_group list_of nest_limit go depth front bs ts opening))
  behind_group_behind go on depth front bs ts opening t (Ok f) e = found_later _ (further e (drop_behind 1 f.rest)) (on depth _ bs _ (drop 1 f.rest))
  behind_group_behind go on depth front bs ts opening t (Err s) e = e

  at_opened_behind : (go : Reader) → ReadsBehind go → (depth : ℕ) (front : Front) (bs ts : List Tree) (o : Opened) (t : Text) → FoundBehind t (at_opened list_of nest_limit go depth front bs ts o t)
  at_opened_behind go on depth front bs ts (directive flags) t = on depth (record front { flags = flags }) bs ts t
  at_opened_behind go on depth front bs ts (group opening inside) t = grind (arith, common_steps, behind_group_behind, same)

  at_item_behind : (go : Reader) → ReadsBehind go → (n depth : ℕ) (front : Front) (bs ts : List Tree) (t : Text) → FoundBehind t (at_item list_of nest_limit go n depth front bs ts t)
  at_item_behind go on n depth front bs ts [] = at_end_behind depth front bs ts
  at_item_behind go on n depth front bs ts (c ∷ t) = grind (arith, common_steps, found_later, more, same, skip_behind, at_operator_behind, lazy_behind, later, counted_behind, found_goes, opened_behind, at_opened_behind, bracket_behind, escape_behind, at_closing_behind)

  inner_behind : (n : ℕ) → ReadsBehind (inner list_of nest_limit n)
  unfolding inner
  inner_behind zero depth front bs ts t = at_end t
  inner_behind (suc n) depth front bs ts t =
      found_later (at_item list_of nest_limit (inner list_of nest_limit n) n depth front bs ts (skip front.flags t)) (skip_behind front.flags t)
      (at_item_behind (inner list_of nest_limit n) (inner_behind n) n depth front bs ts (skip front.flags t))

  whole_behind : (t : Text) (e : Stop) (a : Result ReadChoice Stop) → FoundBehind t a → ended a ≡ Err e → Behind t e.place
  whole_behind t e (Ok f) b is = cc
  whole_behind t e (Err s) b is = let one : s ≡ e = cc in subst (λ (x : Stop). Behind t x.place) one b

  -- the place of a stop is a rest of the pattern
  pub stop_behind : (pattern : Text) (flags : Flags) (e : Stop) → read list_of nest_limit pattern flags ≡ Err e → Behind pattern e.place
  stop_behind pattern flags e is =
      whole_behind pattern e (inner list_of nest_limit (suc (length pattern)) 0 (at_front flags) [] [] pattern) (inner_behind (suc (length pattern)) 0 (at_front flags) [] [] pattern) is
