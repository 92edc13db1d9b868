-- Flags: the reader agrees with the grammar's relations.
use Rattle.std.proofs.lemmas.Grind.{common_steps}
use Rattle.std.proofs.Common.{◌≡◌, ℕ, ◌<◌, ◌≤◌, Bool, true, false, not, ◌||◌, ◌==◌, [], ◌∷◌, ◌++◌, length, refl, sym, ap, ◌∙◌, subst, ⊎_elim, arith, eqb-true, true≢false, append-nil, length-append}
use Rattle.std.specs.Prelude.{codes, if◌then◌else◌}
use Rattle.std.specs.List.{list_all}
use Rattle.std.proofs.lemmas.Bool.{eq-eqb, cases_Bool, or_parts, and_parts, not-true}
use Rattle.std.proofs.lemmas.List.Folds.{list_all-append, list_any-append}
use Rattle.bites_spec.specs.Message as message
use Rattle.bites_spec.specs.Message.{Message}
use Rattle.bites_spec.specs.Pattern.{Text, Front, one_of, colon, dash, right_parenthesis}
use Rattle.bites_spec.specs.Group as group
use Rattle.bites_spec.specs.Group.{ReadsFlags, unnumbered, changed, is_flag_letter, is_flag_mark, is_flag_run, are_distinct, ends_with_dash}
use Rattle.bites_spec.specs.GroupFault as stuck
use Rattle.bites_spec.specs.GroupFault.{StuckFlags}
use Rattle.bites_spec.specs.Reader as reading
use Rattle.bites_spec.specs.Reader.{ReadResult, Opened, answer, stop, flags_from, flags_end, flags_unclosed}
use Rattle.bites_spec.proofs.characters.EscapeLemmas.{Means, either_side}
use Rattle.bites_spec.proofs.grammar.GroupNames.{one_behind}

-- the front with the flags that a run makes
abbrev pub behind_run : Front → Text → Front
behind_run front run = record front { flags = changed true run front.flags }

-- from marks on stand flags and their end: a colon before a group, or a closing parenthesis after at least one flag
abbrev pub FlagsOpen : Front → Text → Opened → Text → Type 0
FlagsOpen front marks (reading.directive flags) rest =
    (run : Text) × (0 < length run) × ReadsFlags marks run (right_parenthesis ∷ rest) × (flags ≡ changed true run front.flags)
FlagsOpen front marks (reading.group opening inner) rest =
    (run : Text) × ReadsFlags marks run (colon ∷ rest) × (opening ≡ unnumbered) × (inner ≡ behind_run front run)

-- what a result after the question mark claims of the relations
abbrev pub FlagsMean : Front → Text → ReadResult Opened → Type 0
FlagsMean front marks = Means (FlagsOpen front marks) (StuckFlags marks)

-- of the two characters that end flags, the one that is no colon is a closing parenthesis
ends_flags : (c : ℕ) → one_of (codes ":)") c ≡ true → (c == colon) ≡ false → c ≡ right_parenthesis
ends_flags c e other = grind (arith, common_steps, eqb-true)

-- a list whose last element is a dash is a list and a dash
last_dash : (run : Text) → ends_with_dash run ≡ true → (front : Text) × (run ≡ front ++ dash ∷ [])
last_dash [] e = absurd (true≢false (sym e))
last_dash (c ∷ []) e = ([], ap (λ x. x ∷ []) (eqb-true c dash e))
last_dash (c ∷ d ∷ run) e = let r = last_dash (d ∷ run) e in (c ∷ r.0, ap (λ x. c ∷ x) r.1)

end_means : (front : Front) (marks run : Text) (c : ℕ) (rest : Text) → marks ≡ run ++ c ∷ rest → is_flag_run run ≡ true → one_of (codes ":)") c ≡ true →
    FlagsMean front marks (flags_end front run c rest)
end_means front marks [] c rest is fits ends =
    either_side (FlagsMean front marks) (c == colon) _ _
    (λ b. ([], group.flags marks [] (colon ∷ rest) (is ∙ ap (λ x. x ∷ rest) (eqb-true c colon b)) refl refl, refl, refl))
    (λ b. stuck.StuckFlags.empty marks rest (c ∷ rest) _ (is ∙ ap (λ x. x ∷ rest) (ends_flags c ends b)) (sym is) refl)
end_means front marks (d ∷ run) c rest is fits ends =
    either_side (FlagsMean front marks) (ends_with_dash (d ∷ run)) _ _
    (λ b.
    let l = last_dash (d ∷ run) b in
    stuck.StuckFlags.ends_with_dash c marks l.0 rest (c ∷ rest) _
    (is ∙ ap (λ x. x ++ c ∷ rest) l.1 ∙ one_behind l.0 (c ∷ rest) dash) (ap is_flag_run (sym l.1) ∙ fits) refl ends refl)
    (λ b. either_side (FlagsMean front marks) (c == colon) _ _
    (λ k. (d ∷ run, group.flags marks (d ∷ run) (colon ∷ rest) (is ∙ ap (λ x. (d ∷ run) ++ x ∷ rest) (eqb-true c colon k)) fits b, refl, refl))
    (λ k. (d ∷ run, omega arith, group.flags marks (d ∷ run) (right_parenthesis ∷ rest) (is ∙ ap (λ x. (d ∷ run) ++ x ∷ rest) (ends_flags c ends k)) fits b, refl)))

unclosed_means : (marks run : Text) → marks ≡ run → is_flag_run run ≡ true → StuckFlags marks (flags_unclosed run) []
unclosed_means marks [] is fits = stuck.StuckFlags.ends_at_once marks [] _ is refl refl
unclosed_means marks (c ∷ run) is fits = stuck.StuckFlags.ends marks (c ∷ run) [] _ is fits (omega arith) refl refl

-- the test of two numbers for equality is symmetric
pub eqb_turned : (c d : ℕ) → (c == d) ≡ (d == c)
eqb_turned c d = grind (arith, common_steps, eq-eqb, eqb-true)

one_of-append : (run more : Text) (c : ℕ) → one_of (run ++ more) c ≡ (one_of run c || one_of more c)
one_of-append run more c = list_any-append (λ d. c == d) run more

-- distinct marks with a new one after them are distinct
one_more_apart : (run : Text) (c : ℕ) → are_distinct run ≡ true → one_of run c ≡ false → are_distinct (run ++ c ∷ []) ≡ true
one_more_apart [] c apart new = refl
one_more_apart (d ∷ run) c apart new =
    let both = and_parts (not (one_of run d)) (are_distinct run) apart in
    let others = or_parts (c == d) (one_of run c) new in
    rw (one_of-append run (c ∷ []) d, not-true (one_of run d) both.0, eqb_turned d c, others.0, one_more_apart run c both.1 others.1) refl

one_more_run : (run : Text) (c : ℕ) → is_flag_run run ≡ true → is_flag_mark c ≡ true → one_of run c ≡ false → is_flag_run (run ++ c ∷ []) ≡ true
one_more_run run c fits mark new = grind (arith, common_steps, and_parts, list_all-append, one_more_apart)

-- a mark of flags that is no dash is a letter
is_letter : (c : ℕ) → is_flag_mark c ≡ true → (c == dash) ≡ false → is_flag_letter c ≡ true
is_letter c mark other = grind (arith, common_steps, true≢false)

repeated_means : (front : Front) (marks run : Text) (c : ℕ) (rest : Text) → marks ≡ run ++ c ∷ rest → is_flag_run run ≡ true → is_flag_mark c ≡ true →
    one_of run c ≡ true → StuckFlags marks (if c == dash then message.repeated_negation else message.duplicate_flag) (c ∷ rest)
repeated_means front marks run c rest is fits mark old = by_cases (c == dash) refl
  where
    by_cases : (b : Bool) → (c == dash) ≡ b → StuckFlags marks (if b then message.repeated_negation else message.duplicate_flag) (c ∷ rest)
    by_cases true same =
        let d = eqb-true c dash same in
        stuck.second_dash marks run rest (c ∷ rest) _ is fits (ap (λ x. x ∷ rest) d) (subst (λ x. one_of run x ≡ true) d old) refl
    by_cases false other = stuck.repeated c marks run rest (c ∷ rest) _ is fits refl (is_letter c mark other) old refl

from_means : (front : Front) (marks run rest : Text) → marks ≡ run ++ rest → is_flag_run run ≡ true → FlagsMean front marks (flags_from front run rest)
from_means front marks run [] is fits = unclosed_means marks run (is ∙ append-nil run) fits
from_means front marks run (c ∷ rest) is fits =
    either_side (FlagsMean front marks) (one_of (codes ":)") c) _ _ (λ e. end_means front marks run c rest is fits e)
    (λ e. either_side (FlagsMean front marks) (is_flag_mark c) _ _
    (λ k. either_side (FlagsMean front marks) (one_of run c) _ _ (λ o. repeated_means front marks run c rest is fits k o)
    (λ o. from_means front marks (run ++ c ∷ []) rest (is ∙ sym (one_behind run rest c)) (one_more_run run c fits k o)))
    (λ k. stuck.StuckFlags.strange c marks run rest (c ∷ rest) _ is fits refl k e refl))

-- what the function returns after the question mark, the relations read
pub flags_mean : (front : Front) (marks : Text) → FlagsMean front marks (flags_from front [] marks)
flags_mean front marks = from_means front marks [] marks refl refl

-- a mark of flags does not end them
mark_goes_on : (c : ℕ) → is_flag_mark c ≡ true → one_of (codes ":)") c ≡ false
mark_goes_on c mark = grind (arith, common_steps, true≢false, eqb-true)

-- a run of flags goes on with c
record GoesOn (run : Text) (c : ℕ) : Type 0 where
  mark : is_flag_mark c ≡ true
  new : one_of run c ≡ false

is_apart : (run more : Text) (c : ℕ) → are_distinct (run ++ c ∷ more) ≡ true → one_of run c ≡ false
is_apart [] more c e = refl
is_apart (d ∷ run) more c e =
    let both = and_parts (not (one_of (run ++ c ∷ more) d)) (are_distinct (run ++ c ∷ more)) e in
    let parts = or_parts (one_of run d) (one_of (c ∷ more) d) (sym (one_of-append run (c ∷ more) d) ∙ not-true (one_of (run ++ c ∷ more) d) both.0) in
    rw (eqb_turned c d, (or_parts (d == c) (one_of more d) parts.1).0) (is_apart run more c both.1)

goes_on : (run more : Text) (c : ℕ) → is_flag_run (run ++ c ∷ more) ≡ true → GoesOn run c
goes_on run more c e =
    let both = and_parts (list_all is_flag_mark (run ++ c ∷ more)) (are_distinct (run ++ c ∷ more)) e in
    let marks = and_parts (list_all is_flag_mark run) (list_all is_flag_mark (c ∷ more)) (sym (list_all-append is_flag_mark run (c ∷ more)) ∙ both.0) in
    record { mark = (and_parts (is_flag_mark c) (list_all is_flag_mark more) marks.1).0; new = is_apart run more c both.1 }

-- the function passes over a run of flags
pub flags_pass : (front : Front) (run more t : Text) → is_flag_run (run ++ more) ≡ true → flags_from front run (more ++ t) ≡ flags_from front (run ++ more) t
flags_pass front run [] t e = ap (λ x. flags_from front x t) (sym (append-nil run))
flags_pass front run (c ∷ more) t e =
    let g = goes_on run more c e in
    rw (mark_goes_on c g.mark, g.mark, g.new)
    (flags_pass front (run ++ c ∷ []) more t (ap is_flag_run (one_behind run more c) ∙ e) ∙ ap (λ x. flags_from front x t) (one_behind run more c))

at_colon : (front : Front) (run rest : Text) → ends_with_dash run ≡ false →
    flags_end front run colon rest ≡ answer (reading.group unnumbered (behind_run front run)) rest
at_colon front [] rest whole = refl
at_colon front (d ∷ run) rest whole = rw whole refl

at_closing : (front : Front) (run rest : Text) → 0 < length run → ends_with_dash run ≡ false →
    flags_end front run right_parenthesis rest ≡ answer (reading.directive (changed true run front.flags)) rest
at_closing front [] rest some whole = absurd (omega arith)
at_closing front (d ∷ run) rest some whole = rw whole refl

-- the function reads flags before a colon as the beginning of a group
pub flags_lead : {marks run rest : Text} → ReadsFlags marks run (colon ∷ rest) → (front : Front) →
    flags_from front [] marks ≡ answer (reading.group unnumbered (behind_run front run)) rest
flags_lead {rest = rest} (group.flags marks run behind is fits whole) front =
    ap (flags_from front []) is ∙ flags_pass front [] run (colon ∷ rest) fits ∙ at_colon front run rest whole

-- the function reads flags before a closing parenthesis as a directive
pub closing_flags_lead : {marks run rest : Text} → ReadsFlags marks run (right_parenthesis ∷ rest) → 0 < length run → (front : Front) →
    flags_from front [] marks ≡ answer (reading.directive (changed true run front.flags)) rest
closing_flags_lead {rest = rest} (group.flags marks run behind is fits whole) some front =
    ap (flags_from front []) is ∙ flags_pass front [] run (right_parenthesis ∷ rest) fits ∙ at_closing front run rest some whole

unclosed_of : (run : Text) → 0 < length run → flags_unclosed run ≡ message.unclosed_flags
unclosed_of [] some = absurd (omega arith)
unclosed_of (c ∷ run) some = refl

letter_is_mark : (c : ℕ) → is_flag_letter c ≡ true → is_flag_mark c ≡ true
letter_is_mark c e = one_of-append (codes "imsURux") (dash ∷ []) c ∙ rw e refl

letter_no_dash : (c : ℕ) → is_flag_letter c ≡ true → (c == dash) ≡ false
letter_no_dash c e =
    ⊎_elim (λ (k : (c == dash) ≡ true). absurd (true≢false (sym (subst (λ x. is_flag_letter x ≡ true) (eqb-true c dash k) e))))
    (λ (k : (c == dash) ≡ false). k) (cases_Bool (c == dash))

dash_last : (run : Text) → ends_with_dash (run ++ dash ∷ []) ≡ true
dash_last [] = refl
dash_last (c ∷ []) = refl
dash_last (c ∷ d ∷ run) = dash_last (d ∷ run)

at_dash : (front : Front) (run : Text) (c : ℕ) (rest : Text) → ends_with_dash run ≡ true →
    flags_end front run c rest ≡ stop message.dangling_negation (c ∷ rest)
at_dash front [] c rest e = absurd (true≢false (sym e))
at_dash front (d ∷ run) c rest e = rw e refl

-- where the relation stops at flags, the function stops
pub flags_stop : {marks place : Text} {m : Message} → StuckFlags marks m place → (front : Front) → flags_from front [] marks ≡ stop m place
flags_stop (stuck.StuckFlags.ends_at_once marks place m is at says) front = rw (is, at, says) refl
flags_stop (stuck.StuckFlags.empty marks rest place m is at says) front = ap (flags_from front []) is ∙ rw (says, at, is) refl
flags_stop (stuck.StuckFlags.strange c marks run rest place m is fits at mark ends says) front =
    ap (flags_from front []) is ∙ flags_pass front [] run place fits ∙ ap (flags_from front run) at ∙ rw (ends, mark, says, at) refl
flags_stop (stuck.second_dash marks run rest place m is fits at old says) front =
    ap (flags_from front []) is ∙ flags_pass front [] run place fits ∙ ap (flags_from front run) at ∙ rw (old, says, at) refl
flags_stop (stuck.repeated c marks run rest place m is fits at letter old says) front =
    let mark = letter_is_mark c letter in
    ap (flags_from front []) is ∙ flags_pass front [] run place fits ∙ ap (flags_from front run) at
    ∙ rw (mark_goes_on c mark, mark, old, letter_no_dash c letter, says, at) refl
flags_stop (stuck.StuckFlags.ends marks run place m is fits some at says) front =
    ap (flags_from front []) (is ∙ sym (append-nil run)) ∙ flags_pass front [] run [] fits ∙ rw (at, says) (ap (λ x. stop x []) (unclosed_of run some))
flags_stop (stuck.StuckFlags.ends_with_dash c marks run rest place m is fits at ends says) front =
    ap (flags_from front []) (is ∙ sym (one_behind run place dash)) ∙ flags_pass front [] (run ++ dash ∷ []) place fits
    ∙ ap (flags_from front (run ++ dash ∷ [])) at ∙ rw (ends, says, at) (at_dash front (run ++ dash ∷ []) c rest (dash_last run))

-- reading flags never goes back
pub flags_shorter : {marks run behind : Text} → ReadsFlags marks run behind → length behind ≤ length marks
flags_shorter (group.flags marks run behind is fits whole) = omega (arith, ap length is, length-append run behind)

-- a fault of flags stands no earlier than the flags
pub stuck_flags_shorter : {marks place : Text} {m : Message} → StuckFlags marks m place → length place ≤ length marks
stuck_flags_shorter (stuck.StuckFlags.ends_at_once marks place m is at says) = omega (arith, ap length at)
stuck_flags_shorter (stuck.StuckFlags.empty marks rest place m is at says) = omega (arith, ap length at)
stuck_flags_shorter (stuck.StuckFlags.strange c marks run rest place m is fits at mark ends says) = omega (arith, ap length is, length-append run place)
stuck_flags_shorter (stuck.second_dash marks run rest place m is fits at old says) = omega (arith, ap length is, length-append run place)
stuck_flags_shorter (stuck.repeated c marks run rest place m is fits at letter old says) = omega (arith, ap length is, length-append run place)
stuck_flags_shorter (stuck.StuckFlags.ends marks run place m is fits some at says) = omega (arith, ap length at)
stuck_flags_shorter (stuck.StuckFlags.ends_with_dash c marks run rest place m is fits at ends says) =
    omega (arith, ap length is, length-append run (dash ∷ place))
