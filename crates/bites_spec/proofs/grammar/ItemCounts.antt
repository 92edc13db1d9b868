-- Operators in braces: the reader reads what the grammar reads, or stops at too large a number; it stops where the grammar stops.
use Rattle.std.proofs.lemmas.Grind.{common_steps}
use Rattle.std.proofs.Common.{◌≡◌, ℕ, ◌<◌, ◌≤◌, Bool, true, false, ◌==◌, [], ◌∷◌, length, refl, sym, ap, ◌∙◌, subst, inl, inr, ⊎_elim, arith, Option, Some, None, Ok, Err, eqb-true, true≢false, ltb-true, ltb-false, lt-ltb}
use Rattle.std.specs.Prelude.{codes, nat_lt, unwrap_or}
use Rattle.std.specs.Char.{is_ascii_digit}
use Rattle.std.proofs.lemmas.Bool.{cases_Bool}
use Rattle.bites_spec.specs.Message as message
use Rattle.bites_spec.specs.Message.{Message, rank}
use Rattle.bites_spec.specs.Class.{Set, single}
use Rattle.bites_spec.specs.Pattern.{Text, Flags, skip, skip_white, next_is, one_of, left_brace, right_brace, comma, ReadsEach, ReadsDecimal, ReadsLazy}
use Rattle.bites_spec.specs.Pattern as pattern
use Rattle.bites_spec.specs.Operator as operator
use Rattle.bites_spec.specs.Operator.{ReadsOperator, is_greedy}
use Rattle.bites_spec.specs.OperatorFault as stuck
use Rattle.bites_spec.specs.OperatorFault.{StuckDecimal, StuckCount, greatest_number}
use Rattle.bites_spec.specs.Fault.{ComesFirst}
use Rattle.bites_spec.specs.Reader.{ReadResult, Bounds, answer, stop, and_then, decimal, counted, after_min, after_comma, after_max, whole_count}
use Rattle.bites_spec.proofs.characters.EachLemmas.{skip_shorter, decimal_complete, decimal_shorter, stuck_decimal, skip_white_shorter}
use Rattle.bites_spec.proofs.characters.ChoiceParts.{StopsBy, most_of, LeadsToCount}
use Rattle.bites_spec.proofs.grammar.ChoiceSteps.{lazy_complete}

-- what the function returns for a decimal
data Answered (n : ℕ) (flags : Flags) (t : Text) (v : ℕ) (rest : Text) : Type 0 where
  small : decimal n flags t ≡ answer v rest → v ≤ greatest_number → Answered n flags t v rest
  large : decimal n flags t ≡ stop message.invalid_decimal rest → greatest_number < v → Answered n flags t v rest

answered : {flags : Flags} {t rest : Text} {v : ℕ} → ReadsDecimal flags t v rest → (n : ℕ) → length t ≤ n → Answered n flags t v rest
answered {v = v} r n room =
    ⊎_elim (λ (b : nat_lt greatest_number v ≡ true). large (decimal_complete r n room ∙ rw b refl) (ltb-true greatest_number v b))
    (λ (b : nat_lt greatest_number v ≡ false). small (decimal_complete r n room ∙ rw b refl) (ltb-false greatest_number v b)) (cases_Bool (nat_lt greatest_number v))

-- a run that is not empty begins with a character of the set
each_some : {flags : Flags} {set : Set} {t chars rest : Text} → ReadsEach flags set t chars rest → 0 < length chars → (c : ℕ) × (next : Text) × (t ≡ c ∷ next) × (set c ≡ true)
each_some (ReadsEach.none t chars rest ends none same) some = absurd (omega (arith, ap length none))
each_some (ReadsEach.more c t next chars others rest is pass r same) some = (c, next, is, pass)

-- equal texts have the same first character
pub first_of : {c d : ℕ} {t u : Text} → c ∷ t ≡ d ∷ u → c ≡ d
first_of e = cc

-- a decimal begins with a character that is no closing brace
solid : (t : Text) (c : ℕ) (next : Text) → skip_white t ≡ c ∷ next → is_ascii_digit c ≡ true → (d : ℕ) × (u : Text) × (t ≡ d ∷ u) × ((d == right_brace) ≡ false)
unfolding skip_white
solid [] c next is digit = absurd (omega (arith, ap length is))
solid (d ∷ u) c next is digit = grind (arith, common_steps, eqb-true, true≢false, first_of)

pub decimal_some : {flags : Flags} {t rest : Text} {v : ℕ} → ReadsDecimal flags t v rest → (d : ℕ) × (u : Text) × (t ≡ d ∷ u) × ((d == right_brace) ≡ false)
decimal_some (pattern.decimal v t behind digits white rest r some w value) = let first = each_some r some in solid t first.0 first.1 first.2 first.3

-- after a decimal: what the function returns for the rest, or a stop at too large a number
after_leads : {flags : Flags} {t mid rest : Text} {v min : ℕ} {most : Option ℕ} {greedy : Bool} (next : ℕ → Text → ReadResult Bounds) → ReadsDecimal flags t v mid → (n : ℕ) → length t ≤ n →
    v ≤ most_of min most → length rest < length mid → (v ≤ greatest_number → LeadsToCount min most greedy rest (next v mid)) →
    LeadsToCount min most greedy rest (and_then (decimal n flags t) next)
after_leads {t = t} {mid = mid} {rest = rest} {v = v} {min = min} {most = most} {greedy = greedy} next r n room below shorter goes = grind (arith, common_steps, answered, small)

counted_step : {flags : Flags} {t mid : Text} {v : ℕ} (n : ℕ) → ReadsDecimal flags t v mid → counted n flags t ≡ and_then (decimal n flags t) (after_min n flags)
counted_step {flags} n r = let d = decimal_some r in ap (counted n flags) d.2 ∙ ap (λ x. and_then (decimal n flags x) (after_min n flags)) (sym d.2)

comma_step : {flags : Flags} {t mid : Text} {v : ℕ} (n min : ℕ) → ReadsDecimal flags t v mid → after_comma n flags min t ≡ and_then (decimal n flags t) (after_max flags min)
comma_step {flags} n min r = grind (arith, common_steps, decimal_some)

-- bounds that are not crossed are returned
uncrossed : (flags : Flags) (min most : ℕ) (mark : Bool × Text) → min ≤ most → whole_count flags min (Some most) mark ≡ answer (min, Some most, is_greedy flags mark.0) mark.1
uncrossed flags min most mark le =
    ⊎_elim (λ (b : nat_lt most min ≡ true). absurd (omega (arith, ltb-true most min b))) (λ (b : nat_lt most min ≡ false). rw b refl) (cases_Bool (nat_lt most min))

lazy_shorter : {t rest : Text} {mark : Bool} → ReadsLazy t mark rest → length rest ≤ length t
lazy_shorter (ReadsLazy.lazy t rest mark is marks) = omega (arith, ap length is)
lazy_shorter (ReadsLazy.none t rest mark other marks same) = omega (arith, ap length same)

-- equal texts have the same rest
pub tail_of : {c d : ℕ} {t u : Text} → c ∷ t ≡ d ∷ u → t ≡ u
tail_of e = cc

-- after the brace, its gap and the first decimal: what the function returns for the rest, or a stop at too large a number
brace_leads : {flags : Flags} {t next inside mid rest : Text} {v min : ℕ} {most : Option ℕ} {greedy : Bool} → t ≡ left_brace ∷ inside → t ≡ left_brace ∷ next →
    ReadsDecimal flags (skip flags inside) v mid → (n : ℕ) → length next ≤ n → v ≤ most_of min most → length rest < length mid →
    (v ≤ greatest_number → LeadsToCount min most greedy rest (after_min n flags v mid)) → LeadsToCount min most greedy rest (counted n flags (skip flags next))
brace_leads {flags} {next = next} {inside = inside} {rest = rest} {min = min} {most = most} {greedy = greedy} is begins r n room below shorter goes =
    let at : inside ≡ next = tail_of (sym is ∙ begins) in
    subst (λ x. LeadsToCount min most greedy rest (counted n flags (skip flags x))) at
    (subst (λ x. LeadsToCount min most greedy rest x) (sym (counted_step n r))
    (after_leads (after_min n flags) r n (omega (arith, ap length at, skip_shorter flags inside)) below shorter goes))

-- the function reads each operator in braces that the relation reads, or stops at too large a number
pub count_leads : {flags : Flags} {t rest : Text} {min : ℕ} {most : Option ℕ} {greedy : Bool} → ReadsOperator flags t min most greedy rest →
    (n : ℕ) (next : Text) → t ≡ left_brace ∷ next → length next ≤ n → LeadsToCount min most greedy rest (counted n flags (skip flags next))
count_leads (operator.optional t inside rest min most mark greedy is l a b g) n next begins room = absurd (omega (arith, first_of (sym is ∙ begins)))
count_leads (operator.any_number t inside rest min most mark greedy is l a b g) n next begins room = absurd (omega (arith, first_of (sym is ∙ begins)))
count_leads (operator.at_least_once t inside rest min most mark greedy is l a b g) n next begins room = absurd (omega (arith, first_of (sym is ∙ begins)))
count_leads {flags} (operator.exactly t inside behind rest min most mark greedy is d l a g) n next begins room =
    let equal : unwrap_or most 0 ≡ min = ap (λ o. unwrap_or o 0) a in
    brace_leads is begins d n room (omega arith) (omega (arith, lazy_shorter l, skip_shorter flags behind))
    (λ few.
    inl (ap (whole_count flags min (Some min)) (lazy_complete l) ∙ uncrossed flags min min (mark, rest) (omega arith) ∙ rw (a, g) refl, omega arith))
count_leads {flags} (operator.at_least t inside more behind rest min most mark greedy is d e l a g) n next begins room =
    let none : unwrap_or most 0 ≡ 0 = ap (λ o. unwrap_or o 0) a in
    brace_leads is begins d n room (omega arith) (omega (arith, lazy_shorter l, skip_shorter flags behind, skip_shorter flags more, ap length e))
    (λ few.
    inl (ap (after_comma n flags min) e ∙ ap (whole_count flags min None) (lazy_complete l) ∙ rw (a, g) refl, omega arith))
count_leads {flags} (operator.between t inside more behind rest min top most mark greedy is d f le l a g) n next begins room =
    let greatest : unwrap_or most 0 ≡ top = ap (λ o. unwrap_or o 0) a in
    let within : length (skip flags more) ≤ n =
    omega (arith, skip_shorter flags more, decimal_shorter d, skip_shorter flags inside, ap length (sym is ∙ begins)) in
    brace_leads is begins d n room (omega arith) (omega (arith, lazy_shorter l, skip_shorter flags behind, skip_shorter flags more, decimal_shorter f))
    (λ few.
    subst (λ x. LeadsToCount min most greedy rest x) (sym (comma_step n min f))
    (after_leads (after_max flags min) f n within (omega arith) (omega (arith, lazy_shorter l, skip_shorter flags behind))
    (λ fewer.
    inl (ap (whole_count flags min (Some top)) (lazy_complete l) ∙ uncrossed flags min top (mark, rest) le ∙ rw (a, g) refl, omega arith))))

-- a result that is this very stop
this_stop : {a : ReadResult Bounds} (m : Message) (place : Text) → a ≡ stop m place → StopsBy m place a
this_stop m place e = subst (λ x. StopsBy m place x) (sym e) (inr (refl, omega arith))

-- after a decimal: a stop within the rest, or at too large a number, no later
after_first : {flags : Flags} {t mid : Text} {v : ℕ} (m : Message) (place : Text) (next : ℕ → Text → ReadResult Bounds) → ReadsDecimal flags t v mid → (n : ℕ) → length t ≤ n →
    ComesFirst message.invalid_decimal mid m place → StopsBy m place (next v mid) → StopsBy m place (and_then (decimal n flags t) next)
after_first m place next r n room first goes = grind (arith, common_steps, answered, small)

-- a stop that comes no earlier than this one
abbrev StopsAfter : Message → Text → ReadResult ℕ → Type 0
StopsAfter k at (Ok x) = Unit {0}
StopsAfter k at (Err e) = ComesFirst k at e.message e.place

-- at the end of the pattern the fault of a decimal is that it has no digits
empty_first : {flags : Flags} {place : Text} {m : Message} (k : Message) → StuckDecimal flags [] m place → rank k ≤ rank message.decimal_without_digits →
    ComesFirst k [] m place
unfolding skip_white
empty_first {flags} {place} {m} k s less =
    let wants : StopsAfter k [] (decimal 0 flags []) = inr (refl, less) in
    subst (StopsAfter k []) (stuck_decimal s 0 (omega arith)) wants

in_min_first : {flags : Flags} {place : Text} {m : Message} (u : Text) → StuckDecimal flags u m place → (n : ℕ) → length u ≤ n → StopsBy m place (counted n flags u)
in_min_first [] s n room = empty_first message.unclosed_count s (omega arith)
in_min_first {flags} {place} {m} (c ∷ u) s n room = this_stop m place (ap (λ a. and_then a (after_min n flags)) (stuck_decimal s n room))

in_max_first : {flags : Flags} {place : Text} {m : Message} (min : ℕ) (u : Text) → next_is (single right_brace) u ≡ false → StuckDecimal flags u m place → (n : ℕ) → length u ≤ n →
    StopsBy m place (after_comma n flags min u)
in_max_first min [] other s n room = empty_first message.unclosed_comma s (omega arith)
in_max_first {flags} {place} {m} min (c ∷ u) other s n room =
    this_stop m place (rw other (ap (λ a. and_then a (after_max flags min)) (stuck_decimal s n room)))

-- after the brace, its gap and the first decimal: a stop within the rest, or at too large a number, no later
brace_first : {flags : Flags} {t next inside mid : Text} {v : ℕ} (m : Message) (place : Text) → t ≡ left_brace ∷ inside → t ≡ left_brace ∷ next →
    ReadsDecimal flags (skip flags inside) v mid → (n : ℕ) → length next ≤ n → ComesFirst message.invalid_decimal mid m place → StopsBy m place (after_min n flags v mid) →
    StopsBy m place (counted n flags (skip flags next))
brace_first {flags} {inside = inside} m place is begins r n room first goes =
    let at = tail_of (sym is ∙ begins) in
    subst (λ x. StopsBy m place (counted n flags (skip flags x))) at
    (subst (λ x. StopsBy m place x) (sym (counted_step n r))
    (after_first m place (after_min n flags) r n (omega (arith, ap length at, skip_shorter flags inside)) first goes))

-- after the first decimal, a character that is neither a comma nor a closing brace stops the function
strange_min : (n : ℕ) (flags : Flags) (v c : ℕ) (u : Text) → one_of (codes ",}") c ≡ false → after_min n flags v (c ∷ u) ≡ stop message.invalid_count (c ∷ u)
strange_min n flags v c u other = grind (arith, common_steps, true≢false, eqb-true)

stuck_decimal_shorter : {flags : Flags} {t place : Text} {m : Message} → StuckDecimal flags t m place → length place ≤ length t
stuck_decimal_shorter (stuck.no_digit t place m is none names) = omega (arith, ap length is, skip_white_shorter t)
stuck_decimal_shorter (stuck.too_large v t place m r above names) = decimal_shorter r

-- at one place, a stop at too large a number comes no later than a message of no smaller rank
at_same : (m k : Message) (place mid : Text) → mid ≡ place → m ≡ k → rank message.invalid_decimal ≤ rank k → ComesFirst message.invalid_decimal mid m place
at_same m k place mid same names less = inr (ap length (sym same), omega (arith, ap rank names))

-- where the relation stops at an operator in braces, the function stops, no later
pub count_first : {flags : Flags} {t place : Text} {m : Message} → StuckCount flags t m place → (n : ℕ) (next : Text) → t ≡ left_brace ∷ next → length next ≤ n →
    StopsBy m place (counted n flags (skip flags next))
count_first {flags} (stuck.ends_at_once t inside place m is empty at names) n next begins room =
    this_stop m place (ap (λ x. counted n flags (skip flags x)) (tail_of (sym begins ∙ is)) ∙ ap (counted n flags) empty ∙ rw (at, names) refl)
count_first {flags} (stuck.in_min t inside place m is s) n next begins room = grind (arith, common_steps, tail_of, in_min_first, skip_shorter)
count_first {flags} (stuck.ends_after_min v t inside place m is r at names) n next begins room =
    brace_first m place is begins r n room (at_same m message.unclosed_min place place refl names (omega arith))
    (this_stop m place (ap (after_min n flags v) at ∙ rw (at, names) refl))
count_first {flags} (stuck.strange_after_min v c t inside more place m is r at other names) n next begins room =
    brace_first m place is begins r n room (at_same m message.invalid_count place place refl names (omega arith))
    (this_stop m place (ap (after_min n flags v) at ∙ strange_min n flags v c more other ∙ rw (at, names) refl))
count_first {flags} (stuck.ends_after_comma v t inside more place m is r empty at names) n next begins room =
    brace_first m place is begins r n room (inl (omega (arith, ap length at)))
    (this_stop m place (ap (after_comma n flags v) empty ∙ rw (at, names) refl))
count_first {flags} (stuck.in_max v t inside more place m is r other s) n next begins room =
    brace_first m place is begins r n room (inl (omega (arith, stuck_decimal_shorter s, skip_shorter flags more)))
    (in_max_first v (skip flags more) other s n
    (omega (arith, skip_shorter flags more, decimal_shorter r, skip_shorter flags inside, ap length (sym is ∙ begins))))
count_first {flags} (stuck.ends_after_max v top t inside more place m is r q at names) n next begins room =
    brace_first m place is begins r n room (inl (omega (arith, decimal_shorter q, skip_shorter flags more)))
    (subst (λ x. StopsBy m place x) (sym (comma_step n v q))
    (after_first m place (after_max flags v) q n (omega (arith, skip_shorter flags more, decimal_shorter r, skip_shorter flags inside, ap length (sym is ∙ begins)))
    (at_same m message.unclosed_max place place refl names (omega arith))
    (this_stop m place (ap (after_max flags v top) at ∙ rw (at, names) refl))))
count_first {flags} (stuck.strange_after_max v top c t inside more others place m is r q at other names) n next begins room =
    brace_first m place is begins r n room (inl (omega (arith, decimal_shorter q, skip_shorter flags more)))
    (subst (λ x. StopsBy m place x) (sym (comma_step n v q))
    (after_first m place (after_max flags v) q n (omega (arith, skip_shorter flags more, decimal_shorter r, skip_shorter flags inside, ap length (sym is ∙ begins)))
    (at_same m message.invalid_count place place refl names (omega arith))
    (this_stop m place (ap (after_max flags v top) at ∙ rw (other, at, names) refl))))
count_first {flags} (stuck.crossed v top t inside more behind place mark m is r q l less names) n next begins room =
    brace_first m place is begins r n room (inl (omega (arith, decimal_shorter q, skip_shorter flags more, lazy_shorter l, skip_shorter flags behind)))
    (subst (λ x. StopsBy m place x) (sym (comma_step n v q))
    (after_first m place (after_max flags v) q n (omega (arith, skip_shorter flags more, decimal_shorter r, skip_shorter flags inside, ap length (sym is ∙ begins)))
    (inl (omega (arith, lazy_shorter l, skip_shorter flags behind)))
    (this_stop m place (ap (whole_count flags v (Some top)) (lazy_complete l) ∙ rw (lt-ltb top v less, names) refl))))

-- an operator takes at least a character
pub operator_shorter : {flags : Flags} {t rest : Text} {min : ℕ} {most : Option ℕ} {greedy : Bool} → ReadsOperator flags t min most greedy rest → length rest < length t
operator_shorter (operator.optional t inside rest min most mark greedy is l a b g) = omega (arith, ap length is, lazy_shorter l)
operator_shorter (operator.any_number t inside rest min most mark greedy is l a b g) = omega (arith, ap length is, lazy_shorter l)
operator_shorter (operator.at_least_once t inside rest min most mark greedy is l a b g) = omega (arith, ap length is, lazy_shorter l)
operator_shorter {flags} (operator.exactly t inside behind rest min most mark greedy is d l a g) =
    omega (arith, ap length is, decimal_shorter d, lazy_shorter l, skip_shorter flags inside, skip_shorter flags behind)
operator_shorter {flags} (operator.at_least t inside more behind rest min most mark greedy is d e l a g) =
    omega (arith, ap length is, decimal_shorter d, lazy_shorter l, skip_shorter flags inside, skip_shorter flags behind, skip_shorter flags more, ap length e)
operator_shorter {flags} (operator.between t inside more behind rest min top most mark greedy is d f le l a g) =
    omega (arith, ap length is, decimal_shorter d, decimal_shorter f, lazy_shorter l, skip_shorter flags inside, skip_shorter flags behind, skip_shorter flags more)

-- a fault of an operator in braces stands after its brace
pub stuck_count_shorter : {flags : Flags} {t place : Text} {m : Message} → StuckCount flags t m place → length place < length t
stuck_count_shorter (stuck.ends_at_once t inside place m is empty at names) = omega (arith, ap length is, ap length at)
stuck_count_shorter {flags} (stuck.in_min t inside place m is s) = omega (arith, ap length is, stuck_decimal_shorter s, skip_shorter flags inside)
stuck_count_shorter (stuck.ends_after_min v t inside place m is r at names) = omega (arith, ap length is, ap length at)
stuck_count_shorter {flags} (stuck.strange_after_min v c t inside more place m is r at other names) = omega (arith, ap length is, decimal_shorter r, skip_shorter flags inside)
stuck_count_shorter (stuck.ends_after_comma v t inside more place m is r empty at names) = omega (arith, ap length is, ap length at)
stuck_count_shorter {flags} (stuck.in_max v t inside more place m is r other s) =
    omega (arith, ap length is, decimal_shorter r, stuck_decimal_shorter s, skip_shorter flags inside, skip_shorter flags more)
stuck_count_shorter (stuck.ends_after_max v top t inside more place m is r q at names) = omega (arith, ap length is, ap length at)
stuck_count_shorter {flags} (stuck.strange_after_max v top c t inside more others place m is r q at other names) =
    omega (arith, ap length is, decimal_shorter r, decimal_shorter q, skip_shorter flags inside, skip_shorter flags more)
stuck_count_shorter {flags} (stuck.crossed v top t inside more behind place mark m is r q l less names) =
    omega (arith, ap length is, decimal_shorter r, decimal_shorter q, lazy_shorter l, skip_shorter flags inside, skip_shorter flags more, skip_shorter flags behind)
