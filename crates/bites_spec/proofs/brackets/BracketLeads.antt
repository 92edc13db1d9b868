-- The reader reads each class in brackets that the grammar's relations read.
use Rattle.std.proofs.lemmas.Grind.{common_steps}
use Rattle.std.proofs.Common.{◌≡◌, ℕ, zero, suc, ◌<◌, ◌≤◌, Bool, true, false, List, [], ◌∷◌, ◌++◌, length, refl, sym, ap, ap₂, ◌∙◌, subst, inl, inr, arith, ◌⊎◌, Some, true≢false, length-append, le-leb}
use Rattle.std.specs.Prelude.{codes, nat_le}
use Rattle.std.proofs.Math.Path.{fun_ext}
use Rattle.bites_spec.specs.Message as message
use Rattle.bites_spec.specs.Range.{Range}
use Rattle.bites_spec.specs.Class as class
use Rattle.bites_spec.specs.Class.{Set, NamedClass, alnum, alpha, ascii, blank, cntrl, digit, graph, lower, print, punct, space, upper, word, xdigit, named_classes, class_name, members, single, union, complement, Lists}
use Rattle.bites_spec.specs.Pattern.{Text, Flags, skip, next_is, caret, dash, left_bracket, right_bracket, ReadsEach}
use Rattle.bites_spec.specs.Escape.{Meaning, character}
use Rattle.bites_spec.specs.Bracket.{ReadsCaret, ReadsLeading, ReadsBracketFront, ReadsEnd, ReadsMember, ReadsMembers, ReadsBracket, may_be_first, may_be_second, leads_to_second, set_of, is_set_operator, with_cases, with_negation}
use Rattle.bites_spec.specs.Reader as reading
use Rattle.bites_spec.specs.Reader.{ReadResult, Members, answer, stop, and_then, class_members, class_end, after_first, after_dash, alone}
use Rattle.bites_spec.proofs.characters.EachLemmas.{skip_shorter, each_complete, each_shorter}
use Rattle.bites_spec.proofs.brackets.BracketText.{union_assoc, end_shorter, escape_begins}
use Rattle.bites_spec.proofs.brackets.BracketEscapes.{escape_leads, same_behind}
use Rattle.bites_spec.proofs.brackets.BracketMeans.{name_front, not_name_front, members_gap}

-- the function reads each end of a range that the relation reads
pub end_leads : {flags : Flags} {t rest : Text} {meaning : Meaning} → ReadsEnd flags t meaning rest → (n : ℕ) → length t ≤ suc n →
    class_end n flags t ≡ answer meaning rest
end_leads {flags} (ReadsEnd.plain c t rest meaning is other same) n room = ap (class_end n flags) is ∙ rw (other, same) refl
end_leads {flags} (ReadsEnd.escape t rest meaning r) n room = grind (arith, common_steps, escape_begins, escape_leads)

-- an item takes at least a character
pub member_shorter : {flags : Flags} {t rest : Text} {set : Set} → ReadsMember flags t set rest → length rest < length t
member_shorter (ReadsMember.named k t rest set is same) = omega (arith, ap length is, length-append (name_front k) rest, length-append (codes "[:" ++ class_name k) (codes ":]"))
member_shorter (ReadsMember.not_named k t rest set is same) =
    omega (arith, ap length is, length-append (not_name_front k) rest, length-append (codes "[:^" ++ class_name k) (codes ":]"))
member_shorter {flags} (ReadsMember.range low high t behind next rest set may first dashed second last order same) =
    omega (arith, end_shorter first, end_shorter last, ap length dashed, skip_shorter flags behind, skip_shorter flags next)
member_shorter (ReadsMember.alone meaning t rest set may first leads same) = end_shorter first

-- items have at least a character after their gap
pub members_some : {flags : Flags} {t rest : Text} {set : Set} → ReadsMembers flags t set rest → 0 < length (skip flags t)
members_some (ReadsMembers.closed t rest set gap same) = omega (arith, ap length gap)
members_some (ReadsMembers.goes_on t next rest one others set plain member r same) = omega (arith, member_shorter member)

named_leads : (k : NamedClass) (go : Members) (sofar : Set) (next : Text) →
    reading.named go sofar (name_front k ++ next) named_classes ≡ go (union sofar (members k)) next
named_leads alnum go sofar next = refl
named_leads alpha go sofar next = refl
named_leads ascii go sofar next = refl
named_leads blank go sofar next = refl
named_leads cntrl go sofar next = refl
named_leads digit go sofar next = refl
named_leads graph go sofar next = refl
named_leads lower go sofar next = refl
named_leads print go sofar next = refl
named_leads punct go sofar next = refl
named_leads space go sofar next = refl
named_leads upper go sofar next = refl
named_leads word go sofar next = refl
named_leads xdigit go sofar next = refl

not_named_leads : (k : NamedClass) (go : Members) (sofar : Set) (next : Text) →
    reading.named go sofar (not_name_front k ++ next) named_classes ≡ go (union sofar (complement (members k))) next
not_named_leads alnum go sofar next = refl
not_named_leads alpha go sofar next = refl
not_named_leads ascii go sofar next = refl
not_named_leads blank go sofar next = refl
not_named_leads cntrl go sofar next = refl
not_named_leads digit go sofar next = refl
not_named_leads graph go sofar next = refl
not_named_leads lower go sofar next = refl
not_named_leads print go sofar next = refl
not_named_leads punct go sofar next = refl
not_named_leads space go sofar next = refl
not_named_leads upper go sofar next = refl
not_named_leads word go sofar next = refl
not_named_leads xdigit go sofar next = refl

-- where a first end stands, the function reads it
pub at_first : (go : Members) (n : ℕ) (flags : Flags) (sofar : Set) (u : Text) → 0 < length u → may_be_first u ≡ true → is_set_operator u ≡ false →
    reading.member go n flags sofar u ≡ and_then (class_end n flags u) (λ first rest. after_first go n flags sofar first (skip flags rest))
at_first go n flags sofar [] some may plain = absurd (omega arith)
at_first go n flags sofar (c ∷ u) some may plain = grind (arith, common_steps)

-- where a second end stands, the function reads it
pub at_second : (go : Members) (n : ℕ) (flags : Flags) (sofar : Set) (first : Meaning) (at v : Text) → 0 < length v → may_be_second v ≡ true →
    after_dash go n flags sofar first at v ≡ and_then (class_end n flags v) (reading.range go sofar first)
at_second go n flags sofar first at [] some may = absurd (omega arith)
at_second go n flags sofar first at (c ∷ v) some may = grind (arith, common_steps)

alone_behind_dash : (go : Members) (n : ℕ) (flags : Flags) (sofar : Set) (first : Meaning) (at v : Text) → may_be_second v ≡ false →
    after_dash go n flags sofar first at v ≡ alone go sofar first at
alone_behind_dash go n flags sofar first at [] may = absurd (true≢false may)
alone_behind_dash go n flags sofar first at (c ∷ v) may = grind (arith, common_steps)

-- where no dash leads to a second end, the first end stands alone
pub at_alone : (go : Members) (n : ℕ) (flags : Flags) (sofar : Set) (first : Meaning) (v : Text) → 0 < length v → leads_to_second flags v ≡ false →
    after_first go n flags sofar first v ≡ alone go sofar first v
at_alone go n flags sofar first [] some leads = absurd (omega arith)
at_alone go n flags sofar first (c ∷ v) some leads = grind (arith, common_steps, alone_behind_dash)

-- the function goes on after an item, or the pattern ends there
abbrev pub Passes : Flags → Members → Set → Text → ReadResult Set → Type 0
Passes flags go sofar next a = (a ≡ go sofar next) ⊎ ((skip flags next ≡ []) × (a ≡ stop message.unclosed_after_member []))

-- a gap before the rest does not change what the function returns
abbrev pub MindsNoGap : Flags → Members → Type 0
MindsNoGap flags go = (sofar : Set) (t : Text) → go sofar (skip flags t) ≡ go sofar t

alone_passes : (flags : Flags) (go : Members) (n : ℕ) (sofar one : Set) (next v : Text) (first : Meaning) → MindsNoGap flags go → v ≡ skip flags next →
    leads_to_second flags v ≡ false → set_of first ≡ Some one → Passes flags go (union sofar one) next (after_first go n flags sofar first v)
alone_passes flags go n sofar one next [] first minds gap leads is = inr (sym gap, refl)
alone_passes flags go n sofar one next (c ∷ v) first minds gap leads is = grind (arith, common_steps, at_alone)

in_order : (low high : ℕ) → low ≤ high → nat_le low high ≡ true
in_order low high order = le-leb low high order

-- the function reads each item that the relation reads
pub member_leads : {flags : Flags} {t next : Text} {one : Set} → ReadsMember flags t one next → is_set_operator t ≡ false →
    (n : ℕ) (go : Members) (sofar : Set) → length t ≤ suc n → MindsNoGap flags go →
    Passes flags go (union sofar one) next (reading.member go n flags sofar t)
member_leads {flags} (ReadsMember.named k t next one is same) plain n go sofar room minds =
    inl (ap (reading.member go n flags sofar) is ∙ named_leads k go sofar next ∙ ap (λ set. go (union sofar set) next) (sym same))
member_leads {flags} (ReadsMember.not_named k t next one is same) plain n go sofar room minds =
    inl (ap (reading.member go n flags sofar) is ∙ not_named_leads k go sofar next ∙ ap (λ set. go (union sofar set) next) (sym same))
member_leads {flags} (ReadsMember.range low high t behind after next one may first dashed second last order same) plain n go sofar room minds =
    let front = at_first go n flags sofar t (omega (arith, end_shorter first)) may plain in
    let one_end : class_end n flags t ≡ answer (character low) behind = end_leads first n room in
    let other_end : class_end n flags (skip flags after) ≡ answer (character high) next =
    end_leads last n (omega (arith, end_shorter first, ap length dashed, skip_shorter flags behind, skip_shorter flags after)) in
    let middle = at_second go n flags sofar (character low) (dash ∷ after) (skip flags after) (omega (arith, end_shorter last)) second in
    inl
    (front ∙ ap (λ a. and_then a (λ x rest. after_first go n flags sofar x (skip flags rest))) one_end
    ∙ ap (after_first go n flags sofar (character low)) dashed ∙ middle ∙ ap (λ a. and_then a (reading.range go sofar (character low))) other_end
    ∙ rw (in_order low high order, same) refl)
member_leads {flags} (ReadsMember.alone meaning t next one may first leads is) plain n go sofar room minds =
    let front = at_first go n flags sofar t (omega (arith, end_shorter first)) may plain in
    let one_end : class_end n flags t ≡ answer meaning next = end_leads first n room in
    let before : reading.member go n flags sofar t ≡ after_first go n flags sofar meaning (skip flags next) =
    front ∙ ap (λ a. and_then a (λ x rest. after_first go n flags sofar x (skip flags rest))) one_end in
    subst (Passes flags go (union sofar one) next) (sym before) (alone_passes flags go n sofar one next (skip flags next) meaning minds refl leads is)

-- the function reads all items that the relation reads
pub members_lead : {flags : Flags} {t rest : Text} {set : Set} → ReadsMembers flags t set rest → (n : ℕ) (sofar : Set) → length t ≤ n →
    class_members n flags sofar t ≡ answer (union sofar set) rest
members_lead {flags} (ReadsMembers.closed t rest set gap same) zero sofar room = absurd (omega (arith, ap length gap, skip_shorter flags t))
members_lead {flags} (ReadsMembers.closed t rest set gap same) (suc n) sofar room = grind (arith, common_steps, fun_ext)
members_lead {flags} (ReadsMembers.goes_on t next rest one others set plain member r same) zero sofar room =
    absurd (omega (arith, member_shorter member, skip_shorter flags t))
members_lead {flags} (ReadsMembers.goes_on t next rest one others set plain member r same) (suc n) sofar room =
    elim (member_leads member plain n (class_members n flags) sofar (omega (arith, skip_shorter flags t)) (members_gap n flags)) [
      | inl passes ↦
          passes ∙ members_lead r n (union sofar one) (omega (arith, member_shorter member, skip_shorter flags t))
          ∙ ap (λ all. answer all rest) (union_assoc sofar one others ∙ ap (union sofar) (sym same))
      | inr ends ↦ absurd (omega (arith, members_some r, ap length ends.0))
    ]

by_dashes : (flags : Flags) (dashes t : Text) → 0 < length dashes → 0 < length t → (n : ℕ) (negated : Bool) →
    reading.after_dashes n flags negated dashes t ≡ reading.finished flags negated (class_members n flags (single dash) t)
by_dashes flags [] t some more n negated = absurd (omega arith)
by_dashes flags (d ∷ dashes) [] some more n negated = absurd (omega arith)
by_dashes flags (d ∷ dashes) (c ∷ t) some more n negated = refl

by_neither : (flags : Flags) (t : Text) → next_is (single right_bracket) t ≡ false → 0 < length t → (n : ℕ) (negated : Bool) →
    reading.after_dashes n flags negated [] t ≡ reading.finished flags negated (class_members n flags class.none t)
by_neither flags [] other more n negated = absurd (omega arith)
by_neither flags (c ∷ t) other more n negated = rw other refl

-- the function reads what follows the leading dashes
leading_leads : {flags : Flags} {dashes behind items : Text} {leading : Set} → ReadsLeading flags dashes behind leading items → 0 < length items →
    (n : ℕ) (negated : Bool) →
    reading.after_dashes n flags negated dashes behind ≡ reading.finished flags negated (class_members n flags leading items)
leading_leads {flags} (ReadsLeading.some_dashes t rest set some same is) more n negated = by_dashes flags _ t some (rw is at more) n negated ∙ rw (same, is) refl
leading_leads {flags} (ReadsLeading.bracket t next rest set empty begins same is) more n negated = grind (arith, common_steps)
leading_leads {flags} (ReadsLeading.neither t rest set empty other same is) more n negated =
    ap (λ d. reading.after_dashes n flags negated d t) empty ∙ by_neither flags t other (rw is at more) n negated ∙ rw (same, is) refl

leading_shorter : {flags : Flags} {dashes behind items : Text} {leading : Set} → ReadsLeading flags dashes behind leading items → length items ≤ length behind
leading_shorter (ReadsLeading.some_dashes t rest set some same is) = omega (arith, ap length is)
leading_shorter {flags} (ReadsLeading.bracket t next rest set empty begins same is) = omega (arith, ap length is, ap length begins, skip_shorter flags next)
leading_shorter (ReadsLeading.neither t rest set empty other same is) = omega (arith, ap length is)

pub caret_shorter : {flags : Flags} {t rest : Text} {negated : Bool} → ReadsCaret flags t negated rest → length rest ≤ length t
caret_shorter {flags} (ReadsCaret.caret t next rest negated is gap same) = omega (arith, ap length is, ap length gap, skip_shorter flags next)
caret_shorter (ReadsCaret.none t rest negated other is same) = omega (arith, ap length is)

by_no_caret : (n : ℕ) (flags : Flags) (t : Text) → 0 < length t → next_is (single caret) t ≡ false → reading.bracket n flags t ≡ reading.dashes n flags false t
by_no_caret n flags [] some other = absurd (omega arith)
by_no_caret n flags (c ∷ t) some other = rw other refl

-- the function reads a caret that the relation reads
pub caret_leads : {flags : Flags} {t rest : Text} {negated : Bool} → ReadsCaret flags t negated rest → 0 < length rest → (n : ℕ) →
    reading.bracket n flags t ≡ reading.dashes n flags negated rest
caret_leads {flags} (ReadsCaret.caret t next rest negated is gap same) some n = grind (arith, common_steps)
caret_leads {flags} (ReadsCaret.none t rest negated other is same) some n =
    by_no_caret n flags t (rw is at some) other ∙ ap₂ (reading.dashes n flags) (sym same) (sym is)

-- the function reads the leading dashes that the relation reads
pub dashes_lead : {flags : Flags} {t dashes rest : Text} → ReadsEach flags (single dash) t dashes rest → (n : ℕ) (negated : Bool) → length t ≤ n →
    reading.dashes n flags negated t ≡ reading.after_dashes n flags negated dashes rest
dashes_lead {flags} r n negated room = ap (λ d. reading.after_dashes n flags negated d.0 d.1) (each_complete r n room)

-- the function reads all before the first item that the relation reads
pub front_leads : {flags : Flags} {t items : Text} {negated : Bool} {leading : Set} → ReadsBracketFront flags t negated leading items → 0 < length items →
    (n : ℕ) (next : Text) → t ≡ left_bracket ∷ next → length next ≤ n →
    reading.bracket n flags (skip flags next) ≡ reading.finished flags negated (class_members n flags leading items)
front_leads {flags} (ReadsBracketFront.front t other behind_caret behind_dashes dashes items negated leading begins marked dashed leads) some n next is room =
    let same : next ≡ other = same_behind left_bracket next other (sym is ∙ begins) in
    let short : length behind_caret ≤ n = omega (arith, caret_shorter marked, skip_shorter flags other, ap length same) in
    ap (λ y. reading.bracket n flags (skip flags y)) same
    ∙ caret_leads marked (omega (arith, leading_shorter leads, each_shorter dashed)) n
    ∙ dashes_lead dashed n negated short
    ∙ leading_leads leads some n negated

-- what precedes the first item takes at least a character
pub front_shorter : {flags : Flags} {t items : Text} {negated : Bool} {leading : Set} → ReadsBracketFront flags t negated leading items → length items < length t
front_shorter {flags} (ReadsBracketFront.front t next behind_caret behind_dashes dashes items negated leading begins marked dashed leads) =
    omega (arith, ap length begins, skip_shorter flags next, caret_shorter marked, each_shorter dashed, leading_shorter leads)

-- the function reads each class in brackets that the relation reads, as a set that its ranges list
pub bracket_leads : {flags : Flags} {t rest : Text} {ranges : List Range} → ReadsBracket flags t ranges rest →
    (n : ℕ) (next : Text) → t ≡ left_bracket ∷ next → length next ≤ n →
    (set : Set) × (reading.bracket n flags (skip flags next) ≡ answer set rest) × Lists ranges set
bracket_leads {flags} (ReadsBracket.bracket t items rest negated leading set ranges before members lists) n next is room = (
  with_negation negated (with_cases flags (union leading set)),
  front_leads before (omega (arith, members_some members, skip_shorter flags items)) n next is room
      ∙ ap (reading.finished flags negated) (members_lead members n leading (omega (arith, front_shorter before, ap length is))),
  lists,
)

-- members take at least a character
pub members_shorter : {flags : Flags} {t rest : Text} {set : Set} → ReadsMembers flags t set rest → length rest < length t
members_shorter {flags} (ReadsMembers.closed t rest set gap same) = omega (arith, ap length gap, skip_shorter flags t)
members_shorter {flags} (ReadsMembers.goes_on t next rest one others set plain member r same) =
    omega (arith, member_shorter member, members_shorter r, skip_shorter flags t)

-- a class in brackets takes at least a character
pub bracket_shorter : {flags : Flags} {t rest : Text} {ranges : List Range} → ReadsBracket flags t ranges rest → length rest < length t
bracket_shorter (ReadsBracket.bracket t items rest negated leading set ranges before members lists) =
    omega (arith, front_shorter before, members_shorter members)

pub front_begins : {flags : Flags} {t items : Text} {negated : Bool} {leading : Set} → ReadsBracketFront flags t negated leading items →
    (next : Text) × (t ≡ left_bracket ∷ next)
front_begins (ReadsBracketFront.front t next behind_caret behind_dashes dashes items negated leading begins marked dashed leads) = (next, begins)

-- a class in brackets begins with its bracket
pub bracket_begins : {flags : Flags} {t rest : Text} {ranges : List Range} → ReadsBracket flags t ranges rest → (next : Text) × (t ≡ left_bracket ∷ next)
bracket_begins (ReadsBracket.bracket t items rest negated leading set ranges before members lists) = front_begins before
