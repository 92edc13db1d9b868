-- What the reader returns for a class in brackets, the grammar's relations read.
use Rattle.std.proofs.lemmas.Grind.{common_steps}
use Rattle.std.proofs.Common.{◌≡◌, ℕ, zero, suc, ◌+◌, ◌<◌, ◌≤◌, Bool, true, false, not, ◌&&◌, ◌||◌, ◌==◌, List, [], ◌∷◌, ◌++◌, length, drop, refl, sym, ap, ◌∙◌, subst, ⊎_elim, arith, Ok, Err, eqb-true, leb-true, leb-false, length-append, length-drop}
use Rattle.std.specs.Prelude.{codes, nat_le}
use Rattle.std.specs.List.{list_any}
use Rattle.std.proofs.Math.Path.{fun_ext}
use Rattle.std.proofs.lemmas.Bool.{cases_Bool, and_parts}
use Rattle.bites_spec.specs.Message as message
use Rattle.bites_spec.specs.Range.{Range}
use Rattle.bites_spec.specs.Class as class
use Rattle.bites_spec.specs.Class.{Set, NamedClass, named_classes, class_name, members, single, between, union, complement, Lists}
use Rattle.bites_spec.specs.Pattern.{Text, Flags, skip, next_is, one_of, begins, caret, dash, left_bracket, right_bracket, ReadsEach}
use Rattle.bites_spec.specs.Escape.{Meaning, character, characters, assertion}
use Rattle.bites_spec.specs.EscapeFault.{StuckEscape}
use Rattle.bites_spec.specs.Bracket.{ReadsCaret, ReadsLeading, ReadsBracketFront, ReadsEnd, ReadsMember, ReadsMembers, ReadsBracket, may_be_first, may_be_second, leads_to_second, is_twice, is_set_operator, with_cases, with_negation}
use Rattle.bites_spec.specs.BracketFault.{begins_named_class, is_single, StuckMembers, StuckBracket}
use Rattle.bites_spec.specs.Reader as reading
use Rattle.bites_spec.specs.Reader.{ReadResult, Members, stop, and_then, class_members}
use Rattle.bites_spec.proofs.characters.EachLemmas.{skip_shorter, each_sound, each_shorter}
use Rattle.bites_spec.proofs.characters.EscapeLemmas.{Means, either_side}
use Rattle.bites_spec.proofs.brackets.BracketText.{skip_again, skip_nil, union_assoc, begins_append, end_shorter, end_means}
use Rattle.std.proofs.Math.Bool.{or-false}

-- what a result for the members of a class claims of the relations, from the set so far
abbrev pub MembersMean : Flags → Set → Text → ReadResult Set → Type 0
MembersMean flags sofar t =
    Means (λ all rest. (others : Set) × ReadsMembers flags t others rest × (all ≡ union sofar others)) (StuckMembers flags t)

-- the function reads the members of a class, and a gap before them does not matter
abbrev pub GoesOn : Flags → ℕ → Members → Type 0
GoesOn flags n go = (sofar : Set) (t : Text) → length t ≤ n → MembersMean flags sofar t (go sofar t) × (go sofar (skip flags t) ≡ go sofar t)

one_more : (flags : Flags) (sofar one : Set) (t u next : Text) (a : ReadResult Set) → u ≡ skip flags t → is_set_operator u ≡ false → ReadsMember flags u one next →
    MembersMean flags (union sofar one) next a → MembersMean flags sofar t a
one_more flags sofar one t u next (Ok x) at plain member means = (
  union one means.0,
  ReadsMembers.goes_on t next x.1 one means.0 _ (ap is_set_operator (sym at) ∙ plain) (subst (λ y. ReadsMember flags y one next) at member) means.1 refl,
  means.2 ∙ union_assoc sofar one means.0,
)
one_more flags sofar one t u next (Err e) at plain member means =
    StuckMembers.later t next e.place one e.message (ap is_set_operator (sym at) ∙ plain) (subst (λ y. ReadsMember flags y one next) at member) means

-- how a named class is written; below it, how it is written with a caret
abbrev pub name_front : NamedClass → Text
name_front k = codes "[:" ++ class_name k ++ codes ":]"

abbrev pub not_name_front : NamedClass → Text
not_name_front k = codes "[:^" ++ class_name k ++ codes ":]"

pub name_front-length : (k : NamedClass) → length (name_front k) ≡ 4 + length (class_name k)
name_front-length k = omega (arith, length-append (class_name k) (codes ":]"))

pub not_name_front-length : (k : NamedClass) → length (not_name_front k) ≡ 5 + length (class_name k)
not_name_front-length k = omega (arith, length-append (class_name k) (codes ":]"))

front_of : (k : NamedClass) (u : Text) → begins (name_front k) u ≡ true → u ≡ name_front k ++ drop (4 + length (class_name k)) u
front_of k u b = begins_append (name_front k) u b ∙ ap (λ l. name_front k ++ drop l u) (name_front-length k)

not_front_of : (k : NamedClass) (u : Text) → begins (not_name_front k) u ≡ true → u ≡ not_name_front k ++ drop (5 + length (class_name k)) u
not_front_of k u b = begins_append (not_name_front k) u b ∙ ap (λ l. not_name_front k ++ drop l u) (not_name_front-length k)

-- an item that begins with a bracket
named_means : (flags : Flags) (n : ℕ) (go : Members) (sofar : Set) (t u rest : Text) → length u ≤ suc n → GoesOn flags n go →
    u ≡ skip flags t → u ≡ left_bracket ∷ rest → (classes : List NamedClass) →
    list_any (λ name. begins (name_front name) u || begins (not_name_front name) u) classes ≡ begins_named_class u →
    MembersMean flags sofar t (reading.named go sofar u classes)
named_means flags n go sofar t u rest room on at is [] others = StuckMembers.nested t rest u message.nested_class at is (sym others) refl
named_means flags n go sofar t u rest room on at is (k ∷ classes) others =
    let plain : is_set_operator u ≡ false = ap is_set_operator is in
    either_side (MembersMean flags sofar t) (begins (name_front k) u) _ _
    (λ b.
    one_more flags sofar (members k) t u (drop (4 + length (class_name k)) u) _ at plain (ReadsMember.named k u _ _ (front_of k u b) refl)
    (on (union sofar (members k)) (drop (4 + length (class_name k)) u) (omega (arith, length-drop (4 + length (class_name k)) u))).0)
    (λ b. either_side (MembersMean flags sofar t) (begins (not_name_front k) u) _ _
    (λ d.
    one_more flags sofar (complement (members k)) t u (drop (5 + length (class_name k)) u) _ at plain (ReadsMember.not_named k u _ _ (not_front_of k u d) refl)
    (on (union sofar (complement (members k))) (drop (5 + length (class_name k)) u) (omega (arith, length-drop (5 + length (class_name k)) u))).0)
    (λ d. named_means flags n go sofar t u rest room on at is classes (rw (b, d) at others)))

-- an item of one end
alone_means : (flags : Flags) (n : ℕ) (go : Members) (sofar : Set) (t u behind : Text) (first : Meaning) → length behind ≤ n → GoesOn flags n go →
    u ≡ skip flags t → is_set_operator u ≡ false → may_be_first u ≡ true → ReadsEnd flags u first behind →
    leads_to_second flags (skip flags behind) ≡ false → MembersMean flags sofar t (reading.alone go sofar first (skip flags behind))
alone_means flags n go sofar t u behind (character c) room on at plain may reads alone =
    let going = on (union sofar (single c)) behind room in
    one_more flags sofar (single c) t u behind _ at plain (ReadsMember.alone (character c) u behind (single c) may reads alone refl)
    (subst (MembersMean flags (union sofar (single c)) behind) (sym going.1) going.0)
alone_means flags n go sofar t u behind (characters more) room on at plain may reads alone =
    let going = on (union sofar more) behind room in
    one_more flags sofar more t u behind _ at plain (ReadsMember.alone (characters more) u behind more may reads alone refl)
    (subst (MembersMean flags (union sofar more) behind) (sym going.1) going.0)
alone_means flags n go sofar t u behind (assertion l) room on at plain may reads alone =
    StuckMembers.assertion_alone t behind (skip flags behind) (assertion l) l _ (subst (λ y. ReadsEnd flags y (assertion l) behind) at reads) refl refl alone refl

-- a first end and a dash that leads to a second end
abbrev Between : Flags → Text → Meaning → Text → Text → Type 0
Between flags u first behind next =
    (is_set_operator u ≡ false) × (may_be_first u ≡ true) × ReadsEnd flags u first behind × (skip flags behind ≡ dash ∷ next)
    × (may_be_second (skip flags next) ≡ true)

no_character : (flags : Flags) (u t behind next place : Text) (first second : Meaning) → u ≡ skip flags t → Between flags u first behind next →
    ReadsEnd flags (skip flags next) second place → (is_single first && is_single second) ≡ false →
    StuckMembers flags t message.range_of_no_character place
no_character flags u t behind next place first second at between reads single =
    StuckMembers.no_character t behind next place first second _ (ap may_be_first (sym at) ∙ between.1)
    (subst (λ y. ReadsEnd flags y first behind) at between.2) between.3 between.4 reads single refl

range_means : (flags : Flags) (n : ℕ) (go : Members) (sofar : Set) (t u behind next rest : Text) (first second : Meaning) → length rest ≤ n → GoesOn flags n go →
    u ≡ skip flags t → Between flags u first behind next → ReadsEnd flags (skip flags next) second rest →
    MembersMean flags sofar t (reading.range go sofar first second rest)
range_means flags n go sofar t u behind next rest (character low) (character high) room on at between reads =
    either_side (MembersMean flags sofar t) (nat_le low high) _ _
    (λ b.
    one_more flags sofar (class.between low high) t u rest _ at between.0
    (ReadsMember.range low high u behind next rest _ between.1 between.2 between.3 between.4 reads (leb-true low high b) refl)
    (on (union sofar (class.between low high)) rest room).0)
    (λ b.
    StuckMembers.crossed low high t behind next rest _ (ap may_be_first (sym at) ∙ between.1)
    (subst (λ y. ReadsEnd flags y (character low) behind) at between.2) between.3 between.4 reads (leb-false low high b) refl)
range_means flags n go sofar t u behind next rest (character low) (characters more) room on at between reads =
    no_character flags u t behind next rest _ _ at between reads refl
range_means flags n go sofar t u behind next rest (character low) (assertion l) room on at between reads =
    no_character flags u t behind next rest _ _ at between reads refl
range_means flags n go sofar t u behind next rest (characters more) second room on at between reads =
    no_character flags u t behind next rest _ _ at between reads refl
range_means flags n go sofar t u behind next rest (assertion l) second room on at between reads =
    no_character flags u t behind next rest _ _ at between reads refl

second_means : (flags : Flags) (n : ℕ) (go : Members) (sofar : Set) (t u behind next : Text) (first : Meaning) (a : ReadResult Meaning) →
    length next ≤ n → GoesOn flags n go → u ≡ skip flags t → Between flags u first behind next →
    Means (ReadsEnd flags (skip flags next)) (StuckEscape flags (skip flags next)) a →
    MembersMean flags sofar t (and_then a (reading.range go sofar first))
second_means flags n go sofar t u behind next first (Ok x) room on at between means =
    range_means flags n go sofar t u behind next x.1 first x.0 (omega (arith, end_shorter means, skip_shorter flags next)) on at between means
second_means flags n go sofar t u behind next first (Err e) room on at between means =
    StuckMembers.in_second t behind next e.place first e.message (ap may_be_first (sym at) ∙ between.1)
    (subst (λ y. ReadsEnd flags y first behind) at between.2) between.3 means

dash_means : (flags : Flags) (n : ℕ) (go : Members) (sofar : Set) (t u behind next v : Text) (first : Meaning) →
    length behind ≤ n → GoesOn flags n go → u ≡ skip flags t → is_set_operator u ≡ false → may_be_first u ≡ true → ReadsEnd flags u first behind →
    skip flags behind ≡ dash ∷ next → v ≡ skip flags next →
    MembersMean flags sofar t (reading.after_dash go n flags sofar first (dash ∷ next) v)
dash_means flags n go sofar t u behind next [] first room on at plain may reads dashed ends =
    StuckMembers.ends_after_dash t behind next [] first _ (ap may_be_first (sym at) ∙ may) (subst (λ y. ReadsEnd flags y first behind) at reads) dashed
    (sym ends) refl refl
dash_means flags n go sofar t u behind next (c ∷ v) first room on at plain may reads dashed gap =
    let shorter : length next < length behind = omega (arith, ap length dashed, skip_shorter flags behind) in
    either_side (MembersMean flags sofar t) (one_of (codes "]-") c) _ _
    (λ b.
    let no_second : may_be_second (skip flags next) ≡ false = ap may_be_second (sym gap) ∙ ap not b in
    subst (λ y. MembersMean flags sofar t (reading.alone go sofar first y)) dashed
    (alone_means flags n go sofar t u behind first room on at plain may reads (ap (leads_to_second flags) dashed ∙ no_second)))
    (λ b.
    let second : may_be_second (skip flags next) ≡ true = ap may_be_second (sym gap) ∙ ap not b in
    second_means flags n go sofar t u behind next first (reading.class_end n flags (c ∷ v)) (omega arith) on at (plain, may, reads, dashed, second)
    (subst (λ y. Means (ReadsEnd flags y) (StuckEscape flags y) (reading.class_end n flags (c ∷ v))) gap
    (end_means n flags c v (omega (arith, ap length gap, skip_shorter flags next)))))

first_means : (flags : Flags) (n : ℕ) (go : Members) (sofar : Set) (t u behind v : Text) (first : Meaning) →
    length behind ≤ n → GoesOn flags n go → u ≡ skip flags t → is_set_operator u ≡ false → may_be_first u ≡ true → ReadsEnd flags u first behind →
    v ≡ skip flags behind → MembersMean flags sofar t (reading.after_first go n flags sofar first v)
first_means flags n go sofar t u behind [] first room on at plain may reads ends =
    StuckMembers.ends_after_first t behind [] first _ (ap may_be_first (sym at) ∙ may) (subst (λ y. ReadsEnd flags y first behind) at reads) (sym ends) refl refl
first_means flags n go sofar t u behind (c ∷ v) first room on at plain may reads gap = grind (arith, common_steps, either_side, eqb-true, dash_means, alone_means)

end_then : (flags : Flags) (n : ℕ) (go : Members) (sofar : Set) (t u : Text) (a : ReadResult Meaning) →
    length u ≤ suc n → GoesOn flags n go → u ≡ skip flags t → is_set_operator u ≡ false → may_be_first u ≡ true →
    Means (ReadsEnd flags u) (StuckEscape flags u) a →
    MembersMean flags sofar t (and_then a (λ first rest. reading.after_first go n flags sofar first (skip flags rest)))
end_then flags n go sofar t u (Ok x) room on at plain may means =
    first_means flags n go sofar t u x.1 (skip flags x.1) x.0 (omega (arith, end_shorter means)) on at plain may means refl
end_then flags n go sofar t u (Err e) room on at plain may means =
    StuckMembers.in_first t e.place e.message (subst (λ y. StuckEscape flags y e.message e.place) at means)

pub twice_begins : (d c : ℕ) (u : Text) → is_twice d (c ∷ u) ≡ true → c ≡ d
twice_begins d c u e = eqb-true c d (and_parts (c == d) (next_is (single d) u) e).0

-- at an operator on sets the relations stop, with the message of its character
operator_means : (flags : Flags) (sofar : Set) (t : Text) (c : ℕ) (u : Text) → c ∷ u ≡ skip flags t → is_set_operator (c ∷ u) ≡ true →
    MembersMean flags sofar t (stop (reading.set_operator_message c) (c ∷ u))
operator_means flags sofar t c u at e =
    ⊎_elim
    (λ (b : is_twice 38 (c ∷ u) ≡ true). StuckMembers.intersection t (c ∷ u) _ at b (ap reading.set_operator_message (twice_begins 38 c u b)))
    (λ (b : is_twice 38 (c ∷ u) ≡ false).
    ⊎_elim
    (λ (d : is_twice dash (c ∷ u) ≡ true). StuckMembers.difference t (c ∷ u) _ at d (ap reading.set_operator_message (twice_begins dash c u d)))
    (λ (d : is_twice dash (c ∷ u) ≡ false).
    let f : is_twice 126 (c ∷ u) ≡ true = rw (b, d) at e in
    StuckMembers.symmetric_difference t (c ∷ u) _ at f (ap reading.set_operator_message (twice_begins 126 c u f)))
    (cases_Bool (is_twice dash (c ∷ u))))
    (cases_Bool (is_twice 38 (c ∷ u)))

-- a function that reads what follows reads an item and what follows it
member_means : (flags : Flags) (n : ℕ) (go : Members) (sofar : Set) (t u : Text) → length u ≤ suc n → GoesOn flags n go → u ≡ skip flags t →
    MembersMean flags sofar t (reading.member go n flags sofar u)
member_means flags n go sofar t [] room on at = StuckMembers.ends t [] _ (sym at) refl refl
member_means flags n go sofar t (c ∷ u) room on at =
    either_side (MembersMean flags sofar t) (c == right_bracket) _ _
    (λ b. (class.none, ReadsMembers.closed t u _ (sym at ∙ ap (λ x. x ∷ u) (eqb-true c right_bracket b)) refl, fun_ext (λ x. sym (or-false (sofar x)))))
    (λ b. either_side (MembersMean flags sofar t) (c == left_bracket) _ _
    (λ d. named_means flags n go sofar t (c ∷ u) u room on at (ap (λ x. x ∷ u) (eqb-true c left_bracket d)) named_classes refl)
    (λ d. either_side (MembersMean flags sofar t) (is_set_operator (c ∷ u)) _ _
    (λ o. operator_means flags sofar t c u at o)
    (λ o.
    end_then flags n go sofar t (c ∷ u) (reading.class_end n flags (c ∷ u)) room on at o (rw (d, b) refl) (end_means n flags c u (omega arith)))))

pub members_gap : (n : ℕ) (flags : Flags) (sofar : Set) (t : Text) → class_members n flags sofar (skip flags t) ≡ class_members n flags sofar t
members_gap zero flags sofar t = refl
members_gap (suc n) flags sofar t = ap (reading.member (class_members n flags) n flags sofar) (skip_again flags t)

-- what the function returns for the members of a class, the relations read
pub members_means : (n : ℕ) (flags : Flags) (sofar : Set) (t : Text) → length t ≤ n → MembersMean flags sofar t (class_members n flags sofar t)
members_means zero flags sofar [] room = StuckMembers.ends [] [] _ (skip_nil flags) refl refl
members_means zero flags sofar (c ∷ t) room = absurd (omega arith)
members_means (suc n) flags sofar t room =
    member_means flags n (class_members n flags) sofar t (skip flags t) (omega (arith, skip_shorter flags t))
    (λ more u within. (members_means n flags more u within, members_gap n flags more u)) refl

-- what a result for a class in brackets claims of the relations, from after the bracket
abbrev pub BracketMeans : Flags → Text → ReadResult Set → Type 0
BracketMeans flags next =
    Means (λ set rest. (ranges : List Range) → Lists ranges set → ReadsBracket flags (left_bracket ∷ next) ranges rest)
    (StuckBracket flags (left_bracket ∷ next))

finished_means : (flags : Flags) (next items : Text) (negated : Bool) (leading : Set) (a : ReadResult Set) →
    ReadsBracketFront flags (left_bracket ∷ next) negated leading items → MembersMean flags leading items a →
    BracketMeans flags next (reading.finished flags negated a)
finished_means flags next items negated leading (Ok x) before means = λ ranges lists.
    ReadsBracket.bracket (left_bracket ∷ next) items x.1 negated leading means.0 ranges before means.1
    (subst (λ set. Lists ranges (with_negation negated (with_cases flags set))) means.2 lists)
finished_means flags next items negated leading (Err e) before means =
    StuckBracket.in_members (left_bracket ∷ next) items e.place negated leading e.message before means

pub each_none : {flags : Flags} {set : Set} {t chars rest : Text} → ReadsEach flags set t chars rest → chars ≡ [] → rest ≡ t
each_none (ReadsEach.none t chars rest ends is same) empty = same
each_none (ReadsEach.more c t next chars others rest is pass r same) empty = absurd (omega (arith, ap length empty, ap length same))

-- from next to behind stand a caret, if negated, and the leading dashes
abbrev Led : Flags → Text → Bool → Text → Text → Text → Type 0
Led flags next negated u dashes behind = ReadsCaret flags (skip flags next) negated u × ReadsEach flags (single dash) u dashes behind

led : (flags : Flags) (next : Text) (negated : Bool) (u dashes behind items : Text) (leading : Set) → Led flags next negated u dashes behind →
    ReadsLeading flags dashes behind leading items → ReadsBracketFront flags (left_bracket ∷ next) negated leading items
led flags next negated u dashes behind items leading front leads =
    ReadsBracketFront.front (left_bracket ∷ next) next u behind dashes items negated leading refl front.0 front.1 leads

bracket_first_means : (n : ℕ) (flags : Flags) (next : Text) (negated : Bool) (u more v : Text) → length more ≤ n →
    Led flags next negated u [] (right_bracket ∷ more) → v ≡ skip flags more → BracketMeans flags next (reading.after_bracket n flags negated v)
bracket_first_means n flags next negated u more [] room front ends =
    StuckBracket.ends_after_bracket (left_bracket ∷ next) next u more [] negated _ refl front.0 (sym (each_none front.1 refl)) (sym ends) refl refl
bracket_first_means n flags next negated u more (c ∷ v) room front at =
    finished_means flags next (c ∷ v) negated (single right_bracket) _
    (led flags next negated u [] (right_bracket ∷ more) (c ∷ v) (single right_bracket) front
    (ReadsLeading.bracket (right_bracket ∷ more) more (c ∷ v) _ refl refl refl at))
    (members_means n flags (single right_bracket) (c ∷ v) (omega (arith, ap length at, skip_shorter flags more)))

led_means : (n : ℕ) (flags : Flags) (next : Text) (negated : Bool) (u dashes behind : Text) → length behind ≤ n → Led flags next negated u dashes behind →
    BracketMeans flags next (reading.after_dashes n flags negated dashes behind)
led_means n flags next negated u [] [] room front =
    StuckBracket.in_members (left_bracket ∷ next) [] [] negated class.none _
    (led flags next negated u [] [] [] class.none front (ReadsLeading.neither [] [] _ refl refl refl refl))
    (StuckMembers.ends [] [] _ (skip_nil flags) refl refl)
led_means n flags next negated u (d ∷ dashes) [] room front =
    StuckBracket.ends_after_dashes (left_bracket ∷ next) next u (d ∷ dashes) [] negated _ refl front.0 front.1 (omega arith) refl refl
led_means n flags next negated u (d ∷ dashes) (c ∷ t) room front =
    finished_means flags next (c ∷ t) negated (single dash) _
    (led flags next negated u (d ∷ dashes) (c ∷ t) (c ∷ t) (single dash) front (ReadsLeading.some_dashes (c ∷ t) (c ∷ t) _ (omega arith) refl refl))
    (members_means n flags (single dash) (c ∷ t) room)
led_means n flags next negated u [] (c ∷ t) room front =
    either_side (BracketMeans flags next) (c == right_bracket) _ _
    (λ b.
    bracket_first_means n flags next negated u t (skip flags t) (omega arith)
    (subst (λ x. Led flags next negated u [] (x ∷ t)) (eqb-true c right_bracket b) front) refl)
    (λ b.
    finished_means flags next (c ∷ t) negated class.none _
    (led flags next negated u [] (c ∷ t) (c ∷ t) class.none front (ReadsLeading.neither (c ∷ t) (c ∷ t) _ refl b refl refl))
    (members_means n flags class.none (c ∷ t) room))

dashes_mean : (n : ℕ) (flags : Flags) (next : Text) (negated : Bool) (u : Text) → length u ≤ n → ReadsCaret flags (skip flags next) negated u →
    BracketMeans flags next (reading.dashes n flags negated u)
dashes_mean n flags next negated u room marked = grind (arith, common_steps, each_sound, led_means, each_shorter)

caret_means : (n : ℕ) (flags : Flags) (next u v : Text) → length u ≤ n → skip flags next ≡ caret ∷ u → v ≡ skip flags u →
    BracketMeans flags next (reading.after_caret n flags v)
caret_means n flags next u [] room is ends =
    StuckBracket.ends_after_caret (left_bracket ∷ next) next [] _ refl (ReadsCaret.caret _ u [] true is ends refl) refl refl
caret_means n flags next u (c ∷ v) room is at =
    dashes_mean n flags next true (c ∷ v) (omega (arith, ap length at, skip_shorter flags u)) (ReadsCaret.caret _ u (c ∷ v) true is at refl)

bracket_by : (n : ℕ) (flags : Flags) (next u : Text) → length u ≤ n → u ≡ skip flags next → BracketMeans flags next (reading.bracket n flags u)
bracket_by n flags next [] room ends = StuckBracket.ends_at_once (left_bracket ∷ next) next [] _ refl (sym ends) refl refl
bracket_by n flags next (c ∷ u) room at =
    either_side (BracketMeans flags next) (c == caret) _ _
    (λ b. caret_means n flags next u (skip flags u) (omega arith) (sym at ∙ ap (λ x. x ∷ u) (eqb-true c caret b)) refl)
    (λ b.
    dashes_mean n flags next false (c ∷ u) room
    (ReadsCaret.none _ (c ∷ u) false (ap (next_is (single caret)) (sym at) ∙ b) at refl))

-- what the function returns for a class in brackets, the relations read
pub bracket_means : (n : ℕ) (flags : Flags) (next : Text) → length next ≤ n → BracketMeans flags next (reading.bracket n flags (skip flags next))
bracket_means n flags next room = bracket_by n flags next (skip flags next) (omega (arith, skip_shorter flags next)) refl
