-- Classes in brackets, part by part.
use Rattle.std.proofs.Common.{◌≡◌, ◌≤◌, ◌+◌, ◌-◌, ◌++◌, ℕ, Bool, true, false, not, ◌&&◌, ◌||◌, ◌==◌, [], ◌∷◌, List, refl, ap, ap₂, ◌∙◌, subst, arith, ⊎_elim, le-leb, eq-eqb, ne_eqb}
use Rattle.std.proofs.lemmas.Bool.{cases_lt, cases_eq, lt-leb}
use Rattle.std.proofs.lemmas.Bool.Decides.{nat_tests}
use Rattle.bites_spec.specs.Class.{Set, Lists, between, complement, folded, is_lower, is_scalar, is_upper, none, single, union}
use Rattle.bites_spec.specs.Escape.{Meaning, character, characters}
use Rattle.bites_spec.specs.Pattern.{Text}
use Rattle.bites_spec.specs.Range.{Range, in_range, in_ranges}
use Rattle.bites_spec.specs.Reader.{Members, alone, range}
use Rattle.bites_spec.proofs.classes.ClassLemmas.{in_ranges-append, in_ranges-push}
use Rattle.bites_syntax.specs.declared.escape.Meaning as code
use Rattle.bites_syntax.specs.declared.escape.Meaning.TheVariants.{Character, Characters}
use Rattle.bites_syntax.specs.Meanings.{IsMeaning}
use Rattle.bites_syntax.specs.Ranges.{constant_set}
use Rattle.bites_syntax.specs.declared.range_list.Constant.{Constant}
use Rattle.bites_syntax.specs.Members.{Has}

-- a range of one character
range_single : (a c : ℕ) → in_range (a, a) c ≡ (c == a)
range_single a c =
    ⊎_elim (λ e. rw e (rw (le-leb a a (omega arith), eq-eqb a a refl) refl))
    (λ n. ⊎_elim (λ low. rw (lt-leb a c low, ne_eqb c a n) refl)
    (λ high. rw (le-leb a c high, lt-leb c a (omega (arith, high, n)), ne_eqb c a n) refl) (cases_lt c a))
    (cases_eq c a)

-- the ranges with one more
pub Has_push : (ranges new : List Range) (set : Set) (low high : ℕ) → Has ranges set → new ≡ ranges ++ (low, high) ∷ [] → Has new (union set (between low high))
unfolding Has
Has_push ranges new set low high has is = λ c scalar.
    ap (λ x. in_ranges x c) is ∙ in_ranges-push ranges (low, high) c ∙ ap (λ b. b || in_range (low, high) c) (has c scalar)

-- the ranges with one more character
pub Has_single : (ranges new : List Range) (set : Set) (a : ℕ) → Has ranges set → new ≡ ranges ++ (a, a) ∷ [] → Has new (union set (single a))
unfolding Has
Has_single ranges new set a has is = λ c scalar.
    ap (λ x. in_ranges x c) is ∙ in_ranges-push ranges (a, a) c ∙ ap₂ (λ x y. x || y) (has c scalar) (range_single a c)

-- the ranges with those of a class
pub Has_extend : (ranges new added : List Range) (set more : Set) → Has ranges set → Lists added more → new ≡ ranges ++ added → Has new (union set more)
unfolding Has
Has_extend ranges new added set more has lists is = λ c scalar.
    ap (λ x. in_ranges x c) is ∙ in_ranges-append ranges added c ∙ ap₂ (λ x y. x || y) (has c scalar) (lists.same c scalar)

-- no ranges
pub Has_none : (ranges : List Range) → ranges ≡ [] → Has ranges none
unfolding Has
Has_none ranges is = λ c scalar. ap (λ x. in_ranges x c) is

-- one character alone
pub Has_first : (ranges new : List Range) (a : ℕ) → ranges ≡ [] → new ≡ ranges ++ (a, a) ∷ [] → Has new (single a)
unfolding Has
Has_first ranges new a empty is = λ c scalar.
    ap (λ x. in_ranges x c) (is ∙ ap (λ x. x ++ (a, a) ∷ []) empty) ∙ in_ranges-push [] (a, a) c ∙ range_single a c

below_scalar : (c : ℕ) → is_lower c ≡ true → is_scalar (c - 32) ≡ true
below_scalar c lower = grind (arith, nat_tests)

above_scalar : (c : ℕ) → is_upper c ≡ true → is_scalar (c + 32) ≡ true
above_scalar c upper = grind (arith, nat_tests)

and_same : (a x y : Bool) → (a ≡ true → x ≡ y) → (a && x) ≡ (a && y)
and_same true x y e = e refl
and_same false x y e = refl

-- both cases of each letter
pub Has_folded : (ranges new : List Range) (set : Set) → Has ranges set → ((c : ℕ) → in_ranges new c ≡ folded (in_ranges ranges) c) → Has new (folded set)
unfolding Has
Has_folded ranges new set has is = λ c scalar.
    is c ∙ ap₂ (λ x y. x || y)
    (ap₂ (λ x y. x || y) (has c scalar) (and_same (is_lower c) _ _ (λ lower. has (c - 32) (below_scalar c lower))))
    (and_same (is_upper c) _ _ (λ upper. has (c + 32) (above_scalar c upper)))

-- the class of the ranges
pub Lists_set : (found ranges : List Range) (set : Set) → Lists found (in_ranges ranges) → Has ranges set → Lists found set
unfolding Has
Lists_set found ranges set lists has = record { canonical = lists.canonical; same = λ c scalar. lists.same c scalar ∙ has c scalar }

-- the class of all others
pub Lists_others : (found others : List Range) (set : Set) → Lists found set → Lists others (complement (in_ranges found)) → Lists others (complement set)
Lists_others found others set lists negated =
    record { canonical = negated.canonical; same = λ c scalar. negated.same c scalar ∙ ap (λ b. is_scalar c && not b) (lists.same c scalar) }

-- a character alone
pub add_character : (m : code.Meaning) (a : ℕ) (old new : List Range) → m ≡ Character a → new ≡ old ++ (a, a) ∷ [] →
    (k : Meaning) → IsMeaning m k → (rest : Text) (go : Members) (set : Set) → Has old set → (more : Set) × (alone go set k rest ≡ go more rest) × Has new more
add_character m a old new is pushed k means rest go set has =
    let same : k ≡ character a = rw is at means in
    (union set (single a), rw same refl, Has_single old new set a has pushed)

-- a class alone
pub add_class : (m : code.Meaning) (constant : Constant) (added old new : List Range) → m ≡ Characters constant → Lists added (constant_set constant) → new ≡ old ++ added →
    (k : Meaning) → IsMeaning m k → (rest : Text) (go : Members) (set : Set) → Has old set → (more : Set) × (alone go set k rest ≡ go more rest) × Has new more
add_class m constant added old new is lists extended k means rest go set has =
    let found : k ≡ characters (constant_set constant) = (let P : code.Meaning → Type 0 = λ x. IsMeaning x k in subst P is means) in
    (union set (constant_set constant), ap (λ x. alone go set x rest) found, Has_extend old new added set (constant_set constant) has lists extended)

-- a range
pub add_between : (m n : code.Meaning) (low high : ℕ) (old new : List Range) → m ≡ Character low → n ≡ Character high → low ≤ high → new ≡ old ++ (low, high) ∷ [] →
    (j k : Meaning) → IsMeaning m j → IsMeaning n k → (rest : Text) (go : Members) (set : Set) → Has old set →
    (more : Set) × (range go set j k rest ≡ go more rest) × Has new more
add_between m n low high old new first second order pushed j k means others rest go set has =
    let one : j ≡ character low = rw first at means in
    let two : k ≡ character high = rw second at others in
    (union set (between low high), rw (one, two) (rw (le-leb low high order) refl), Has_push old new set low high has pushed)
