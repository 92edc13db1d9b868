-- Named classes in brackets.
use Rattle.std.proofs.Common.{◌≡◌, ◌<◌, ◌+◌, ◌++◌, ℕ, Bool, true, false, ◌&&◌, ◌==◌, [], ◌∷◌, List, length, drop, map, get_or, Some, None, inl, inr, refl, sym, ap, ◌∙◌, arith, length-append, length-drop, drop-cons, add-one}
use Rattle.std.specs.Prelude.{codes}
use Rattle.std.proofs.lemmas.Bool.{false≢true, cases_Bool}
use Rattle.std.proofs.lemmas.List.{drop-drop}
use Rattle.bites_spec.specs.Class.{Set, NamedClass, class_name, union}
use Rattle.bites_spec.specs.Message as message
use Rattle.bites_spec.specs.Pattern.{Text, begins}
use Rattle.bites_spec.specs.Reader.{ReadResult, Members, named, stop}
use Rattle.bites_syntax.specs.Members.{members_named, named_at}

and_false : (x : Bool) → (x && false) ≡ false
and_false true = refl
and_false false = refl

-- a text that begins with two texts
begins_both : (a b t : Text) → begins (a ++ b) t ≡ (begins a t && begins b (drop (length a) t))
begins_both [] b t = refl
begins_both (c ∷ a) b [] = refl
begins_both (c ∷ a) b (d ∷ t) = ap (λ x. (c == d) && x) (begins_both a b t) ∙ and_assoc (c == d) (begins a t) (begins b (drop (length a) t))
  where
    and_assoc : (x y z : Bool) → (x && (y && z)) ≡ ((x && y) && z)
    and_assoc true y z = refl
    and_assoc false y z = refl

-- the first text does not stand here
pub no_first : (a b c t u : Text) → u ≡ t → begins a u ≡ false → begins ((a ++ b) ++ c) t ≡ false
no_first a b c t u same none =
    let first : begins a t ≡ false = rw (← same) none in
    let both : begins (a ++ b) t ≡ false = begins_both a b t ∙ rw first refl in
    begins_both (a ++ b) c t ∙ rw both refl

-- the second does not stand after it
pub no_second : (a b c t u v : Text) → u ≡ t → v ≡ drop (length a) u → begins b v ≡ false → begins ((a ++ b) ++ c) t ≡ false
no_second a b c t u v same behind none =
    let second : begins b (drop (length a) t) ≡ false = rw (← same) (rw (← behind) none) in
    let both : begins (a ++ b) t ≡ false = begins_both a b t ∙ rw second (and_false (begins a t)) in
    begins_both (a ++ b) c t ∙ rw both refl

behind_both : (a b t u v w : Text) → u ≡ t → v ≡ drop (length a) u → w ≡ drop (length b) v → w ≡ drop (length (a ++ b)) t
behind_both a b t u v w same behind next =
    next ∙ ap (drop (length b)) (behind ∙ ap (drop (length a)) same) ∙ drop-drop (length b) (length a) t ∙ ap (λ n. drop n t) (sym (length-append a b))

-- the third does not stand after both
pub no_third : (a b c t u v w : Text) → u ≡ t → v ≡ drop (length a) u → w ≡ drop (length b) v → begins c w ≡ false → begins ((a ++ b) ++ c) t ≡ false
no_third a b c t u v w same behind next none =
    let third : begins c (drop (length (a ++ b)) t) ≡ false = rw (← behind_both a b t u v w same behind next) none in
    begins_both (a ++ b) c t ∙ rw third (and_false (begins (a ++ b) t))

-- all three stand here
pub all_three : (a b c t u v w rest : Text) → u ≡ t → begins a u ≡ true → v ≡ drop (length a) u → begins b v ≡ true → w ≡ drop (length b) v → begins c w ≡ true →
    rest ≡ drop (length c) w → (begins ((a ++ b) ++ c) t ≡ true) × (rest ≡ drop (length ((a ++ b) ++ c)) t)
all_three a b c t u v w rest same first behind second next third last =
    let both : begins (a ++ b) t ≡ true = begins_both a b t ∙ rw (← same) (rw (first, ← behind) second) in
    let at : w ≡ drop (length (a ++ b)) t = behind_both a b t u v w same behind next in (
      begins_both (a ++ b) c t ∙ rw both (rw (← at) third),
      last ∙ ap (drop (length c)) at ∙ drop-drop (length c) (length (a ++ b)) t ∙ ap (λ n. drop n t) (sym (length-append (a ++ b) c)),
    )

-- how a named class is written
abbrev written : Text → NamedClass → Text
written opening k = opening ++ class_name k ++ codes ":]"

length_written : (opening : Text) (k : NamedClass) → length (written opening k) ≡ (length opening + 2) + length (class_name k)
length_written opening k = omega (arith, length-append (opening ++ class_name k) (codes ":]"), length-append opening (class_name k))

-- the class stands here
pub named_here : (t rest : Text) (k : NamedClass) (classes : List NamedClass) → begins (written (codes "[:") k) t ≡ true → rest ≡ drop (length (written (codes "[:") k)) t →
    named_at t (k ∷ classes) ≡ Some (k, false, rest)
unfolding named_at
named_here t rest k classes stands behind = rw stands (ap (λ r. Some (k, false, r)) (ap (λ n. drop n t) (sym (length_written (codes "[:") k)) ∙ sym behind))

-- the class stands here after a caret
pub not_named_here : (t rest : Text) (k : NamedClass) (classes : List NamedClass) → begins (written (codes "[:") k) t ≡ false → begins (written (codes "[:^") k) t ≡ true →
    rest ≡ drop (length (written (codes "[:^") k)) t → named_at t (k ∷ classes) ≡ Some (k, true, rest)
unfolding named_at
not_named_here t rest k classes none stands behind =
    rw (none, stands) (ap (λ r. Some (k, true, r)) (ap (λ n. drop n t) (sym (length_written (codes "[:^") k)) ∙ sym behind))

-- it does not stand here
pub named_elsewhere : (t : Text) (k : NamedClass) (classes : List NamedClass) → begins (written (codes "[:") k) t ≡ false → begins (written (codes "[:^") k) t ≡ false →
    named_at t (k ∷ classes) ≡ named_at t classes
unfolding named_at
named_elsewhere t k classes none no_other = rw (none, no_other) refl

-- no class is left
pub named_nowhere : (t : Text) → named_at t [] ≡ None
unfolding named_at
named_nowhere t = refl

some_same : {p q : NamedClass × Bool × Text} → Some p ≡ Some q → p ≡ q
some_same e = cc

-- the reader refuses
pub named_none : (go : Members) (set : Set) (t : Text) (classes : List NamedClass) → named_at t classes ≡ None → named go set t classes ≡ stop message.nested_class t
unfolding named_at
named_none go set t [] is = refl
named_none go set t (k ∷ classes) is = elim (cases_Bool (begins (written (codes "[:") k) t)) [
  | inl here ↦ absurd (let e : Some (k, false, drop (4 + length (class_name k)) t) ≡ None = rw here at is in cc)
  | inr none ↦ elim (cases_Bool (begins (written (codes "[:^") k) t)) [
    | inl here ↦ absurd (let e : Some (k, true, drop (5 + length (class_name k)) t) ≡ None = rw (none, here) at is in cc)
    | inr no_other ↦ rw (none, no_other) (named_none go set t classes (rw (none, no_other) at is))
  ]
]

-- the reader goes on after the class
pub named_some : (go : Members) (set : Set) (t rest : Text) (classes : List NamedClass) (k : NamedClass) (negated : Bool) → named_at t classes ≡ Some (k, negated, rest) →
    named go set t classes ≡ go (union set (members_named k negated)) rest
unfolding named_at
named_some go set t rest [] k negated is = absurd (let e : None ≡ Some (k, negated, rest) = is in cc)
named_some go set t rest (j ∷ classes) k negated is =
    let follows : NamedClass × Bool × Text → ReadResult Set = λ p. go (union set (members_named p.0 p.1)) p.2 in
    elim (cases_Bool (begins (written (codes "[:") j) t)) [
      | inl here ↦ (let e : Some (j, false, drop (4 + length (class_name j)) t) ≡ Some (k, negated, rest) = rw here at is in rw here (ap follows (some_same e)))
      | inr none ↦ elim (cases_Bool (begins (written (codes "[:^") j) t)) [
        | inl here ↦ (let e : Some (j, true, drop (5 + length (class_name j)) t) ≡ Some (k, negated, rest) = rw (none, here) at is in rw (none, here) (ap follows (some_same e)))
        | inr no_other ↦ rw (none, no_other) (named_some go set t rest classes k negated (rw (none, no_other) at is))
      ]
    ]

behind_shorter : (n : ℕ) → 0 < n → (a t : Text) → begins (91 ∷ a) t ≡ true → length (drop n t) < length t
behind_shorter n some a [] is = absurd (false≢true is)
behind_shorter n some a (c ∷ t) is = omega (arith, some, length-drop n (c ∷ t))

-- a named class has some characters
pub named_shorter : (t rest : Text) (classes : List NamedClass) (k : NamedClass) (negated : Bool) → named_at t classes ≡ Some (k, negated, rest) → length rest < length t
unfolding named_at
named_shorter t rest [] k negated is = absurd (let e : None ≡ Some (k, negated, rest) = is in cc)
named_shorter t rest (j ∷ classes) k negated is =
    let at_end : NamedClass × Bool × Text → ℕ = λ p. length p.2 in
    elim (cases_Bool (begins (written (codes "[:") j) t)) [
      | inl here ↦ (let e : Some (j, false, drop (4 + length (class_name j)) t) ≡ Some (k, negated, rest) = rw here at is in
          let shorter : length (drop (4 + length (class_name j)) t) ≡ length rest = ap at_end (some_same e) in
          let less : length (drop (4 + length (class_name j)) t) < length t = behind_shorter (4 + length (class_name j)) (omega arith) (58 ∷ class_name j ++ codes ":]") t here in
          omega (arith, shorter, less))
      | inr none ↦ elim (cases_Bool (begins (written (codes "[:^") j) t)) [
        | inl here ↦ (let e : Some (j, true, drop (5 + length (class_name j)) t) ≡ Some (k, negated, rest) = rw (none, here) at is in
            let shorter : length (drop (5 + length (class_name j)) t) ≡ length rest = ap at_end (some_same e) in
            let less : length (drop (5 + length (class_name j)) t) < length t = behind_shorter (5 + length (class_name j)) (omega arith) (58 ∷ 94 ∷ class_name j ++ codes ":]") t here in
            omega (arith, shorter, less))
        | inr no_other ↦ named_shorter t rest classes k negated (rw (none, no_other) at is)
      ]
    ]

-- the classes from one on
pub named_from : {X : Type 0} (f : X → NamedClass) (t : Text) (xs : List X) (i : ℕ) (x : X) → i < length xs →
    named_at t (map f (drop i xs)) ≡ named_at t (f (get_or xs i x) ∷ map f (drop (i + 1) xs))
named_from f t xs i x below = ap (λ ys. named_at t (map f ys)) (drop-cons xs i x below ∙ ap (λ n. get_or xs i x ∷ drop n xs) (sym (add-one i)))
