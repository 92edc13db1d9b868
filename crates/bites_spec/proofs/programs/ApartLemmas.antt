-- In a tree's program no state leads to one state twice.
use Rattle.std.proofs.lemmas.Grind.{common_steps}
use Rattle.std.proofs.Common.{◌≡◌, ℕ, zero, suc, ◌+◌, ◌-◌, ◌*◌, Bool, true, false, List, [], ◌∷◌, ◌++◌, Option, Some, None, refl, sym, subst, inl, inr, ⊎_elim, arith, ◌⊎◌}
use Rattle.bites_spec.specs.Walks.{Among, IsNew, AllApart}
use Rattle.bites_spec.specs.Tree.{Tree, Trees, empty, char, class, look, repetition, group, sequence, alternation, no_tree, tree_and, is_nullable, IsReduced, AllAreReduced}
use Rattle.bites_spec.specs.Program.{State, state_at, targets_of}
use Rattle.bites_spec.specs.Program as program
use Rattle.bites_spec.specs.Built.{Fragment, One, Behind, Copies, Options, Loop, Star, OptionalLoop, Bounded, CopiesUpTo, Repeated, choice, class_state, HasForm, HasFormAll, HasFormEach}
use Rattle.bites_spec.proofs.programs.SlotLemmas.{Among-left, Among-right, AllApart-append}
use Rattle.bites_spec.proofs.programs.BuiltLemmas.{Among-append}

-- an element of one list is not in the other
none_common : {A : Type 0} (xs ys : List A) → AllApart (xs ++ ys) → (x : A) → Among xs x → Among ys x → ⊥
none_common [] ys h x a b = a
none_common {A} (y ∷ xs) ys h x a b =
    ⊎_elim (λ (e : y ≡ x). h.0 (Among-right xs ys y (subst (λ (z : A). Among ys z) (sym e) b))) (λ later. none_common xs ys h.1 x later b) a

two_apart : (greedy : Bool) (round leave : ℕ) (states : List State) → (round ≡ leave → ⊥) → AllApart (targets_of (choice states greedy round leave))
two_apart true round leave states other = (λ h. ⊎_elim (λ (e : leave ≡ round). other (sym e)) (λ (no : ⊥). no) h, ((λ h. h), tt))
two_apart false round leave states other = (λ h. ⊎_elim (λ (e : round ≡ leave). other e) (λ (no : ⊥). no) h, ((λ h. h), tt))

module _ (states : List State) where
  -- the targets of the state are apart
  abbrev Fine : ℕ → Type 0
  Fine q = AllApart (targets_of (state_at states q))

  abbrev AllFine : List ℕ → Type 0
  AllFine used = (q : ℕ) → Among used q → Fine q

  -- the part's entry is one of its states
  abbrev IsEntered : Fragment → Type 0
  IsEntered part = (from to : ℕ) (used : List ℕ) → part from to used → Among used from

  -- the part's entry is one of its states, or it has none and its entry is its exit
  abbrev MayBeEntered : Fragment → Type 0
  MayBeEntered part = (from to : ℕ) (used : List ℕ) → part from to used → Among used from ⊎ ((from ≡ to) × (used ≡ []))

  -- if a part's states are distinct and its exit is none of them, the targets of each state are distinct
  abbrev IsFine : Fragment → Type 0
  IsFine part = (from to : ℕ) (used : List ℕ) → part from to used → AllApart used → IsNew to used → AllFine used

  may : (part : Fragment) → IsEntered part → MayBeEntered part
  may part entered from to used h = inl (entered from to used h)

  fine_by : (q : ℕ) (s : State) → state_at states q ≡ s → AllApart (targets_of s) → Fine q
  fine_by q s is apart = subst (λ (x : State). AllApart (targets_of x)) (sym is) apart

  -- one more fine state
  fine_and : (q : ℕ) (used : List ℕ) → Fine q → AllFine used → AllFine (q ∷ used)
  fine_and q used here rest x h = ⊎_elim (λ (e : q ≡ x). subst (λ (y : ℕ). Fine y) e here) (λ later. rest x later) h

  fine_append : (a b : List ℕ) → AllFine a → AllFine b → AllFine (a ++ b)
  fine_append a b one two x h = ⊎_elim (λ l. one x l) (λ r. two x r) (Among-append a b x h)

  One-entered : (make : ℕ → State) → IsEntered (One states make)
  One-entered make from to used h = subst (λ (l : List ℕ). Among l from) (sym h.1) (inl refl)

  One-fine : (make : ℕ → State) → ((to : ℕ) → AllApart (targets_of (make to))) → IsFine (One states make)
  One-fine make apart from to used h all new =
      subst (λ (l : List ℕ). AllFine l) (sym h.1) (fine_and from [] (fine_by from (make to) h.0 (apart to)) (λ q no. absurd no))

  single : (q : ℕ) → AllApart (q ∷ [])
  single q = ((λ h. h), tt)

  goto_entered : IsEntered (One states (λ to. program.goto to None))
  goto_entered = One-entered (λ to. program.goto to None)

  goto_fine : IsFine (One states (λ to. program.goto to None))
  goto_fine = One-fine (λ to. program.goto to None) single

  Behind-entered : (first rest : Fragment) → IsEntered first → IsEntered (Behind states first rest)
  Behind-entered first rest entered from to used (mid, a, b, h, g, e) =
      subst (λ (l : List ℕ). Among l from) (sym e) (Among-left a b from (entered from mid a h))

  Behind-fine : (first rest : Fragment) → IsFine first → IsFine rest → MayBeEntered rest → IsFine (Behind states first rest)
  Behind-fine first rest one two after from to used (mid, a, b, h, g, e) all new = grind (arith, common_steps, fine_append, Among-right, AllApart-append, none_common)

  module _ (greedy : Bool) (body : Fragment) (entered : IsEntered body) (fine : IsFine body) where
    Copies-entered : (n : ℕ) (rest : Fragment) → IsEntered rest → IsEntered (Copies states n body rest)
    Copies-entered zero rest after = after
    Copies-entered (suc n) rest after = Behind-entered body (Copies states n body rest) entered

    Copies-fine : (n : ℕ) (rest : Fragment) → IsEntered rest → IsFine rest → IsFine (Copies states n body rest)
    Copies-fine zero rest after ok = ok
    Copies-fine (suc n) rest after ok =
        Behind-fine body (Copies states n body rest) fine (Copies-fine n rest after ok) (may (Copies states n body rest) (Copies-entered n rest after))

    -- a target among some states differs from one outside them
    apart_by : (used : List ℕ) (round leave : ℕ) → Among used round → IsNew leave used → round ≡ leave → ⊥
    apart_by used round leave h new e = new (subst (λ (x : ℕ). Among used x) e h)

    Loop-entered : IsEntered (Loop states greedy body)
    Loop-entered from to used (again, a, h, is, e) = subst (λ (l : List ℕ). Among l from) (sym e) (inr (entered from again a h))

    Loop-fine : IsFine (Loop states greedy body)
    Loop-fine from to used (again, a, h, is, e) all new = grind (arith, common_steps, fine_and, fine_by, two_apart)

    Star-entered : IsEntered (Star states greedy body)
    Star-entered from to used (round, a, h, is, e) = subst (λ (l : List ℕ). Among l from) (sym e) (inl refl)

    Star-fine : IsFine (Star states greedy body)
    Star-fine from to used (round, a, h, is, e) all new = grind (arith, common_steps, fine_and, fine_by, two_apart)

    OptionalLoop-entered : IsEntered (OptionalLoop states greedy body)
    OptionalLoop-entered from to used (round, out, a, h, is, goes, e) = subst (λ (l : List ℕ). Among l from) (sym e) (inl refl)

    OptionalLoop-fine : IsFine (OptionalLoop states greedy body)
    OptionalLoop-fine from to used (round, out, a, h, is, goes, e) all new = grind (arith, common_steps, fine_and, fine_by, two_apart, apart_by, Loop-entered, single)

    Options-to : (n out from to : ℕ) (used : List ℕ) → Options states n greedy out body from to used → to ≡ out
    Options-to zero out from to used h = h.1
    Options-to (suc n) out from to used (round, mid, a, b, is, h, more, e) = Options-to n out mid to b more

    Options-may : (n out : ℕ) → MayBeEntered (Options states n greedy out body)
    Options-may zero out from to used h = inr (h.0, h.2)
    Options-may (suc n) out from to used (round, mid, a, b, is, h, more, e) = inl (subst (λ (l : List ℕ). Among l from) (sym e) (inl refl))

    Options-fine : (n out : ℕ) → IsFine (Options states n greedy out body)
    Options-fine zero out from to used h all new = subst (λ (l : List ℕ). AllFine l) (sym h.2) (λ q no. absurd no)
    Options-fine (suc n) out from to used (round, mid, a, b, is, h, more, e) all new =
        subst (λ (l : List ℕ). AllFine l) (sym e)
        (fine_and from (a ++ b)
        (fine_by from (choice states greedy round out) is (two_apart greedy round out states (apart_by a round out (entered round mid a h) new_out)))
        (fine_append a b (fine round mid a h parts.0 new_mid) (Options-fine n out mid to b more parts.1 (λ x. new_both (inr (Among-right a b to x))))))
      where
        whole : AllApart (from ∷ a ++ b)
        whole = subst (λ (l : List ℕ). AllApart l) e all

        parts : AllApart a × AllApart b
        parts = AllApart-append a b whole.1

        new_both : IsNew to (from ∷ a ++ b)
        new_both = subst (λ (l : List ℕ). IsNew to l) e new

        new_to : IsNew to a
        new_to x = new_both (inr (Among-left a b to x))

        new_out : IsNew out a
        new_out = subst (λ (x : ℕ). IsNew x a) (Options-to n out mid to b more) new_to

        new_mid : IsNew mid a
        new_mid x =
            ⊎_elim (λ y. none_common a b whole.1 mid x y)
            (λ same. new_to (subst (λ (z : ℕ). Among a z) same.0 x))
            (Options-may n out mid to b more)

    Bounded-entered : (n : ℕ) → IsEntered (Bounded states n greedy body)
    Bounded-entered n from to used (out, a, h, goes, e) =
        subst (λ (l : List ℕ). Among l from) (sym e) (⊎_elim (λ x. inr x) (λ same. inl (sym same.0)) (Options-may n out from out a h))

    Bounded-fine : (n : ℕ) → IsFine (Bounded states n greedy body)
    Bounded-fine n from to used (out, a, h, goes, e) all new = grind (arith, common_steps, fine_and, fine_by, single, Options-fine)

    CopiesUpTo-entered : (n more : ℕ) → IsEntered (CopiesUpTo states n more greedy body)
    CopiesUpTo-entered n zero = Copies-entered n body entered
    CopiesUpTo-entered n (suc more) = Copies-entered (suc n) (Bounded states (suc more) greedy body) (Bounded-entered (suc more))

    CopiesUpTo-fine : (n more : ℕ) → IsFine (CopiesUpTo states n more greedy body)
    CopiesUpTo-fine n zero = Copies-fine n body entered fine
    CopiesUpTo-fine n (suc more) = Copies-fine (suc n) (Bounded states (suc more) greedy body) (Bounded-entered (suc more)) (Bounded-fine (suc more))

    Repeated-entered : (min : ℕ) (most : Option ℕ) (is_empty : Bool) → IsEntered (Repeated states min most greedy is_empty body)
    Repeated-entered zero None true = OptionalLoop-entered
    Repeated-entered zero None false = Star-entered
    Repeated-entered (suc n) None is_empty = Copies-entered n (Loop states greedy body) Loop-entered
    Repeated-entered zero (Some zero) is_empty = goto_entered
    Repeated-entered zero (Some (suc zero)) is_empty = Bounded-entered 1
    Repeated-entered zero (Some (suc (suc m))) is_empty =
        Behind-entered (One states (λ to. program.goto to None)) (Bounded states (suc (suc m)) greedy body) goto_entered
    Repeated-entered (suc n) (Some most) is_empty = CopiesUpTo-entered n (most - suc n)

    Repeated-fine : (min : ℕ) (most : Option ℕ) (is_empty : Bool) → IsFine (Repeated states min most greedy is_empty body)
    Repeated-fine zero None true = OptionalLoop-fine
    Repeated-fine zero None false = Star-fine
    Repeated-fine (suc n) None is_empty = Copies-fine n (Loop states greedy body) Loop-entered Loop-fine
    Repeated-fine zero (Some zero) is_empty = goto_fine
    Repeated-fine zero (Some (suc zero)) is_empty = Bounded-fine 1
    Repeated-fine zero (Some (suc (suc m))) is_empty =
        Behind-fine (One states (λ to. program.goto to None)) (Bounded states (suc (suc m)) greedy body) goto_fine (Bounded-fine (suc (suc m)))
        (may (Bounded states (suc (suc m)) greedy body) (Bounded-entered (suc (suc m))))
    Repeated-fine (suc n) (Some most) is_empty = CopiesUpTo-fine n (most - suc n)

  class_apart : (rs : List (ℕ × ℕ)) (to : ℕ) → AllApart (targets_of (class_state states rs to))
  class_apart [] to = tt
  class_apart (r ∷ rs) to = single to

  pub group-fine : (k : ℕ) (name : Option (List ℕ)) (t : Tree) → IsEntered (HasForm states t) → IsFine (HasForm states t) → IsFine (HasForm states (group k name t))
  group-fine k name t entered fine =
      Behind-fine (One states (λ to. program.capture to (2 * k))) (Behind states (HasForm states t) (One states (λ to. program.capture to (2 * k + 1))))
      (One-fine (λ to. program.capture to (2 * k)) single)
      (Behind-fine (HasForm states t) (One states (λ to. program.capture to (2 * k + 1))) fine (One-fine (λ to. program.capture to (2 * k + 1)) single)
      (may (One states (λ to. program.capture to (2 * k + 1))) (One-entered (λ to. program.capture to (2 * k + 1)))))
      (may (Behind states (HasForm states t) (One states (λ to. program.capture to (2 * k + 1))))
      (Behind-entered (HasForm states t) (One states (λ to. program.capture to (2 * k + 1))) entered))

  mutual
    -- the part of a reduced tree has a state, and its entry is one
    pub HasForm-entered : (t : Tree) → IsReduced t → IsEntered (HasForm states t)
    HasForm-entered empty reduced = goto_entered
    HasForm-entered (char c) reduced = One-entered (λ to. program.char to c)
    HasForm-entered (class rs) reduced = One-entered (class_state states rs)
    HasForm-entered (look l) reduced = One-entered (λ to. program.goto to (Some l))
    HasForm-entered (repetition min most greedy t) reduced =
        Repeated-entered greedy (HasForm states t) (HasForm-entered t reduced.1) (HasForm-fine t reduced.1) min most (is_nullable t)
    HasForm-entered (group k name t) reduced =
        Behind-entered (One states (λ to. program.capture to (2 * k))) (Behind states (HasForm states t) (One states (λ to. program.capture to (2 * k + 1))))
        (One-entered (λ to. program.capture to (2 * k)))
    HasForm-entered (sequence ts) reduced = some_entered ts reduced
    HasForm-entered (alternation ts) reduced = λ from to used h. subst (λ (l : List ℕ). Among l from) (sym h.6) (inl refl)

    -- so has the part of a sequence that is reduced
    some_entered : (ts : Trees) → IsReduced (sequence ts) → IsEntered (HasFormAll states ts)
    some_entered no_tree reduced = absurd (omega (arith, reduced.0))
    some_entered (tree_and t ts) reduced = Behind-entered (HasForm states t) (HasFormAll states ts) (HasForm-entered t reduced.1.0)

    all_may : (ts : Trees) → AllAreReduced ts → MayBeEntered (HasFormAll states ts)
    all_may no_tree reduced = λ from to used h. inr h
    all_may (tree_and t ts) reduced = may (HasFormAll states (tree_and t ts)) (Behind-entered (HasForm states t) (HasFormAll states ts) (HasForm-entered t reduced.0))

    -- the targets of each state of the part are distinct
    pub HasForm-fine : (t : Tree) → IsReduced t → IsFine (HasForm states t)
    HasForm-fine empty reduced = goto_fine
    HasForm-fine (char c) reduced = One-fine (λ to. program.char to c) single
    HasForm-fine (class rs) reduced = One-fine (class_state states rs) (class_apart rs)
    HasForm-fine (look l) reduced = One-fine (λ to. program.goto to (Some l)) single
    HasForm-fine (repetition min most greedy t) reduced =
        Repeated-fine greedy (HasForm states t) (HasForm-entered t reduced.1) (HasForm-fine t reduced.1) min most (is_nullable t)
    HasForm-fine (group k name t) reduced = group-fine k name t (HasForm-entered t reduced.1) (HasForm-fine t reduced.1)
    HasForm-fine (sequence ts) reduced = all_fine ts reduced.1
    HasForm-fine (alternation ts) reduced = λ from to used h all new.
        let apart = subst (λ (l : List ℕ). AllApart l) h.6 all in
        let each = each_fine ts reduced.1 h.1 h.0 h.2 h.4 apart.1.1 apart.1.0 in
        subst (λ (l : List ℕ). AllFine l) (sym h.6)
        (fine_and from (h.0 ∷ h.2) (fine_by from (program.splits h.1 false) h.3 (rounds_apart ts reduced.1 h.1 h.0 h.2 h.4 apart.1.1).0)
        (fine_and h.0 h.2 (fine_by h.0 (program.goto to None) h.5 (single to)) each))

    all_fine : (ts : Trees) → AllAreReduced ts → IsFine (HasFormAll states ts)
    all_fine no_tree reduced = λ from to used h all new. subst (λ (l : List ℕ). AllFine l) (sym h.1) (λ q no. absurd no)
    all_fine (tree_and t ts) reduced =
        Behind-fine (HasForm states t) (HasFormAll states ts) (HasForm-fine t reduced.0) (all_fine ts reduced.1) (all_may ts reduced.1)

    each_fine : (ts : Trees) → AllAreReduced ts → (rounds : List ℕ) (out : ℕ) (used : List ℕ) → HasFormEach states ts rounds out used →
        AllApart used → IsNew out used → AllFine used
    each_fine no_tree reduced [] out used h all new = subst (λ (l : List ℕ). AllFine l) (sym h) (λ q no. absurd no)
    each_fine no_tree reduced (q ∷ rounds) out used h all new = absurd h
    each_fine (tree_and t ts) reduced [] out used h all new = absurd h
    each_fine (tree_and t ts) reduced (q ∷ rounds) out used (a, b, one, more, e) all new =
        let parts = AllApart-append a b (subst (λ (l : List ℕ). AllApart l) e all) in
        let new_both = subst (λ (l : List ℕ). IsNew out l) e new in
        subst (λ (l : List ℕ). AllFine l) (sym e)
        (fine_append a b (HasForm-fine t reduced.0 q out a one parts.0 (λ x. new_both (Among-left a b out x)))
        (each_fine ts reduced.1 rounds out b more parts.1 (λ x. new_both (Among-right a b out x))))

    -- the branches' entries are distinct states
    rounds_apart : (ts : Trees) → AllAreReduced ts → (rounds : List ℕ) (out : ℕ) (used : List ℕ) → HasFormEach states ts rounds out used →
        AllApart used → AllApart rounds × ((q : ℕ) → Among rounds q → Among used q)
    rounds_apart no_tree reduced [] out used h all = (tt, λ q no. absurd no)
    rounds_apart no_tree reduced (q ∷ rounds) out used h all = absurd h
    rounds_apart (tree_and t ts) reduced [] out used h all = absurd h
    rounds_apart (tree_and t ts) reduced (q ∷ rounds) out used (a, b, one, more, e) all =
        let whole = subst (λ (l : List ℕ). AllApart l) e all in
        let rest = rounds_apart ts reduced.1 rounds out b more (AllApart-append a b whole).1 in
        let here = HasForm-entered t reduced.0 q out a one in (
          ((λ h. none_common a b whole q here (rest.1 q h)), rest.0),
          λ x h. subst (λ (l : List ℕ). Among l x) (sym e)
              (⊎_elim (λ (is : q ≡ x). Among-left a b x (subst (λ (y : ℕ). Among a y) is here)) (λ later. Among-right a b x (rest.1 x later)) h),
        )
