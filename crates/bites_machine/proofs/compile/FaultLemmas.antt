-- What is written for a tree has no fault.
use Rattle.bites_machine.proofs.Library.{common_steps, and_from, length_push, ◌≡◌, ℕ, zero, suc, ◌+◌, ◌-◌, ◌*◌, ◌<◌, ◌≤◌, Bool, true, false, List, [], ◌∷◌, ◌++◌, length, Option, Some, None, refl, arith, lt-ltb, le-leb, slice_set, nat_lt, list_all, option_or, length-set, nat_tests, first_among, Tree, Trees, empty, char, class, look, repetition, group, sequence, alternation, no_tree, tree_and, is_nullable, groups_in, groups_in_all, greatest, State, targets_of, Fragment, HasForm, ProgramFault, are_ranges, has_ranges, has_slot, fault_of, Emitted, Emitter, pushed, in_front, again, options, bounded, loop, copies_up_to, repeated, grouped, Branches, emit, emit_all, emit_each, HasClasses, AllHaveClasses, greatest-append, char_state, goto, splits}
use Rattle.bites_spec.specs.Class.{AreCanonical}
use Rattle.bites_spec.proofs.runs.FirstLemmas.{or_none}
use Rattle.bites_machine.proofs.compile.EmitLemmas.{FormsBody, Forms-emit, Forms-options, Forms-loop, Forms-emit_each}

none_none : (o p : Option ProgramFault) → o ≡ None → p ≡ None → option_or o p ≡ None
none_none h p e f = grind (arith, common_steps)

first_among-append : (f : State → Option ProgramFault) (xs ys : List State) → first_among f xs ≡ None → first_among f ys ≡ None → first_among f (xs ++ ys) ≡ None
first_among-append f [] ys e h = h
first_among-append f (x ∷ xs) ys e h = grind (arith, common_steps, or_none, none_none, (first_among-append f xs ys))

first_among-set : (f : State → Option ProgramFault) (xs : List State) (i : ℕ) (s : State) → first_among f xs ≡ None → f s ≡ None → first_among f (slice_set xs i s) ≡ None
first_among-set f [] i s e h = e
first_among-set f (x ∷ xs) zero s e h = none_none (f s) _ h (or_none (f x) (first_among f xs) e).1
first_among-set f (x ∷ xs) (suc i) s e h = grind (arith, common_steps, none_none, or_none, (first_among-set f xs i s))

-- canonical ranges are ranges
canonical_are_ranges : (rs : List (ℕ × ℕ)) → AreCanonical rs → are_ranges rs ≡ true
canonical_are_ranges [] h = refl
canonical_are_ranges (r ∷ []) h = le-leb r.0 r.1 h.2
canonical_are_ranges (r ∷ s ∷ rs) h = and_from _ _ (le-leb r.0 r.1 h.0.2) (and_from _ _ (lt-ltb r.1 s.0 (grind (arith, nat_tests))) (canonical_are_ranges (s ∷ rs) h.2))

module _ (n slots : ℕ) where
  fault-none : (s : State) → list_all (λ q. nat_lt q n) (targets_of s) ≡ true → has_ranges s ≡ true → has_slot slots s ≡ true → fault_of n slots s ≡ None
  fault-none s e f g = grind arith

  to_one : (q : ℕ) → q < n → list_all (λ q. nat_lt q n) (q ∷ []) ≡ true
  to_one q h = grind (arith, nat_tests)

  abbrev Fine : State → Type 0
  Fine s = fault_of n slots s ≡ None

  abbrev pub AllFine : List State → Type 0
  AllFine ss = first_among (fault_of n slots) ss ≡ None

  fine_goto : (q : ℕ) → q < n → Fine (goto q None)
  fine_goto q h = fault-none (goto q None) (to_one q h) refl refl

  -- the states have no fault, and what was written last is entered at one of them
  pub record Sound (e : Emitted) : Type 0 where
    pub entered : e.from < n
    pub fine : AllFine e.states

  abbrev pub SoundBody : Emitter → Type 0
  SoundBody body = (to : ℕ) (ss : List State) → AllFine ss → to < n → length (body to ss).states ≤ n → Sound (body to ss)

  Sound-push : (ss : List State) (s : State) → AllFine ss → Fine s → length (ss ++ s ∷ []) ≤ n → Sound (pushed ss s)
  Sound-push ss s all one le = grind (arith, common_steps, length_push, first_among-append, none_none)

  module _ (part : List State → Fragment) (body : Emitter) (inside : FormsBody part body) (sound : SoundBody body) where
    again_longer : (e : Emitted) (m : ℕ) → length e.states ≤ length (in_front (again m body) e).states
    again_longer e zero = omega arith
    again_longer e (suc m) = grind (arith, common_steps, (again_longer e m))

    Sound-again : (m : ℕ) (e : Emitted) → Sound e → length (in_front (again m body) e).states ≤ n → Sound (in_front (again m body) e)
    Sound-again zero e h le = h
    Sound-again (suc m) e h le = grind (arith, common_steps, (Sound-again m e h))

    Sound-options : (m : ℕ) (greedy : Bool) (out : ℕ) (ss : List State) → AllFine ss → out < n → length (options m greedy body out ss).states ≤ n →
        Sound (options m greedy body out ss)
    Sound-options zero greedy out ss all h le = record { entered = h; fine = all }
    Sound-options (suc m) greedy out ss all h le = grind (arith, common_steps, length_push, Sound-push, (Sound-options m greedy out ss all h))

    Sound-bounded : (m : ℕ) (greedy : Bool) → SoundBody (bounded m greedy body)
    Sound-bounded m greedy to ss all h le =
        let exit = goto to None in
        let short : length (ss ++ exit ∷ []) ≤ n = omega (arith, (Forms-options part body inside greedy (length ss) (ss ++ exit ∷ []) m).extends.longer) in
        grind (arith, common_steps, Sound-push, fine_goto, Sound-options)

    Sound-loop : (greedy : Bool) → SoundBody (loop greedy body)
    Sound-loop greedy to ss all h le = grind (arith, common_steps, length-set, first_among-set, Sound-push)

    Sound-copies_up_to : (m more : ℕ) (greedy : Bool) → SoundBody (copies_up_to m more greedy body)
    Sound-copies_up_to m zero greedy to ss all h le = grind (arith, common_steps, Sound-again, again_longer)
    Sound-copies_up_to m (suc more) greedy to ss all h le =
        let e = bounded (suc more) greedy body to ss in
        Sound-again (suc m) e (Sound-bounded (suc more) greedy to ss all h (omega (arith, again_longer e (suc m)))) le

    Sound-repeated : (min : ℕ) (most : Option ℕ) (greedy is_empty : Bool) → SoundBody (repeated min most greedy is_empty body)
    Sound-repeated zero None greedy true to ss all h le = grind (arith, common_steps, length_push, Sound-push, fine_goto, Forms-loop, Sound-loop)
    Sound-repeated zero None greedy false to ss all h le = grind (arith, common_steps, length-set, length_push, first_among-set, Sound-push)
    Sound-repeated (suc m) None greedy is_empty to ss all h le =
        let e = loop greedy body to ss in
        Sound-again m e (Sound-loop greedy to ss all h (omega (arith, again_longer e m))) le
    Sound-repeated zero (Some zero) greedy is_empty to ss all h le = Sound-push ss (goto to None) all (fine_goto to h) le
    Sound-repeated zero (Some (suc zero)) greedy is_empty to ss all h le = Sound-bounded 1 greedy to ss all h le
    Sound-repeated zero (Some (suc (suc m))) greedy is_empty to ss all h le =
        let e = bounded (suc (suc m)) greedy body to ss in
        let r = Sound-bounded (suc (suc m)) greedy to ss all h (omega (arith, length_push e.states (goto e.from None))) in
        Sound-push e.states (goto e.from None) r.fine (fine_goto e.from r.entered) le
    Sound-repeated (suc m) (Some most) greedy is_empty to ss all h le = Sound-copies_up_to m (most - suc m) greedy to ss all h le

    pub Sound-grouped : (k : ℕ) → 2 * k + 1 < slots → SoundBody (grouped k body)
    Sound-grouped k few to ss all h le = grind (arith, common_steps, length_push, Sound-push)

  pub record SoundBranches (b : Branches) : Type 0 where
    pub entered : list_all (λ q. nat_lt q n) b.rounds ≡ true
    pub fine : AllFine b.states

  -- the slots of the groups are there
  abbrev pub HasSlots : List ℕ → Type 0
  HasSlots groups = 2 * greatest groups + 1 < slots

  first_slots : (xs ys : List ℕ) → HasSlots (xs ++ ys) → HasSlots xs
  first_slots xs ys h = omega (arith, greatest-append xs ys)

  rest_slots : (xs ys : List ℕ) → HasSlots (xs ++ ys) → HasSlots ys
  rest_slots xs ys h = omega (arith, greatest-append xs ys)

  mutual
    unfolding emit emit_all emit_each

    -- What is written for a tree has no fault.
    pub Sound-emit : (t : Tree) → HasClasses t → HasSlots (groups_in t) → SoundBody (emit t)
    Sound-emit empty classes few to ss all h le = Sound-push ss (goto to None) all (fine_goto to h) le
    Sound-emit (char c) classes few to ss all h le = Sound-push ss (char_state to c) all (fault-none (char_state to c) (to_one to h) refl refl) le
    Sound-emit (class rs) classes few to ss all h le = grind (arith, common_steps, Sound-push, fault-none, to_one, canonical_are_ranges)
    Sound-emit (look l) classes few to ss all h le = Sound-push ss (goto to (Some l)) all (fault-none (goto to (Some l)) (to_one to h) refl refl) le
    Sound-emit (repetition min most greedy t) classes few to ss all h le =
        Sound-repeated (λ l. HasForm l t) (emit t) (Forms-emit t) (Sound-emit t classes few) min most greedy (is_nullable t) to ss all h le
    Sound-emit (group k name t) classes few to ss all h le =
        Sound-grouped (λ l. HasForm l t) (emit t) (Forms-emit t) (Sound-emit t classes (omega arith)) k (omega arith) to ss all h le
    Sound-emit (sequence ts) classes few to ss all h le = Sound-emit_all ts classes few to ss all h le
    Sound-emit (alternation ts) classes few to ss all h le =
        let exit = goto to None in
        let more = ss ++ exit ∷ [] in
        let b = emit_each ts (length ss) more in
        let state = splits b.rounds false in
        let short : length b.states ≤ n = omega (arith, length_push b.states state) in
        let r = Sound-push ss exit all (fine_goto to h) (omega (arith, (Forms-emit_each ts (length ss) more).extends.longer)) in
        let s = Sound-emit_each ts classes few (length ss) more r.fine r.entered short in
        Sound-push b.states state s.fine (fault-none state s.entered refl refl) le

    Sound-emit_all : (ts : Trees) → AllHaveClasses ts → HasSlots (groups_in_all ts) → SoundBody (emit_all ts)
    Sound-emit_all no_tree classes few to ss all h le = record { entered = h; fine = all }
    Sound-emit_all (tree_and t ts) classes few to ss all h le =
        let e = emit_all ts to ss in
        let r = Sound-emit_all ts classes.1 (rest_slots (groups_in t) (groups_in_all ts) few) to ss all h (omega (arith, (Forms-emit t e.from e.states).extends.longer)) in
        Sound-emit t classes.0 (first_slots (groups_in t) (groups_in_all ts) few) e.from e.states r.fine r.entered le

    Sound-emit_each : (ts : Trees) → AllHaveClasses ts → HasSlots (groups_in_all ts) → (out : ℕ) (ss : List State) → AllFine ss → out < n →
        length (emit_each ts out ss).states ≤ n → SoundBranches (emit_each ts out ss)
    Sound-emit_each no_tree classes few out ss all h le = record { entered = refl; fine = all }
    Sound-emit_each (tree_and t ts) classes few out ss all h le =
        let e = emit t out ss in
        let r = Sound-emit t classes.0 (first_slots (groups_in t) (groups_in_all ts) few) out ss all h (omega (arith, (Forms-emit_each ts out e.states).extends.longer)) in
        let s = Sound-emit_each ts classes.1 (rest_slots (groups_in t) (groups_in_all ts) few) out e.states r.fine h le in
        record { entered = and_from _ _ (lt-ltb e.from n r.entered) s.entered; fine = s.fine }
