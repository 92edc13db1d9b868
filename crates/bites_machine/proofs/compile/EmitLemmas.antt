-- What is written for a tree has its form.
use Rattle.bites_machine.proofs.Library.{common_steps, length_push, ◌≡◌, ℕ, zero, suc, ◌+◌, ◌*◌, ◌<◌, ◌≤◌, Bool, true, false, cond, List, [], ◌∷◌, ◌++◌, length, Option, Some, None, refl, ap, ◌∙◌, arith, slice_set, ◌==◌, nat_lt, count_by, length-set, get_or_append_left, get_or-set_same, get_or-set_other, sum_by-append, nat_tests, Tree, Trees, empty, char, class, look, repetition, group, sequence, alternation, no_tree, tree_and, is_nullable, State, state_at, Fragment, One, Behind, Copies, Options, Loop, OptionalLoop, Bounded, CopiesUpTo, Repeated, HasForm, HasFormAll, HasFormEach, Emitted, Emitter, pushed, in_front, again, choice, options, bounded, loop, optional_loop, copies_up_to, repeated, writing, grouped, Branches, emit, emit_all, emit_each, capture, char_state, fail, goto, splits}

-- the states that were there stay
pub record Extends (old new : List State) : Type 0 where
  pub longer : length old ≤ length new
  pub kept : (q : ℕ) → q < length old → state_at new q ≡ state_at old q

pub Extends-trans : (a b c : List State) → Extends a b → Extends b c → Extends a c
Extends-trans a b c ab bc = grind (arith, common_steps)

pub Extends-push : (ss : List State) (s : State) → Extends ss (ss ++ s ∷ [])
Extends-push ss s = grind (arith, common_steps, length_push, get_or_append_left)

-- the last states agree with these from m on
pub record Agrees (last : List State) (m : ℕ) (states : List State) : Type 0 where
  pub same : (q : ℕ) → m ≤ q → q < length states → state_at last q ≡ state_at states q

Agrees-later : (last : List State) (m k : ℕ) (ss : List State) → m ≤ k → Agrees last m ss → Agrees last k ss
Agrees-later last m k ss h a = record { same = λ q from below. a.same q (omega arith) below }

Agrees-before : (last : List State) (m : ℕ) (ss more : List State) → Extends ss more → Agrees last m more → Agrees last m ss
Agrees-before last m ss more e a = record { same = λ q from below. a.same q from (omega (arith, e.longer)) ∙ e.kept q below }

Agrees-unset : (last : List State) (m i : ℕ) (ss : List State) (s : State) → i < m → Agrees last m (slice_set ss i s) → Agrees last m ss
Agrees-unset last m i ss s h a = grind (arith, common_steps, length-set, get_or-set_other)

last_set : (last : List State) (m i : ℕ) (ss : List State) (s : State) → m ≤ i → i < length ss → Agrees last m (slice_set ss i s) → state_at last i ≡ s
last_set last m i ss s h below a = a.same i h (omega (arith, length-set ss i s)) ∙ get_or-set_same ss i s fail below

-- 1 for a number below n
abbrev pub below : ℕ → ℕ → ℕ
below n q = cond (nat_lt q n) 1 0

-- the list has each number from m to n once, and no other
pub record Counts (used : List ℕ) (m n : ℕ) : Type 0 where
  pub counts : (q : ℕ) → count_by (λ u. u == q) used + below m q ≡ below n q

pub Counts-one : (m n : ℕ) → n ≡ suc m → Counts (m ∷ []) m n
Counts-one m n e = record { counts = λ q. grind (arith, nat_tests) }

-- first the upper numbers, then the lower
Counts-append : (a b : List ℕ) (m k n : ℕ) → Counts a k n → Counts b m k → Counts (a ++ b) m n
Counts-append a b m k n upper lower = grind (arith, common_steps, sum_by-append)

-- first the lower numbers, then the upper
pub Counts-append_up : (a b : List ℕ) (m k n : ℕ) → Counts a m k → Counts b k n → Counts (a ++ b) m n
Counts-append_up a b m k n lower upper = grind (arith, common_steps, sum_by-append)

-- what states have, made of those with these numbers
abbrev Part : Type 1
Part = List State → List ℕ → Type 0

-- the states that were added have the part, and each of them is used once
pub record Adds (part : Part) (old new : List State) : Type 1 where
  pub extends : Extends old new
  pub form : (last : List State) → Agrees last (length old) new → (used : List ℕ) × part last used × Counts used (length old) (length new)

-- what is written is the fragment, and uses all of its states
abbrev pub Forms : (List State → Fragment) → ℕ → List State → Emitted → Type 1
Forms part to old e = Adds (λ l. part l e.from to) old e.states

Adds-none : {whole : Part} (ss : List State) → ((last : List State) → whole last []) → Adds whole ss ss
Adds-none ss is = record {
  extends = record { longer = omega arith; kept = λ q h. refl };
  form = λ last a. ([], is last, record { counts = λ q. omega arith });
}

-- one state
Adds-one : (ss : List State) (s : State) → Adds (λ l used. (state_at l (length ss) ≡ s) × (used ≡ length ss ∷ [])) ss (ss ++ s ∷ [])
Adds-one ss s = grind (arith, common_steps, Extends-push, Counts-one, length_push)

-- something, and then more: the states of what comes last are listed first
Adds-under : {below above whole : Part} {a b c : List State} → Adds below a b → Adds above b c →
    ((last : List State) (x y : List ℕ) → below last x → above last y → whole last (y ++ x)) → Adds whole a c
Adds-under {a = a} {b = b} {c = c} r s is = record {
  extends = Extends-trans a b c r.extends s.extends;
  form = λ last agrees.
      let x = r.form last (Agrees-before last (length a) b c s.extends agrees) in
      let y = s.form last (Agrees-later last (length a) (length b) c r.extends.longer agrees) in
      (y.0 ++ x.0, is last x.0 y.0 x.1 y.1, Counts-append y.0 x.0 (length a) (length b) (length c) y.2 x.2);
}

-- in the order in which they come
Adds-over : {below above whole : Part} {a b c : List State} → Adds below a b → Adds above b c →
    ((last : List State) (x y : List ℕ) → below last x → above last y → whole last (x ++ y)) → Adds whole a c
Adds-over {a = a} {b = b} {c = c} r s is = record {
  extends = Extends-trans a b c r.extends s.extends;
  form = λ last agrees.
      let x = r.form last (Agrees-before last (length a) b c s.extends agrees) in
      let y = s.form last (Agrees-later last (length a) (length b) c r.extends.longer agrees) in
      (x.0 ++ y.0, is last x.0 y.0 x.1 y.1, Counts-append_up x.0 y.0 (length a) (length b) (length c) x.2 y.2);
}

-- something that leads to one state, with another before it
Adds-between : {inner whole : Part} {ss mid : List State} (exit entry : State) → Adds inner (ss ++ exit ∷ []) mid →
    ((last : List State) (x : List ℕ) → inner last x → state_at last (length mid) ≡ entry → state_at last (length ss) ≡ exit → whole last (length mid ∷ length ss ∷ x)) →
    Adds whole ss (mid ++ entry ∷ [])
Adds-between {inner} {ss = ss} {mid = mid} exit entry r is =
    Adds-under {below = λ l used. (x : List ℕ) × inner l x × (state_at l (length ss) ≡ exit) × (used ≡ length ss ∷ x)}
    (Adds-over (Adds-one ss exit) r (λ l x y s i. (y, i, s.0, ap (λ us. us ++ y) s.1))) (Adds-one mid entry)
    (λ l x y i s. rw (s.1, i.3) (is l i.0 i.1 s.0 i.2))

-- something behind a state that was reserved, and is written last
Adds-set : {inner whole : Part} {ss mid : List State} (s : State) → Adds inner (ss ++ fail ∷ []) mid →
    ((last : List State) (x : List ℕ) → inner last x → state_at last (length ss) ≡ s → whole last (length ss ∷ x)) → Adds whole ss (slice_set mid (length ss) s)
Adds-set {ss = ss} {mid = mid} s r is =
    let long = length_push ss fail in
    let extends : Extends ss mid = Extends-trans ss (ss ++ fail ∷ []) mid (Extends-push ss fail) r.extends in
    record {
      extends = grind (arith, common_steps, length-set, get_or-set_other);
      form = λ last a.
          let x = r.form last (Agrees-unset last (length (ss ++ fail ∷ [])) (length ss) mid s (omega (arith, long))
          (Agrees-later last (length ss) (length (ss ++ fail ∷ [])) (slice_set mid (length ss) s) (omega (arith, long)) a)) in (
            length ss ∷ x.0,
            is last x.0 x.1 (last_set last (length ss) (length ss) mid s (omega arith) (omega (arith, long, r.extends.longer)) a),
            grind (arith, common_steps, length-set, Counts-append_up, Counts-one),
          );
    }

pub Forms-one : (make : ℕ → State) (to : ℕ) (ss : List State) → Forms (λ l. One l make) to ss (pushed ss (make to))
Forms-one make to ss = Adds-one ss (make to)

pub Forms-behind : (first rest : List State → Fragment) (to : ℕ) (ss : List State) (e f : Emitted) →
    Forms rest to ss e → Forms first e.from e.states f → Forms (λ l. Behind l (first l) (rest l)) to ss f
Forms-behind first rest to ss e f r s = Adds-under r s (λ l x y behind before. (e.from, y, x, before, behind, refl))

-- a body that leads on to any state, appended to any states
abbrev pub FormsBody : (List State → Fragment) → Emitter → Type 1
FormsBody part body = (to : ℕ) (ss : List State) → Forms part to ss (body to ss)

module _ (part : List State → Fragment) (body : Emitter) (inside : FormsBody part body) where
  -- n copies before the rest
  pub Forms-again : (rest : List State → Fragment) (to : ℕ) (ss : List State) (e : Emitted) → Forms rest to ss e →
      (n : ℕ) → Forms (λ l. Copies l n (part l) (rest l)) to ss (in_front (again n body) e)
  Forms-again rest to ss e r zero = r
  Forms-again rest to ss e r (suc n) = search (arith, Forms-behind, (Forms-again rest to ss e r n))

  -- n options before the exit
  pub Forms-options : (greedy : Bool) (out : ℕ) (ss : List State) (n : ℕ) →
      Forms (λ l. Options l n greedy out (part l)) out ss (options n greedy body out ss)
  Forms-options greedy out ss zero = Adds-none ss (λ l. (refl, refl, refl))
  Forms-options greedy out ss (suc n) =
      let e = options n greedy body out ss in
      let f = in_front body e in
      Adds-under (Forms-options greedy out ss n)
      (Adds-under {whole = λ l used. (a : List ℕ) × part l f.from e.from a × (state_at l (length f.states) ≡ choice greedy f.from out) × (used ≡ length f.states ∷ a)}
      (inside e.from e.states) (Adds-one f.states (choice greedy f.from out)) (λ l x y b s. (x, b, s.0, ap (λ us. us ++ x) s.1)))
      (λ l x y rest s. (f.from, e.from, s.0, x, s.2, s.1, rest, ap (λ us. us ++ x) s.3))

  pub Forms-bounded : (n : ℕ) (greedy : Bool) (to : ℕ) (ss : List State) →
      Forms (λ l. Bounded l n greedy (part l)) to ss (bounded n greedy body to ss)
  Forms-bounded n greedy to ss =
      Adds-over (Adds-one ss (goto to None)) (Forms-options greedy (length ss) (ss ++ goto to None ∷ []) n) (λ l x y s r. (length ss, y, r, s.0, ap (λ us. us ++ y) s.1))

  pub Forms-loop : (greedy : Bool) → FormsBody (λ l. Loop l greedy (part l)) (loop greedy body)
  Forms-loop greedy to ss = Adds-set _ (inside (length ss) (ss ++ fail ∷ [])) (λ l x b s. (length ss, x, b, s, refl))

  pub Forms-optional_loop : (greedy : Bool) → FormsBody (λ l. OptionalLoop l greedy (part l)) (optional_loop greedy body)
  Forms-optional_loop greedy to ss =
      Adds-between _ _ (Forms-loop greedy (length ss) (ss ++ goto to None ∷ [])) (λ l x r entry exit. (_, length ss, x, r, entry, exit, refl))

  Forms-copies_up_to : (n more : ℕ) (greedy : Bool) → FormsBody (λ l. CopiesUpTo l n more greedy (part l)) (copies_up_to n more greedy body)
  Forms-copies_up_to n zero greedy to ss = Forms-again _ _ _ _ (inside to ss) n
  Forms-copies_up_to n (suc more) greedy to ss = Forms-again (λ l. Bounded l (suc more) greedy (part l)) _ _ _ (Forms-bounded (suc more) greedy _ _) (suc n)

  pub Forms-repeated : (min : ℕ) (most : Option ℕ) (greedy is_empty : Bool) →
      FormsBody (λ l. Repeated l min most greedy is_empty (part l)) (repeated min most greedy is_empty body)
  Forms-repeated zero None greedy true to ss = Forms-optional_loop _ to ss
  Forms-repeated zero None greedy false to ss = Adds-set _ (inside (length ss) (ss ++ fail ∷ [])) (λ l x b s. (_, x, b, s, refl))
  Forms-repeated (suc n) None greedy is_empty to ss = Forms-again (λ l. Loop l greedy (part l)) _ _ _ (Forms-loop _ to ss) n
  Forms-repeated zero (Some zero) greedy is_empty to ss = Forms-one (λ next. goto next None) _ _
  Forms-repeated zero (Some (suc zero)) greedy is_empty to ss = Forms-bounded 1 greedy _ _
  Forms-repeated zero (Some (suc (suc m))) greedy is_empty to ss =
      Forms-behind (λ l. One l (λ next. goto next None)) (λ l. Bounded l (suc (suc m)) greedy (part l)) _ _ _ _
      (Forms-bounded (suc (suc m)) greedy _ _) (Forms-one (λ next. goto next None) _ _)
  Forms-repeated (suc n) (Some most) greedy is_empty to ss = Forms-copies_up_to _ _ _ to ss

  pub Forms-grouped : (k : ℕ) → FormsBody
      (λ l. Behind l (One l (λ to. capture to (2 * k))) (Behind l (part l) (One l (λ to. capture to (2 * k + 1)))))
      (grouped k body)
  Forms-grouped k to ss =
      let e = writing (2 * k + 1) to ss in
      Forms-behind (λ l. One l (λ to. capture to (2 * k))) (λ l. Behind l (part l) (One l (λ to. capture to (2 * k + 1)))) _ _ _ _
      (Forms-behind part (λ l. One l (λ to. capture to (2 * k + 1))) to ss e (body e.from e.states)
      (Forms-one (λ to. capture to (2 * k + 1)) _ _) (inside e.from e.states)) (Forms-one (λ to. capture to (2 * k)) _ _)

-- the branches are written, and use all of their states
abbrev pub FormsBranches : Trees → ℕ → List State → Branches → Type 1
FormsBranches ts out old b = Adds (λ l. HasFormEach l ts b.rounds out) old b.states

mutual
  unfolding emit emit_all emit_each

  -- What is written for a tree has its form.
  pub Forms-emit : (t : Tree) → FormsBody (λ l. HasForm l t) (emit t)
  Forms-emit empty to ss = Forms-one (λ next. goto next None) to ss
  Forms-emit (char c) to ss = Forms-one (λ next. char_state next c) to ss
  Forms-emit (class rs) to ss = grind (arith, common_steps, Forms-one)
  Forms-emit (look l) to ss = Forms-one (λ next. goto next (Some l)) to ss
  Forms-emit (repetition min most greedy t) to ss = Forms-repeated (λ l. HasForm l t) (emit t) (Forms-emit t) min most greedy (is_nullable t) to ss
  Forms-emit (group k name t) to ss = Forms-grouped (λ l. HasForm l t) (emit t) (Forms-emit t) k to ss
  Forms-emit (sequence ts) to ss = Forms-emit_all ts to ss
  Forms-emit (alternation ts) to ss =
      let b = emit_each ts (length ss) (ss ++ goto to None ∷ []) in
      Adds-between (goto to None) (splits b.rounds false) (Forms-emit_each ts (length ss) (ss ++ goto to None ∷ []))
      (λ l x r entry exit. (length ss, b.rounds, x, entry, r, exit, refl))

  pub Forms-emit_all : (ts : Trees) → FormsBody (λ l. HasFormAll l ts) (emit_all ts)
  Forms-emit_all no_tree to ss = Adds-none ss (λ l. (refl, refl))
  Forms-emit_all (tree_and t ts) to ss =
      let e = emit_all ts to ss in
      Forms-behind (λ l. HasForm l t) (λ l. HasFormAll l ts) to ss e (in_front (emit t) e) (Forms-emit_all ts to ss) (Forms-emit t e.from e.states)

  pub Forms-emit_each : (ts : Trees) (out : ℕ) (ss : List State) → FormsBranches ts out ss (emit_each ts out ss)
  Forms-emit_each no_tree out ss = Adds-none ss (λ l. refl)
  Forms-emit_each (tree_and t ts) out ss = Adds-over (Forms-emit t out ss) (Forms-emit_each ts out (emit t out ss).states) (λ l x y r s. (x, y, r, s, refl))
