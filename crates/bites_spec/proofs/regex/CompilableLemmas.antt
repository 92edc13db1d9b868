-- The tree of a pattern is reduced, and no two of its groups have the same number or the same name.
use Rattle.std.proofs.lemmas.Grind.{common_steps}
use Rattle.std.proofs.Common.{◌≡◌, ℕ, zero, suc, ◌+◌, ◌≤◌, Bool, true, false, ◌&&◌, ◌==◌, List, [], ◌∷◌, ◌++◌, map, Option, Some, None, IfSome, refl, sym, ap, ◌∙◌, subst, inl, inr, ⊎_elim, arith, ◌⊎◌, true≢false, append_assoc, append-nil}
use Rattle.std.specs.Prelude.{encode_utf8_all, bytes_eq, option_map}
use Rattle.std.proofs.lemmas.Slice.Eq.{bytes_eq-Decides}
use Rattle.std.proofs.lemmas.Bool.{cases_Bool, or_parts}
use Rattle.bites_spec.specs.Walks.{Among, AllApart}
use Rattle.bites_spec.specs.Tree as tree
use Rattle.bites_spec.specs.Tree.{Tree, trees_of, sequence_of, alternation_of, repetition_of, repetition, groups_in, groups_in_all, names_in, names_in_all, IsReduced, AllAreReduced}
use Rattle.bites_spec.specs.Built.{IsCompilable}
use Rattle.bites_spec.specs.Pattern.{Text, Flags, Front, given}
use Rattle.bites_spec.specs.Operator as operator
use Rattle.bites_spec.specs.Operator.{ReadsOperator}
use Rattle.bites_spec.specs.Group as relation
use Rattle.bites_spec.specs.Group.{Opening, numbered, ReadsOpening, ReadsName, is_used}
use Rattle.bites_spec.specs.Grammar as grammar
use Rattle.bites_spec.specs.Grammar.{ReadsAtom, ReadsChoice, ReadsSequence, ReadsItem, Reads, literal_of, group_of}
use Rattle.bites_spec.proofs.programs.SlotLemmas.{Among-left}
use Rattle.bites_spec.proofs.regex.CompilableNames.{same_text}
use Rattle.bites_spec.proofs.programs.BuiltLemmas.{Among-append}

both_apart : {A : Type 0} (xs ys : List A) → AllApart xs → AllApart ys → ((x : A) → Among xs x → Among ys x → ⊥) → AllApart (xs ++ ys)
both_apart [] ys one other disjoint = other
both_apart (x ∷ xs) ys one other disjoint =
    (λ among. ⊎_elim (λ a. one.0 a) (λ b. disjoint x (inl refl) b) (Among-append xs ys x among), both_apart xs ys one.1 other (λ y a b. disjoint y (inr a) b))

front_apart : {A : Type 0} (xs ys : List A) → AllApart (xs ++ ys) → AllApart xs
front_apart [] ys h = tt
front_apart (x ∷ xs) ys h = (λ among. h.0 (Among-left xs ys x among), front_apart xs ys h.1)

-- the elements are distinct, unknown before and known after, and what was known stays known
record AreNew {A : Type 0} (before behind : A → Type 0) (xs : List A) : Type 0 where
  grows : (x : A) → before x → behind x
  new : (x : A) → Among xs x → before x → ⊥
  known : (x : A) → Among xs x → behind x
  apart : AllApart xs

no_new : {A : Type 0} (known : A → Type 0) → AreNew known known []
no_new known = record { grows = λ x k. k; new = λ x a k. absurd a; known = λ x a. absurd a; apart = tt }

one_new : {A : Type 0} (before behind : A → Type 0) (x : A) → ((y : A) → before y → behind y) → (before x → ⊥) → behind x → AreNew before behind (x ∷ [])
one_new before behind x grows new known = record {
  grows = grows;
  new = λ y a k. ⊎_elim (λ (e : x ≡ y). new (subst before (sym e) k)) (λ (more : ⊥). more) a;
  known = λ y a. ⊎_elim (λ (e : x ≡ y). subst behind e known) (λ (more : ⊥). absurd more) a;
  apart = (λ a. a, tt);
}

AreNew-append : {A : Type 0} (before middle behind : A → Type 0) (xs ys : List A) → AreNew before middle xs → AreNew middle behind ys →
    AreNew before behind (xs ++ ys)
AreNew-append before middle behind xs ys one other = record {
  grows = λ x k. other.grows x (one.grows x k);
  new = λ x a k. ⊎_elim (λ b. one.new x b k) (λ b. other.new x b (one.grows x k)) (Among-append xs ys x a);
  known = λ x a. ⊎_elim (λ b. other.grows x (one.known x b)) (λ b. other.known x b) (Among-append xs ys x a);
  apart = both_apart xs ys one.apart other.apart (λ x a b. other.new x b (one.known x a));
}

AreNew-front : {A : Type 0} (before behind : A → Type 0) (xs ys : List A) → AreNew before behind (xs ++ ys) → AreNew before behind xs
AreNew-front before behind xs ys h = record {
  grows = h.grows;
  new = λ x a k. h.new x (Among-left xs ys x a) k;
  known = λ x a. h.known x (Among-left xs ys x a);
  apart = front_apart xs ys h.apart;
}

-- a group with this number was opened
abbrev IsOpened : Front → ℕ → Type 0
IsOpened front n = n ≤ front.groups

-- a group has this name
abbrev IsNamed : Front → List ℕ → Type 0
IsNamed front name = Among (map encode_utf8_all (given front.names)) name

abbrev numbers_of : List Tree → List ℕ
numbers_of nodes = groups_in_all (trees_of nodes)

abbrev names_of : List Tree → List (List ℕ)
names_of nodes = names_in_all (trees_of nodes)

numbers_of-append : (a b : List Tree) → numbers_of (a ++ b) ≡ numbers_of a ++ numbers_of b
numbers_of-append [] b = refl
numbers_of-append (t ∷ a) b = ap (λ x. groups_in t ++ x) (numbers_of-append a b) ∙ sym (append_assoc (groups_in t) (numbers_of a) (numbers_of b))

names_of-append : (a b : List Tree) → names_of (a ++ b) ≡ names_of a ++ names_of b
names_of-append [] b = refl
names_of-append (t ∷ a) b = ap (λ x. names_in t ++ x) (names_of-append a b) ∙ sym (append_assoc (names_in t) (names_of a) (names_of b))

reduced-append : (a b : List Tree) → AllAreReduced (trees_of a) → AllAreReduced (trees_of b) → AllAreReduced (trees_of (a ++ b))
reduced-append [] b one other = other
reduced-append (t ∷ a) b one other = (one.0, reduced-append a b one.1 other)

reduced-front : (a b : List Tree) → AllAreReduced (trees_of (a ++ b)) → AllAreReduced (trees_of a)
reduced-front [] b h = tt
reduced-front (t ∷ a) b h = (h.0, reduced-front a b h.1)

reduced-behind : (a b : List Tree) → AllAreReduced (trees_of (a ++ b)) → AllAreReduced (trees_of b)
reduced-behind [] b h = h
reduced-behind (t ∷ a) b h = reduced-behind a b h.1

-- these nodes are reduced, and their groups were opened between two places
record Fits (front behind : Front) (nodes : List Tree) : Type 0 where
  reduced : AllAreReduced (trees_of nodes)
  numbers : AreNew (IsOpened front) (IsOpened behind) (numbers_of nodes)
  names : AreNew (IsNamed front) (IsNamed behind) (names_of nodes)

Fits-nothing : (front : Front) → Fits front front []
Fits-nothing front = record { reduced = tt; numbers = no_new (IsOpened front); names = no_new (IsNamed front) }

Fits-append : {front middle behind : Front} (a b : List Tree) → Fits front middle a → Fits middle behind b → Fits front behind (a ++ b)
Fits-append {front} {middle} {behind} a b one other = record {
  reduced = reduced-append a b one.reduced other.reduced;
  numbers =
      subst (λ x. AreNew (IsOpened front) (IsOpened behind) x) (sym (numbers_of-append a b))
      (AreNew-append (IsOpened front) (IsOpened middle) (IsOpened behind) (numbers_of a) (numbers_of b) one.numbers other.numbers);
  names =
      subst (λ x. AreNew (IsNamed front) (IsNamed behind) x) (sym (names_of-append a b))
      (AreNew-append (IsNamed front) (IsNamed middle) (IsNamed behind) (names_of a) (names_of b) one.names other.names);
}

-- the flags do not matter
Fits-flags : {front behind : Front} {nodes : List Tree} (flags : Flags) → Fits (record front { flags = flags }) behind nodes → Fits front behind nodes
Fits-flags flags h = record { reduced = h.reduced; numbers = h.numbers; names = h.names }

Fits-flags_behind : {front behind : Front} {nodes : List Tree} (flags : Flags) → Fits front behind nodes → Fits front (record behind { flags = flags }) nodes
Fits-flags_behind flags h = record { reduced = h.reduced; numbers = h.numbers; names = h.names }

-- one node can replace nodes with the same groups
Fits-one : {front behind : Front} {nodes : List Tree} (t : Tree) → groups_in t ≡ numbers_of nodes → names_in t ≡ names_of nodes → IsReduced t →
    Fits front behind nodes → Fits front behind (t ∷ [])
Fits-one {front} {behind} t numbers names reduced h = grind (arith, common_steps)

sequence_numbers : (nodes : List Tree) → groups_in (sequence_of nodes) ≡ numbers_of nodes
sequence_numbers [] = refl
sequence_numbers (t ∷ []) = sym (append-nil (groups_in t))
sequence_numbers (t ∷ u ∷ nodes) = refl

sequence_names : (nodes : List Tree) → names_in (sequence_of nodes) ≡ names_of nodes
sequence_names [] = refl
sequence_names (t ∷ []) = sym (append-nil (names_in t))
sequence_names (t ∷ u ∷ nodes) = refl

sequence_reduced : (nodes : List Tree) → AllAreReduced (trees_of nodes) → IsReduced (sequence_of nodes)
sequence_reduced [] h = tt
sequence_reduced (t ∷ []) h = h.0
sequence_reduced (t ∷ u ∷ nodes) h = (omega arith, h)

Fits-sequence : {front behind : Front} (nodes : List Tree) → Fits front behind nodes → Fits front behind (sequence_of nodes ∷ [])
Fits-sequence nodes h = Fits-one (sequence_of nodes) (sequence_numbers nodes) (sequence_names nodes) (sequence_reduced nodes h.reduced) h

choice_numbers : (nodes : List Tree) → groups_in (alternation_of nodes) ≡ numbers_of nodes
choice_numbers [] = refl
choice_numbers (t ∷ []) = sym (append-nil (groups_in t))
choice_numbers (t ∷ u ∷ nodes) = refl

choice_names : (nodes : List Tree) → names_in (alternation_of nodes) ≡ names_of nodes
choice_names [] = refl
choice_names (t ∷ []) = sym (append-nil (names_in t))
choice_names (t ∷ u ∷ nodes) = refl

choice_reduced : (nodes : List Tree) → AllAreReduced (trees_of nodes) → IsReduced (alternation_of nodes)
choice_reduced [] h = tt
choice_reduced (t ∷ []) h = h.0
choice_reduced (t ∷ u ∷ nodes) h = (omega arith, h)

Fits-choice : {front behind : Front} (nodes : List Tree) → Fits front behind nodes → Fits front behind (alternation_of nodes ∷ [])
Fits-choice nodes h = Fits-one (alternation_of nodes) (choice_numbers nodes) (choice_names nodes) (choice_reduced nodes h.reduced) h

-- what an operator makes of the last node has its groups, or none
record Repeats (last node : Tree) : Type 0 where
  reduced : IsReduced last → IsReduced node
  groups : ((groups_in node ≡ groups_in last) × (names_in node ≡ names_in last)) ⊎ ((groups_in node ≡ []) × (names_in node ≡ []))

not_zero : (n : ℕ) → (n == 0) ≡ false → 1 ≤ n
not_zero zero e = absurd (true≢false e)
not_zero (suc n) e = omega arith

not_once : (min max : ℕ) → ((min == 1) && (max == 1)) ≡ false → min ≡ 1 → max ≡ 1 → ⊥
not_once min max e one same = let yes : ((min == 1) && (max == 1)) ≡ true = rw (one, same) refl in true≢false (sym yes ∙ e)

repeats : (min : ℕ) (max : Option ℕ) (greedy : Bool) (last : Tree) → IfSome max (λ n. min ≤ n) → Repeats last (repetition_of min max greedy last)
repeats min None greedy last order = record { reduced = λ r. (tt, r); groups = inl (refl, refl) }
repeats min (Some max) greedy last order =
    ⊎_elim (λ (b : (max == 0) ≡ true). rw b (record { reduced = λ r. tt; groups = inr (refl, refl) }))
    (λ (b : (max == 0) ≡ false).
    ⊎_elim (λ (d : ((min == 1) && (max == 1)) ≡ true). rw (b, d) (record { reduced = λ r. r; groups = inl (refl, refl) }))
    (λ (d : ((min == 1) && (max == 1)) ≡ false).
    rw (b, d) (record { reduced = λ r. ((order, not_zero max b, not_once min max d), r); groups = inl (refl, refl) }))
    (cases_Bool ((min == 1) && (max == 1))))
    (cases_Bool (max == 0))

in_order : {flags : Flags} {t rest : Text} {min : ℕ} {max : Option ℕ} {greedy : Bool} → ReadsOperator flags t min max greedy rest → IfSome max (λ n. min ≤ n)
in_order (operator.optional t next rest min max lazy greedy is mark least most more) = rw (least, most) (omega arith)
in_order (operator.any_number t next rest min max lazy greedy is mark least most more) = rw most tt
in_order (operator.at_least_once t next rest min max lazy greedy is mark least most more) = rw most tt
in_order (operator.exactly t next behind rest min max lazy greedy is count mark most more) = rw most (omega arith)
in_order (operator.at_least t next others behind rest min max lazy greedy is count closes mark most more) = rw most tt
in_order (operator.between t next others behind rest min greatest max lazy greedy is count second order mark most more) = rw most order

Fits-last : {front behind : Front} (before : List Tree) (last node : Tree) → Repeats last node → Fits front behind (before ++ last ∷ []) →
    Fits front behind (before ++ node ∷ [])
Fits-last {front} {behind} before last node repeated h =
    let numbers_now = subst (λ x. AreNew (IsOpened front) (IsOpened behind) x) (numbers_of-append before (last ∷ [])) h.numbers in
    let names_now = subst (λ x. AreNew (IsNamed front) (IsNamed behind) x) (names_of-append before (last ∷ [])) h.names in
    let all = reduced-behind before (last ∷ []) h.reduced in
    let reduced = reduced-append before (node ∷ []) (reduced-front before (last ∷ []) h.reduced) (repeated.reduced all.0, tt) in
    ⊎_elim
    (λ (same : (groups_in node ≡ groups_in last) × (names_in node ≡ names_in last)). record {
      reduced = reduced;
      numbers =
          subst (λ x. AreNew (IsOpened front) (IsOpened behind) x)
          (ap (λ x. numbers_of before ++ (x ++ [])) (sym same.0) ∙ sym (numbers_of-append before (node ∷ []))) numbers_now;
      names =
          subst (λ x. AreNew (IsNamed front) (IsNamed behind) x)
          (ap (λ x. names_of before ++ (x ++ [])) (sym same.1) ∙ sym (names_of-append before (node ∷ []))) names_now;
    })
    (λ (none : (groups_in node ≡ []) × (names_in node ≡ [])). record {
      reduced = reduced;
      numbers =
          subst (λ x. AreNew (IsOpened front) (IsOpened behind) x)
          (sym (append-nil (numbers_of before)) ∙ ap (λ x. numbers_of before ++ (x ++ [])) (sym none.0) ∙ sym (numbers_of-append before (node ∷ [])))
          (AreNew-front (IsOpened front) (IsOpened behind) (numbers_of before) _ numbers_now);
      names =
          subst (λ x. AreNew (IsNamed front) (IsNamed behind) x)
          (sym (append-nil (names_of before)) ∙ ap (λ x. names_of before ++ (x ++ [])) (sym none.1) ∙ sym (names_of-append before (node ∷ [])))
          (AreNew-front (IsNamed front) (IsNamed behind) (names_of before) _ names_now);
    })
    repeated.groups

-- a name that is not used differs from the bytes of each name
unused : (names : List Text) (name : Text) → is_used names name ≡ false → Among (map encode_utf8_all names) (encode_utf8_all name) → ⊥
unused [] name free among = among
unused (other ∷ names) name free among =
    let parts = or_parts (bytes_eq name other) (is_used names name) free in
    ⊎_elim
    (λ (e : encode_utf8_all other ≡ encode_utf8_all name).
    true≢false (sym ((bytes_eq-Decides name other).1 (sym (same_text other name e))) ∙ parts.0))
    (λ later. unused names name parts.1 later) among

name_is_new : (names : List Text) (t name rest : Text) → ReadsName names t name rest → is_used names name ≡ false
name_is_new names t name rest (relation.name c _ others _ _ is begins fits free) = free

-- a group with the next number
Fits-numbered : {front inner middle : Front} (name : Option Text) (branches : List Tree) → inner.groups ≡ front.groups + 1 →
    AreNew (IsNamed front) (IsNamed inner) (tree.name_if_any (option_map encode_utf8_all name)) → Fits inner middle branches →
    Fits front middle (group_of (numbered name) front.groups branches ∷ [])
Fits-numbered {front} {inner} {middle} name branches one_more own h = record {
  reduced = ((omega arith, choice_reduced branches h.reduced), tt);
  numbers =
      subst (λ x. AreNew (IsOpened front) (IsOpened middle) ((front.groups + 1) ∷ x))
      (sym (append-nil (groups_in (alternation_of branches)) ∙ choice_numbers branches))
      (AreNew-append (IsOpened front) (IsOpened inner) (IsOpened middle) ((front.groups + 1) ∷ []) (numbers_of branches)
      (one_new (IsOpened front) (IsOpened inner) (front.groups + 1) (λ y k. omega (arith, one_more, k)) (λ k. omega (arith, k)) (omega (arith, one_more)))
      h.numbers);
  names =
      subst (λ x. AreNew (IsNamed front) (IsNamed middle) x)
      (ap (λ x. tree.name_if_any (option_map encode_utf8_all name) ++ x) (sym (choice_names branches)) ∙ sym (append-nil _))
      (AreNew-append (IsNamed front) (IsNamed inner) (IsNamed middle) (tree.name_if_any (option_map encode_utf8_all name)) (names_of branches) own h.names);
}

Fits-group : {front inner middle : Front} {t inside : Text} {opening : Opening} (branches : List Tree) → ReadsOpening front t opening inner inside →
    Fits inner middle branches → Fits front middle (group_of opening front.groups branches ∷ [])
Fits-group {front} {middle = middle} branches (relation.number_only t next inside opening inner is at plain opens fronts) h =
    subst (λ x. Fits front middle (group_of x front.groups branches ∷ [])) (sym opens)
    (Fits-numbered None branches refl (no_new (IsNamed front)) (subst (λ x. Fits x middle branches) fronts h))
Fits-group {front} {middle = middle} branches (relation.named t next begun name inside opening inner is plain begin reads opens fronts) h =
    subst (λ x. Fits front middle (group_of x front.groups branches ∷ [])) (sym opens)
    (Fits-numbered (Some name) branches refl
    (one_new (IsNamed front) _ (encode_utf8_all name) (λ y k. inr k) (unused (given front.names) name (name_is_new (given front.names) begun name inside reads)) (inl refl))
    (subst (λ x. Fits x middle branches) fronts h))
Fits-group {front} {middle = middle} branches (relation.with_flags t next marks run inside opening inner is asks reads opens fronts) h =
    subst (λ x. Fits front middle (group_of x front.groups branches ∷ [])) (sym opens)
    (Fits-choice branches (Fits-flags _ (subst (λ x. Fits x middle branches) fronts h)))

-- a node without groups
Fits-leaf : {front : Front} (t : Tree) → groups_in t ≡ [] → names_in t ≡ [] → IsReduced t → Fits front front (t ∷ [])
Fits-leaf {front} t numbers names reduced = Fits-one t numbers names reduced (Fits-nothing front)

Fits-literal : {front : Front} (flags : Flags) (c : ℕ) → Fits front front (literal_of flags c ∷ [])
Fits-literal flags c = grind (arith, common_steps, Fits-leaf)

Fits-atom : {front : Front} {flags : Flags} {t rest : Text} {node : Tree} → ReadsAtom flags t node rest → Fits front front (node ∷ [])
Fits-atom {flags = flags} (grammar.literal c t rest node is plain same) = rw same (Fits-literal flags c)
Fits-atom (grammar.any t rest node ranges is lists same) = rw same (Fits-leaf _ refl refl tt)
Fits-atom (grammar.line_start t rest node is same) = rw same (Fits-leaf _ refl refl tt)
Fits-atom (grammar.line_end t rest node is same) = rw same (Fits-leaf _ refl refl tt)
Fits-atom (grammar.bracket t rest node ranges reads same) = rw same (Fits-leaf _ refl refl tt)
Fits-atom {flags = flags} (grammar.escaped_character c t rest node reads same) = rw same (Fits-literal flags c)
Fits-atom (grammar.escaped_class set t rest node ranges reads lists same) = rw same (Fits-leaf _ refl refl tt)
Fits-atom (grammar.escaped_assertion l t rest node reads same) = rw same (Fits-leaf _ refl refl tt)

mutual
  choice_fits : {front behind : Front} {t rest : Text} {branches : List Tree} → ReadsChoice front t branches behind rest → Fits front behind branches
  choice_fits {behind = behind} (grammar.one front _ t rest nodes branches s is) =
      subst (λ x. Fits front behind x) (sym is) (Fits-sequence nodes (sequence_fits s front (Fits-nothing front)))
  choice_fits {behind = behind} (grammar.several front middle _ t more rest nodes others branches s c is) =
      subst (λ x. Fits front behind x) (sym is)
      (Fits-append (sequence_of nodes ∷ []) others (Fits-sequence nodes (sequence_fits s front (Fits-nothing front))) (choice_fits c))

  sequence_fits : {front behind : Front} {t rest : Text} {nodes all : List Tree} → ReadsSequence front t nodes all behind rest →
      (from : Front) → Fits from front nodes → Fits from behind all
  sequence_fits (grammar.ends front behind t rest nodes all at ends same unchanged) from h =
      subst (λ x. Fits from x all) (sym unchanged) (subst (λ x. Fits from front x) (sym same) h)
  sequence_fits (grammar.goes_on front middle behind t next rest nodes more all i s) from h = sequence_fits s from (item_fits i from h)

  item_fits : {front behind : Front} {t rest : Text} {nodes all : List Tree} → ReadsItem front t nodes all behind rest →
      (from : Front) → Fits from front nodes → Fits from behind all
  item_fits (grammar.atom front behind t rest nodes all node a same unchanged) from h =
      subst (λ x. Fits from x all) (sym unchanged) (subst (λ x. Fits from front x) (sym same) (Fits-append nodes (node ∷ []) h (Fits-atom a)))
  item_fits (grammar.operator front behind t rest nodes all before last min max greedy reads old same unchanged) from h =
      subst (λ x. Fits from x all) (sym unchanged)
      (subst (λ x. Fits from front x) (sym same)
      (Fits-last before last _ (repeats min max greedy last (in_order reads)) (subst (λ x. Fits from front x) old h)))
  item_fits (grammar.directive front behind t next marks run rest c letters nodes all is asks reads some same unchanged) from h =
      subst (λ x. Fits from x all) (sym unchanged) (Fits-flags_behind _ (subst (λ x. Fits from front x) (sym same) h))
  item_fits (grammar.group front inner middle behind t inside rest nodes all branches opening o c same unchanged) from h =
      subst (λ x. Fits from x all) (sym unchanged)
      (Fits-flags_behind _ (subst (λ x. Fits from middle x) (sym same) (Fits-append nodes _ h (Fits-group branches o (choice_fits c)))))

-- the tree of a pattern is compilable
pub reads_compilable : (pattern : Text) (flags : Flags) (t : Tree) → Reads pattern flags t → IsCompilable t
reads_compilable pattern flags t reading =
    let h = choice_fits reading.reads in
    let numbers = sym (choice_numbers reading.branches) ∙ ap groups_in (sym reading.is_choice) in
    let names = sym (choice_names reading.branches) ∙ ap names_in (sym reading.is_choice) in
    record {
      reduced = subst IsReduced (sym reading.is_choice) (choice_reduced reading.branches h.reduced);
      numbers = subst (λ x. AllApart x) numbers h.numbers.apart;
      names = subst (λ x. AllApart x) names h.names.apart;
    }
