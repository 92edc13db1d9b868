-- What was made of a graph stays right as the graph grows, and is a table.
use Rattle.bites_table.proofs.Library.{common_steps, elements, nat_lt, replicate, IfSome, IfNone, slice_get, slice_set, cases_Bool, nat_tests, get_or_append_left, append-nil, map-append, length-map, div-mul-add, mod-mul-add, Program, slice_get_within, slice_get_cases, slice_get-get_or, get_or_from_slice_get, ◌≡◌, ℕ, ◌+◌, ◌*◌, ◌/◌, ◌%◌, ◌<◌, ◌⊎◌, ⊎_elim, true, false, List, [], ◌∷◌, ◌++◌, length, Option, Some, None, refl, sym, ap, ◌∙◌, subst, arith, length-append, append_assoc, map, option_map, slice_get-map}
use Rattle.bites_table.specs.Kinds as kinds
use Rattle.bites_table.proofs.Words.{kind_of, leads_by, AreAlikeKinds, Classes, Starts, nowhere, ThreadList, Transition, IsTransition, list_at, NumberedList, Outcome, Cell, Graph, transition_with, transition_in, cell_at, table_of, registers_at, AreHeld, with_outcome, with_cells, AddsList, AddsOutcome, IsGraph, IsRoot, Grows, IsCell, IsMade, list_as}
use Rattle.bites_table.specs.Table as tables
use Rattle.bites_table.specs.Graph.{with_list}

-- an item of a list stays where more come after it
pub get-left : {X : Type 0} (xs ys : List X) (i : ℕ) (x : X) → slice_get xs i ≡ Some x → slice_get (xs ++ ys) i ≡ Some x
get-left xs ys i x e = grind (arith, elements)

-- what is at an index after one more was added
pub get-push : {X : Type 0} (xs : List X) (y : X) (i : ℕ) (x : X) → slice_get (xs ++ y ∷ []) i ≡ Some x → (slice_get xs i ≡ Some x) ⊎ ((i ≡ length xs) × (y ≡ x))
get-push xs y i x e = grind (arith, common_steps, slice_get_cases, slice_get-get_or)

-- the last item, or one before it
pub get-last : {X : Type 0} (xs : List X) (y : X) (i : ℕ) (x : X) → slice_get (xs ++ y ∷ []) i ≡ Some x → (slice_get xs i ≡ Some x) ⊎ (y ≡ x)
get-last xs y i x e = grind (arith, get-push)

-- what is added last
pub get-pushed : {X : Type 0} (xs : List X) (x : X) (n : ℕ) → n ≡ length xs → slice_get (xs ++ x ∷ []) n ≡ Some x
get-pushed xs x n e = grind (arith, elements)

-- what is known among what is known and what is not
get-known : {X : Type 0} (xs : List (Option X)) (n j : ℕ) (x : X) → slice_get (xs ++ replicate n None) j ≡ Some (Some x) → slice_get xs j ≡ Some (Some x)
get-known xs n j x e = grind (arith, common_steps, elements, slice_get_cases)

-- an item after one is set
get-set : {X : Type 0} (xs : List X) (i j : ℕ) (y x : X) → slice_get (slice_set xs i y) j ≡ Some x → (slice_get xs j ≡ Some x) ⊎ ((j ≡ i) × (y ≡ x))
get-set xs i j y x e = grind (arith, elements, slice_get_within, get_or_from_slice_get, slice_get-get_or)

abbrev pub no_list : ThreadList
no_list = record { threads = []; starts = nowhere; kind = kinds.edge }

-- the list with a number, and how many registers it has
pub list-there : (g : Graph) (n : ℕ) (l : NumberedList) → slice_get g.lists n ≡ Some l → list_at (table_of g) n ≡ list_as l
list-there g n l e = get_or_from_slice_get (map list_as g.lists) n (list_as l) no_list (slice_get-map list_as g.lists n ∙ ap (option_map list_as) e)

pub registers-there : (g : Graph) (n : ℕ) (l : NumberedList) → slice_get g.lists n ≡ Some l → registers_at g n ≡ l.registers
registers-there g n l e = let count : NumberedList → ℕ = λ m. m.registers in get_or_from_slice_get (map count g.lists) n l.registers 0 (slice_get-map count g.lists n ∙ ap (option_map count) e)

-- a list keeps its number
pub list-stays : (g h : Graph) → Grows g h → (n : ℕ) → n < length g.lists → list_at (table_of h) n ≡ list_at (table_of g) n
list-stays g h grows n lt = grind (arith, common_steps, map-append, get_or_append_left, length-map)

registers-stay : (g h : Graph) → Grows g h → (n : ℕ) → n < length g.lists → registers_at h n ≡ registers_at g n
registers-stay g h grows n lt = grind (arith, common_steps, map-append, get_or_append_left, length-map)

pub grows-refl : (g : Graph) → Grows g g
grows-refl g = record { classes = refl; more = []; lists = sym (append-nil g.lists); more_outcomes = []; outcomes = sym (append-nil g.outcomes) }

pub grows-by : (g h : Graph) → h ≡ g → Grows g h
grows-by g h is = subst (Grows g) (sym is) (grows-refl g)

pub grows-list : (g : Graph) (l : NumberedList) → Grows g (with_list g l)
grows-list g l = record { classes = refl; more = l ∷ []; lists = refl; more_outcomes = []; outcomes = sym (append-nil g.outcomes) }

pub grows-outcome : (g : Graph) (o : Outcome) → Grows g (with_outcome g o)
grows-outcome g o = record { classes = refl; more = []; lists = sym (append-nil g.lists); more_outcomes = o ∷ []; outcomes = refl }

pub grows-any : (g h : Graph) (o : Outcome) (n : Option ℕ) → IfSome n (λ i. AddsOutcome g o i h) → IfNone n (h ≡ g) → Grows g h
grows-any g h o n added same = grind (arith, common_steps, grows-by, grows-outcome)

pub grows-added : (g h : Graph) (l : NumberedList) (n : ℕ) → AddsList g l n h → Grows g h
grows-added g h l n added = grind (arith, common_steps, grows-by, grows-list)

pub grows-any-list : (g h : Graph) (l : NumberedList) (n : Option ℕ) → IfSome n (λ i. AddsList g l i h) → IfNone n (h ≡ g) → Grows g h
grows-any-list g h l n added same = grind (arith, common_steps, grows-by, grows-added)

pub grows-trans : (f g h : Graph) → Grows f g → Grows g h → Grows f h
grows-trans f g h a b = grind (arith, common_steps, append_assoc)

-- other cells change no list
pub grows-cells : (f g h : Graph) (cells : List (Option Cell)) → h ≡ with_cells g cells → Grows f g → Grows f h
grows-cells f g h cells is grows = grind (arith, common_steps)

pub grows-within : (g h : Graph) → Grows g h → (n : ℕ) → n < length g.lists → n < length h.lists
grows-within g h more n lt = let len = ap length more.lists ∙ length-append g.lists more.more in omega arith

pub root-stays : (p : Program) (g h : Graph) → Grows g h → (b : kinds.Kind) (starts : Starts) (n : ℕ) → IsRoot p g b starts n → IsRoot p h b starts n
root-stays p g h more b starts n root =
    let stays = list-stays g h more n root.within in
    grind (arith, common_steps, grows-within)

module _ (p : Program) (k : Classes) where
  -- a transition stays one
  cell-stays : (g h : Graph) → Grows g h →
      ((i : ℕ) (o : Outcome) → slice_get g.outcomes i ≡ Some o → o.next < length g.lists) →
      (n c : ℕ) (x : Cell) → IsCell p k g n c x → IsCell p k h n c x
  cell-stays g h grows next n c x cell =
      let there = list-stays g h grows cell.outcome.next (next x.outcome cell.outcome cell.named) in
      record {
        within = grows-within g h grows n cell.within;
        outcome = cell.outcome;
        named = ap (λ os. slice_get os x.outcome) grows.outcomes ∙ get-left g.outcomes grows.more_outcomes x.outcome cell.outcome cell.named;
        transition = grind (arith, common_steps);
        kind = subst (λ (l : ThreadList). AreAlikeKinds p l.kind (kind_of (k.member c))) (sym there) cell.kind;
      }

  -- a list is added
  made-new : (g : Graph) (l : NumberedList) → AreHeld l.registers l.threads → IsMade p k g → IsMade p k (with_list g l)
  made-new g l held made =
      let grows = grows-list g l in
      record {
        held = λ n own e. ⊎_elim (made.held n own) (λ last. rw last.1 at held) (get-push g.lists l n own e);
        next = λ i o e. grows-within g (with_list g l) grows o.next (made.next i o e);
        moves = λ i o e. made.moves i o e ∙ sym (registers-stay g (with_list g l) grows o.next (made.next i o e));
        cells = λ j x e. cell-stays g (with_list g l) grows made.next (j / g.classes) (j % g.classes) x (made.cells j x e);
      }

  -- a list is added if it is new
  pub made-list : (g h : Graph) (l : NumberedList) (n : ℕ) → AddsList g l n h → AreHeld l.registers l.threads → IsMade p k g → IsMade p k h
  made-list g h l n added held made = grind (arith, common_steps, made-new)

  -- an outcome is added
  pub made-outcome : (g : Graph) (o : Outcome) → o.next < length g.lists → length o.moves ≡ registers_at g o.next → IsMade p k g → IsMade p k (with_outcome g o)
  made-outcome g o lt moves made = record {
    held = made.held;
    next = λ i u e. ⊎_elim (made.next i u) (λ last. subst (λ (v : Outcome). v.next < length g.lists) last.1 lt) (get-push g.outcomes o i u e);
    moves = λ i u e. ⊎_elim (made.moves i u) (λ last. subst (λ (v : Outcome). length v.moves ≡ registers_at g v.next) last.1 moves) (get-push g.outcomes o i u e);
    cells = λ j x e. cell-stays g (with_outcome g o) (grows-outcome g o) made.next (j / g.classes) (j % g.classes) x (made.cells j x e);
  }

  -- only the cells changed, and each is right
  made-cells : (g : Graph) (cells : List (Option Cell)) → ((j : ℕ) (x : Cell) → slice_get cells j ≡ Some (Some x) → IsCell p k g (j / g.classes) (j % g.classes) x) → IsMade p k g → IsMade p k (with_cells g cells)
  made-cells g cells are made = record {
    held = made.held;
    next = made.next;
    moves = made.moves;
    cells = λ j x e. cell-stays g (with_cells g cells) (grows-cells g g (with_cells g cells) cells refl (grows-refl g)) made.next (j / g.classes) (j % g.classes) x (are j x e);
  }

  -- cells that are not known are added
  pub made-row : (g : Graph) (n : ℕ) → IsMade p k g → IsMade p k (with_cells g (g.cells ++ replicate n None))
  made-row g n made = made-cells g (g.cells ++ replicate n None) (λ j x e. made.cells j x (get-known g.cells n j x e)) made

  -- a cell is set
  pub made-cell : (g : Graph) (n c : ℕ) (x : Cell) → c < g.classes → IsCell p k g n c x → IsMade p k g → IsMade p k (with_cells g (slice_set g.cells (n * g.classes + c) (Some x)))
  made-cell g n c x lt cell made =
      made-cells g (slice_set g.cells (n * g.classes + c) (Some x))
      (λ j y e. ⊎_elim (made.cells j y)
      (λ (at : (j ≡ n * g.classes + c) × (Some x ≡ Some y)).
      let same : x ≡ y = let e = at.1 in cc in
      rw (at.0, div-mul-add n g.classes c lt, mod-mul-add n g.classes c lt, ← same) cell)
      (get-set g.cells (n * g.classes + c) j (Some x) (Some y) e)) made

  -- a cell that is known is one
  pub cell_there : (g : Graph) → IsMade p k g → (n c : ℕ) (x : Cell) → c < g.classes → slice_get g.cells (n * g.classes + c) ≡ Some (Some x) → IsCell p k g n c x
  cell_there g made n c x below named = rw (div-mul-add n g.classes c below, mod-mul-add n g.classes c below) at (made.cells (n * g.classes + c) x named)

  -- the cell of a list and a class is one
  cell_is : (g : Graph) → IsMade p k g → (n c : ℕ) (x : Cell) → cell_at g n c ≡ Some x → IsCell p k g n c x
  cell_is g made n c x e =
      ⊎_elim
      (λ (lt : nat_lt c g.classes ≡ true). cell_there g made n c x (grind (arith, nat_tests)) (grind (arith, common_steps)))
      (λ (past : nat_lt c g.classes ≡ false). absurd (grind (arith, common_steps)))
      (cases_Bool (nat_lt c g.classes))

  -- the transition of the list over the class
  abbrev Right : Graph → ℕ → ℕ → Transition ℕ → Type 0
  Right g n c t =
      IsTransition p (leads_by (list_at (table_of g) n).kind (k.member c)) (list_at (table_of g) n) (tables.with_list (table_of g) t)
      × ((d : ℕ) → k.member c ≡ Some d → AreAlikeKinds p (list_at (table_of g) t.next).kind (kind_of (Some d)))

  -- what was made is a graph of the program
  pub made-graph : (g : Graph) → IsMade p k g → IsGraph p k g
  made-graph g made = record {
    table = record {
      transition = λ n c t e. (is_one n c t e).0;
      kind = λ n c t e. (is_one n c t e).1;
    };
    cells = λ n c x e. let cell = cell_is g made n c x e in (cell.within, slice_get_within g.outcomes x.outcome cell.outcome cell.named);
    next = made.next;
    held = made.held;
    moves = made.moves;
  }
    where
      of_cell : (n c : ℕ) (t : Transition ℕ) (o : Option Cell) → ((x : Cell) → o ≡ Some x → IsCell p k g n c x) → transition_in g.outcomes o ≡ Some t → Right g n c t
      of_cell n c t None are e = absurd (let no : None ≡ Some t = e in cc)
      of_cell n c t (Some x) are e =
          let cell = are x refl in
          let same : transition_with x cell.outcome ≡ t = cc in
          subst (Right g n c) same (cell.transition, λ d e. subst (λ u. AreAlikeKinds p (list_at (table_of g) cell.outcome.next).kind (kind_of u)) e cell.kind)

      is_one : (n c : ℕ) (t : Transition ℕ) → transition_in g.outcomes (cell_at g n c) ≡ Some t → Right g n c t
      is_one n c t e = of_cell n c t (cell_at g n c) (λ x is. cell_is g made n c x is) e
