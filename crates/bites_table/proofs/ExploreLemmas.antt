-- The transitions of a list, made of one walk.
use Rattle.bites_table.proofs.Library.{true, common_steps, is_some, IfSome, IfNone, slice_get, slice_set, slice_index_or, slice_get_within, append-nil, get_or_append_left, get_or_push, Look, State, Program, state_at, char, ranges, splits, goto, capture, fail, match, WalksTo, ◌≡◌, ℕ, ◌+◌, ◌*◌, ◌<◌, ◌⊎◌, ⊎_elim, Bool, cond, List, [], ◌∷◌, ◌++◌, map, reverse, length, Option, Some, None, option_map, refl, sym, ap, ap₂, ◌∙◌, subst, arith, length-append, replicate}
use Rattle.bites_table.proofs.Words.{Kind, edge, line_feed, carriage_return, word_byte, other, kind_of, leads_by, holds_by, AreAlikeKinds, Classes, Thread, Source, thread_with, unwritten, threads_by, on_row, leads_between, takers_by, taken, over, AssertsAs, Starts, everywhere, cuts_off, ThreadList, Transition, IsTransition, starts_after, source_at, begun, list_at, starts_as, kind_as, source_of, frame_of, thread_as, list_of, walking_of, NumberedList, Outcome, Cell, Graph, list_as, table_of, registers_at, AreHeld, with_outcome, with_cells, AddsList, AddsOutcome, IsRoot, numbered, AreAssigned, AreApart, Grows, IsCell, IsMade, IsOutcome, ended, start_alone, IsNoted, IsBase, IsRowOf, IsOutcomeOf, NamesAt, visits_of, IsFilled, program_in, classes_in, IsMaking, AreRoots, Edge, Frame, Roots, Walk, Assigned, Context, Row, Base, Noted}
use Rattle.bites_table.specs.declared.kind.Kind as code
use Rattle.bites_table.specs.declared.thread_list.ThreadList as code_lists
use Rattle.bites_table.proofs.WalkLemmas.{one_end, walks_trans, after, walks_after}
use Rattle.bites_table.proofs.TakerLemmas.{walks_over}
use Rattle.bites_table.proofs.TakenLemmas.{taken-append}
use Rattle.bites_table.proofs.GraphLemmas.{no_list, get-left, get-push, get-pushed, list-there, registers-there, list-stays, grows-refl, grows-cells, grows-within, grows-trans, root-stays, made-list, made-outcome, made-row, made-cell, cell_there}

-- an outcome that is added has its number, and lists stay
adds-named : (g h : Graph) (n : ℕ) (o : Outcome) → AddsOutcome g o n h → slice_get h.outcomes n ≡ Some o
adds-named g h n o adds = grind (arith, common_steps, get-pushed)

adds-lists : (g h : Graph) (n : ℕ) (o : Outcome) → AddsOutcome g o n h → h.lists ≡ g.lists
adds-lists g h n o adds = grind (arith, common_steps)

-- a list that is added has its number
pub added-get : (g h : Graph) (l : NumberedList) (n : ℕ) → AddsList g l n h → slice_get h.lists n ≡ Some l
added-get g h l n added = grind (arith, common_steps, get-pushed)

pub added-list : (g h : Graph) (l : NumberedList) (n : ℕ) → AddsList g l n h → list_at (table_of h) n ≡ list_as l
added-list g h l n added = list-there h n l (added-get g h l n added)

pub added-registers : (g h : Graph) (l : NumberedList) (n : ℕ) → AddsList g l n h → registers_at h n ≡ l.registers
added-registers g h l n added = registers-there h n l (added-get g h l n added)

pub added-within : (g h : Graph) (l : NumberedList) (n : ℕ) → AddsList g l n h → n < length h.lists
added-within g h l n added = slice_get_within h.lists n l (added-get g h l n added)

-- where no assertion tells two kinds apart they lead alike
pub asserts-as : (p : Program) (k : Kind) (a : Kind) (o : Option ℕ) →
    ((q t : ℕ) (look : Look) → state_at p.states q ≡ goto t (Some look) → (b : Kind) → holds_by look b a ≡ holds_by look b (kind_of o)) → AssertsAs p k a o
asserts-as p k a o same q = by_state (state_at p.states q) (λ t look e. same q t look e k)
  where
    by_state : (st : State) → ((t : ℕ) (look : Look) → st ≡ goto t (Some look) → holds_by look k a ≡ holds_by look k (kind_of o)) → leads_between k (kind_of o) st ≡ leads_between k a st
    by_state (char t c) same = refl
    by_state (ranges t rs) same = refl
    by_state (splits qs b) same = refl
    by_state (goto t None) same = refl
    by_state (goto t (Some look)) same = ap (λ b. cond b (t ∷ []) []) (sym (same t look refl))
    by_state (capture t i) same = refl
    by_state fail same = refl
    by_state match same = refl

module _ (p : Program) (k : Classes) where
  -- the cell of a walk and an outcome over its class
  cell-made : (g : Graph) (c : ℕ) (w : Walk) (seen : List ℕ) (row : Row) (x : Cell) → row.number < length g.lists →
      AssertsAs p (list_at (table_of g) row.number).kind (kind_as row.kind) (k.member c) → IsOutcomeOf p k g w seen row c x.outcome → x.seen ≡ visits_of w seen row.base → x.looks ≡ row.looks →
      IsCell p k g row.number c x
  cell-made g c w seen row x within asserts is seen_is looks_is =
      let l = list_at (table_of g) row.number in
      let last = ended (visits_of w seen row.base) (map frame_of w.takers.items ++ is.row_is.rest) (option_map frame_of w.hit) row.looks in
      record {
        within = within;
        outcome = is.outcome.outcome;
        named = is.outcome.named;
        transition = record {
          last = over p (k.member c) last;
          walks = walks_over (cuts_off l.starts) p l.kind (kind_as row.kind) (k.member c) asserts (begun p l) last is.row_is.walks;
          over = refl;
          next = is.outcome.threads;
          hit = sym (ap (option_map frame_of) is.outcome.hit_is);
          starts = is.outcome.walked ∙ is.row_is.starts ∙ ap (λ b. starts_after b l.starts) (sym (found w.hit) ∙ ap (λ o. is_some (option_map frame_of o)) (sym is.outcome.hit_is));
          seen = sym seen_is;
          looks = sym looks_is;
        };
        kind = is.outcome.kind;
      }
    where
      found : (o : Option Frame) → is_some (option_map frame_of o) ≡ is_some o
      found o = grind (arith, common_steps)

  -- the outcome of threads with registers, when their list and then it were added
  pub outcome-is : (g h : Graph) (c : ℕ) (ts : List (Thread Source)) (hit : Option Frame) (a : Assigned) (l : NumberedList) (n : ℕ) → AddsList g l n h → l.threads ≡ a.threads.items →
      AreAssigned a (taken p (k.member c) ts) →
      AreAlikeKinds p (kind_as l.kind) (kind_of (k.member c)) →
      (i : ℕ) (f : Graph) → AddsOutcome h (record { next = n; moves = a.moves.items; hit = hit }) i f → IsOutcome p k f c ts hit (starts_as l.starts) i
  outcome-is g h c ts hit a l n added threads are kind i f adds =
      let o : Outcome = record { next = n; moves = a.moves.items; hit = hit } in
      let list = ap (λ ls. slice_index_or (map list_as ls) n no_list) (adds-lists h f i o adds) ∙ added-list g h l n added in
      record {
        outcome = o;
        named = adds-named h f i o adds;
        threads =
            sym (ap (λ ms. map (on_row (source_at (map source_of ms))) (map thread_as a.threads.items)) (sym (append-nil a.moves.items)) ∙ are.threads [])
            ∙ ap (λ us. map (on_row (source_at (map source_of a.moves.items))) (map thread_as us)) (sym threads)
            ∙ ap (λ (m : ThreadList). map (on_row (source_at (map source_of a.moves.items))) m.threads) (sym list);
        hit_is = refl;
        walked = ap (λ (m : ThreadList). m.starts) list;
        kind = subst (λ (m : ThreadList). AreAlikeKinds p m.kind (kind_of (k.member c))) (sym list) kind;
      }

  -- what a class has, another has that the same threads take, and that is alike as the character before
  pub outcome-alike : (g : Graph) (c d : ℕ) (ts us : List (Thread Source)) (hit got : Option Frame) (starts to : Starts) (n : ℕ) → IsOutcome p k g c ts hit starts n →
      taken p (k.member d) us ≡ taken p (k.member c) ts → got ≡ hit → to ≡ starts → AreAlikeKinds p (kind_of (k.member c)) (kind_of (k.member d)) → IsOutcome p k g d us got to n
  outcome-alike g c d ts us hit got starts to n is same hits goes alike = grind (arith, common_steps)

  -- its transition is set
  pub made-set : (g : Graph) (c : ℕ) (w : Walk) (seen : List ℕ) (row : Row) (x : Cell) → row.number < length g.lists → row.first ≡ row.number * g.classes → c < g.classes →
      AssertsAs p (list_at (table_of g) row.number).kind (kind_as row.kind) (k.member c) → IsOutcomeOf p k g w seen row c x.outcome → x.seen ≡ visits_of w seen row.base → x.looks ≡ row.looks →
      IsMade p k g → IsMade p k (with_cells g (slice_set g.cells (row.first + c) (Some x)))
  made-set g c w seen row x within begins lt asserts is seen_is looks_is made =
      subst (λ i. IsMade p k (with_cells g (slice_set g.cells (i + c) (Some x)))) (sym begins)
      (made-cell p k g row.number c x lt (cell-made g c w seen row x within asserts is seen_is looks_is) made)

  -- a list stays as it was when its number was read
  pub list-was : (f g : Graph) → Grows f g → (n : ℕ) → n < length f.lists → (l : code_lists.ThreadList) (registers : ℕ) → slice_get f.lists n ≡ Some (numbered l registers) →
      list_at (table_of g) n ≡ list_of l
  list-was f g grows n lt l registers named = list-stays f g grows n lt ∙ list-there f n (numbered l registers) named

-- where the start is walked at each place after a walk, that found nothing
pub nothing-found : {X : Type 0} (hit : Option X) (starts : Starts) → starts_after (is_some hit) starts ≡ everywhere → hit ≡ None
nothing-found hit starts e = grind (arith, common_steps)

module _ (p : Program) (g h : Graph) (grows : Grows g h) where
  -- a noted walk stays noted as the graph grows
  abbrev pub noted-stays : (x : Noted) → IsNoted p g x → IsNoted p h x
  noted-stays x is = record {
    number = is.number;
    within = grows-within g h grows is.number is.within;
    list = list-stays g h grows is.number is.within ∙ is.list;
    begins = is.begins ∙ ap (λ n. is.number * n) (sym grows.classes);
    next = is.next;
    walks = is.walks;
  }

  -- a list stays walked so
  abbrev pub row-stays : (w : Walk) (seen : List ℕ) (row : Row) → row.number < length g.lists → IsRowOf p g w seen row → IsRowOf p h w seen row
  row-stays w seen row lt is =
      let there = list-stays g h grows row.number lt in
      let last = ended (visits_of w seen row.base) (map frame_of w.takers.items ++ is.rest) (option_map frame_of w.hit) row.looks in
      record {
        rest = is.rest;
        walks = subst (λ (l : ThreadList). WalksTo (takers_by (cuts_off l.starts) l.kind (kind_as row.kind)) p (begun p l) last) (sym there) is.walks;
        starts = is.starts ∙ ap (λ (l : ThreadList). starts_after (is_some w.hit) l.starts) (sym there);
        alone = is.alone;
        joined = λ first e. let base = (is.joined first e).0 in (
          record { noted = base.noted; is = noted-stays base.noted base.is; after = base.after; first_is = base.first_is; next = base.next },
          (is.joined first e).1,
          (is.joined first e).2,
        );
      }

module _ (p : Program) (k : Classes) where
  -- an outcome stays one as the graph grows
  outcome-stays : (g h : Graph) → Grows g h → IsMade p k g → (c : ℕ) (ts : List (Thread Source)) (hit : Option Frame) (starts : Starts) (n : ℕ) → IsOutcome p k g c ts hit starts n → IsOutcome p k h c ts hit starts n
  outcome-stays g h grows made c ts hit starts n is = grind (arith, list-stays, get-left)

  pub outcome-of-stays : (g h : Graph) → Grows g h → IsMade p k g → (w : Walk) (seen : List ℕ) (row : Row) (c n : ℕ) → row.number < length g.lists → IsOutcomeOf p k g w seen row c n → IsOutcomeOf p k h w seen row c n
  outcome-of-stays g h grows made w seen row c n lt is = record {
    row_is = row-stays p g h grows w seen row lt is.row_is;
    outcome = outcome-stays g h grows made c (map frame_of w.takers.items ++ is.row_is.rest) w.hit (starts_as row.starts) n is.outcome;
  }

  -- the transitions of a noted list have the outcomes of its walk
  pub base-outcome : (g : Graph) → IsMade p k g → (kind : code.Kind) (first : ℕ) (rest : List (Thread Source)) → IsBase p g kind first rest → (c : ℕ) → c < g.classes →
      ((b : Kind) → AssertsAs p b (kind_as kind) (k.member c)) → (x : Cell) → slice_get g.cells (first + c) ≡ Some (Some x) → IsOutcome p k g c rest None everywhere x.outcome
  base-outcome g made kind first rest base c lt asserts x there =
      let own = base.noted in
      let l = start_alone (kind_as own.here.before) in
      let at : first ≡ base.is.number * g.classes = sym base.first_is ∙ base.is.begins in
      let cell = cell_there p k g made base.is.number c x lt (ap (λ i. slice_get g.cells (i + c)) (sym at) ∙ there) in
      let to : ThreadList = list_at (table_of g) cell.outcome.next in
      let t : Transition ThreadList = record { next = to; moves = map source_of cell.outcome.moves; hit = option_map frame_of cell.outcome.hit; seen = x.seen; looks = x.looks } in
      let is : IsTransition p (leads_by l.kind (k.member c)) l t = subst (λ (m : ThreadList). IsTransition p (leads_by m.kind (k.member c)) m t) base.is.list cell.transition in
      let last = ended own.visited base.is.next None own.looks in
      let walks = walks_over true p l.kind (kind_as own.here.after) (k.member c) (subst (λ a. AssertsAs p l.kind (kind_as a) (k.member c)) (sym base.after) (asserts l.kind)) (begun p l) last base.is.walks in
      let same = one_end p (threads_by true (leads_by l.kind (k.member c))) (begun p l) (over p (k.member c) last) is.last walks refl is.walks is.over in
      grind (arith, common_steps)

  -- where the noted list leads to over a class
  pub rest-taken : (g : Graph) → IsMade p k g → (w : Walk) (seen : List ℕ) (row : Row) → (is : IsRowOf p g w seen row) → (c n : ℕ) → c < g.classes →
      ((b : Kind) → AssertsAs p b (kind_as row.kind) (k.member c)) → NamesAt g row.base c n → (o : Outcome) → slice_get g.outcomes n ≡ Some o →
      (l : code_lists.ThreadList) (registers : ℕ) → slice_get g.lists o.next ≡ Some (numbered l registers) →
      map (on_row (source_at (map source_of o.moves))) (map thread_as l.threads.now) ≡ taken p (k.member c) is.rest
  rest-taken g made w seen row is c n lt asserts names o there l registers named =
      let to = base-outcome g made row.kind names.row is.rest (is.joined names.row names.first_is).0 c lt asserts names.cell names.known in
      let same : to.outcome ≡ o = cc in
      let list = list-there g o.next (numbered l registers) named in
      grind (arith, common_steps)

  -- what the noted list leads to over a class, a list leads to whose own threads don't take it
  pub outcome-shared : (g : Graph) → IsMade p k g → (w : Walk) (seen : List ℕ) (row : Row) → (is : IsRowOf p g w seen row) → (c n : ℕ) → c < g.classes →
      ((b : Kind) → AssertsAs p b (kind_as row.kind) (k.member c)) → NamesAt g row.base c n → taken p (k.member c) (map frame_of w.takers.items) ≡ [] → IsOutcomeOf p k g w seen row c n
  outcome-shared g made w seen row is c n lt asserts names none =
      let joined = is.joined names.row names.first_is in
      record {
        row_is = is;
        outcome = rw (← names.named) (outcome-alike p k g c c is.rest (map frame_of w.takers.items ++ is.rest) None w.hit everywhere (starts_as row.starts) names.cell.outcome
            (base-outcome g made row.kind names.row is.rest joined.0 c lt asserts names.cell names.known)
            (taken-append p (k.member c) (map frame_of w.takers.items) is.rest ∙ ap (λ ts. ts ++ taken p (k.member c) is.rest) none) joined.1 joined.2 (λ o q. refl));
      }

  -- what is noted leads to the same over two classes with one outcome
  pub ends-alike : (g : Graph) → IsMade p k g → (w : Walk) (seen : List ℕ) (row : Row) → (is : IsRowOf p g w seen row) → (c d : ℕ) → c < g.classes → d < g.classes →
      ((b : Kind) → AssertsAs p b (kind_as row.kind) (k.member c)) → ((b : Kind) → AssertsAs p b (kind_as row.kind) (k.member d)) →
      (row.base ≡ None) ⊎ (n : ℕ) × NamesAt g row.base c n × NamesAt g row.base d n → taken p (k.member d) is.rest ≡ taken p (k.member c) is.rest
  ends-alike g made w seen row is c d lt less asserts too =
      ⊎_elim (λ none. let rest = is.alone none in ap (taken p (k.member d)) rest ∙ sym (ap (taken p (k.member c)) rest))
      (λ (names : (n : ℕ) × NamesAt g row.base c n × NamesAt g row.base d n).
      let over = names.1 in
      let last = names.2 in
      let first = base-outcome g made row.kind over.row is.rest (is.joined over.row over.first_is).0 c lt asserts over.cell over.known in
      let second = base-outcome g made row.kind last.row is.rest (is.joined last.row last.first_is).0 d less too last.cell last.known in
      let one : Some second.outcome ≡ Some first.outcome = sym second.named ∙ ap (slice_get g.outcomes) (last.named ∙ sym over.named) ∙ first.named in
      let same : second.outcome ≡ first.outcome = cc in
      second.threads ∙ ap (λ (o : Outcome). map (on_row (source_at (map source_of o.moves))) (list_at (table_of g) o.next).threads) same ∙ sym first.threads)

module _ (p : Program) where
  -- a walk that is over
  walking-ended : (w : Walk) (seen : List ℕ) (looks : ℕ) → w.stack ≡ [] → seen ≡ w.visited → walking_of w looks ≡ ended seen (map frame_of w.takers.items ++ []) (option_map frame_of w.hit) looks
  walking-ended w seen looks over is = grind (arith, common_steps, append-nil)

  -- the row of a list that was walked alone
  row-alone : (g : Graph) (l : ThreadList) (w : Walk) (seen : List ℕ) (row : Row) → list_at (table_of g) row.number ≡ l → WalksTo (takers_by (cuts_off l.starts) l.kind (kind_as row.kind)) p (begun p l) (walking_of w row.looks) →
      w.stack ≡ [] → starts_as row.starts ≡ starts_after (is_some w.hit) l.starts → row.base ≡ None → IsRowOf p g w seen row
  row-alone g l w seen row is walks over starts none = record {
    rest = [];
    walks = grind (arith, common_steps, walking-ended);
    starts = starts ∙ ap (λ (m : ThreadList). starts_after (is_some w.hit) m.starts) (sym is);
    alone = λ e. refl;
    joined = λ first e. absurd (let no : None ≡ Some first = sym none ∙ e in cc);
  }

  -- the row of a list whose walk ends with a noted one
  row-joined : (g : Graph) (l : ThreadList) (w : Walk) (seen : List ℕ) (row : Row) (x : Noted) (n : ℕ) → IsNoted p g x → list_at (table_of g) row.number ≡ l →
      WalksTo (takers_by (cuts_off l.starts) l.kind (kind_as row.kind)) p (begun p l) (walking_of w n) → map frame_of w.stack ≡ thread_with unwritten p.start ∷ [] → w.hit ≡ None → l.starts ≡ everywhere →
      kind_as x.here.before ≡ l.kind → x.here.after ≡ row.kind → AreApart x.visited w.visited → reverse seen ≡ x.visited ++ w.visited → row.looks ≡ n + x.looks →
      starts_as row.starts ≡ l.starts → row.base ≡ Some x.first → IsRowOf p g w seen row
  row-joined g l w seen row x n is list walks stack nothing starts before kind apart seen_is looks goes base =
      let own = map frame_of w.takers.items in
      let threads = takers_by true l.kind (kind_as row.kind) in
      let root = begun p (start_alone l.kind) in
      let last = ended x.visited is.next None x.looks in
      let from : walking_of w n ≡ after p threads w.visited own n root = grind (arith, common_steps, after, append-nil) in
      let to : after p threads w.visited own n last ≡ ended (reverse seen) (own ++ is.next) (option_map frame_of w.hit) row.looks = grind (arith, common_steps, after) in
      let noted : WalksTo threads p root last = subst (λ b. WalksTo (takers_by true b (kind_as row.kind)) p (begun p (start_alone b)) last) before (subst (λ a. WalksTo (takers_by true (kind_as x.here.before) (kind_as a)) p (begun p (start_alone (kind_as x.here.before))) last) kind is.walks) in
      let all = walks_trans p threads (begun p l) (after p threads w.visited own n root) (after p threads w.visited own n last) (subst (WalksTo threads p (begun p l)) from (subst (λ b. WalksTo (takers_by b l.kind (kind_as row.kind)) p (begun p l) (walking_of w n)) (ap cuts_off starts) walks))
      (walks_after p threads w.visited own n last apart root noted) in
      record {
        rest = is.next;
        walks = grind (arith, common_steps);
        starts = goes ∙ starts ∙ ap₂ (λ (h : Option Frame) s. starts_after (is_some h) s) (sym nothing) (sym starts ∙ ap (λ (m : ThreadList). m.starts) (sym list));
        alone = λ e. absurd (let no : None ≡ Some x.first = sym e ∙ base in cc);
        joined = λ first e. (
          record { noted = x; is = is; after = kind; first_is = (let same : Some x.first ≡ Some first = sym base ∙ e in cc); next = refl },
          nothing,
          goes ∙ starts,
        );
      }

  module _ (g : Graph) (l : ThreadList) (w : Walk) (seen : List ℕ) (row : Row) (none : row.base ≡ None) (list : list_at (table_of g) row.number ≡ l) where
    -- if it was walked to its end
    pub rows-alone : (old : Walk) → WalksTo (takers_by (cuts_off l.starts) l.kind (kind_as row.kind)) p (begun p l) (walking_of old row.looks) → starts_as row.starts ≡ l.starts → (o : Option Row) →
        IfSome o (λ r. WalksTo (takers_by (cuts_off l.starts) l.kind (kind_as row.kind)) p (walking_of old row.looks) (walking_of w r.looks)) → IfSome o (λ _. w.stack ≡ []) →
        IfSome o (λ r. starts_as r.starts ≡ starts_after (is_some w.hit) (starts_as row.starts)) →
        IfSome o (λ r. r ≡ record { number = row.number; first = row.first; kind = row.kind; looks = r.looks; starts = r.starts; base = row.base }) → IfSome o (IsRowOf p g w seen)
    rows-alone old walked starts None on over goes is = is
    rows-alone old walked starts (Some r) on over goes is =
        subst (IsRowOf p g w seen) (sym is)
        (row-alone g l w seen (record { number = row.number; first = row.first; kind = row.kind; looks = r.looks; starts = r.starts; base = row.base }) list
        (walks_trans p (takers_by (cuts_off l.starts) l.kind (kind_as row.kind)) (begun p l) (walking_of old row.looks) (walking_of w r.looks) walked on) over
        (goes ∙ ap (starts_after (is_some w.hit)) starts) none)

    -- if its walk ends with a noted one
    pub rows-joined : (x : Noted) → IsNoted p g x → WalksTo (takers_by (cuts_off l.starts) l.kind (kind_as row.kind)) p (begun p l) (walking_of w row.looks) → map frame_of w.stack ≡ thread_with unwritten p.start ∷ [] →
        w.hit ≡ None → l.starts ≡ everywhere → kind_as x.here.before ≡ l.kind → x.here.after ≡ row.kind → AreApart x.visited w.visited → starts_as row.starts ≡ l.starts → (o : Option Row) →
        IfSome o (λ _. reverse seen ≡ x.visited ++ w.visited) →
        IfSome o (λ r. r ≡ record { number = row.number; first = row.first; kind = row.kind; looks = row.looks + x.looks; starts = row.starts; base = Some x.first }) → IfSome o (IsRowOf p g w seen)
    rows-joined x noted walked stack nothing starts before kind apart goes None visits is = is
    rows-joined x noted walked stack nothing starts before kind apart goes (Some r) visits is =
        subst (IsRowOf p g w seen) (sym is)
        (row-joined g l w seen (record { number = row.number; first = row.first; kind = row.kind; looks = row.looks + x.looks; starts = row.starts; base = Some x.first }) x row.looks noted list walked stack
        nothing starts before kind apart visits refl goes refl)

  -- a list without threads that was walked alone is noted
  pub row-noted : (g : Graph) (w : Walk) (seen : List ℕ) (row : Row) (kind : code.Kind) → row.number < length g.lists → row.first ≡ row.number * g.classes → IsRowOf p g w seen row → row.base ≡ None →
      starts_as row.starts ≡ everywhere → (list_at (table_of g) row.number).threads ≡ [] → (list_at (table_of g) row.number).kind ≡ kind_as kind →
      IsNoted p g (record { here = record { before = kind; after = row.kind }; first = row.first; visited = w.visited; looks = row.looks })
  row-noted g w seen row kind lt begins is none starts empty before =
      let l = list_at (table_of g) row.number in
      let walked = sym is.starts ∙ starts in
      let nothing = nothing-found w.hit l.starts walked in
      let list : l ≡ start_alone (kind_as kind) = grind arith in
      record { number = row.number; within = lt; list = list; begins = begins; next = map frame_of w.takers.items ++ is.rest; walks = grind (arith, common_steps) }

-- one more is noted, or none
pub noted-more : (p : Program) (g : Graph) (xs ys : List Noted) (x : Noted) (b : Bool) → ys ≡ cond b (xs ++ x ∷ []) xs → IsNoted p g x →
    ((i : ℕ) (y : Noted) → slice_get xs i ≡ Some y → IsNoted p g y) → (i : ℕ) (y : Noted) → slice_get ys i ≡ Some y → IsNoted p g y
noted-more p g xs ys x b e is are i y at = grind (arith, get-push)

module _ (p : Program) (k : Classes) where
  pub filled-trans : (f g h : Graph) → IsFilled p k f g → IsFilled p k g h → IsFilled p k f h
  filled-trans f g h a b = record { made = b.made; same = b.same ∙ ap (λ (e : Graph). with_cells e h.cells) a.same; len = b.len ∙ a.len }

  pub filled-grows : (g h : Graph) → IsFilled p k g h → Grows g h
  filled-grows g h is = grows-cells g g h h.cells is.same (grows-refl g)

-- what was made stays right as the graph grows
pub making-stays : (x : Context) (g h : Graph) (b : Base) → Grows g h → IsMade (program_in x) (classes_in x) h → IsMaking x g b → IsMaking x h b
making-stays x g h b grows made is = record {
  context = is.context;
  classes = grows.classes ∙ is.classes;
  made = made;
  noted = λ i y e. noted-stays (program_in x) g h grows y (is.noted i y e);
}

-- so it does where only transitions were added
pub filled-making : (x : Context) (g h : Graph) (b : Base) → IsFilled (program_in x) (classes_in x) g h → IsMaking x g b → IsMaking x h b
filled-making x g h b is making = making-stays x g h b (filled-grows (program_in x) (classes_in x) g h is) is.made making

-- a row of transitions that are not known is added
pub row-making : (x : Context) (g h : Graph) (n : ℕ) (b : Base) → h ≡ with_cells g (g.cells ++ replicate n None) → IsMaking x g b → Grows g h × IsMaking x h b
row-making x g h n b is making =
    let grows = grows-cells g g h (g.cells ++ replicate n None) is (grows-refl g) in
    (grows, making-stays x g h b grows (subst (IsMade (program_in x) (classes_in x)) (sym is) (made-row (program_in x) (classes_in x) g n making.made)) making)

-- both hold of a number, if there is one
pub none_held : (registers : ℕ) → AreHeld registers []
none_held registers t among = absurd among

module _ (p : Program) (k : Classes) where
  -- a list is added if it is new, or nothing is
  pub made-any : (g h : Graph) (l : NumberedList) → AreHeld l.registers l.threads → IsMade p k g →
      (o : Option ℕ) → IfSome o (λ n. AddsList g l n h) → IfNone o (h ≡ g) → IsMade p k h
  made-any g h l held made None added same = rw same made
  made-any g h l held made (Some n) added same = made-list p k g h l n added held made

  -- a list is added if it is new, and then an outcome that leads there
  pub made-with : (f g h : Graph) (l : NumberedList) (n : ℕ) (o : Outcome) → AddsList f l n g → o.next ≡ n → length o.moves ≡ l.registers → AreHeld l.registers l.threads → IsMade p k f →
      (i : Option ℕ) → IfSome i (λ j. AddsOutcome g o j h) → IfNone i (h ≡ g) → IsMade p k h
  made-with f g h l n o added next moves held made None is same = rw same (made-list p k f g l n added held made)
  made-with f g h l n o added next moves held made (Some j) is same =
      let before = made-list p k f g l n added held made in
      ⊎_elim (λ (old : (slice_get g.outcomes j ≡ Some o) × (h ≡ g)). rw old.1 before)
      (λ (new : (j ≡ length g.outcomes) × (h ≡ with_outcome g o)).
      rw new.1 (made-outcome p k g o (rw next (added-within f g l n added)) (moves ∙ sym (added-registers f g l n added) ∙ ap (registers_at g) (sym next)) before))
      is

-- one more class
pub each-more : (P : code.Kind → ℕ → Type 0) (kinds : List code.Kind) (c : ℕ) (kind : code.Kind) → ((d : ℕ) → d < length kinds → P (slice_index_or kinds d Edge) d) → length kinds ≡ c → P kind c →
    (d : ℕ) → d < length (kinds ++ kind ∷ []) → P (slice_index_or (kinds ++ kind ∷ []) d Edge) d
each-more P kinds c kind are len is d lt = grind (arith, common_steps, get_or_append_left, get_or_push, length-append)

-- a list without threads is a root
pub root-is : (p : Program) (g h : Graph) (l : NumberedList) (b : Kind) (n : ℕ) → AddsList g l n h → l.threads ≡ [] → AreAlikeKinds p (kind_as l.kind) b → IsRoot p h b (starts_as l.starts) n
root-is p g h l b n added none alike =
    let list = added-list g h l n added in
    grind (arith, common_steps, added-list, added-within)

-- roots that were added one after the other
pub roots-are : (p : Program) (g1 g2 g3 g4 g5 : Graph) (starts : Starts) (r : Roots) → Grows g1 g2 → Grows g2 g3 → Grows g3 g4 → Grows g4 g5 →
    IsRoot p g1 edge starts r.edge → IsRoot p g2 line_feed starts r.line_feed → IsRoot p g3 carriage_return starts r.carriage_return → IsRoot p g4 word_byte starts r.word_byte → IsRoot p g5 other starts r.other →
    AreRoots p g5 starts r
roots-are p g1 g2 g3 g4 g5 starts r to2 to3 to4 to5 a b c d e edge = root-stays p g1 g5 (grows-trans g1 g2 g5 to2 (grows-trans g2 g3 g5 to3 (grows-trans g3 g4 g5 to4 to5))) edge starts r.edge a
roots-are p g1 g2 g3 g4 g5 starts r to2 to3 to4 to5 a b c d e line_feed = root-stays p g2 g5 (grows-trans g2 g3 g5 to3 (grows-trans g3 g4 g5 to4 to5)) line_feed starts r.line_feed b
roots-are p g1 g2 g3 g4 g5 starts r to2 to3 to4 to5 a b c d e carriage_return = root-stays p g3 g5 (grows-trans g3 g4 g5 to4 to5) carriage_return starts r.carriage_return c
roots-are p g1 g2 g3 g4 g5 starts r to2 to3 to4 to5 a b c d e word_byte = root-stays p g4 g5 to5 word_byte starts r.word_byte d
roots-are p g1 g2 g3 g4 g5 starts r to2 to3 to4 to5 a b c d e other = e
