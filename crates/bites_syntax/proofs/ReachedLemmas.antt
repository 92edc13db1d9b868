-- How far a choice is read.
use Rattle.std.proofs.Common.{◌≡◌, ◌<◌, ◌≤◌, ℕ, zero, suc, List, [], ◌∷◌, ◌++◌, length, drop, refl, sym, ap, subst, ◌∙◌, Some, Result, Ok, Err, inl, inr, ⊎_elim, arith}
use Rattle.bites_spec.specs.Grammar.{at_front, group_of}
use Rattle.bites_spec.specs.Pattern as pattern
use Rattle.bites_spec.specs.RangesOf.{ranges_of}
use Rattle.bites_spec.specs.Reader.{ReadChoice, Stop, and_found, at_item, behind_group, inner, read}
use Rattle.bites_spec.specs.Tree.{Tree, alternation_of, sequence_of}
use Rattle.bites_syntax.specs.declared.refusal.Refusal.{Refusal}
use Rattle.bites_syntax.specs.declared.node.Node.{Node}
use Rattle.bites_syntax.specs.declared.parse.OpenGroup.{OpenGroup}
use Rattle.bites_syntax.specs.declared.parse.Parser.{Parser}
use Rattle.bites_syntax.specs.declared.parse.Branches.{Branches}
use Rattle.bites_syntax.specs.Nodes.{AreNodes, IsNodeOf}
use Rattle.bites_syntax.specs.Openings.{IsStateOf}
use Rattle.bites_syntax.specs.Parts.{fault_in, IsFaultOf}
use Rattle.bites_syntax.specs.Progress.{IsAt, GoesOn, GoesOnWithItem, Enters, EndsReading, ReadsAs}

-- what the reader is asked at the start, it is asked where the parser is
pub record Reached (limit depth n : ℕ) (start : pattern.Front) (text : pattern.Text) (p : Parser) (parsed : Branches) : Type 0 where
  pub g : pattern.Front
  pub branches : List Tree
  pub nodes : List Tree
  pub steps : ℕ
  pub is_at : IsAt limit p parsed g branches nodes
  pub room : length p.cursor ≤ steps
  pub same : inner ranges_of limit (suc n) depth start [] [] text ≡ inner ranges_of limit (suc steps) depth g branches nodes p.cursor

-- `Reached` for each front that the parser's state stands for, and each number of steps that is enough
abbrev pub Reaches : ℕ → Parser → Parser → Branches → Type 0
Reaches depth from p parsed = (limit : ℕ) → from.limit ≡ limit → (start : pattern.Front) → IsStateOf from.state start → (n : ℕ) → length from.cursor ≤ n → Reached limit depth n start from.cursor p parsed

-- what the reader is asked at the start, it is asked after a run of items and a gap
abbrev pub ReachesItem : ℕ → ℕ → ℕ → pattern.Front → pattern.Text → Parser → Branches → Type 0
ReachesItem limit depth n start text p parsed = GoesOnWithItem limit depth p parsed (inner ranges_of limit (suc n) depth start [] [] text)

-- before the first step
pub reached_start : (depth : ℕ) (p : Parser) (parsed : Branches) → parsed.complete.items ≡ [] → parsed.nodes.items ≡ [] → Reaches depth p p parsed
reached_start depth p parsed no_branches no_nodes = λ limit bound start is n room.
    record { g = start; branches = []; nodes = []; steps = n; is_at = record { limit_is = bound; state = is; branches_are = rw no_branches tt; nodes_are = rw no_nodes tt }; room = room; same = refl }

module _ (limit depth n : ℕ) (start : pattern.Front) (text : pattern.Text) (p : Parser) (parsed : Branches) where
  -- after a run of items
  pub reached_items : (q : Parser) (after : Branches) (r : Reached limit depth n start text p parsed) →
      GoesOnWithItem limit depth q after (inner ranges_of limit (suc r.steps) depth r.g r.branches r.nodes p.cursor) → ReachesItem limit depth n start text q after
  reached_items q after r on =
      record { g = on.g; branches = on.branches; nodes = on.nodes; steps = on.steps; is_at = on.is_at; room = on.room; same = r.same ∙ on.same }

  -- a fault in a run of items
  pub reached_fault : (e : Refusal) (r : Reached limit depth n start text p parsed) → IsFaultOf e (inner ranges_of limit (suc r.steps) depth r.g r.branches r.nodes p.cursor) →
      IsFaultOf e (inner ranges_of limit (suc n) depth start [] [] text)
  reached_fault e r fault = ⊎_elim (λ m. inl m) (λ f. inr (ap fault_in r.same ∙ f)) fault

  -- after a step
  pub reached_item : (q : Parser) (after : Branches) (r : ReachesItem limit depth n start text p parsed) →
      GoesOn limit depth r.steps q after (at_item ranges_of limit (inner ranges_of limit r.steps) r.steps depth r.g r.branches r.nodes p.cursor) → length q.cursor < length p.cursor →
      Reached limit depth n start text q after
  reached_item q after r on less = by_steps r.steps refl
    where
      by_steps : (m : ℕ) → r.steps ≡ m → Reached limit depth n start text q after
      by_steps zero is = absurd (omega (arith, r.room, is))
      by_steps (suc m) is = record {
        g = on.g;
        branches = on.branches;
        nodes = on.nodes;
        steps = m;
        is_at = on.is_at;
        room = omega (arith, r.room, is);
        same = r.same ∙ on.same ∙ ap (λ k. inner ranges_of limit k depth on.g on.branches on.nodes q.cursor) is;
      }

  -- at the end of the choice
  pub reached_end : (q : Parser) (after : Branches) (node : Node) (r : ReachesItem limit depth n start text p parsed) →
      EndsReading limit q after r.g (at_item ranges_of limit (inner ranges_of limit r.steps) r.steps depth r.g r.branches r.nodes p.cursor) →
      ((bs ts : List Tree) → AreNodes q.limit after.complete.items bs → AreNodes q.limit after.nodes.items ts → IsNodeOf q.limit node (alternation_of (bs ++ sequence_of ts ∷ []))) →
      ReadsAs limit q node (inner ranges_of limit (suc n) depth start [] [] text)
  reached_end q after node r ends stands = record {
    found = record { branches = ends.branches ++ sequence_of ends.nodes ∷ []; behind = r.g; rest = q.cursor };
    same = r.same ∙ ends.same;
    rest = refl;
    limit_is = ends.limit_is;
    state = ends.state;
    node_is =
        subst (λ l. (bs ts : List Tree) → AreNodes l after.complete.items bs → AreNodes l after.nodes.items ts → IsNodeOf l node (alternation_of (bs ++ sequence_of ts ∷ []))) ends.limit_is stands
        ends.branches ends.nodes ends.branches_are ends.nodes_are;
  }

  -- a fault of a step
  pub step_fault : (e : Refusal) (r : ReachesItem limit depth n start text p parsed) →
      IsFaultOf e (at_item ranges_of limit (inner ranges_of limit r.steps) r.steps depth r.g r.branches r.nodes p.cursor) →
      IsFaultOf e (inner ranges_of limit (suc n) depth start [] [] text)
  step_fault e r fault = ⊎_elim (λ m. inl m) (λ f. inr (ap fault_in r.same ∙ f)) fault

fault_inside : (a : Result ReadChoice Stop) (f : ReadChoice → Result ReadChoice Stop) (e : Refusal) → fault_in a ≡ Some e → fault_in (and_found a f) ≡ Some e
fault_inside (Ok x) f e fault = absurd (let wrong : fault_in (Ok x) ≡ Some e = fault in cc)
fault_inside (Err s) f e fault = fault

-- what is read inside a group, by one step less
inside_by : (limit depth m : ℕ) (q : Parser) (opens : OpenGroup) (g : pattern.Front) (bs ts : List Tree) (a : Result ReadChoice Stop) (enters : Enters limit depth m q opens g bs ts a) →
    (P : Result ReadChoice Stop → Type 0) → length q.cursor < m → ((k : ℕ) → length q.cursor ≤ k → P (inner ranges_of limit (suc k) (suc depth) enters.inside [] [] q.cursor)) →
    P (inner ranges_of limit m (suc depth) enters.inside [] [] q.cursor)
inside_by limit depth zero q opens g bs ts a enters P less reads = absurd (omega arith)
inside_by limit depth (suc k) q opens g bs ts a enters P less reads = reads k (omega arith)

module _ (limit depth n : ℕ) (start : pattern.Front) (text : pattern.Text) (p : Parser) (parsed : Branches) (q : Parser) (opens : OpenGroup)
    (r : ReachesItem limit depth n start text p parsed)
    (enters : Enters limit depth r.steps q opens r.g r.branches r.nodes (at_item ranges_of limit (inner ranges_of limit r.steps) r.steps depth r.g r.branches r.nodes p.cursor))
    (less : length q.cursor < length p.cursor) where
  -- a fault in a group
  pub fault_in_group : (e : Refusal) → ((k : ℕ) → length q.cursor ≤ k → IsFaultOf e (inner ranges_of limit (suc k) (suc depth) enters.inside [] [] q.cursor)) →
      IsFaultOf e (inner ranges_of limit (suc n) depth start [] [] text)
  fault_in_group e reads =
      let here = inside_by limit depth r.steps q opens r.g r.branches r.nodes _ enters (λ a. IsFaultOf e a) (omega (arith, r.room)) reads in
      ⊎_elim (λ m. inl m)
      (λ f. inr (ap fault_in (r.same ∙ enters.same)
      ∙ fault_inside _ (behind_group ranges_of limit (inner ranges_of limit r.steps) depth r.g r.branches r.nodes enters.opening) e f)) here

  -- after a group
  pub reached_group : (inside behind : Parser) (nodes : List Node) (after : Branches) (node : Node) →
      ((k : ℕ) → length q.cursor ≤ k → ReadsAs limit inside node (inner ranges_of limit (suc k) (suc depth) enters.inside [] [] q.cursor)) →
      length inside.cursor ≤ length q.cursor → behind.cursor ≡ drop 1 inside.cursor → length behind.cursor ≤ length inside.cursor →
      behind.limit ≡ inside.limit → behind.state ≡ record (inside.state) { flags = opens.flags } →
      AreNodes limit after.complete.items r.branches → AreNodes limit nodes r.nodes →
      ((branches : List Tree) → IsNodeOf inside.limit node (alternation_of branches) → AreNodes inside.limit nodes r.nodes →
      AreNodes inside.limit after.nodes.items (r.nodes ++ group_of enters.opening r.g.groups branches ∷ [])) →
      Reached limit depth n start text behind after
  reached_group inside behind nodes after node reads forward bumped shorter bound state branches_are before_are nodes_are = by_steps r.steps refl
    where
      here : ReadsAs limit inside node (inner ranges_of limit r.steps (suc depth) enters.inside [] [] q.cursor)
      here = inside_by limit depth r.steps q opens r.g r.branches r.nodes _ enters (λ a. ReadsAs limit inside node a) (omega (arith, r.room)) reads

      nodes_by : (branches : List Tree) → IsNodeOf limit node (alternation_of branches) → AreNodes limit nodes r.nodes → AreNodes limit after.nodes.items (r.nodes ++ group_of enters.opening r.g.groups branches ∷ [])
      nodes_by =
          subst (λ l. (branches : List Tree) → IsNodeOf l node (alternation_of branches) → AreNodes l nodes r.nodes → AreNodes l after.nodes.items (r.nodes ++ group_of enters.opening r.g.groups branches ∷ []))
          here.limit_is nodes_are

      state_is : IsStateOf behind.state (record (here.found.behind) { flags = r.g.flags })
      state_is = rw state (record { flags = enters.outer; groups = here.state.groups; names = here.state.names; opened = here.state.opened })

      goes : and_found (inner ranges_of limit r.steps (suc depth) enters.inside [] [] q.cursor) (behind_group ranges_of limit (inner ranges_of limit r.steps) depth r.g r.branches r.nodes enters.opening)
          ≡ inner ranges_of limit r.steps depth (record (here.found.behind) { flags = r.g.flags }) r.branches (r.nodes ++ group_of enters.opening r.g.groups here.found.branches ∷ []) behind.cursor
      goes = ap (λ a. and_found a (behind_group ranges_of limit (inner ranges_of limit r.steps) depth r.g r.branches r.nodes enters.opening)) here.same
          ∙ ap (λ t. inner ranges_of limit r.steps depth (record (here.found.behind) { flags = r.g.flags }) r.branches (r.nodes ++ group_of enters.opening r.g.groups here.found.branches ∷ []) t)
          (ap (drop 1) here.rest ∙ sym bumped)

      by_steps : (m : ℕ) → r.steps ≡ m → Reached limit depth n start text behind after
      by_steps zero is = absurd (omega (arith, r.room, is))
      by_steps (suc m) is = record {
        g = record (here.found.behind) { flags = r.g.flags };
        branches = r.branches;
        nodes = r.nodes ++ group_of enters.opening r.g.groups here.found.branches ∷ [];
        steps = m;
        is_at = record { limit_is = bound ∙ here.limit_is; state = state_is; branches_are = branches_are; nodes_are = nodes_by here.found.branches here.node_is before_are };
        room = omega (arith, r.room, is);
        same = r.same ∙ enters.same ∙ goes
            ∙ ap (λ k. inner ranges_of limit k depth (record (here.found.behind) { flags = r.g.flags }) r.branches (r.nodes ++ group_of enters.opening r.g.groups here.found.branches ∷ []) behind.cursor) is;
      }

-- the whole pattern
pub read_is : (limit : ℕ) (text : pattern.Text) (flags : pattern.Flags) (found : ReadChoice) → inner ranges_of limit (suc (length text)) 0 (at_front flags) [] [] text ≡ Ok found →
    read ranges_of limit text flags ≡ Ok (alternation_of found.branches)
read_is limit text flags found same = rw (same, read) refl
