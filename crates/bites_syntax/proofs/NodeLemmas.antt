-- Nodes and the trees that they stand for.
use Rattle.std.proofs.Common.{◌≡◌, ◌≤◌, ℕ, suc, max, List, [], ◌∷◌, ◌++◌, length, refl, ap, subst, ◌∙◌, arith, inl, inr}
use Rattle.bites_spec.specs.Measure.{height, IsTooTall}
use Rattle.bites_spec.specs.Tree.{Tree, sequence, alternation_of, trees_of}
use Rattle.bites_syntax.specs.declared.node.Node.{Node}
use Rattle.bites_syntax.specs.declared.node.Node.TheVariants.{Kept, TooTall}
use Rattle.bites_syntax.specs.Nodes.{IsNodeOf, AreNodes}

-- the trees of nodes, the last apart
pub record Last (limit : ℕ) (nodes : List Node) (node : Node) (ts : List Tree) : Type 0 where
  pub prefix : List Tree
  pub last : Tree
  pub are : ts ≡ prefix ++ last ∷ []
  pub nodes_are : AreNodes limit nodes prefix
  pub node_is : IsNodeOf limit node last

pub last_of : (limit : ℕ) (nodes : List Node) (node : Node) (ts : List Tree) → AreNodes limit (nodes ++ node ∷ []) ts → Last limit nodes node ts
last_of limit [] node [] are = absurd are
last_of limit [] node (t ∷ []) are = record { prefix = []; last = t; are = refl; nodes_are = tt; node_is = are.0 }
last_of limit [] node (t ∷ u ∷ ts) are = absurd are.1
last_of limit (n ∷ nodes) node [] are = absurd are
last_of limit (n ∷ nodes) node (t ∷ ts) are =
    let rest = last_of limit nodes node ts are.1 in
    record { prefix = t ∷ rest.prefix; last = rest.last; are = ap (λ x. t ∷ x) rest.are; nodes_are = (are.0, rest.nodes_are); node_is = rest.node_is }

-- one node more
pub nodes_push : (limit : ℕ) (nodes : List Node) (node : Node) (ts : List Tree) (t : Tree) → AreNodes limit nodes ts → IsNodeOf limit node t →
    AreNodes limit (nodes ++ node ∷ []) (ts ++ t ∷ [])
nodes_push limit [] node [] t are is = (is, tt)
nodes_push limit [] node (u ∷ ts) t are is = absurd are
nodes_push limit (n ∷ nodes) node [] t are is = absurd are
nodes_push limit (n ∷ nodes) node (u ∷ ts) t are is = (are.0, nodes_push limit nodes node ts t are.1 is)

-- the height above one tree more
pub height_push : (ts : List Tree) (t : Tree) → height (sequence (trees_of (ts ++ t ∷ []))) ≡ max (height (sequence (trees_of ts))) (suc (height t))
height_push [] t = omega arith
height_push (u ∷ ts) t = omega (arith, height_push ts t)

-- a sequence is no less tall than its parts
pub height_part : (prefix rest : List Tree) (t : Tree) → suc (height t) ≤ height (sequence (trees_of (prefix ++ t ∷ rest)))
height_part [] rest t = omega arith
height_part (u ∷ prefix) rest t = omega (arith, height_part prefix rest t)

-- nodes of two lists, one after the other
pub record Both (limit : ℕ) (nodes others : List Node) (ts : List Tree) : Type 0 where
  pub prefix : List Tree
  pub rest : List Tree
  pub are : ts ≡ prefix ++ rest
  pub nodes_are : AreNodes limit nodes prefix
  pub others_are : AreNodes limit others rest

pub both_of : (limit : ℕ) (nodes others : List Node) (ts : List Tree) → AreNodes limit (nodes ++ others) ts → Both limit nodes others ts
both_of limit [] others ts are = record { prefix = []; rest = ts; are = refl; nodes_are = tt; others_are = are }
both_of limit (n ∷ nodes) others [] are = absurd are
both_of limit (n ∷ nodes) others (t ∷ ts) are =
    let rest = both_of limit nodes others ts are.1 in
    record { prefix = t ∷ rest.prefix; rest = rest.rest; are = ap (λ x. t ∷ x) rest.are; nodes_are = (are.0, rest.nodes_are); others_are = rest.others_are }

-- a node that is too tall makes the whole too tall
pub too_tall_whole : (limit : ℕ) (nodes others : List Node) (ts : List Tree) → AreNodes limit (nodes ++ TooTall ∷ others) ts → IsTooTall limit (sequence (trees_of ts))
too_tall_whole limit nodes others ts are = by_rest (both_of limit nodes (TooTall ∷ others) ts are)
  where
    taller : (limit : ℕ) (t whole : Tree) → suc (height t) ≤ height whole → IsTooTall limit t → IsTooTall limit whole
    taller limit t whole above (inl h) = inl (omega arith)
    taller limit t whole above (inr h) = inr (omega arith)

    by_last : (prefix rest : List Tree) → ts ≡ prefix ++ rest → AreNodes limit (TooTall ∷ others) rest → IsTooTall limit (sequence (trees_of ts))
    by_last prefix [] same are = absurd are
    by_last prefix (t ∷ rest) same are = rw same (taller limit t (sequence (trees_of (prefix ++ t ∷ rest))) (height_part prefix rest t) are.0)

    by_rest : Both limit nodes (TooTall ∷ others) ts → IsTooTall limit (sequence (trees_of ts))
    by_rest both = by_last both.prefix both.rest both.are both.others_are

-- the trees so far, with one node more
pub kept_more : (limit : ℕ) (nodes : List Node) (node : Node) (tree : Tree) (h tallest : ℕ) (trees : List Tree) → node ≡ Kept tree h →
    ((ts : List Tree) → AreNodes limit nodes ts → (trees ≡ ts) × (suc tallest ≡ height (sequence (trees_of ts)))) →
    (ts : List Tree) → AreNodes limit (nodes ++ node ∷ []) ts → (trees ++ tree ∷ [] ≡ ts) × (suc (max h tallest) ≡ height (sequence (trees_of ts)))
kept_more limit nodes node tree h tallest trees is so_far ts are =
    let r = last_of limit nodes node ts are in
    let before = so_far r.prefix r.nodes_are in
    let last : IsNodeOf limit (Kept tree h) r.last = subst (λ x. IsNodeOf limit x r.last) is r.node_is in
    rw r.are (
      ap (λ x. x ++ tree ∷ []) before.0 ∙ ap (λ x. r.prefix ++ x ∷ []) last.0,
      rw (height_push r.prefix r.last, ← before.1, last.1) (omega arith),
    )

-- two nodes or more stand for as many trees
pub record Two (ts : List Tree) : Type 0 where
  pub first : Tree
  pub second : Tree
  pub more : List Tree
  pub are : ts ≡ first ∷ second ∷ more

pub two_of : (limit : ℕ) (nodes : List Node) (ts : List Tree) → 2 ≤ length nodes → AreNodes limit nodes ts → Two ts
two_of limit [] ts some are = absurd (omega arith)
two_of limit (n ∷ []) ts some are = absurd (omega arith)
two_of limit (n ∷ m ∷ nodes) [] some are = absurd are
two_of limit (n ∷ m ∷ nodes) (t ∷ []) some are = absurd are.1
two_of limit (n ∷ m ∷ nodes) (t ∷ u ∷ ts) some are = record { first = t; second = u; more = ts; are = refl }

-- a node where there are no others is the choice
pub node_alone : (limit : ℕ) (nodes : List Node) (node : Node) (ts : List Tree) (t : Tree) → length nodes ≡ 0 → AreNodes limit nodes ts → IsNodeOf limit node t →
    IsNodeOf limit node (alternation_of (ts ++ t ∷ []))
node_alone limit [] node [] t none are is = is
node_alone limit [] node (u ∷ ts) t none are is = absurd are
node_alone limit (n ∷ nodes) node ts t none are is = absurd (omega (arith, none))
