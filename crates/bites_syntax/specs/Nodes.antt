-- Nodes of a tree while a pattern is read.
use Rattle.std.specs.Prelude.{◌≡◌, ℕ, ◌+◌, ◌<◌, ◌≤◌, List, [], ◌∷◌, Option, Some, None, option_map, encode_utf8_all}
use Rattle.bites_spec.specs.Group.{Opening, numbered, unnumbered}
use Rattle.bites_spec.specs.Measure.{height, IsTooTall}
use Rattle.bites_spec.specs.Pattern.{Text}
use Rattle.bites_spec.specs.Tree.{Tree, sequence, trees_of}
use Rattle.bites_syntax.specs.declared.node.Node.{Node}
use Rattle.bites_syntax.specs.declared.node.Node.TheVariants.{Kept, TooTall}
use Rattle.bites_syntax.specs.declared.node.Numbered.{Numbered}
use Rattle.bites_syntax.specs.declared.node.Parts.{Parts}
use Rattle.bites_syntax.specs.declared.node.Parts.TheVariants as parts
use Rattle.bites_syntax.specs.declared.node.Parts.TheVariants.{One, Several}

-- the node is the tree with its height, or the tree is too tall
abbrev pub IsNodeOf : ℕ → Node → Tree → Type 0
IsNodeOf limit (Kept tree n) t = (tree ≡ t) × (n ≡ height t) × (height t ≤ limit) × (height t < 4294967295)
IsNodeOf limit TooTall t = IsTooTall limit t

-- each node stands for the tree at its place
abbrev pub AreNodes : ℕ → List Node → List Tree → Type 0
AreNodes limit [] [] = Unit {0}
AreNodes limit [] (t ∷ ts) = ⊥
AreNodes limit (n ∷ nodes) [] = ⊥
AreNodes limit (n ∷ nodes) (t ∷ ts) = IsNodeOf limit n t × AreNodes limit nodes ts

-- what the program knows of a group is what its opening says, where `before` groups with a number were opened before it
abbrev pub IsNumbered : Option Numbered → Opening → ℕ → Type 0
IsNumbered None opening before = opening ≡ unnumbered
IsNumbered (Some x) opening before = (text : Option Text) × (opening ≡ numbered text) × (x.index ≡ before + 1) × (x.name ≡ option_map encode_utf8_all text)

-- the parts of a sequence or an alternation of these trees
abbrev pub ArePartsOf : ℕ → Parts → List Tree → Type 0
ArePartsOf limit parts.None ts = ts ≡ []
ArePartsOf limit (One node) ts = (t : Tree) × (ts ≡ t ∷ []) × IsNodeOf limit node t
ArePartsOf limit (Several trees n) ts =
    (t : Tree) × (u : Tree) × (more : List Tree) × (ts ≡ t ∷ u ∷ more) × (trees.items ≡ ts) × (n ≡ height (sequence (trees_of ts))) × (n ≤ limit) × (n < 4294967295)
ArePartsOf limit parts.TooTall ts = (t : Tree) × (u : Tree) × (more : List Tree) × (ts ≡ t ∷ u ∷ more) × IsTooTall limit (sequence (trees_of ts))
