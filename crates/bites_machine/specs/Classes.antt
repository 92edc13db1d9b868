-- The classes of a tree.
use Rattle.bites_spec.specs.Class.{AreCanonical}
use Rattle.bites_spec.specs.Tree.{Tree, Trees, empty, char, class, look, repetition, group, sequence, alternation, no_tree, tree_and}

abbrev mutual
  -- each class of the tree is a list of canonical ranges
  pub HasClasses : Tree → Type 0
  HasClasses empty = Unit {0}
  HasClasses (char c) = Unit {0}
  HasClasses (class ranges) = AreCanonical ranges
  HasClasses (look l) = Unit {0}
  HasClasses (repetition min most greedy t) = HasClasses t
  HasClasses (group k name t) = HasClasses t
  HasClasses (sequence ts) = AllHaveClasses ts
  HasClasses (alternation ts) = AllHaveClasses ts

  pub AllHaveClasses : Trees → Type 0
  AllHaveClasses no_tree = Unit {0}
  AllHaveClasses (tree_and t ts) = HasClasses t × AllHaveClasses ts
