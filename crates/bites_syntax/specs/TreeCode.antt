-- How the logic stores a tree: as the list of its nodes, the parts before the whole.
use Rattle.std.specs.Prelude.{◌≡◌, ℕ, zero, suc, Bool, true, List, [], ◌∷◌, Option, None, refl}
use Rattle.std.specs.Coded.{Coded, code_by, coded×, coded_ℕ, coded_bool, coded_list, coded_option}
use mathlib.Core.Path.{ap, ◌∙◌}
use Rattle.bites_spec.specs.Range.{Range}
use Rattle.bites_spec.specs.Look.{Look, start, end, start_lf, end_lf, start_crlf, end_crlf, word, word_negate, word_start, word_end, word_start_half, word_end_half}
use Rattle.bites_spec.specs.Tree.{Tree, Trees, empty, char, class, look, repetition, group, sequence, alternation, no_tree, tree_and}

abbrev look_number : Look → ℕ
look_number start = 0
look_number end = 1
look_number start_lf = 2
look_number end_lf = 3
look_number start_crlf = 4
look_number end_crlf = 5
look_number word = 6
look_number word_negate = 7
look_number word_start = 8
look_number word_end = 9
look_number word_start_half = 10
look_number word_end_half = 11

abbrev look_at : ℕ → Look
look_at zero = start
look_at (suc zero) = end
look_at (suc (suc zero)) = start_lf
look_at (suc (suc (suc zero))) = end_lf
look_at (suc (suc (suc (suc zero)))) = start_crlf
look_at (suc (suc (suc (suc (suc zero))))) = end_crlf
look_at (suc (suc (suc (suc (suc (suc zero)))))) = word
look_at (suc (suc (suc (suc (suc (suc (suc zero))))))) = word_negate
look_at (suc (suc (suc (suc (suc (suc (suc (suc zero)))))))) = word_start
look_at (suc (suc (suc (suc (suc (suc (suc (suc (suc zero))))))))) = word_end
look_at (suc (suc (suc (suc (suc (suc (suc (suc (suc (suc zero)))))))))) = word_start_half
look_at (suc (suc (suc (suc (suc (suc (suc (suc (suc (suc (suc n))))))))))) = word_end_half

look_at-number : (l : Look) → look_at (look_number l) ≡ l
look_at-number start = refl
look_at-number end = refl
look_at-number start_lf = refl
look_at-number end_lf = refl
look_at-number start_crlf = refl
look_at-number end_crlf = refl
look_at-number word = refl
look_at-number word_negate = refl
look_at-number word_start = refl
look_at-number word_end = refl
look_at-number word_start_half = refl
look_at-number word_end_half = refl

-- a node without its parts: a tag, and what it holds
abbrev Node : Type 0
Node = ℕ × (ℕ × (Option ℕ × (Bool × (List Range × Option (List ℕ)))))

abbrev node_code : Coded Node
node_code = coded× coded_ℕ (coded× coded_ℕ (coded× (coded_option coded_ℕ) (coded× coded_bool (coded× (coded_list (coded× coded_ℕ coded_ℕ)) (coded_option (coded_list coded_ℕ))))))

-- a node with a number and nothing else
abbrev numbered : ℕ → ℕ → Node
numbered tag n = (tag, (n, (None, (true, ([], None)))))

abbrev mutual
  nodes : Tree → List Node → List Node
  nodes empty rest = numbered 0 0 ∷ rest
  nodes (char c) rest = numbered 1 c ∷ rest
  nodes (class ranges) rest = (2, (0, (None, (true, (ranges, None))))) ∷ rest
  nodes (look l) rest = numbered 3 (look_number l) ∷ rest
  nodes (repetition min most greedy t) rest = nodes t ((4, (min, (most, (greedy, ([], None))))) ∷ rest)
  nodes (group n name t) rest = nodes t ((5, (n, (None, (true, ([], name))))) ∷ rest)
  nodes (sequence ts) rest = nodes_of ts (numbered 6 0 ∷ rest)
  nodes (alternation ts) rest = nodes_of ts (numbered 7 0 ∷ rest)

  nodes_of : Trees → List Node → List Node
  nodes_of no_tree rest = numbered 8 0 ∷ rest
  nodes_of (tree_and t ts) rest = nodes t (nodes_of ts (numbered 9 0 ∷ rest))

-- what has been read: trees, and rows of trees, the newest first
abbrev Stack : Type 0
Stack = List Tree × List Trees

abbrev push : Tree → Stack → Stack
push t (xs, ys) = (t ∷ xs, ys)

abbrev over : (Tree → Tree) → Stack → Stack
over f ([], ys) = ([], ys)
over f (x ∷ xs, ys) = (f x ∷ xs, ys)

abbrev of_row : (Trees → Tree) → Stack → Stack
of_row f (xs, []) = (xs, [])
of_row f (xs, y ∷ ys) = (f y ∷ xs, ys)

abbrev join : Stack → Stack
join ([], ys) = ([], ys)
join (x ∷ xs, []) = (x ∷ xs, [])
join (x ∷ xs, y ∷ ys) = (xs, tree_and x y ∷ ys)

abbrev step : Node → Stack → Stack
step (zero, d) s = push empty s
step (suc zero, d) s = push (char d.0) s
step (suc (suc zero), d) s = push (class d.1.1.1.0) s
step (suc (suc (suc zero)), d) s = push (look (look_at d.0)) s
step (suc (suc (suc (suc zero))), d) s = over (repetition d.0 d.1.0 d.1.1.0) s
step (suc (suc (suc (suc (suc zero)))), d) s = over (group d.0 d.1.1.1.1) s
step (suc (suc (suc (suc (suc (suc zero))))), d) s = of_row sequence s
step (suc (suc (suc (suc (suc (suc (suc zero)))))), d) s = of_row alternation s
step (suc (suc (suc (suc (suc (suc (suc (suc zero))))))), d) s = (s.0, no_tree ∷ s.1)
step (suc (suc (suc (suc (suc (suc (suc (suc (suc n)))))))), d) s = join s

abbrev read : List Node → Stack → Stack
read [] s = s
read (n ∷ ns) s = read ns (step n s)

abbrev first : Stack → Tree
first ([], ys) = empty
first (x ∷ xs, ys) = x

mutual
  read-nodes : (t : Tree) (rest : List Node) (s : Stack) → read (nodes t rest) s ≡ read rest (push t s)
  read-nodes empty rest s = refl
  read-nodes (char c) rest s = refl
  read-nodes (class ranges) rest s = refl
  read-nodes (look l) rest s = ap (λ k. read rest (push (look k) s)) (look_at-number l)
  read-nodes (repetition min most greedy t) rest s = read-nodes t _ s
  read-nodes (group n name t) rest s = read-nodes t _ s
  read-nodes (sequence ts) rest s = read-nodes_of ts _ s
  read-nodes (alternation ts) rest s = read-nodes_of ts _ s

  read-nodes_of : (ts : Trees) (rest : List Node) (s : Stack) → read (nodes_of ts rest) s ≡ read rest (s.0, ts ∷ s.1)
  read-nodes_of no_tree rest s = refl
  read-nodes_of (tree_and t ts) rest s = read-nodes t _ s ∙ read-nodes_of ts _ (push t s)

pub first-nodes : (t : Tree) → first (read (nodes t []) ([], [])) ≡ t
first-nodes t = ap first (read-nodes t [] ([], []))

-- the code of trees
abbrev pub tree_code : Coded Tree
tree_code = code_by (List Node) (coded_list node_code) (λ t. nodes t []) (λ ns. first (read ns ([], []))) first-nodes
