-- The edges of a state, apart into those that take a character and those that take nothing, and walks along edges.
use Rattle.bites_machine.proofs.Library.{common_steps, ◌≡◌, ℕ, ◌+◌, ◌<◌, Bool, true, false, cond, List, [], ◌∷◌, map, reverse, refl, sym, ap, inl, ⊎_elim, ◌⊎◌, arith, piece, Among, State, Configuration, at, edges, next_character, targets_over, targets_at, Among-append, Among-map, ◌≤◌, ◌++◌, length, length-map, Walk, Program, targets_of, Runs, leads, last_of}

pub Among-reverse : (xs : List ℕ) (x : ℕ) → Among (reverse xs) x → Among xs x
Among-reverse [] x h = h
Among-reverse (y ∷ xs) x h = grind (arith, common_steps, Among-append, (Among-reverse xs x))

pub Among-place : (qs : List ℕ) (i : ℕ) (t : Configuration) → Among (map (λ q. at q i) qs) t → Among qs t.state × (t.place ≡ i)
Among-place qs i t h = let m = Among-map (λ (q : ℕ). at q i) qs t h in rw (← m.2) (m.1, refl)

-- a configuration that is reached over the piece, or at the present place
abbrev pub IsOver : List ℕ → ℕ → List ℕ → Configuration → Type 0
IsOver hay i qs t = Among qs t.state × (0 < (piece hay i).len) × (t.place ≡ i + (piece hay i).len)

abbrev pub IsBeside : ℕ → List ℕ → Configuration → Type 0
IsBeside i qs t = Among qs t.state × (t.place ≡ i)

-- an edge that is there if the test passed
there : (c : Bool) (q j : ℕ) (t : Configuration) → Among (cond c (at q j ∷ []) []) t → Among (cond c (q ∷ []) []) t.state × (t.place ≡ j)
there true q j t h = ⊎_elim (λ (e : at q j ≡ t). (inl (ap (λ s. s.state) e), sym (ap (λ s. s.place) e))) (λ (no : ⊥). absurd no) h
there false q j t h = absurd h

module _ (hay : List ℕ) (i : ℕ) where
  -- each edge stays at the place, or takes the character
  pub edges_apart : (s : State) (t : Configuration) → Among (edges hay s i) t →
      IsBeside i (targets_at hay i s) t ⊎ IsOver hay i (targets_over (next_character hay i) s) t
  edges_apart g t h = grind (arith, common_steps, Among-place, Among-reverse, there)

pub edges_within : (hay : List ℕ) (s : State) (i : ℕ) → length (edges hay s i) ≤ length (targets_of s)
edges_within hay h i = grind (arith, common_steps, length-map)

module _ {A : Type 0} (next : A → List A) (Ends : A → Type 0) where
  -- a walk comes to one of its ends
  pub walk_ends : (s : A) (r : List A) → Walk next Ends s r → Ends (last_of s r)
  walk_ends s [] walk = walk
  walk_ends s (t ∷ r) walk = walk_ends t r walk.1

  -- what each edge keeps, a walk keeps
  pub walk_along : (P : A → Type 0) → ((s t : A) → P s → Among (next s) t → P t) → (s : A) (r : List A) → P s → Walk next Ends s r → P (last_of s r)
  walk_along P keeps s [] now walk = now
  walk_along P keeps s (t ∷ r) now walk = walk_along P keeps t r (keeps s t now walk.0) walk.1

  -- a walk with other ends
  pub walk_as : (Others : A → Type 0) → ((u : A) → Ends u → Others u) → (s : A) (r : List A) → Walk next Ends s r → Walk next Others s r
  walk_as Others same s [] walk = same s walk
  walk_as Others same s (t ∷ r) walk = (walk.0, walk_as Others same t r walk.1)

module _ (p : Program) (hay : List ℕ) where
  -- one edge more
  pub walk_on : (s : Configuration) (r : List Configuration) (u v : Configuration) → Walk (leads p hay) (λ x. x ≡ u) s r → Among (leads p hay u) v →
      Walk (leads p hay) (λ x. x ≡ v) s (r ++ v ∷ [])
  walk_on s [] u v walk edge = (rw walk edge, refl)
  walk_on s (q ∷ r) u v walk edge = (walk.0, walk_on q r u v walk.1 edge)

  -- edges lead on
  pub edge_forward : (s t : Configuration) → Among (leads p hay s) t → s.place ≤ t.place
  edge_forward s t h = grind (arith, edges_apart)

  -- so a walk never goes back
  pub walk_forward : (Ends : Configuration → Type 0) (s : Configuration) (r : List Configuration) → Walk (leads p hay) Ends s r → s.place ≤ (last_of s r).place
  walk_forward Ends s [] walk = omega arith
  walk_forward Ends s (t ∷ r) walk = omega (arith, edge_forward s t walk.0, walk_forward Ends t r walk.1)

  pub Runs-forward : (s : Configuration) (r : List Configuration) (j : ℕ) → Runs p hay s r j → s.place ≤ j
  Runs-forward s r j runs = omega (arith, walk_forward _ s r runs, (walk_ends _ _ s r runs).1)
