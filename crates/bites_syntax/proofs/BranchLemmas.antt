-- Branches and nodes that are read so far.
use Rattle.std.proofs.Common.{◌≡◌, List, [], ◌∷◌, ◌++◌, refl, ap}
use Rattle.bites_spec.specs.Reader.{Bounds, repeat_last}
use Rattle.bites_spec.specs.Tree.{Tree, repetition_of}

-- repeating the last of some nodes, given apart
pub repeat_last_is : (b : Bounds) (prefix : List Tree) (last t : Tree) (ts : List Tree) → t ∷ ts ≡ prefix ++ last ∷ [] →
    repeat_last b t ts ≡ prefix ++ repetition_of b.0 b.1 b.2 last ∷ []
repeat_last_is b [] last t [] same = let e : t ≡ last = cc in rw e refl
repeat_last_is b [] last t (u ∷ ts) same = absurd (let e : u ∷ ts ≡ [] = cc in cc)
repeat_last_is b (f ∷ prefix) last t [] same = absurd (not_nil prefix last (let e : [] ≡ prefix ++ last ∷ [] = cc in e))
  where
    not_nil : (prefix : List Tree) (last : Tree) → [] ≡ prefix ++ last ∷ [] → ⊥
    not_nil [] last e = cc
    not_nil (f ∷ prefix) last e = cc
repeat_last_is b (f ∷ prefix) last t (u ∷ ts) same =
    let first : t ≡ f = cc in
    let rest : u ∷ ts ≡ prefix ++ last ∷ [] = cc in
    rw first (ap (λ x. f ∷ x) (repeat_last_is b prefix last u ts rest))
