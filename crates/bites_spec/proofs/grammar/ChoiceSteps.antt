-- What the reader does at an item, by the item's first character.
use Rattle.std.proofs.lemmas.Grind.{common_steps}
use Rattle.std.proofs.Common.{◌≡◌, ℕ, suc, ◌<◌, Bool, false, List, [], ◌∷◌, ◌++◌, length, refl, sym, ap, ◌∙◌, arith, Err}
use Rattle.bites_spec.specs.Message.{Message}
use Rattle.bites_spec.specs.Range.{Range}
use Rattle.bites_spec.specs.Class.{Set}
use Rattle.bites_spec.specs.Tree.{Tree, repetition_of}
use Rattle.bites_spec.specs.Pattern.{Text, Front, skip, ReadsLazy}
use Rattle.bites_spec.specs.Grammar.{is_special, literal_of}
use Rattle.bites_spec.specs.Reader.{Stop, Bounds, Reader, answer, lazy, repeat_last, at_operator, at_item, inner}

-- the function reads each lazy mark that the relation reads
pub lazy_complete : {t rest : Text} {mark : Bool} → ReadsLazy t mark rest → lazy t ≡ (mark, rest)
lazy_complete (ReadsLazy.lazy t rest mark is marks) = ap lazy is ∙ ap (λ b. (b, rest)) (sym marks)
lazy_complete (ReadsLazy.none [] rest mark other marks same) = rw (marks, same) refl
lazy_complete (ReadsLazy.none (c ∷ t) rest mark other marks same) = rw (other, marks, same) refl

-- the last node is the one that is repeated
pub repeat_last_of : (b : Bounds) (node : Tree) (nodes before : List Tree) (last : Tree) → node ∷ nodes ≡ before ++ last ∷ [] →
    repeat_last b node nodes ≡ before ++ repetition_of b.0 b.1 b.2 last ∷ []
repeat_last_of b node [] [] last is = let e : node ≡ last = cc in ap (λ t. repetition_of b.0 b.1 b.2 t ∷ []) e
repeat_last_of b node [] (x ∷ []) last is = absurd (let e : [] ≡ last ∷ [] = cc in cc)
repeat_last_of b node [] (x ∷ y ∷ before) last is = absurd (let e : [] ≡ y ∷ before ++ last ∷ [] = cc in cc)
repeat_last_of b node (other ∷ nodes) [] last is = absurd (let e : other ∷ nodes ≡ [] = cc in cc)
repeat_last_of b node (other ∷ nodes) (x ∷ before) last is =
    let first : node ≡ x = cc in
    let others : other ∷ nodes ≡ before ++ last ∷ [] = cc in
    ap (λ t. t ∷ repeat_last b other nodes) first ∙ ap (λ l. x ∷ l) (repeat_last_of b other nodes before last others)

module _ (list_of : Set → List Range) (nest_limit : ℕ) where
  -- an operator after a node repeats the last node
  pub operator_step : (go : Reader) (depth : ℕ) (front : Front) (branches nodes before : List Tree) (last : Tree) (m : Message) (u : Text) (b : Bounds) (rest : Text) →
      nodes ≡ before ++ last ∷ [] →
      at_operator list_of nest_limit go depth front branches nodes m u (answer b rest) ≡ go depth front branches (before ++ repetition_of b.0 b.1 b.2 last ∷ []) rest
  operator_step go depth front branches [] [] last m u b rest is = absurd (cc)
  operator_step go depth front branches [] (x ∷ before) last m u b rest is = absurd (cc)
  operator_step go depth front branches (node ∷ nodes) before last m u b rest is = ap (λ l. go depth front branches l rest) (repeat_last_of b node nodes before last is)

  -- an operator after a node stops the reader where its bounds are not read
  pub operator_stop : (go : Reader) (depth : ℕ) (front : Front) (branches nodes : List Tree) (m : Message) (u : Text) (e : Stop) → 0 < length nodes →
      at_operator list_of nest_limit go depth front branches nodes m u (Err e) ≡ Err e
  operator_stop go depth front branches [] m u e some = absurd (omega arith)
  operator_stop go depth front branches (node ∷ nodes) m u e some = refl

  -- a character that is not special is a literal
  pub literal_step : (go : Reader) (n depth : ℕ) (front : Front) (branches nodes : List Tree) (c : ℕ) (u : Text) → is_special c ≡ false →
      at_item list_of nest_limit go n depth front branches nodes (c ∷ u) ≡ go depth front branches (nodes ++ literal_of front.flags c ∷ []) u
  literal_step go n depth front branches nodes c u plain = grind (arith, common_steps)

  -- the reader skips the gap and is at an item
  pub inner_step : (n depth : ℕ) (front : Front) (branches nodes : List Tree) (t : Text) →
      inner list_of nest_limit (suc n) depth front branches nodes t ≡ at_item list_of nest_limit (inner list_of nest_limit n) n depth front branches nodes (skip front.flags t)
  unfolding inner
  inner_step n depth front branches nodes t = refl
