-- Parts of vectors stay as the vectors grow.
use Rattle.bites_table.proofs.Library.{elements, slice_get-map, common_steps, IfNone, replicate, slice_get, slice_index_or, slice_range, ◌≡◌, ℕ, zero, suc, ◌<◌, ◌≤◌, List, [], ◌∷◌, ◌++◌, map, length, Option, Some, None, option_map, refl, ap, ap₂, ◌∙◌, arith, length-append, length-drop, drop-append_seam, drop-append-le, take-append-le, take_all, map-append, Bool, true, false, and_parts}
use Rattle.std.specs.Cmp.Lexicographic.{pointwise}
use Rattle.bites_table.proofs.Words.{list_in, outcome_in, cell_of, IsPart, AreParts, StoredList, StoredOutcome}
use Rattle.bites_table.specs.declared.thread_list.Thread.{Thread}
use Rattle.bites_table.specs.declared.thread_list.Source.{Source}
use Rattle.bites_table.specs.declared.explore.graph.Cell.{Cell}
use Rattle.bites_table.specs.declared.explore.graph.Part.{Part}

-- what holds anyway holds where there is nothing
pub if_none : {X : Type 0} {P : Type 0} → (o : Option X) → P → IfNone o P
if_none o is = grind (arith, common_steps)

pub range-stays : {X : Type 0} (xs more : List X) (a b : ℕ) → a ≤ b → b ≤ length xs → slice_range (xs ++ more) a b ≡ slice_range xs a b
range-stays xs more a b le within = grind (arith, common_steps, drop-append-le, take-append-le, length-drop)

-- what is appended is a part
pub range-made : {X : Type 0} (xs more new : List X) (from to : ℕ) → new ≡ xs ++ more → from ≡ length xs → to ≡ length new → slice_range new from to ≡ more
range-made xs more new from to e is ends = grind (arith, common_steps, drop-append_seam, take_all, length-append)

-- lists whose items are found equal are one
pub same-items : {X : Type 0} (E : X → X → Bool) → ((x y : X) → E x y ≡ true → x ≡ y) → (xs ys : List X) → pointwise E xs ys ≡ true → xs ≡ ys
same-items E same [] [] e = refl
same-items E same [] (y ∷ ys) e = absurd (let no : false ≡ true = e in cc)
same-items E same (x ∷ xs) [] e = absurd (let no : false ≡ true = e in cc)
same-items E same (x ∷ xs) (y ∷ ys) e = let both = and_parts (E x y) (pointwise E xs ys) e in ap₂ ◌∷◌ (same x y both.0) (same-items E same xs ys both.1)

-- a stored list, and a stored outcome
pub list-at : (threads : List Thread) (ls : List StoredList) (n : ℕ) (l : StoredList) → n < length ls → l ≡ slice_index_or ls n l → slice_get (map (list_in threads) ls) n ≡ Some (list_in threads l)
list-at threads ls n l lt e = grind (arith, slice_get-map, elements)

pub outcome-at : (moves : List Source) (os : List StoredOutcome) (n : ℕ) (o : StoredOutcome) → n < length os → o ≡ slice_index_or os n o → slice_get (map (outcome_in moves) os) n ≡ Some (outcome_in moves o)
outcome-at moves os n o lt e = grind (arith, slice_get-map, elements)

pub list-stays : (threads more : List Thread) (l : StoredList) → IsPart (length threads) l.threads → list_in (threads ++ more) l ≡ list_in threads l
list-stays threads more l is = grind (arith, common_steps, range-stays)

pub outcome-stays : (moves more : List Source) (o : StoredOutcome) → IsPart (length moves) o.moves → outcome_in (moves ++ more) o ≡ outcome_in moves o
outcome-stays moves more o is = grind (arith, common_steps, range-stays)

-- parts of one vector
module _ {X : Type 0} (part : X → Part) where
  pub part-at : (len : ℕ) (xs : List X) (n : ℕ) (x : X) → AreParts part len xs → n < length xs → x ≡ slice_index_or xs n x → IsPart len (part x)
  part-at len [] n x are lt e = absurd (omega arith)
  part-at len (y ∷ xs) zero x are lt e = rw e are.0
  part-at len (y ∷ xs) (suc n) x are lt e = part-at len xs n x are.1 (omega arith) e

  parts-are : (len more : ℕ) (xs : List X) → len ≤ more → AreParts part len xs → AreParts part more xs
  parts-are len more [] le are = tt
  parts-are len more (x ∷ xs) le are = ((are.0.0, let within = are.0.1 in omega arith), parts-are len more xs le are.1)

  parts-last : (len : ℕ) (xs : List X) (x : X) → AreParts part len xs → IsPart len (part x) → AreParts part len (xs ++ x ∷ [])
  parts-last len [] x are is = (is, tt)
  parts-last len (y ∷ xs) x are is = (are.0, parts-last len xs x are.1 is)

  -- more is appended to the vector, and perhaps one with a part of it
  pub parts-kept : {T : Type 0} (ts new more : List T) (xs same : List X) → new ≡ ts ++ more → same ≡ xs → AreParts part (length ts) xs → AreParts part (length new) same
  parts-kept ts new more xs same e is are = grind (arith, common_steps, parts-are, length-append)

  pub parts-pushed : {T : Type 0} (ts new more : List T) (xs pushed : List X) (x : X) → new ≡ ts ++ more → pushed ≡ xs ++ x ∷ [] → (part x).from ≡ length ts → (part x).to ≡ length new →
      AreParts part (length ts) xs → AreParts part (length new) pushed
  parts-pushed ts new more xs pushed x e is from to are = grind (arith, common_steps, length-append, parts-last, parts-are)

-- what they stand for stays
module _ {T X Y : Type 0} (part : X → Part) (read : List T → X → Y) (stays : (ts more : List T) (x : X) → IsPart (length ts) (part x) → read (ts ++ more) x ≡ read ts x) where
  all-stay : (ts more : List T) (xs : List X) → AreParts part (length ts) xs → map (read (ts ++ more)) xs ≡ map (read ts) xs
  all-stay ts more [] are = refl
  all-stay ts more (x ∷ xs) are = ap₂ ◌∷◌ (stays ts more x are.0) (all-stay ts more xs are.1)

  pub items-kept : (ts new more : List T) (xs same : List X) → new ≡ ts ++ more → same ≡ xs → AreParts part (length ts) xs → map (read new) same ≡ map (read ts) xs
  items-kept ts new more xs same e is are = rw (e, is) (all-stay ts more xs are)

  pub items-pushed : (ts new more : List T) (xs pushed : List X) (x : X) → new ≡ ts ++ more → pushed ≡ xs ++ x ∷ [] → AreParts part (length ts) xs → map (read new) pushed ≡ map (read ts) xs ++ read new x ∷ []
  items-pushed ts new more xs pushed x e is are = rw is (map-append (read new) xs (x ∷ []) ∙ ap (λ ys. ys ++ read new x ∷ []) (items-kept ts new more xs xs e refl are))

-- cells that are not known yet stand after those that are
pub unknown : (cs : List (Option Cell)) (n : ℕ) → map (option_map cell_of) (cs ++ replicate n None) ≡ map (option_map cell_of) cs ++ replicate n None
unknown cs n = map-append (option_map cell_of) cs (replicate n None) ∙ ap (λ l. map (option_map cell_of) cs ++ l) (none n)
  where
    none : (n : ℕ) → map (option_map cell_of) (replicate n None) ≡ replicate n None
    none zero = refl
    none (suc n) = ap (λ l. None ∷ l) (none n)
