-- Items that are nodes of their own but not groups.
use Rattle.std.proofs.Common.{◌≡◌, ◌&&◌, ◌||◌, ◌++◌, [], ℕ, List, Bool, true, false, ◌==◌, ◌∷◌, refl, sym, ap, ◌∙◌, Ok, Err, Result}
use Rattle.std.specs.Prelude.{if◌then◌else◌}
use Rattle.std.proofs.lemmas.Bool.{false≢true}
use Rattle.bites_spec.specs.Class.{Set, Lists, is_letter}
use Rattle.bites_spec.specs.Grammar.{literal_of, two_cases}
use Rattle.bites_spec.specs.Escape as escape
use Rattle.bites_spec.specs.Escape.{character, characters, assertion}
use Rattle.bites_spec.specs.Measure.{height}
use Rattle.bites_spec.specs.Pattern.{Text, Flags, Front, skip, right_parenthesis, left_parenthesis, bar, question, star, plus, left_brace, left_bracket, backslash, dot, caret, dollar}
use Rattle.bites_spec.specs.RangesOf.{ranges_of}
use Rattle.bites_spec.specs.Range.{Range}
use Rattle.bites_spec.specs.Reader.{ReadResult, Reader, ReadChoice, Stop, answer, and_then, at_item, bracket, choose, node_of}
use Rattle.bites_spec.specs.Reader as reading
use Rattle.bites_spec.specs.Tree as tree
use Rattle.bites_spec.specs.Tree.{Tree}
use Rattle.bites_spec.proofs.classes.ClassLemmas.{lists_are_ranges_of}
use Rattle.bites_spec.proofs.characters.EscapeLemmas.{either_side}
use Rattle.bites_syntax.specs.Atoms.{atom, begins_atom}

-- the tree of a class that an escape stands for
pub class_meant : (flags : Flags) (m : escape.Meaning) (ranges : List Range) → ((set : Set) × (m ≡ characters set) × Lists ranges set) → tree.class ranges ≡ node_of ranges_of 0 flags m
class_meant flags m ranges is = rw is.1 (ap tree.class (lists_are_ranges_of is.0 ranges is.2))

pub atom_class : (n : ℕ) (flags : Flags) (c : ℕ) (t u rest : Text) (set : Set) → c ≡ 91 → u ≡ skip flags t → bracket n flags u ≡ Ok (set, rest) →
    atom n flags c t ≡ Ok (tree.class (ranges_of set), rest)
atom_class n flags c t u rest set is at reads = rw is (ap (λ a. and_then a (λ s r. answer (tree.class (ranges_of s)) r)) (ap (bracket n flags) (sym at) ∙ reads))

pub atom_escape : (n : ℕ) (flags : Flags) (c : ℕ) (t rest : Text) (m : escape.Meaning) → c ≡ 92 → reading.escape n flags t ≡ Ok (m, rest) →
    atom n flags c t ≡ Ok (node_of ranges_of 0 flags m, rest)
atom_escape n flags c t rest m is reads = rw is (ap (λ a. and_then a (λ m r. answer (node_of ranges_of 0 flags m) r)) reads)

-- a result whose trees have no parts
abbrev pub IsLow : ReadResult Tree → Type 0
IsLow (Ok x) = height x.0 ≡ 0
IsLow (Err e) = Unit {0}

-- a character has no parts
pub literal_low : (flags : Flags) (c : ℕ) → height (literal_of flags c) ≡ 0
literal_low flags c = by_case (flags.case_insensitive && is_letter c)
  where
    by_case : (b : Bool) → height (if b then tree.class (two_cases c) else tree.char c) ≡ 0
    by_case true = refl
    by_case false = refl

meaning_low : (flags : Flags) (m : escape.Meaning) → height (node_of ranges_of 0 flags m) ≡ 0
meaning_low flags (character c) = literal_low flags c
meaning_low flags (characters set) = refl
meaning_low flags (assertion l) = refl

low_behind : {A : Type 0} (a : ReadResult A) (f : A → Tree) → ((x : A) → height (f x) ≡ 0) → IsLow (and_then a (λ x rest. answer (f x) rest))
low_behind (Ok x) f low = low x.0
low_behind (Err e) f low = tt

-- an item that is not a group has no parts
pub atom_low : (n : ℕ) (flags : Flags) (c : ℕ) (t : Text) → IsLow (atom n flags c t)
atom_low n flags c t =
    either_side IsLow (c == left_bracket) _ _ (λ b. low_behind (bracket n flags (skip flags t)) (λ set. tree.class (ranges_of set)) (λ set. refl))
    (λ b. either_side IsLow (c == backslash) _ _ (λ b. low_behind (reading.escape n flags t) (λ m. node_of ranges_of 0 flags m) (meaning_low flags))
    (λ b. either_side IsLow (c == dot) _ _ (λ b. refl)
    (λ b. either_side IsLow (c == caret) _ _ (λ b. refl)
    (λ b. either_side IsLow (c == dollar) _ _ (λ b. refl) (λ b. literal_low flags c)))))

same_behind : {A : Type 0} (a : ReadResult A) (f : A → Tree) (k : Tree → Text → Result ReadChoice Stop) →
    and_then a (λ x rest. k (f x) rest) ≡ and_then (and_then a (λ x rest. answer (f x) rest)) k
same_behind (Ok x) f k = refl
same_behind (Err e) f k = refl

same_choice : {A B : Type 0} (g : A → B) (b : Bool) (x y : Unit {0} → A) (u v : Unit {0} → B) → u tt ≡ g (x tt) → v tt ≡ g (y tt) → choose b u v ≡ g (choose b x y)
same_choice g true x y u v p q = p
same_choice g false x y u v p q = q

module _ (limit : ℕ) (go : Reader) (n depth : ℕ) (front : Front) (branches nodes : List Tree) where
  -- an item that is not a group is read as its node
  pub item_atom : (c : ℕ) (t : Text) → (c == right_parenthesis) ≡ false → (c == bar) ≡ false → (c == left_parenthesis) ≡ false → (c == question) ≡ false →
      (c == star) ≡ false → (c == plus) ≡ false → (c == left_brace) ≡ false →
      at_item ranges_of limit go n depth front branches nodes (c ∷ t) ≡ and_then (atom n front.flags c t) (λ node rest. go depth front branches (nodes ++ node ∷ []) rest)
  item_atom c t p1 p2 p3 p4 p5 p6 p7 =
      let g : ReadResult Tree → Result ReadChoice Stop = λ a. and_then a (λ node rest. go depth front branches (nodes ++ node ∷ []) rest) in
      rw p1 (rw p2 (rw p3 (rw p4 (rw p5 (rw p6 (rw p7
      (same_choice g (c == left_bracket) _ _ _ _ (same_behind (bracket n front.flags (skip front.flags t)) (λ set. tree.class (ranges_of set)) _)
      (same_choice g (c == backslash) _ _ _ _ (same_behind (reading.escape n front.flags t) (λ m. node_of ranges_of 0 front.flags m) _)
      (same_choice g (c == dot) _ _ _ _ refl
      (same_choice g (c == caret) _ _ _ _ refl
      (same_choice g (c == dollar) _ _ _ _ refl refl)))))))))))

  -- a character that begins no other item is read as itself
  pub item_literal : (c : ℕ) (t : Text) → (c == right_parenthesis) ≡ false → (c == bar) ≡ false → (c == left_parenthesis) ≡ false → (c == question) ≡ false →
      (c == star) ≡ false → (c == plus) ≡ false → (c == left_brace) ≡ false → begins_atom c ≡ false →
      at_item ranges_of limit go n depth front branches nodes (c ∷ t) ≡ go depth front branches (nodes ++ literal_of front.flags c ∷ []) t
  item_literal c t p1 p2 p3 p4 p5 p6 p7 none =
      let p8 = neither (c == left_bracket) _ none in
      let p9 = neither (c == backslash) _ p8.1 in
      let p10 = neither (c == dot) _ p9.1 in
      let p11 = neither (c == caret) _ p10.1 in
      rw p1 (rw p2 (rw p3 (rw p4 (rw p5 (rw p6 (rw p7 (rw p8.0 (rw p9.0 (rw p10.0 (rw p11.0 (rw p11.1 refl)))))))))))
    where
      neither : (a b : Bool) → (a || b) ≡ false → (a ≡ false) × (b ≡ false)
      neither false b h = (refl, h)
      neither true b h = absurd (false≢true (sym h))
