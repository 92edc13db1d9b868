-- What is read of a table.
use Rattle.bites_table.proofs.Library.{common_steps, IfSome, slice_index_or, slice_range, mul-div_cancel, mul-le-mul_right, suc-mul, Among, ◌≡◌, ℕ, ◌+◌, ◌*◌, ◌/◌, ◌<◌, List, length, Option, Some, Bor, sym, subst, ap, ◌∙◌, arith, option_copied, take-append-drop, Among-left, Among-right, slice_get_read, refl, take, drop, ◌-◌}
use Rattle.bites_table.specs.Packed.{Packed, table_in, classes_in, lists_in, stride, row_of, IsRow, Tells}
use Rattle.bites_table.specs.Layout.{AreCells}
use Rattle.bites_table.specs.Stays.{AreStays, IsStay}
use Rattle.bites_table.specs.declared.table.cell.Cell.{Cell}
use Rattle.bites_table.specs.declared.table.skip.Skip.{Skip}
use Rattle.bites_table.specs.declared.table.skip.Stay.{Stay}

pub among-range : {X : Type 0} (xs : List X) (a b : ℕ) (x : X) → Among (slice_range xs a b) x → Among xs x
among-range {X = X} xs a b x is =
    let P : List X → Type 0 = λ ys. Among ys x in
    let rest = drop a xs in
    let among : Among rest x = subst P (take-append-drop (b - a) rest) (Among-left (take (b - a) rest) (drop (b - a) rest) x is) in
    subst P (take-append-drop a xs) (Among-right (take a xs) rest x among)

-- cells that are those of a table
pub own-cells : (own x : Packed) (cells : List Cell) → own ≡ x → cells ≡ x.cells → AreCells own own.cells → AreCells x cells
own-cells own x cells is same are = subst (AreCells x) (sym same) (subst (λ (y : Packed). AreCells y y.cells) is are)

module _ (x : Packed) (row : ℕ) (is : IsRow x row) where
  pub row-number : (s : ℕ) → s ≡ stride x → row / s ≡ is.number
  row-number s e = ap (λ m. row / m) e ∙ ap (λ r. r / stride x) is.is ∙ mul-div_cancel is.number (omega arith)

  pub row-within : (class : ℕ) → class < stride x → row + class < lists_in x * stride x
  row-within class lt = grind (arith, common_steps, mul-le-mul_right, suc-mul)

  pub cells-within : (cells : List Cell) → AreCells x cells → (class : ℕ) → class < stride x → row + class < length cells
  cells-within cells are class lt = let w = row-within class lt in let l = are.len in omega arith

  pub cells-tell : (cells : List Cell) → AreCells x cells → (class : ℕ) (a : Cell) → class < stride x →
      a ≡ slice_index_or cells (row + class) a → (n : ℕ) → row ≡ row_of x n → Tells x n class a
  cells-tell cells are class a lt read n e =
      let within = cells-within cells are class lt in
      grind (arith, common_steps, slice_get_read)

pub if-copied : {X : Type 0} (P : X → Type 0) (r : Option (Bor X)) (o : Option X) → option_copied r ≡ o → ((v : X) → o ≡ Some v → P v) → IfSome r (λ b. P b.now)
if-copied P r o e all = grind (arith, common_steps)

-- what a search passes at once from a list of a table
pub stay-at : (own x : Packed) (skips : List Skip) (lists : List Stay) → own ≡ x → AreStays (table_in own) (classes_in own) skips lists → (n : ℕ) (e : Stay) → n < length lists → e ≡ slice_index_or lists n e →
    IsStay (table_in x) (classes_in x) skips n e
stay-at own x skips lists is stays n e within read = subst (λ (y : Packed). AreStays (table_in y) (classes_in y) skips lists) is stays n e (slice_get_read lists (length lists) n e refl within read)
