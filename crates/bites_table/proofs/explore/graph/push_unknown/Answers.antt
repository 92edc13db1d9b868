use Rattle.bites_table.proofs.Library.{common_steps, rules, arith, ◌≡◌, ℕ, ◌+◌, refl, replicate, length, take, Option, None, List, [], ◌∷◌, ◌++◌, length-append, take_all}
use Rattle.std.proofs.Common.{of_calls}
use Rattle.std.specs.Prelude.{Result, Ok, Err, OnOk, OnErr, IfOk}
use Rattle.std.specs.List.{FoldsTo, AppendsResults}
use Rattle.bites_table.proofs.explore.graph.push_unknown.Goals as goal

-- what calls gave that each gave nothing
all-none : {F X : Type 0} (step : F → Option X → F → Type 0) → ((p : F) (x : Option X) (q : F) → step p x q → x ≡ None) → (ys : List (Option X)) (f last : F) → FoldsTo step f ys last → ys ≡ replicate (length ys) None
all-none step none [] f last folds = refl
all-none step none (y ∷ ys) f last folds =
    let first : y ≡ None = none f y folds.0 folds.1 in
    let rest : ys ≡ replicate (length ys) None = all-none step none ys folds.0 last folds.2 in
    grind (arith, common_steps)

-- so a vector is filled by them
filled : {F X E U : Type 0} {step : F → Option X → F → Type 0} (f : F) → ((p : F) (x : Option X) (q : F) → step p x q → x ≡ None) → (old new : List (Option X)) (n count : ℕ) (r : Result U E) → n ≡ length old + count →
    OnOk r (AppendsResults step (take n old) new f) → OnOk r (length new ≡ n) → OnErr r (new ≡ old) → (m : ℕ) × (new ≡ old ++ replicate m None) × IfOk r (λ _. m ≡ count)
filled f none old new n count (Ok u) is ran len err =
    let same = all-none _ none ran.0 f ran.1 ran.3 in
    (length ran.0, grind (arith, common_steps, take_all), grind (arith, common_steps, take_all, length-append))
filled f none old new n count (Err e) is ran len err = (0, grind (arith, common_steps), tt)

pub returns : goal.returns
returns c = filled _ (λ p x q e. search (of_calls, rules)) c.args.cells.now.items c.resize_with.new.self.items c.in-Some.len c.args.count c.resize_with.result (search rules) c.resize_with.ensures.items (search rules) (search rules)
