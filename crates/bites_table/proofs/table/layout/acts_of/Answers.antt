use Rattle.bites_table.proofs.Library.{rules, ◌≡◌, ◌∙◌, ℕ, List, [], None, Some, ap, sym, slice_get, arith, common_steps}
use Rattle.bites_table.proofs.table.layout.acts_of.Goals as goal

nothing : {X P : Type 0} (xs : List X) (i : ℕ) (x : X) → xs ≡ [] → slice_get xs i ≡ Some x → P
nothing xs i x none at = absurd (let no : None ≡ Some x = sym (ap (λ l. slice_get l i) none) ∙ at in cc)

pub loop-number-init : goal.loop-number-init
loop-number-init c =
    let acts : c.in_ok-ok.field-0.items ≡ [] = search rules in
    let steps : c.in_ok-ok-2.field-0.items ≡ [] = search rules in
    let names : c.in_ok-ok-3.field-0.items ≡ [] = search rules in
    grind (arith, common_steps, nothing)
