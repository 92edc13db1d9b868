-- Equality of errors.
use Rattle.std.proofs.Common.{◌≡◌, ◌∙◌, Bool, IsTrue, ◌↔◌, rules, sym}
use denote.Enum.Bare.{sameb, same_true, true_same}
use Rattle.bites_text.specs.declared.error.Error.{Error}
use Rattle.bites_text.specs.contracts.error.Error.{the_type}

-- what `==` of two errors returns: whether they are the same
pub same_errors : (a b : Error) (answer : Bool) → answer ≡ sameb the_type a b → IsTrue answer ↔ (a ≡ b)
same_errors a b answer is =
    (λ t. same_true the_type (search rules) a b (sym is ∙ t), λ e. is ∙ true_same the_type a b e)
