use Rattle.bites_machine.proofs.Library.{common_steps, ◌≡◌, ℕ, suc, List, add-one, arith, Range, State, Emitted, emitted, pushed, class_state, again, emit, class}
use Rattle.bites_machine.proofs.emit.States.classes.Goals as goal

-- one more state of a class, whose ranges are these
class_again : (rs qs : List Range) (n to from : ℕ) (old so_far : List State) (new : Emitted) → qs ≡ rs → emitted so_far from ≡ again n (emit (class rs)) to old →
    new ≡ pushed so_far (class_state qs from) → new ≡ again (suc n) (emit (class rs)) to old
unfolding emit
class_again rs qs n to from old so_far new same is e = grind (arith, common_steps)

pub loop-preserved : goal.loop-preserved
loop-preserved c = grind (arith, common_steps, add-one, class_again)
