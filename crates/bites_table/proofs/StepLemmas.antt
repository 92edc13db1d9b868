-- One turn of the loop over frames is one step of the walk.
use Rattle.bites_table.proofs.Library.{common_steps, list_any, iterate, State, Program, state_at, ◌≡◌, ℕ, zero, suc, cond, Bool, true, false, List, ◌∷◌, refl, sym, ap, ◌∙◌, arith, ◌==◌, not, Option, IfSome, Threads, Walking, dropped, step, WalksTo, visited, stepped}

iterate_more : {A : Type 0} (f : A → A) (k : ℕ) (x : A) → iterate f (suc k) x ≡ f (iterate f k x)
iterate_more f zero x = refl
iterate_more f (suc k) x = iterate_more f k (f x)

module _ {T : Type 0} (a : Threads T) (p : Program) where
  abbrev pub with_stack : Walking T → List T → Walking T
  with_stack w stack = record { stack = stack; seen = w.seen; next = w.next; first_match = w.first_match; looks = w.looks }

  -- a step does not read the stack beside the threads that it is given
  unread : (st : State) (t : T) (rest : List T) (w : Walking T) → visited a st t rest w ≡ visited a st t rest (with_stack w rest)
  unfolding visited
  unread st t rest w = grind (arith, common_steps)

  -- a walk that goes one step on
  pub one_turn : (begun w v : Walking T) (t : T) (rest : List T) → WalksTo a p begun w → w.stack ≡ t ∷ rest → v ≡ stepped a p (t ∷ rest) (with_stack w rest) → WalksTo a p begun v
  unfolding stepped
  one_turn begun w v t rest (k, e) is to = (
    suc k,
    iterate_more (step a p) k begun ∙ ap (step a p) e ∙ ap (λ l. stepped a p l w) is
        ∙ ap (λ u. cond (list_any (λ q. q == a.state t) w.seen) (dropped rest w) u) (unread (state_at p.states (a.state t)) t rest w)
        ∙ sym to,
  )

pub not_true : (b x : Bool) → b ≡ not x → b ≡ true → x ≡ false
not_true b x e is = grind (arith, common_steps)

-- what follows from what holds of a value holds of it too
pub if_some : {X : Type 0} {P Q : X → Type 0} → ((x : X) → P x → Q x) → (o : Option X) → IfSome o P → IfSome o Q
if_some f o is = grind (arith, common_steps)

pub if_both : {X : Type 0} {P Q R : X → Type 0} → ((x : X) → P x → Q x → R x) → (o : Option X) → IfSome o P → IfSome o Q → IfSome o R
if_both f o is are = grind (arith, common_steps)

module _ {T : Type 0} (a : Threads T) (p : Program) where
  -- one step, to a state that was not visited
  pub one_visit : (t : T) (rest : List T) (w v : Walking T) (st : State) → list_any (λ q. q == a.state t) w.seen ≡ false → st ≡ state_at p.states (a.state t) →
      v ≡ visited a st t rest w → v ≡ stepped a p (t ∷ rest) w
  unfolding stepped
  one_visit t rest w v st unseen is e = grind (arith, common_steps)
