-- The threads of a walk are at states of the program.
use Rattle.bites_machine.proofs.Library.{ℕ, ◌<◌, ◌≤◌, Bool, List, refl, inl, inr, length, Among, Program, at, state_at, IsWellFormed, leads, inside_on, MachineThread as Thread, Walking, with_write, thread_on, moved, WalksTo, option_or, Some, Among-append, ⊎_elim, Among-map}
use Rattle.bites_machine.proofs.model.MachineWalks.{Keeps, walk_keeps}
use Rattle.bites_machine.proofs.model.MachineTrace.{Among-kept}

module _ (p : Program) (hay : List ℕ) (well : IsWellFormed p) (longest : Bool) (i : ℕ) (here : i ≤ length hay) where
  -- those that are still to be walked, and those that took the piece
  pub record IsKnown (w : Walking) : Type 0 where
    pub stack : (t : Thread) → Among w.stack t → t.state < length p.states
    pub next : (t : Thread) → Among w.next t → t.state < length p.states

  moved_known : (t : Thread) → t.state < length p.states → (u : Thread) → Among (moved hay longest i (state_at p.states t.state) t) u → u.state < length p.states
  moved_known t known u h =
      let m = Among-map (thread_on t.start (with_write (state_at p.states t.state) i t.slots)) (leads p hay (at t.state i)) u h in
      rw (← m.2) (inside_on p hay well (at t.state i) m.0 (known, here) m.1).0

  known_keeps : Keeps hay longest i p IsKnown
  known_keeps = record {
    on_seen = λ t rest w is was now. record { stack = λ u h. now.stack u (rw is (inr h)); next = now.next };
    on_match = λ t rest w is new found now. record {
      stack = λ u h. now.stack u (rw is (inr (Among-kept hay longest (option_or w.first_match (Some t)) rest u h)));
      next = now.next;
    };
    on_taken = λ t rest w is new none one over now. record {
      stack = λ u h. now.stack u (rw is (inr h));
      next = λ u h. ⊎_elim (now.next u) (moved_known t (now.stack t (rw is (inl refl))) u) (Among-append w.next _ u h);
    };
    on_gone = λ t rest w is new none beside now. record {
      stack = λ u h. ⊎_elim (moved_known t (now.stack t (rw is (inl refl))) u) (λ a. now.stack u (rw is (inr a))) (Among-append _ rest u h);
      next = now.next;
    };
  }

  -- a walk keeps that
  pub walk_known : (w v : Walking) → WalksTo hay longest p i w v → IsKnown w → IsKnown v
  walk_known = walk_keeps hay longest i p IsKnown known_keeps
