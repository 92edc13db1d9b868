use Rattle.bites_table.proofs.Library.{◌≡◌, ◌+◌, ℕ, suc, map, ap, subst, arith, WalksTo}
use Rattle.bites_table.proofs.Words.{takers_by, cuts_off, starts_as, kind_as, frame_of, walking_of}
use Rattle.bites_table.proofs.StepLemmas.{one_turn}
use Rattle.bites_table.proofs.walk.run.Goals as goal

pub loop-looks-preserved : goal.loop-looks-preserved
loop-looks-preserved c =
    let threads = takers_by (cuts_off (starts_as c.args.starts)) (kind_as c.args.here.now.before) (kind_as c.args.here.now.after) in
    subst (λ n. WalksTo threads c.args.program.now.program (walking_of c.args.walk.now c.args.looks) (walking_of c.turn.new.walk n)) (next c.loop-looks.looks)
    (one_turn threads c.args.program.now.program (walking_of c.args.walk.now c.args.looks) (walking_of c.loop-looks.walk c.loop-looks.looks) (walking_of c.turn.new.walk (suc c.loop-looks.looks))
    (frame_of c.in_ok-frame.frame) (map frame_of c.pop.new.self) c.loop-looks.invariant (ap (map frame_of) c.in_ok-frame.ensures) (c.in_ok-turn.ensures c.loop-looks.looks))
  where
    next : (n : ℕ) → suc n ≡ n + 1
    next n = omega arith
