-- The stack of an epsilon closure.
use Rattle.std.specs.Prelude.{ℕ, List, map}
use Rattle.bites_machine.specs.declared.vm.stack.Frame.{Frame}

-- the frames, the uppermost first, and how many there may be
pub record Frames : Type 0 where
  pub frames : List Frame
  pub room : ℕ

-- the stack with these frames
abbrev pub with_frames : List Frame → Frames → Frames
with_frames frames stack = record { frames = frames; room = stack.room }

-- a frame
abbrev pub frame_at : ℕ → ℕ → Frame
frame_at pending_len state = record { state = state; pending_len = pending_len }

-- a frame of each state, with this number of pending slots
abbrev pub framed : ℕ → List ℕ → List Frame
framed pending_len states = map (frame_at pending_len) states
