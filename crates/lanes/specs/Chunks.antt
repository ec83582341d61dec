-- Believed: the program's answer stands on these definitions.
-- A unit of a service, one command or one character, with what its cue asks of its place. Frames are counted from 0.
use Rattle.std.specs.Prelude.{ℕ, List}

pub record ServiceChunk : Type 0 where
  -- its bytes, which aren't divided between frames
  pub unit : List ℕ
  -- the frame before which it doesn't stand
  pub load : ℕ
  -- the frame that it stands before
  pub until : ℕ
  -- the number of its cue, counted from 1
  pub cue : ℕ
