-- Believed in part: the program's answer stands on some of these definitions.
-- A service's lane: where a unit of a window cue may stand. Its frames have a room each, the bytes of its share that the
-- frame's events leave; and what comes in a delay is held by the receiver, whose buffer takes at most 127 bytes and ends the
-- delay at the 128th (CTA-708-E, service blocks and Delay).
use Rattle.std.specs.Prelude.{◌≡◌, ℕ, ◌+◌, ◌<◌, ◌≤◌, ◌&&◌, nat_le, nat_lt, Bool, if◌then◌else◌, List, [], Option, Some, length, sum_by}
use Rattle.std.specs.List.{AllByRecursion, zip}
use Rattle.lanes.specs.Placing.{IsPlaced}
use Rattle.lanes.specs.Chunks.{ServiceChunk}

-- the bytes of a unit
abbrev pub chunk_size : ServiceChunk → ℕ
chunk_size chunk = length chunk.unit

-- the most bytes of units that may come in a delay; the two of DisplayWindows are held beside them
abbrev pub most_in_delay : ℕ
most_in_delay = 125

-- the frame is one of those from `from` on, and before `to`
abbrev pub is_between : ℕ → ℕ → ℕ → Bool
is_between from to frame = nat_le from frame && nat_lt frame to

-- the bytes that a placed unit has in these frames
abbrev pub bytes_between : ℕ → ℕ → ServiceChunk × ℕ → ℕ
bytes_between from to placed = if is_between from to placed.1 then chunk_size placed.0 else 0

-- the bytes that the placed units have in the frames from `from` on, and before `to`
abbrev pub used : ℕ → ℕ → List (ServiceChunk × ℕ) → ℕ
used from to placed =
    sum_by (λ each. if nat_le from each.1 && nat_lt each.1 to then chunk_size each.0 else 0) placed

-- no placed unit follows the frame
abbrev pub AreUpTo : ℕ → List (ServiceChunk × ℕ) → Type 0
AreUpTo frame placed = AllByRecursion (λ (each : ServiceChunk × ℕ). each.1 ≤ frame) placed

-- the unit may stand in the frame after those placed before it, where frames have this room, and a delay that starts in a
-- frame ends in the frame that `ends` gives
pub record IsAllowedInService (room : ℕ → ℕ) (ends : ℕ → Option ℕ) (before : List (ServiceChunk × ℕ)) (chunk : ServiceChunk) (frame : ℕ) : Type 0 where
  pub order : AreUpTo frame before
  pub loaded : chunk.load ≤ frame
  pub ended : frame < chunk.until
  pub fits : used frame (frame + 1) before + chunk_size chunk ≤ room frame
  pub delayed : (start end : ℕ) → ends start ≡ Some end → start ≤ frame → frame < end → used start end before + chunk_size chunk ≤ most_in_delay

-- the placed units have at most the room of each frame, and at most 125 bytes in each delay
pub record IsWithinRoom (room : ℕ → ℕ) (ends : ℕ → Option ℕ) (placed : List (ServiceChunk × ℕ)) : Type 0 where
  pub frames : (frame : ℕ) → used frame (frame + 1) placed ≤ room frame
  pub delays : (start end : ℕ) → ends start ≡ Some end → used start end placed ≤ most_in_delay

-- so do the units of every placement
abbrev pub KeepsRoom : (ℕ → ℕ) → (ℕ → Option ℕ) → Type 0
KeepsRoom room ends = (chunks : List ServiceChunk) (frames : List ℕ) → IsPlaced (IsAllowedInService room ends) [] chunks frames
    → IsWithinRoom room ends (zip chunks frames)
