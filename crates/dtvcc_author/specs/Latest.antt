-- Between crates: the program's answer stands on none of these definitions.
-- In each window of a service the caption that was loaded last before a frame, and the events of the frame by that.
use Rattle.std.specs.Prelude.{◌≡◌, ℕ, ◌<◌, ◌≤◌, ◌==◌, false, if◌then◌else◌, List, [], ◌∷◌, Option, Some, None, length, option_map, take, drop, slice_index_or}
use Rattle.std.specs.List.{AllByRecursion, list_any}
use Rattle.cc_base.specs.Options.{passes}
use Rattle.dtvcc_author.specs.FrameEvents.{delayed_at, has_event_at, is_hidden_at, is_shown_at, names, windows_byte}
use Rattle.dtvcc_author.specs.declared.caption.Caption.{Caption}
use Rattle.dtvcc_author.specs.declared.latest.Latest.{Latest}
use Rattle.dtvcc_author.specs.declared.frame_events.Delay.{Delay}
use Rattle.dtvcc_author.specs.declared.frame_events.FrameEvents.{FrameEvents}

-- the last of the captions in the window, or else the one before them
abbrev pub latest_behind : Option Caption → List Caption → ℕ → Option Caption
latest_behind before [] id = before
latest_behind before (c ∷ cs) id = latest_behind (if c.id == id then Some c else before) cs id

-- the last of the captions in the window
abbrev pub latest_of : List Caption → ℕ → Option Caption
latest_of cs id = latest_behind None cs id

-- the caption of a window
abbrev pub caption_in : Latest → ℕ → Option Caption
caption_in latest id = slice_index_or latest.windows id None

-- from one frame on, and before another, no caption of a window has an event
abbrev pub IsQuietUpTo : List (Option Caption) → ℕ → ℕ → Type 0
IsQuietUpTo windows from to = (frame : ℕ) → from ≤ frame → frame < to → list_any (passes (has_event_at frame)) windows ≡ false

-- in each window the caption is the last of those whose LOAD is before the frame
pub record IsLatestAt (cs : List Caption) (frame : ℕ) (latest : Latest) : Type 0 where
  pub within : latest.next ≤ length cs
  pub before : AllByRecursion (λ (c : Caption). c.load < frame) (take latest.next cs)
  pub behind : AllByRecursion (λ (c : Caption). frame ≤ c.load) (drop latest.next cs)
  pub windows : (id : ℕ) → id < 8 → caption_in latest id ≡ latest_of (take latest.next cs) id
  -- and none of them has an event in the frames before this one
  pub quiet : IsQuietUpTo latest.windows frame latest.quiet

-- the delay of a caption
abbrev pub caption_delay : Caption → Delay
caption_delay c = record { tenths = c.tenths; windows = windows_byte (λ id. c.id == id); ends = c.show }

-- the events are the captions' in the frame
pub record AreEventsOf (frame : ℕ) (cs : List Caption) (events : FrameEvents) : Type 0 where
  pub hidden : events.hidden ≡ windows_byte (names (is_hidden_at frame) cs)
  pub shown : events.shown ≡ windows_byte (names (is_shown_at frame) cs)
  pub delay : events.delay ≡ option_map caption_delay (delayed_at frame cs)
