-- Believed in part: the program's answer stands on some of these definitions.
-- What the frames of a placed list carry from its end on: nothing.
use Rattle.std.specs.Prelude.{◌≡◌, ℕ, ◌≤◌, if◌then◌else◌, Option, Some, None, []}
use Rattle.cc_base.specs.declared.rate.Rate.{Rate}
use Rattle.cue_lists.specs.Listing.{IsFormed, Listing}
use Rattle.cue_lists.specs.Rules.{IsRuled}
use Rattle.line21_codes.specs.NullPairs.{null_pair}
use Rattle.line21_codes.specs.declared.channels.Chan.{Chan}
use Rattle.line21_codes.specs.declared.channels.Chan.TheVariants.{Cc1, Cc3}
use Rattle.line21_codes.specs.declared.pairs.Pair.{Pair}
use Rattle.cue_lists.specs.Cadences.{cadence_of, has_slot_in}
use Rattle.frame_scheduler.specs.Planned.{IsListPlaced, Placement, columns_of}
use Rattle.frame_scheduler.specs.declared.frames.FrameBytes.{FrameBytes}

-- the null pair of a channel's field, where a frame has a slot of it
abbrev pub silent_pair : Rate → Chan → ℕ → Option Pair
silent_pair rate channel frame = if has_slot_in (cadence_of rate channel) frame then Some null_pair else None

-- a frame without captions
abbrev pub silent_frame : Rate → ℕ → FrameBytes
silent_frame rate frame = record {
  one = silent_pair rate Cc1 frame;
  two = silent_pair rate Cc3 frame;
  blocks = record { items = [] };
}

-- after the frames of a list that keeps the rules there is none with captions
abbrev pub NothingBehindTheEnd : Type 0
NothingBehindTheEnd = (list : Listing) (placed : Placement) → IsFormed list → IsRuled list → IsListPlaced list placed
    → (frame : ℕ) → list.frames ≤ frame → columns_of list placed frame ≡ silent_frame list.rate frame
