-- Between crates: the program's answer stands on none of these definitions.
-- The codes of captions, beside which packets in free slots are read.
use Rattle.std.specs.Prelude.{ℕ, Bool}
use Rattle.line21_codes.specs.Reading.{code_of}
use Rattle.line21_codes.specs.declared.codes.Code.{Code}
use Rattle.lanes.specs.Timeline.{Timeline, slot}
use Rattle.xds_frames.specs.PacketTimeline.{LeaveFree}
use Rattle.xds_packets.specs.Carried.{AreBeside}

-- the code of each slot
abbrev pub caption_codes : Timeline → ℕ → Code
caption_codes captions n = code_of (slot captions n)

-- captions that leave slots free keep out of the packets there
abbrev pub CaptionsAreBeside : Type 0
CaptionsAreBeside = (captions : Timeline) (free : ℕ → Bool) → LeaveFree captions free → AreBeside (caption_codes captions) free
