-- Believed in part: the program's answer stands on some of these definitions.
-- What a service of DTVCC is given by the frames of a words file (CTA-708-E, sections 5 to 7; SMPTE ST 334-2): in each frame first a tick,
-- then the bytes of this service that the frame's triplets bring. Where a channel packet is missing all services are reset.
use Rattle.std.specs.Prelude.{ℕ, ◌==◌, if◌then◌else◌, List, [], ◌∷◌, ◌++◌}
use Rattle.std.specs.List.{flat_map}
use Rattle.cc_base.specs.declared.rate.Rate.{Rate}
use Rattle.cc_data.specs.declared.triplet.Triplet.{Triplet}
use Rattle.cdp_packets.specs.Packets.{Frame}
use Rattle.cdp_packets.specs.PacketTriplets.{packet_triplets}
use Rattle.dtvcc_screen.specs.Meaning.{Event, Byte, Reset, Tick}
use Rattle.service_blocks.specs.declared.parts.BlockPart.{BlockPart}
use Rattle.service_blocks.specs.declared.parts.BlockPart.TheVariants as part
use Rattle.services_files.specs.Said.{said_behind}

-- what a part of the service blocks is for a service: a byte of another service is nothing, and a reset is one for each service
abbrev pub event_of : ℕ → BlockPart → List Event
event_of service part.Reset = Reset ∷ []
event_of service (part.Byte other value) = if other == service then Byte value ∷ [] else []

-- what parts of the service blocks are for a service
abbrev pub events_of : ℕ → List BlockPart → List Event
events_of service parts = flat_map (event_of service) parts

-- the events of a frame, after the triplets of the frames before it
abbrev pub frame_events : ℕ → List Triplet → Frame → List Event
frame_events service before frame = Tick frame.rate ∷ events_of service (said_behind before (packet_triplets frame))

-- the events of frames, after the triplets of those before them
abbrev pub events_behind : ℕ → List Triplet → List Frame → List Event
events_behind service before [] = []
events_behind service before (frame ∷ frames) = frame_events service before frame ++ events_behind service (before ++ packet_triplets frame) frames

-- the events of a service in frames, from the first frame of a file on
abbrev pub service_events : ℕ → List Frame → List Event
service_events service frames = events_behind service [] frames

-- events without their ticks
abbrev pub untimed : List Event → List Event
untimed [] = []
untimed (Tick rate ∷ events) = untimed events
untimed (event ∷ events) = event ∷ untimed events

-- the rates of the ticks, in order
abbrev pub rates_of : List Event → List Rate
rates_of [] = []
rates_of (Tick rate ∷ events) = rate ∷ rates_of events
rates_of (event ∷ events) = rates_of events
