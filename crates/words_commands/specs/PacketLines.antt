-- Believed in part: the program's answer stands on some of these definitions.
-- What `xds-show` puts of the frames of a words file: the packets of extended data that end in the pairs of field 2 (CTA-608-E; CTA-708-E,
-- cc_data(); 47 CFR 79.101).
use Rattle.std.specs.Prelude.{◌≡◌, ℕ, List, [], ◌∷◌, ◌++◌, length, map, codes, decimal}
use Rattle.std.specs.List.{flat_map}
use Rattle.cc_base.specs.Texts.{text}
use Rattle.cdp_packets.specs.PacketTriplets.{packet_triplets}
use Rattle.cdp_packets.specs.Packets.{Frame}
use Rattle.line21_codes.specs.Reading.{code_of}
use Rattle.line21_codes.specs.declared.channels.FieldNumber.TheVariants.{Two}
use Rattle.words_files.specs.Received.{field_pairs, received_pairs}
use Rattle.xds_packets.specs.Reading.{packets_behind, packets_within}
use Rattle.xds_packets.specs.declared.packets.XdsPacket.{XdsPacket}
use Rattle.words_commands.specs.Screens.{counted}

-- the line of a packet that ends in a frame: `frame F class C type T TEXT`
abbrev pub packet_line : ℕ → XdsPacket → List ℕ
packet_line frame packet =
    text (codes "frame " ∷ decimal frame ∷ codes " class " ∷ decimal packet.class ∷ codes " type " ∷ decimal packet.kind ∷ codes " " ∷ packet.text ∷ codes "\n" ∷ [])

-- the packets that end in a frame's pairs of field 2, after other frames
abbrev pub frame_packets : List Frame → Frame → List XdsPacket
frame_packets before frame =
    packets_behind (map code_of (received_pairs Two before)) (map code_of (field_pairs Two (packet_triplets frame)))

-- the lines of these
abbrev pub next_packets : List Frame → Frame → List ℕ
next_packets before frame = flat_map (packet_line (length before)) (frame_packets before frame)

-- `xds-show` puts the lines of each frame, and then the number of frames
abbrev pub xds_show_output : List Frame → List ℕ
xds_show_output frames = counted next_packets frames

-- the packets of frames after others, frame by frame
abbrev pub packets_in : List Frame → List Frame → List XdsPacket
packets_in before [] = []
packets_in before (frame ∷ frames) = frame_packets before frame ++ packets_in (before ++ frame ∷ []) frames

-- they are the packets that are read in all pairs of field 2 of the file
abbrev pub AllPacketsAreShown : Type 0
AllPacketsAreShown = (frames : List Frame) → packets_in [] frames ≡ packets_within (received_pairs Two frames)
