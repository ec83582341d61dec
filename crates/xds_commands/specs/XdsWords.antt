-- Believed in part: the program's answer stands on some of these definitions.
-- The words that `xds` puts of a cue list with packets, and what holds of them.
use Rattle.std.specs.Prelude.{◌≡◌, ℕ, suc, ◌<◌, List, [], take}
use Rattle.cue_list_commands.specs.ReceivedServices.{received_windows}
use Rattle.cdp_packets.specs.Packets.{Frame}
use Rattle.cue_list_commands.specs.Output.{build_output, built_packets, list_grids, list_told, list_windows}
use Rattle.cue_lists.specs.Listing.{Listing}
use Rattle.cue_list_commands.specs.Planned.{Placement, share_in}
use Rattle.line21_codes.specs.declared.channels.Chan.{Chan}
use Rattle.line21_codes.specs.declared.channels.FieldNumber.TheVariants.{Two}
use Rattle.cue_list_commands.specs.Framing.{Framing, packets_of, words_of}
use Rattle.cue_list_commands.specs.Delays.{AreDelaysSent}
use Rattle.cue_list_commands.specs.Shares.{AreSharesKept}
use Rattle.cue_list_commands.specs.Showing.{ShowsFrames}
use Rattle.cue_list_commands.specs.Sound.{IsSoundFrames}
use Rattle.words_files.specs.Received.{received_grids, received_pairs}
use Rattle.xds_frames.specs.PacketColumns.{packet_columns}
use Rattle.xds_commands.specs.PlacedPackets.{PlacedPackets}
use Rattle.xds_packets.specs.Reading.{packets_within as packets_in}
use Rattle.xds_packets.specs.Sending.{packets_left}

-- the frames of a placed list with packets
abbrev pub xds_framing : PlacedPackets → Framing
xds_framing made = record { rate = made.list.rate; columns = packet_columns made.list made.placed made.codes; count = made.list.frames }

-- the distribution packets of these
abbrev pub xds_packets : PlacedPackets → List Frame
xds_packets made = packets_of (xds_framing made)

-- what holds of the words that `xds` puts. Their frames are sound, and no service gets more than its share. A receiver that was reset before
-- the first frame shows the list. At every frame, settled or not, it shows on each channel and in each service what it shows of the words that
-- `build` puts of the list. The delay of each window cue is sent. The packets that are read in field 2's pairs are just the packets of the
-- list of packets, in their order
pub record IsSoundXds (made : PlacedPackets) : Type 0 where
  pub frames : IsSoundFrames made.list.rate made.list.frames (packet_columns made.list made.placed made.codes)
  pub shares : AreSharesKept made.list.rate (share_in made.list) made.list.frames (xds_packets made)
  pub shows : ShowsFrames (list_told made.list) (list_grids made.list) (list_windows made.list) made.list.frames (xds_packets made)
  pub built_grids : (frame : ℕ) → frame < made.list.frames → (chan : Chan)
      → received_grids (take (suc frame) (xds_packets made)) chan ≡ received_grids (take (suc frame) (built_packets made.list made.placed)) chan
  pub built_windows : (frame : ℕ) → frame < made.list.frames → (service id : ℕ)
      → received_windows (take (suc frame) (xds_packets made)) service id ≡ received_windows (take (suc frame) (built_packets made.list made.placed)) service id
  pub delayed : AreDelaysSent made.list made.placed
  pub packets : packets_in (received_pairs Two (xds_packets made)) ≡ packets_left made.listed

-- without packets these are the words that `build` puts
abbrev pub NoPacketsAreBuilt : Type 0
NoPacketsAreBuilt = (list : Listing) (placed : Placement) → words_of (xds_framing (record { list = list; placed = placed; listed = []; codes = [] })) ≡ build_output list placed
