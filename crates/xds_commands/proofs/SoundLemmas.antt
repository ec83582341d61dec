-- The words of a cue list with packets that all have room beside its captions.
use Rattle.std.proofs.Common.{◌≡◌, ◌∙◌, suc, ℕ, All, List, ap, arith, subst, sym, take}
use Rattle.cue_list_commands.proofs.Outputs.{byte_pairs, show_columns}
use Rattle.cue_lists.specs.Listing.{Listing}
use Rattle.cdp_packets.specs.Packets.{Frame}
use Rattle.cue_list_commands.specs.Carried.{AreRoomy}
use Rattle.cue_list_commands.specs.Carrying.{column_packets}
use Rattle.cue_list_commands.proofs.ListDoublingLemmas.{columns_doubled}
use Rattle.cue_list_commands.specs.Columns.{Columns}
use Rattle.cue_list_commands.specs.Planned.{Placement, columns_of, share_in}
use Rattle.cue_lists.specs.declared.lane.Lane.TheVariants.{Service}
use Rattle.line21_codes.specs.declared.channels.FieldNumber.TheVariants.{Two}
use Rattle.cue_list_commands.proofs.ToldLemmas.{take_packets}
use Rattle.cue_list_commands.specs.PlacedServices.{AreServicesPlaced}
use Rattle.cue_list_commands.proofs.DelayLemmas.{delays_sent}
use Rattle.cue_list_commands.proofs.SeenLemmas.{authored_windows_seen}
use Rattle.cue_list_commands.proofs.PlacedBlocksLemmas.{fit_blocks, shares_kept}
use Rattle.cue_list_commands.proofs.SoundSeenLemmas.{columns_seen}
use Rattle.cue_list_commands.proofs.SoundLemmas.{fit_sound}
use Rattle.cue_list_commands.specs.Output.{list_grids, list_told, list_windows}
use Rattle.cue_list_commands.specs.Shares.{AreSharesKept}
use Rattle.cue_list_commands.specs.Showing.{ShowsFrames}
use Rattle.cue_list_commands.specs.ReceivedServices.{received_windows}
use Rattle.cue_list_commands.specs.Sound.{IsSoundFrames}
use Rattle.words_files.specs.Received.{received_grids, received_pairs}
use Rattle.xds_frames.proofs.CodesLemmas.{columns_given}
use Rattle.xds_frames.proofs.XdsLemmas.{packets_are_read, packets_change_nothing, packets_leave_sound}
use Rattle.xds_frames.specs.PacketColumns.{packet_columns}
use Rattle.xds_frames.specs.XdsFrames.{AreSendable, HasXdsRoom, IsSoundBeside, ShowTheSame, xds_columns}
use Rattle.xds_commands.specs.PlacedPackets.{IsPlacedWith, PlacedPackets}
use Rattle.xds_commands.specs.XdsWords.{IsSoundXds, xds_framing}
use Rattle.xds_packets.specs.PacketCodes.{IsXdsPacket}
use Rattle.xds_packets.specs.Places.{PlacedCode}
use Rattle.xds_packets.specs.Reading.{packets_within}
use Rattle.xds_packets.specs.Sending.{Listed, packets_left}

module _ (list : Listing) (placed : Placement) (listed : List Listed) (are : AreSendable list placed listed) (room : HasXdsRoom list placed listed) where
  services : AreServicesPlaced list placed
  services service = are.placed_is (Service service)

  beside : IsSoundBeside list placed listed
  beside = packets_leave_sound list placed listed are

  shown : ShowTheSame list placed listed
  shown = (packets_change_nothing list placed listed are).shown

  -- the frames without the packets
  built : IsSoundFrames list.rate list.frames (columns_of list placed)
  built =
      fit_sound list.rate list.frames (columns_of list placed)
      (record { doubled = columns_doubled list placed are.formed are.ruled are.placed_is; pairs = byte_pairs list placed are.formed })
      (fit_blocks list placed are.formed are.ruled services)

  -- all pairs of field 2
  read : packets_within (received_pairs Two (column_packets list.rate (xds_columns list placed listed) 0 list.frames)) ≡ packets_left listed
  read =
      ap (λ fs. packets_within (received_pairs Two fs)) (sym (take_packets list.rate (xds_columns list placed listed) 0 list.frames list.frames (omega arith)))
      ∙ ap packets_within (beside.sound.carried.received Two list.frames (omega arith))
      ∙ packets_are_read list placed listed are room

  -- the same with the packets where their codes stand
  abbrev own : Columns
  own = packet_columns list placed room.placed

  same : xds_columns list placed listed ≡ own
  same = sym (columns_given list placed listed room)

  same_packets : column_packets list.rate (xds_columns list placed listed) 0 list.frames ≡ column_packets list.rate own 0 list.frames
  same_packets = ap (λ (columns : Columns). column_packets list.rate columns 0 list.frames) same

  written : ShowsFrames (list_told list) (list_grids list) (list_windows list) list.frames (column_packets list.rate (xds_columns list placed listed) 0 list.frames)
  written = record {
    has_grids = λ frame below chan told. columns_seen list.rate list.frames (xds_columns list placed listed) beside.sound.carried frame below chan
        ∙ shown frame chan ∙ show_columns list placed are.formed are.ruled are.placed_is list.frames frame below chan told;
    has_windows = λ frame below service id numbered low. beside.alike.windows (suc frame) (omega arith) service id
        ∙ authored_windows_seen list placed are.formed are.ruled services frame below service id numbered low;
  }

  pub sound_placed : IsSoundXds (record { list = list; placed = placed; listed = listed; codes = room.placed })
  sound_placed = record {
    frames = subst (λ (columns : Columns). IsSoundFrames list.rate list.frames columns) same beside.sound;
    shares = subst (λ (packets : List Frame). AreSharesKept list.rate (share_in list) list.frames packets) same_packets
        (beside.alike.shares (share_in list) (shares_kept list placed are.formed are.ruled services));
    shows = subst (λ (packets : List Frame). ShowsFrames (list_told list) (list_grids list) (list_windows list) list.frames packets) same_packets written;
    built_grids = λ frame below chan. ap (λ (packets : List Frame). received_grids (take (suc frame) packets) chan) (sym same_packets)
        ∙ columns_seen list.rate list.frames (xds_columns list placed listed) beside.sound.carried frame below chan
        ∙ shown frame chan ∙ sym (columns_seen list.rate list.frames (columns_of list placed) built.carried frame below chan);
    built_windows = λ frame below service id. ap (λ (packets : List Frame). received_windows (take (suc frame) packets) service id) (sym same_packets)
        ∙ beside.alike.windows (suc frame) (omega arith) service id;
    delayed = delays_sent list placed are.formed are.ruled;
    packets = ap (λ (packets : List Frame). packets_within (received_pairs Two packets)) (sym same_packets) ∙ read;
  }

-- so it is of packets that are accepted with a list
module _ (listed : List Listed) (bytes : List ℕ) (made : PlacedPackets) (packets : All (λ (l : Listed). IsXdsPacket l.packet) made.listed)
    (is : IsPlacedWith listed bytes made) where
  sendable : AreSendable made.list made.placed made.listed
  sendable = record { formed = is.accepted.good.spelled.formed; ruled = is.accepted.good.ruled; placed_is = is.accepted.placement; packets = packets }

  pub sound_made : IsSoundXds made
  sound_made =
      subst (λ (codes : List PlacedCode). IsSoundXds (record made { codes = codes })) (sym is.codes_are)
      (sound_placed made.list made.placed made.listed sendable is.room)

  -- the frames have room for what they carry
  pub roomy_made : AreRoomy made.list.rate (xds_framing made).columns
  roomy_made =
      subst (λ (codes : List PlacedCode). AreRoomy made.list.rate (packet_columns made.list made.placed codes)) (sym is.codes_are)
      (subst (λ (columns : Columns). AreRoomy made.list.rate columns) (same made.list made.placed made.listed sendable is.room)
      (packets_leave_sound made.list made.placed made.listed sendable).alike.fit.roomy)
