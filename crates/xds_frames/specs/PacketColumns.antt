-- Believed: the program's answer stands on these definitions.
-- What each frame of a cue list carries with packets of extended data whose codes stand in these slots of field 2.
use Rattle.std.specs.Prelude.{ℕ, ◌==◌, List, Option, find, option_map}
use Rattle.std.specs.Option.{option_map_or}
use Rattle.cue_lists.specs.Listing.{Listing}
use Rattle.cue_lists.specs.declared.lane.Lane.TheVariants.{Channel}
use Rattle.frame_carrier.specs.Columns.{Columns}
use Rattle.frame_carrier.specs.Planned.{Placement, columns_of}
use Rattle.frame_carrier.specs.SlotLists.{slot_cues}
use Rattle.lanes.specs.ChannelLane.{channel_slot}
use Rattle.line21_codes.specs.Writing.{pair_of_code}
use Rattle.line21_codes.specs.declared.channels.Chan.TheVariants.{Cc3}
use Rattle.line21_codes.specs.declared.channels.FieldNumber.TheVariants.{Two}
use Rattle.line21_codes.specs.declared.codes.Code.{Code}
use Rattle.line21_codes.specs.declared.pairs.Pair.{Pair}
use Rattle.cue_lists.specs.Cadences.{cadence_of, slot_in}
use Rattle.xds_packets.specs.Places.{PlacedCode}

-- the list's own frames, but that in field 2 the pair of a slot where a code of the packets stands is that code's
abbrev pub packet_columns : Listing → Placement → List PlacedCode → Columns
packet_columns list placed codes frame =
    let captions : ℕ → Pair = channel_slot Cc3 (slot_cues list Cc3) (placed (Channel Cc3)) in
    let code_in : ℕ → Option Code = λ n. option_map (λ (p : PlacedCode). p.code) (find (λ (p : PlacedCode). p.slot == n) codes) in
    record (columns_of list placed frame) {
      two = option_map (λ n. option_map_or (pair_of_code Two) (code_in n) (captions n)) (slot_in (cadence_of list.rate Cc3) frame);
    }
