-- Between crates: the program's answer stands on none of these definitions.
-- Packets of extended data in free slots beside captions, as a timeline of field 2.
use Rattle.std.specs.Prelude.{◌≡◌, ℕ, suc, ◌<◌, All, Bool, true, false, List, Some, None, option_map}
use Rattle.line21_codes.specs.declared.channels.DataChannel.TheVariants as data_channels
use Rattle.line21_codes.specs.declared.channels.FieldNumber.TheVariants as fields
use Rattle.line21_codes.specs.declared.codes.Code.{Code}
use Rattle.line21_codes.specs.declared.pairs.Pair.{Pair}
use Rattle.line21_codes.specs.Reading.{code_of}
use Rattle.line21_codes.specs.Writing.{pair_of_code}
use Rattle.line21_author.specs.declared.unit.Unit.{Unit}
use Rattle.dual_fields.specs.Reading.{IsMarked}
use Rattle.lanes.specs.Timeline.{Timeline, repeat_of}
use Rattle.dual_fields.specs.Sharing.{AreFor, is_text}
use Rattle.xds_frames.specs.Outside.{AreOutside}
use Rattle.xds_packets.specs.PacketCodes.{IsXdsPacket}
use Rattle.xds_packets.specs.Places.{given_at}
use Rattle.xds_packets.specs.Sending.{Listed}

-- a code that is sent once
abbrev pub packet_unit : Code → Unit
packet_unit code = record { pair = pair_of_code fields.Two code; doubled = false }

-- the codes of the packets in their slots
abbrev pub packet_timeline : (ℕ → Bool) → (ℕ → ℕ) → List Listed → Timeline
packet_timeline free frame_of listed n = option_map packet_unit (given_at free frame_of listed n)

-- a control code of the captions stands before, and no slot between is free
pub record IsLedClosed (captions : Timeline) (free : ℕ → Bool) (n : ℕ) : Type 0 where
  pub at : ℕ
  pub before : at < n
  pub unit : Unit
  pub there : captions at ≡ Some unit
  pub control : is_text (code_of unit.pair) ≡ false
  pub closed : (m : ℕ) → at < m → m < n → free m ≡ false

-- captions leave these slots free: nothing begins there and nothing is due; and each text pair is led to where none of them lies between
pub record LeaveFree (captions : Timeline) (free : ℕ → Bool) : Type 0 where
  pub marked : IsMarked captions
  pub own : AreFor data_channels.One captions
  pub nothing : (n : ℕ) → free n ≡ true → captions n ≡ None
  pub not_due : (n : ℕ) (pair : Pair) → repeat_of (captions n) ≡ Some pair → free (suc n) ≡ false
  pub led : (n : ℕ) (unit : Unit) → captions n ≡ Some unit → is_text (code_of unit.pair) ≡ true → IsLedClosed captions free n

-- packets in the slots that captions leave free keep out of the captions
abbrev pub PacketsAreOutside : Type 0
PacketsAreOutside = (captions : Timeline) (free : ℕ → Bool) (frame_of : ℕ → ℕ) (listed : List Listed) → LeaveFree captions free
    → All (λ (l : Listed). IsXdsPacket l.packet) listed → AreOutside captions (packet_timeline free frame_of listed)
