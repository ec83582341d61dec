-- Believed in part: the program's answer stands on some of these definitions.
-- The form of a list of packets: each is a record xds,FRAME,CLASS,TYPE,TEXT, numbers spelled in decimal digits.
use Rattle.std.specs.Prelude.{◌≡◌, ℕ, ◌≤◌, ◌&&◌, nat_le, if◌then◌else◌, Bool, List, [], ◌∷◌, length, map, All, codes, decimal, Option, Some, None, bytes_eq}
use Rattle.std.specs.List.{list_all}
use Rattle.cc_base.specs.declared.why.Why.TheVariants as why
use Rattle.cue_form.specs.RecordJudgements.{Judgement, count_judgement, judge, within}
use Rattle.cue_form.specs.Records.{Field, Record, field}
use Rattle.xds_packets.specs.PacketCodes.{IsXdsPacket}
use Rattle.xds_packets.specs.Sending.{Listed}

-- the last frame that a packet may be sent from
abbrev pub last_frame : ℕ
last_frame = 999999

-- a packet of a list
pub record IsListed (listed : Listed) : Type 0 where
  pub from : listed.from ≤ last_frame
  pub packet : IsXdsPacket listed.packet

-- the record of a packet
abbrev pub packet_record : Listed → Record
packet_record listed =
    codes "xds" ∷ decimal listed.from ∷ decimal listed.packet.class ∷ decimal listed.packet.kind ∷ listed.packet.text ∷ []

-- the records that spell a list
pub record SpellPackets (records : List Record) (listed : List Listed) : Type 0 where
  pub records_are : records ≡ map packet_record listed
  pub in_range : All IsListed listed

-- a byte of a text: 20 to 7E
abbrev pub IsTextByte : ℕ → Type 0
IsTextByte byte = (0x20 ≤ byte) × (byte ≤ 0x7E)

abbrev pub is_text_byte : ℕ → Bool
is_text_byte byte = nat_le 0x20 byte && nat_le byte 0x7E

-- 1 to 32 bytes, each 20 to 7E
abbrev pub is_text : Field → Bool
is_text text = nat_le 1 (length text) && (nat_le (length text) 32 && list_all is_text_byte text)

-- the same, said of the bytes
pub record AreText (text : List ℕ) : Type 0 where
  pub some : 1 ≤ length text
  pub few : length text ≤ 32
  pub bytes : All IsTextByte text

abbrev pub text_field : Field → Option (List ℕ)
text_field text = if is_text text then Some text else None

-- what is judged of a record, in its order: its kind word, the number of its fields, then its fields from the left
abbrev pub packet_judgements : Record → List Judgement
packet_judgements r =
    judge (bytes_eq (field r 0) (codes "xds")) 1 why.Field
    ∷ count_judgement r 5
    ∷ within r 1 0 last_frame
    ∷ within r 2 1 7
    ∷ within r 3 1 127
    ∷ judge (is_text (field r 4)) 5 why.Field
    ∷ []
