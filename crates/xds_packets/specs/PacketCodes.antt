-- Believed in part: the program's answer stands on some of these definitions.
-- A packet as the codes that it is sent by (CTA-608-E): the start pair, the text in pairs, a single last byte completed by 00, and the end pair.
use Rattle.std.specs.Prelude.{⊤, ℕ, ◌+◌, ◌-◌, ◌*◌, ◌%◌, ◌<◌, ◌≤◌, List, [], ◌∷◌, ◌++◌, length}
use Rattle.std.specs.List.{All, sum}
use Rattle.line21_codes.specs.declared.codes.Code.{Code}
use Rattle.line21_codes.specs.declared.codes.Code.TheVariants.{Text, Xds}
use Rattle.line21_codes.specs.Writable.{IsWritable}
use Rattle.xds_packets.specs.declared.packets.XdsPacket.{XdsPacket}

-- a packet that can be sent: a class of 1 to 7, a type of 1 to 127, and 1 to 32 bytes of text, each 20 to 7E
pub record IsXdsPacket (packet : XdsPacket) : Type 0 where
  pub class_from : 1 ≤ packet.class
  pub class_to : packet.class ≤ 7
  pub kind_from : 1 ≤ packet.kind
  pub kind_to : packet.kind < 128
  pub text_from : 1 ≤ length packet.text
  pub text_to : length packet.text ≤ 32
  pub bytes : All (λ byte. (0x20 ≤ byte) × (byte ≤ 0x7E)) packet.text

-- the text in pairs, a single last byte completed by 00
abbrev pub data_codes : List ℕ → List Code
data_codes [] = []
data_codes (a ∷ []) = Text a 0 ∷ []
data_codes (a ∷ (b ∷ text)) = Text a b ∷ data_codes text

-- with this byte the bytes of the start pair, the text, 0F and the checksum sum to 0 modulo 128
abbrev pub checksum : XdsPacket → ℕ
checksum packet = (128 - (2 * packet.class + packet.kind + sum packet.text + 0x0E) % 128) % 128

abbrev pub start_code : XdsPacket → Code
start_code packet = Xds (2 * packet.class - 1) packet.kind

abbrev pub continue_code : XdsPacket → Code
continue_code packet = Xds (2 * packet.class) packet.kind

-- what is sent after the start pair, or after some of the text: this text and the end pair
abbrev pub rest_codes : XdsPacket → List ℕ → List Code
rest_codes packet text = data_codes text ++ Xds 0x0F (checksum packet) ∷ []

abbrev pub AreWritable : List Code → Type 0
AreWritable [] = ⊤
AreWritable (code ∷ codes) = IsWritable code × AreWritable codes

-- what a packet sends can be written, so its pairs are read as these codes
abbrev pub PacketsCanBeWritten : Type 0
PacketsCanBeWritten = (packet : XdsPacket) → IsXdsPacket packet → IsWritable (start_code packet) × (IsWritable (continue_code packet) × AreWritable (rest_codes packet packet.text))
