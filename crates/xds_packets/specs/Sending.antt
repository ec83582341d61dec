-- Believed in part: the program's answer stands on some of these definitions.
-- The slots in which packets are sent, slot by slot: whole packet after whole packet, each pair in the next free slot, and after a slot that
-- isn't free the packet's continue pair first.
use Rattle.std.specs.Prelude.{ℕ, zero, suc, ◌-◌, nat_le, Bool, true, false, if◌then◌else◌, List, [], ◌∷◌, ◌++◌, length, map, Option, Some, None}
use Rattle.line21_codes.specs.declared.codes.Code.{Code}
use Rattle.line21_codes.specs.declared.codes.Code.TheVariants.{Null}
use Rattle.xds_packets.specs.declared.packets.XdsPacket.{XdsPacket}
use Rattle.xds_packets.specs.PacketCodes.{continue_code, rest_codes, start_code}

-- a packet of a list, to be sent from a frame on
pub record Listed : Type 0 where
  pub from : ℕ
  pub packet : XdsPacket

-- the packets that haven't begun; of the one that is under way its continue pair and the codes that are left; and whether the slot before
-- wasn't free
pub record Unsent : Type 0 where
  pub left : List Listed
  pub cont : Code
  pub codes : List Code
  pub broken : Bool

-- what is sent in a slot, and what is left after it
pub record Given : Type 0 where
  pub next : Unsent
  pub code : Option Code

-- the next packet begins, in a slot of its frame or a later one
abbrev pub begun_at : ℕ → Unsent → List Listed → Given
begun_at frame s [] = record { next = s; code = None }
begun_at frame s (listed ∷ left) =
    if nat_le listed.from frame
    then record { next = record { left = left; cont = continue_code listed.packet; codes = rest_codes listed.packet listed.packet.text; broken = false }; code = Some (start_code listed.packet) }
    else record { next = s; code = None }

abbrev pub sent_on : Bool → ℕ → Unsent → List Code → Given
sent_on broken frame s [] = begun_at frame s s.left
sent_on true frame s (code ∷ codes) = record { next = record s { broken = false }; code = Some s.cont }
sent_on false frame s (code ∷ codes) = record { next = record s { codes = codes }; code = Some code }

-- what is sent in a slot of a frame, by whether it is free
abbrev pub given_in : Bool → ℕ → Unsent → Given
given_in false frame s = record { next = record s { broken = true }; code = None }
given_in true frame s = sent_on s.broken frame s s.codes

-- nothing was sent
abbrev pub new_writing : List Listed → Unsent
new_writing listed = record { left = listed; cont = Null; codes = []; broken = false }

-- what is left after this many slots
abbrev pub writing_at : (ℕ → Bool) → (ℕ → ℕ) → List Listed → ℕ → Unsent
writing_at free frame_of listed zero = new_writing listed
writing_at free frame_of listed (suc n) = (given_in (free n) (frame_of n) (writing_at free frame_of listed n)).next

-- the code of a slot: the packets', or else what the captions have there
abbrev pub code_or : Option Code → Code → Code
code_or None other = other
code_or (Some code) other = code

abbrev pub column : (ℕ → Bool) → (ℕ → ℕ) → (ℕ → Code) → List Listed → ℕ → Code
column free frame_of others listed n = code_or (given_in (free n) (frame_of n) (writing_at free frame_of listed n)).code (others n)

-- the codes of this many slots
abbrev pub codes_to : (ℕ → Bool) → (ℕ → ℕ) → (ℕ → Code) → List Listed → ℕ → List Code
codes_to free frame_of others listed zero = []
codes_to free frame_of others listed (suc n) = codes_to free frame_of others listed n ++ column free frame_of others listed n ∷ []

abbrev pub packets_left : List Listed → List XdsPacket
packets_left listed = map (λ (l : Listed). l.packet) listed

-- how many packets aren't ended: the one that is under way, and those that haven't begun
abbrev pub unended : List Code → List Listed → ℕ
unended [] left = length left
unended (code ∷ codes) left = suc (length left)

abbrev pub first_of : ℕ → ℕ → Option ℕ
first_of total zero = None
first_of total (suc count) = Some (total - count)

-- the number, from 1, of the first packet that isn't ended, of this many
abbrev pub unfinished : ℕ → Unsent → Option ℕ
unfinished total s = first_of total (unended s.codes s.left)
