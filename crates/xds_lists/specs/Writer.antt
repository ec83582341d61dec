-- Between crates: the program's answer stands on none of these definitions.
-- The writer, as the definitions see it.
use Rattle.std.specs.Prelude.{◌≡◌, ℕ, Bool, false, nat_le, List, [], ◌∷◌, drop, Option, Some, None}
use Rattle.xds_packets.specs.PacketCodes.{continue_code, rest_codes}
use Rattle.xds_packets.specs.Sending.{Listed, Unsent, writing_at}
use Rattle.xds_lists.specs.declared.sending.Sending.{Sending}
use Rattle.xds_lists.specs.declared.writer.XdsWriter.{XdsWriter}

-- the codes that are left of the packet that is under way, and its continue pair
pub record IsSending (sending : Sending) (s : Unsent) : Type 0 where
  pub codes_are : s.codes ≡ rest_codes sending.packet (drop sending.sent sending.packet.text)
  pub cont_is : s.cont ≡ continue_code sending.packet

abbrev pub IsUnderWay : Option Sending → Unsent → Type 0
IsUnderWay None s = s.codes ≡ []
IsUnderWay (Some sending) s = IsSending sending s

-- what is left: the packets that haven't begun, and the codes of the one that is under way
pub record IsWriting (writer : XdsWriter) (s : Unsent) : Type 0 where
  pub left : s.left ≡ drop writer.begun writer.list
  pub broken : s.broken ≡ writer.is_broken
  pub under_way : IsUnderWay writer.under_way s

-- there is a packet more, whose frame has come
abbrev pub is_due : ℕ → List Listed → Bool
is_due frame [] = false
is_due frame (listed ∷ left) = nat_le listed.from frame

-- a writer of a list after this many slots
pub record IsBehind (free : ℕ → Bool) (frame_of : ℕ → ℕ) (listed : List Listed) (n : ℕ) (writer : XdsWriter) : Type 0 where
  pub list_is : writer.list ≡ listed
  pub writes : IsWriting writer (writing_at free frame_of listed n)
