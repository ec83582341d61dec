-- Between crates: the program's answer stands on none of these definitions.
-- Packets that are kept as their heads, and the texts of all, one after the other.
use Rattle.std.specs.Prelude.{◌≡◌, ℕ, ◌^◌, ◌<◌, All, List, [], ◌∷◌, ◌++◌, drop, length, map, take}
use Rattle.xds_lists.specs.Form.{IsListed}
use Rattle.xds_lists.specs.declared.head.Head.{Head}
use Rattle.xds_packets.specs.Sending.{Listed}

-- the packet of a head with its text
abbrev pub listed_with : Head → List ℕ → Listed
listed_with head text = record { from = head.from; packet = record { class = head.class; kind = head.kind; text = text } }

-- the packets of these heads
abbrev pub unpacked : List Head → List ℕ → List Listed
unpacked [] texts = []
unpacked (head ∷ heads) texts = listed_with head (take head.size texts) ∷ unpacked heads (drop head.size texts)

abbrev pub head_of : Listed → Head
head_of listed = record { from = listed.from; class = listed.packet.class; kind = listed.packet.kind; size = length listed.packet.text }

-- the texts of packets, one after the other
abbrev pub texts_of : List Listed → List ℕ
texts_of [] = []
texts_of (first ∷ listed) = first.packet.text ++ texts_of listed

-- the packets have these heads and texts, and each is one that can be sent
pub record ArePacked (heads : List Head) (texts : List ℕ) : Type 0 where
  pub heads_are : map head_of (unpacked heads texts) ≡ heads
  pub texts_are : texts_of (unpacked heads texts) ≡ texts
  pub in_range : All IsListed (unpacked heads texts)
  pub few : length heads < 2 ^ 32

-- the bytes of the texts before a packet's
abbrev pub text_before : ℕ → List Listed → ℕ
text_before index listed = length (texts_of (take index listed))
