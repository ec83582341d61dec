-- Between crates: the program's answer stands on none of these definitions.
-- Frames at none of which an insertion stops.
use Rattle.std.specs.Prelude.{◌≡◌, ◌≤◌, List, ◌∷◌, ◌++◌, length}
use Rattle.cdp_packets.specs.Packets.{Frame}
use Rattle.cue_list_commands.specs.Framing.{Framing}
use Rattle.insert_commands.specs.Captions.{captions_of}
use Rattle.insert_commands.specs.Soundness.{HaveRate}
use Rattle.packet_inserter.specs.Insertion.{IsInserted, packet_length}

-- they have the list's rate, and with the captions of its frame no packet would have more than 255 bytes
pub record CanCarry (list : Framing) (frames : List Frame) : Type 0 where
  pub rates : HaveRate list.rate frames
  pub fit : (earlier behind : List Frame) (old new : Frame) → frames ≡ earlier ++ old ∷ behind
      → IsInserted (captions_of list (length earlier)) old new → packet_length new ≤ 255
